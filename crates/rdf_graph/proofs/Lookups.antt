-- What a binary search for a triple finds.
use Rattle.std.proofs.Common.{◌≡◌, ◌≤◌, ◌<◌, ◌↔◌, Some, List, Result, Ok, Err, ℕ, refl, length, take, drop}
use Rattle.std.proofs.lemmas.Bool.{false≢true}
use Rattle.std.proofs.lemmas.Option.{slice_get_within}
use Rattle.std.specs.Prelude.{slice_get, IfErr, IfOk, MatchResult, IsTrue, is_ok}
use Rattle.std.specs.List.{All, Contains}
use Rattle.std.specs.declared.cmp.Ordering.TheVariants.{Less}
use Rattle.rdf_graph.specs.Triple.{triple_cmp}
use Rattle.rdf_graph.specs.TripleLaws.{triple_cmp_total}
use Rattle.rdf_graph.specs.declared.triple.Triple.{Triple}
use Rattle.rdf_graph.proofs.Exact.{triple_cmp_exact}
use Rattle.rdf_graph.proofs.Graphs.{at_place}
use Rattle.rdf_graph.proofs.Sorted.{absent_at_gap}

-- it is at the position, or the position is between what is below it and above it
abbrev pub IsFound : List Triple → Triple → Result ℕ ℕ → Type 0
IsFound g t r =
    MatchResult r (λ i. slice_get g i ≡ Some t) (λ i. (i ≤ length g) × All (λ y. triple_cmp y t ≡ Less) (take i g) × All (λ y. triple_cmp t y ≡ Less) (drop i g))

pub looked_up : (g : List Triple) (t : Triple) (r : Result ℕ ℕ) → IsFound g t r → IsTrue (is_ok r) ↔ Contains g t
looked_up g t (Ok i) h = (λ _. at_place g i t h, λ _. refl)
looked_up g t (Err i) h = (λ f. absurd (false≢true f), λ m. absurd (absent_at_gap triple_cmp_total triple_cmp_exact g i t h.1 h.2 m))

pub found_there : (g : List Triple) (t : Triple) (r : Result ℕ ℕ) → IsFound g t r → IfOk r (λ i. slice_get g i ≡ Some t)
found_there g t (Ok i) h = h
found_there g t (Err i) h = tt

pub found_within : (g : List Triple) (t : Triple) (r : Result ℕ ℕ) → IsFound g t r → IfOk r (λ i. i < length g)
found_within g t (Ok i) h = slice_get_within g i t h
found_within g t (Err i) h = tt

pub found_absent : (g : List Triple) (t : Triple) (r : Result ℕ ℕ) → IsFound g t r → IfErr r (λ _. Contains g t → ⊥)
found_absent g t (Ok i) h = tt
found_absent g t (Err i) h = λ m. absent_at_gap triple_cmp_total triple_cmp_exact g i t h.1 h.2 m
