-- Each subject has one run of triples, where triples of one subject are neighbours.
use Rattle.std.proofs.Common.{◌≡◌, ◌≤◌, ◌<◌, ℕ, suc, Bool, true, false, List, [], ◌∷◌, length, get_or, All, Contains, refl, sym, ap, ◌∙◌, subst, arith}
use Rattle.std.proofs.lemmas.Bool.{false≢true}
use Rattle.std.proofs.lemmas.List.Elements.{Contains-append_right}
use Rattle.std.specs.List.{AllByRecursion, IsDistinct, flat_map}
use Rattle.rdf_graph.specs.Graph.{IsGraph}
use Rattle.rdf_graph.specs.Laws.{SubjectsAreContiguous, TermsLackDelimiters}
use Rattle.rdf_graph.specs.Term.{term_eq}
use Rattle.rdf_graph.specs.TermLaws.{term_eq_decides}
use Rattle.rdf_graph.specs.declared.term.Term.{Term}
use Rattle.rdf_graph.specs.declared.triple.Triple.{Triple}
use Rattle.jsonld_expanded.specs.Document.{same_subject}
use Rattle.jsonld_expanded.specs.Laws.{subjects}
use Rattle.jsonld_expanded.specs.Runs.{runs, with_run}
use Rattle.jsonld_expanded.proofs.Runs.{first_run, joined, parted, run_elements}

-- between two triples of one subject there are triples of that subject alone
abbrev AreTogether : List Triple → Type 0
AreTogether g = (i j k : ℕ) (d : Triple) → i ≤ j → j ≤ k → k < length g → (get_or g i d).s ≡ (get_or g k d).s → (get_or g j d).s ≡ (get_or g i d).s

rest_together : (t : Triple) (ts : List Triple) → AreTogether (t ∷ ts) → AreTogether ts
rest_together t ts h = λ i j k d l m n e. h (suc i) (suc j) (suc k) d (omega (arith, l)) (omega (arith, m)) (omega (arith, n)) e

false_or : (b : Bool) (c : Bool) → c ≡ b → (c ≡ true → ⊥) → c ≡ false
false_or true c e h = absurd (h e)
false_or false c e h = e

-- a subject that ends doesn't come again
not_again : (t u : Triple) (us : List Triple) → AreTogether (t ∷ u ∷ us) → same_subject t u ≡ false → (v : Triple) → Contains (u ∷ us) v → term_eq t.s v.s ≡ false
not_again t u us h d v c = false_or (term_eq t.s v.s) (term_eq t.s v.s) refl (λ e.
    let same : t.s ≡ v.s = (term_eq_decides t.s v.s).0 e in
    let at : t.s ≡ (get_or (u ∷ us) c.0 v).s = same ∙ ap (λ (x : Triple). x.s) (sym c.2) in
    let next : u.s ≡ t.s = h 0 1 (suc c.0) v (omega arith) (omega arith) (omega (arith, c.1)) at in
    false≢true (sym d ∙ (term_eq_decides t.s u.s).1 (sym next)))

later : (s : Term) (rs : List (List Triple)) → ((v : Triple) → Contains (flat_map (λ r. r) rs) v → term_eq s v.s ≡ false) → AllByRecursion (λ x. term_eq s x ≡ false) (subjects rs)
later s [] h = tt
later s ([] ∷ rs) h = later s rs h
later s ((t ∷ ts) ∷ rs) h = (h t (0, omega arith, refl), later s rs (λ v c. h v (Contains-append_right (t ∷ ts) (flat_map (λ r. r) rs) v c)))

by_subjects : (b : Bool) (t u : Triple) (us run : List Triple) (more : List (List Triple)) → same_subject t u ≡ b → AreTogether (t ∷ u ∷ us) → flat_map (λ r. r) ((u ∷ run) ∷ more) ≡ u ∷ us
    → IsDistinct term_eq (subjects ((u ∷ run) ∷ more)) → IsDistinct term_eq (subjects (with_run same_subject t ((u ∷ run) ∷ more)))
unfolding IsDistinct
by_subjects true t u us run more e h same x =
    subst (λ (rs : List (List Triple)). IsDistinct term_eq (subjects rs)) (sym (joined same_subject t u run more e))
    (subst (λ (s : Term). IsDistinct term_eq (s ∷ subjects more)) (sym ((term_eq_decides t.s u.s).0 e)) x)
by_subjects false t u us run more e h same x =
    subst (λ (rs : List (List Triple)). IsDistinct term_eq (subjects rs)) (sym (parted same_subject t u run more e))
    (later t.s ((u ∷ run) ∷ more) (λ v c. not_again t u us h e v (subst (λ (vs : List Triple). Contains vs v) same c)), x)

distinct : (ts : List Triple) → AreTogether ts → IsDistinct term_eq (subjects (runs same_subject ts))
unfolding runs IsDistinct
distinct [] h = tt
distinct (t ∷ []) h = (tt, tt)
distinct (t ∷ u ∷ us) h =
    let f = first_run same_subject u us in
    subst (λ (rs : List (List Triple)). IsDistinct term_eq (subjects (with_run same_subject t rs))) (sym f.is)
    (by_subjects (same_subject t u) t u us f.run f.more refl h (ap (flat_map (λ r. r)) (sym f.is) ∙ run_elements same_subject (u ∷ us))
    (subst (λ (rs : List (List Triple)). IsDistinct term_eq (subjects rs)) f.is (distinct (u ∷ us) (rest_together t (u ∷ us) h))))

pub one_node_each : SubjectsAreContiguous → (graph : List Triple) → IsGraph graph → All TermsLackDelimiters graph → IsDistinct term_eq (subjects (runs same_subject graph))
one_node_each law graph is_graph lacks = distinct graph (λ i j k d. law graph i j k d is_graph lacks)
