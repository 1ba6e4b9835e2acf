-- What is collected of triples, one more at a time.
use Rattle.std.proofs.Common.{◌≡◌, ℕ, ◌+◌, ◌<◌, ◌≤◌, ◌-◌, ◌^◌, min, sum, map, Bool, true, false, ◌||◌, List, [], ◌∷◌, ◌++◌, Some, None, Result, Ok, Err, OnOk}
use Rattle.std.proofs.Common.{sym, ap, ◌∙◌, arith}
use Rattle.std.proofs.lemmas.Bool.{false≢true}
use Rattle.std.proofs.Math.Bool.{or-false, or-true}
use Rattle.std.proofs.lemmas.List.{map-append}
use Rattle.std.proofs.lemmas.List.Folds.{list_any-append}
use Rattle.std.proofs.lemmas.List.Sums.{sum_by_push}
use Rattle.rdf_graph.specs.Size.{saturated, triple_size}
use Rattle.rdf_graph.specs.declared.size.TheConstants.{TRIPLES_LIMIT}
use Rattle.turtle_reader.specs.declared.referent.ResolvedTriple.{ResolvedTriple}
use Rattle.turtle_reader.proofs.Handing.{each_more}
use Rattle.sparql_patch.specs.declared.collected_triples.Collected.{Collected}
use Rattle.sparql_patch.specs.declared.named.Named.{Named}
use Rattle.sparql_patch.specs.Reading.{blank_in, any_blank, IsNaming, IsNamingOrBlank, IsCounted, IsCollected}
use Rattle.sparql_patch.specs.UpdateSpells.{named_size}

-- The saturated size beside the limit

pub nothing : 0 ≡ saturated 0
unfolding saturated
nothing = omega arith

pub over_limit : (r n : ℕ) → r ≡ saturated n → TRIPLES_LIMIT < r → TRIPLES_LIMIT < n
unfolding saturated
over_limit r n e lt = let is : r ≡ min n (2 ^ 64 - 1) = e in omega (arith, is, lt)

pub within_limit : (r n : ℕ) → r ≡ saturated n → r ≤ TRIPLES_LIMIT → n ≤ TRIPLES_LIMIT
unfolding saturated
within_limit r n e le = let is : r ≡ min n (2 ^ 64 - 1) = e in omega (arith, is, le)

size_more : (all : List Named) (n : Named) → named_size (all ++ n ∷ []) ≡ named_size all + triple_size n.triple
size_more all n =
    ap (λ (ns : List ℕ). sum ns)
    (ap (map triple_size) (map-append (λ (x : Named). x.triple) all (n ∷ [])) ∙ map-append triple_size (map (λ (x : Named). x.triple) all) (n.triple ∷ []))
    ∙ sum_by_push (λ (k : ℕ). k) (map triple_size (map (λ (x : Named). x.triple) all)) (triple_size n.triple)

-- both clauses of a last call
pub on_ok_both : {T E P Q R : Type 0} (r : Result T E) → (P → Q → R) → OnOk r P → OnOk r Q → OnOk r R
on_ok_both (Ok x) f p q = f p q
on_ok_both (Err e) f p q = tt

-- One naming more

-- past the limit
pub counted_over : (all : List Named) (n : Named) (c : Collected) → c.size ≡ saturated (named_size all + triple_size n.triple) → TRIPLES_LIMIT < c.size
    → IsCounted (all ++ n ∷ []) c
counted_over all n c size over =
    let now : c.size ≡ saturated (named_size (all ++ n ∷ [])) = size ∙ ap saturated (sym (size_more all n)) in
    record { size_is = now; kept = λ fits. absurd (let large = over_limit c.size (named_size (all ++ n ∷ [])) now over in omega (arith, fits, large)) }

-- One triple more

blank_more : (rs : List ResolvedTriple) (r : ResolvedTriple) → any_blank (rs ++ r ∷ []) ≡ (any_blank rs || blank_in r)
blank_more rs r = list_any-append blank_in rs (r ∷ []) ∙ ap (λ (b : Bool). any_blank rs || b) (or-false (blank_in r))

module _ (rs : List ResolvedTriple) (r : ResolvedTriple) (old new : Collected) (h : IsCollected rs old) where
  pub collects_naming : (n : Named) → IsNamingOrBlank r (Some n) → new.has_blank ≡ old.has_blank
      → ((all : List Named) → IsCounted all old → IsCounted (all ++ n ∷ []) new) → IsCollected (rs ++ r ∷ []) new
  collects_naming n k blank counted =
      let same : any_blank (rs ++ r ∷ []) ≡ any_blank rs = blank_more rs r ∙ ap (λ (b : Bool). any_blank rs || b) k.blank ∙ or-false (any_blank rs) in
      record {
        blank = blank ∙ h.blank ∙ sym same;
        named = λ no. let before = h.named (sym same ∙ no) in record {
          all = before.all ++ n ∷ [];
          are_named = each_more IsNaming rs r before.all n before.are_named k.is_naming;
          counted = counted before.all before.counted;
        };
      }

  pub collects_blank : IsNamingOrBlank r None → new.has_blank ≡ true → IsCollected (rs ++ r ∷ []) new
  collects_blank k blank =
      let some : any_blank (rs ++ r ∷ []) ≡ true = blank_more rs r ∙ ap (λ (b : Bool). any_blank rs || b) k.blank ∙ or-true (any_blank rs) in
      record { blank = blank ∙ sym some; named = λ no. absurd (false≢true (sym no ∙ some)) }
