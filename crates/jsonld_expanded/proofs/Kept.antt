-- What a walk in the code keeps, over one triple and over all.
use Rattle.std.proofs.Common.{ℕ, ◌+◌, ◌-◌, ◌^◌, ◌<◌, ◌≤◌, ◌≡◌, min, lit<, List, [], ◌∷◌, ◌++◌, sum, map, refl, sym, ap, ◌∙◌, subst, arith}
use Rattle.std.specs.List.{All}
use Rattle.std.proofs.lemmas.List.Elements.{All-append, All-cons}
use Rattle.std.proofs.lemmas.List.Sums.{sum_by-cons}
use Rattle.rdf_graph.specs.Size.{saturated, triple_size, triples_size}
use Rattle.rdf_graph.specs.Triple.{IsRdf}
use Rattle.rdf_graph.specs.declared.triple.Triple.{Triple}
use Rattle.rdf_graph.specs.declared.size.TheConstants.{TRIPLES_LIMIT}
use Rattle.jsonld_expanded.specs.declared.walk_state.Walk.{Walk}
use Rattle.jsonld_expanded.specs.Expands.{State}
use Rattle.jsonld_expanded.specs.Walks.{Stands}

sum_first : (x : ℕ) (xs : List ℕ) → sum (x ∷ xs) ≡ x + sum xs
sum_first x xs = sum_by-cons (λ n. n) x xs

pub size-one_more : (ts : List Triple) (t : Triple) → triples_size (ts ++ t ∷ []) ≡ triples_size ts + triple_size t
size-one_more [] t = omega (arith, sum_first (triple_size t) [])
size-one_more (u ∷ us) t = omega (arith, sum_first (triple_size u) (map triple_size (us ++ t ∷ [])), sum_first (triple_size u) (map triple_size us), size-one_more us t)

abbrev pub one_more : State → Triple → State
one_more a t = record { triples = a.triples ++ t ∷ []; next = a.next }

past : (size m n limit : ℕ) → limit < 2 ^ 64 - 1 → size ≡ min (m + n) (2 ^ 64 - 1) → limit < size → m + n ≤ limit → ⊥
past size m n limit small is over within = omega (arith, is)

fits : (size m n limit : ℕ) → limit < 2 ^ 64 - 1 → size ≡ min (m + n) (2 ^ 64 - 1) → size ≤ limit → m ≤ limit
fits size m n limit small is within = omega (arith, is)

pub stands-over : (old new : Walk) (a : State) (t : Triple) → Stands old a → new.next ≡ old.next → new.triples.items ≡ old.triples.items → new.size ≡ saturated (triples_size a.triples + triple_size t) → TRIPLES_LIMIT < new.size → Stands new (one_more a t)
unfolding saturated
stands-over old new a t h next items size over =
    let whole = size-one_more a.triples t in
    record {
      next = next ∙ h.next;
      size = size ∙ ap saturated (sym whole);
      kept = λ within. absurd (past new.size (triples_size a.triples) (triple_size t) TRIPLES_LIMIT (lit< tt) size over (subst (λ (n : ℕ). n ≤ TRIPLES_LIMIT) whole within));
      rdf = subst (λ (ts : List Triple). All IsRdf ts) (sym items) h.rdf;
    }

pub stands-kept : (old new : Walk) (a : State) (t : Triple) → Stands old a → IsRdf t → new.next ≡ old.next → new.triples.items ≡ old.triples.items ++ t ∷ [] → new.size ≡ saturated (triples_size a.triples + triple_size t) → new.size ≤ TRIPLES_LIMIT → Stands new (one_more a t)
unfolding saturated
stands-kept old new a t h rdf next items size within =
    let whole = size-one_more a.triples t in
    let before : triples_size a.triples ≤ TRIPLES_LIMIT = fits new.size (triples_size a.triples) (triple_size t) TRIPLES_LIMIT (lit< tt) size within in
    record {
      next = next ∙ h.next;
      size = size ∙ ap saturated (sym whole);
      kept = λ _. items ∙ ap (λ ts. ts ++ t ∷ []) (h.kept before);
      rdf = subst (λ (ts : List Triple). All IsRdf ts) (sym items) (All-append IsRdf old.triples.items (t ∷ []) h.rdf (All-cons IsRdf t [] rdf (λ k d l. absurd (omega (arith, l)))));
    }
