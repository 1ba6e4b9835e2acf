-- Triples one more at a time, and their size.
use Rattle.std.proofs.Common.{◌≡◌, ℕ, ◌+◌, List, [], ◌∷◌, ◌++◌, map, sum, refl, sym, ap, ◌∙◌, subst}
use Rattle.std.proofs.lemmas.List.{map-append}
use Rattle.std.proofs.lemmas.List.Sums.{sum_by_push}
use Rattle.std.proofs.lemmas.List.Elements.{All-nil, All-push}
use Rattle.std.specs.List.{All}
use Rattle.rdf_graph.specs.declared.triple.Triple.{Triple as RdfTriple}
use Rattle.rdf_graph.specs.Triple.{IsRdf}
use Rattle.rdf_graph.specs.Size.{saturated, triple_size, triples_size}
use Rattle.turtle_reader.proofs.Handing.{each_more}
use Rattle.turtle_text.specs.declared.document_triples.Triples.{Triples}
use Rattle.turtle_text.specs.Triples.{IsReferentTriple, AreReferentTriples}
use Rattle.turtle_text.specs.Progress.{IsKept, KeepsTriple}

pub size_more : (ts : List RdfTriple) (t : RdfTriple) → triples_size (ts ++ t ∷ []) ≡ triples_size ts + triple_size t
size_more ts t =
    ap (λ (ns : List ℕ). sum ns) (map-append triple_size ts (t ∷ [])) ∙ sum_by_push (λ (k : ℕ). k) (map triple_size ts) (triple_size t)

nothing_saturated : 0 ≡ saturated 0
unfolding saturated
nothing_saturated = refl

pub kept_none : (kept : Triples) → kept.list.items ≡ [] → kept.size ≡ 0 → (bytes : List ℕ) → IsKept bytes [] kept
kept_none kept none size bytes = record {
  are_triples = none;
  size_is = size ∙ nothing_saturated ∙ ap (λ (z : List RdfTriple). saturated (triples_size z)) (sym none);
  rdf = subst (All IsRdf) (sym none) (All-nil IsRdf);
}

-- with one triple more
pub keeps_triple : (old new : Triples) (t : RdfTriple) → IsRdf t → new.list.items ≡ old.list.items ++ t ∷ []
    → ((m : ℕ) → old.size ≡ saturated m → new.size ≡ saturated (m + triple_size t)) → KeepsTriple t old new
keeps_triple old new t rdf items size = λ bytes handed one h is. record {
  are_triples = subst (AreReferentTriples bytes (handed ++ one ∷ [])) (sym items)
      (each_more (IsReferentTriple bytes) handed one old.list.items t h.are_triples is);
  size_is = size (triples_size old.list.items) h.size_is ∙ ap saturated (sym (size_more old.list.items t))
      ∙ ap (λ (z : List RdfTriple). saturated (triples_size z)) (sym items);
  rdf = subst (All IsRdf) (sym items) (All-push IsRdf old.list.items t h.rdf rdf);
}
