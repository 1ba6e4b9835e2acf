-- Triples that compare as equal are equal.
use Rattle.std.proofs.Common.{◌≡◌, ◌++◌, List, ℕ, refl, ap, subst, ◌∙◌, codes}
use Rattle.std.proofs.lemmas.List.{append_cancel_left, append_cancel_right}
use Rattle.std.proofs.lemmas.Map.Lookups.{exact_bytes, CmpEqualImpliesEq}
use Rattle.std.specs.Ordering.{ordering_then}
use Rattle.std.specs.declared.cmp.Ordering.{Ordering}
use Rattle.std.specs.declared.cmp.Ordering.TheVariants.{Equal, Less, Greater}
use Rattle.rdf_graph.specs.Term.{text}
use Rattle.rdf_graph.specs.Triple.{line, triple_cmp}
use Rattle.rdf_graph.specs.declared.triple.Triple.{Triple}
use Rattle.rdf_graph.specs.declared.term.Term.{Term}
use Rattle.rdf_graph.specs.TermTexts.{text_injective}

both_equal : (a b : Ordering) → ordering_then a b ≡ Equal → (a ≡ Equal) × (b ≡ Equal)
both_equal Less b e = absurd cc
both_equal Equal b e = (refl, e)
both_equal Greater b e = absurd cc

-- what follows two equal texts
behind : (a b xs ys : List ℕ) → a ≡ b → a ++ xs ≡ b ++ ys → xs ≡ ys
behind a b xs ys e h = append_cancel_left b xs ys (subst (λ c. c ++ xs ≡ b ++ ys) e h)

same_terms : (s p o s' p' o' : Term) → line (record { s = s; p = p; o = o }) ≡ line (record { s = s'; p = p'; o = o' }) → text s ≡ text s' → text p ≡ text p' → text o ≡ text o'
unfolding line
same_terms s p o s' p' o' e a b =
    let from_p = append_cancel_left (codes " ") _ _ (behind (text s) (text s') _ _ a e) in
    let from_o = append_cancel_left (codes " ") _ _ (behind (text p) (text p') _ _ b from_p) in
    append_cancel_right (text o) (text o') (codes " .\n") from_o

-- a triple of these terms
abbrev pub triple_of : Term → Term → Term → Triple
triple_of s p o = record { s = s; p = p; o = o }

pub same_parts : (s p o s' p' o' : Term) → s ≡ s' → p ≡ p' → o ≡ o' → triple_of s p o ≡ triple_of s' p' o'
same_parts s p o s' p' o' a b c =
    ap (λ x. triple_of x p o) a ∙ ap (λ x. triple_of s' x o) b ∙ ap (λ x. triple_of s' p' x) c

pub triple_cmp_exact : CmpEqualImpliesEq triple_cmp
unfolding triple_cmp
triple_cmp_exact t u e =
    let first = both_equal _ _ e in
    let second = both_equal _ _ first.1 in
    let lines : line t ≡ line u = exact_bytes _ _ first.0 in
    let subjects : text t.s ≡ text u.s = exact_bytes _ _ second.0 in
    let predicates : text t.p ≡ text u.p = exact_bytes _ _ second.1 in
    let objects : text t.o ≡ text u.o = same_terms t.s t.p t.o u.s u.p u.o lines subjects predicates in
    same_parts t.s t.p t.o u.s u.p u.o (text_injective _ _ subjects) (text_injective _ _ predicates) (text_injective _ _ objects)
