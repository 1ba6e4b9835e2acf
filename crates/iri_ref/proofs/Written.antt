-- A reference in a document stands for one IRI.
use Rattle.std.proofs.Common.{◌≡◌, ℕ, List, Option, Some, None, refl, sym, ◌∙◌, ◌⊎◌, ⊎_elim, inl, inr}
use Rattle.std.specs.Prelude.{IsTrue, IfSome, IfNone}
use Rattle.iri_ref.specs.Characters.{is_scheme}
use Rattle.iri_ref.specs.Components.{Components, HasComponents, HasScheme, IsAbsolute, scheme_text}
use Rattle.iri_ref.specs.Written.{IsIriOfReference}
use Rattle.iri_ref.proofs.Splits.{some_split}
use Rattle.iri_ref.proofs.Resolving.{begins, references_resolve_uniquely}

-- A text has a scheme or none.
pub has_scheme_or_none : (text : List ℕ) → HasScheme text ⊎ (HasScheme text → ⊥)
has_scheme_or_none text = let (c, h) = some_split text in by_scheme c h c.scheme refl h.scheme h.no_scheme
  where
    by_scheme : (c : Components) → HasComponents text c → (s : Option (List ℕ)) → c.scheme ≡ s → IfSome s (λ a. IsTrue (is_scheme a)) → IfNone s (HasScheme text → ⊥) → HasScheme text ⊎ (HasScheme text → ⊥)
    by_scheme c h None e is none = inr none
    by_scheme c h (Some a) e is none = let (rest, begun) = begins text a c is e h.whole in inl (a, rest, begun)

pub one_iri : (base ref x y : List ℕ) → IsIriOfReference base ref x → IsIriOfReference base ref y → x ≡ y
one_iri base ref x y hx hy = ⊎_elim
    (λ (has : HasScheme ref). hx.itself has ∙ sym (hy.itself has))
    (λ (none : HasScheme ref → ⊥). references_resolve_uniquely base ref x y (hx.relative none) (hy.relative none))
    (has_scheme_or_none ref)

pub absolute_itself : (base iri : List ℕ) → IsAbsolute iri → IsIriOfReference base iri iri
absolute_itself base iri h = record { itself = λ has. refl; relative = λ none. absurd (none h.scheme) }
