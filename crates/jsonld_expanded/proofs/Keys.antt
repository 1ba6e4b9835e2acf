-- Keys of node objects: IRIs begin with a letter, and `@` and `_` are none.
use Rattle.std.proofs.Common.{◌≡◌, ℕ, Bool, true, false, List, [], ◌∷◌, ◌++◌, codes, refl, sym, ap, ◌∙◌, arith}
use Rattle.std.proofs.lemmas.Bool.{and_parts, false≢true}
use Rattle.std.proofs.lemmas.Bool.Decides.{nat_tests}
use Rattle.std.specs.Cmp.Lexicographic.{slice_cmp}
use Rattle.std.specs.Ordering.{nat_cmp, ordering_then}
use Rattle.std.specs.Str.{bytes_eq}
use Rattle.std.specs.declared.cmp.Ordering.TheVariants.{Less}
use Rattle.iri_ref.specs.Characters.{is_letter}
use Rattle.iri_ref.specs.Components.{IsAbsolute, BeginsWithScheme}
use Rattle.rdf_graph.specs.Triple.{bytes_cmp}
use Rattle.jsonld_expanded.specs.Nodes.{IsLabelled}
use lib.Pointwise.{bytes_decides}

abbrev first_byte : List ℕ → ℕ
first_byte [] = 0
first_byte (c ∷ cs) = c

begins : (text scheme rest : List ℕ) → BeginsWithScheme text scheme rest → is_letter (first_byte text) ≡ true
begins text [] rest b = absurd (false≢true b.is_one)
begins text (c ∷ cs) rest b = ap (λ s. is_letter (first_byte s)) b.whole ∙ (and_parts (is_letter c) _ b.is_one).0

-- an absolute IRI begins with a letter
pub first_letter : (iri : List ℕ) → IsAbsolute iri → is_letter (first_byte iri) ≡ true
first_letter iri a = begins iri a.scheme.0 a.scheme.1 a.scheme.2

no_letter : {P : Type 0} (iri text : List ℕ) → IsAbsolute iri → iri ≡ text → is_letter (first_byte text) ≡ false → P
no_letter iri text a e n = absurd (false≢true (sym n ∙ ap (λ s. is_letter (first_byte s)) (sym e) ∙ first_letter iri a))

pub no_label : (iri l : List ℕ) → IsAbsolute iri → IsLabelled iri l → ⊥
no_label iri l a h = no_letter iri (codes "_:" ++ l) a h.0 refl

pub not_keyword : (iri : List ℕ) (c : List ℕ) → IsAbsolute iri → iri ≡ 64 ∷ c → ⊥
not_keyword iri c a e = no_letter iri (64 ∷ c) a e refl

by_answer : (b : Bool) (t : Bool) → t ≡ b → (t ≡ true → ⊥) → t ≡ false
by_answer true t e h = absurd (h e)
by_answer false t e h = e

-- an IRI is no key that begins with `@`
pub not_equal : (iri : List ℕ) (c : List ℕ) → IsAbsolute iri → bytes_eq iri (64 ∷ c) ≡ false
not_equal iri c a = by_answer (bytes_eq iri (64 ∷ c)) (bytes_eq iri (64 ∷ c)) refl (λ h. not_keyword iri c a ((bytes_decides iri (64 ∷ c)).0 h))

above_at : (c : ℕ) → is_letter c ≡ true → nat_cmp 64 c ≡ Less
above_at c h = grind (arith, nat_tests)

-- and comes after each of them
pub at_below : (c iri : List ℕ) → IsAbsolute iri → bytes_cmp (64 ∷ c) iri ≡ Less
at_below c [] a = absurd (false≢true (first_letter [] a))
at_below c (d ∷ ds) a = ap (λ o. ordering_then o (slice_cmp nat_cmp c ds)) (above_at d (first_letter (d ∷ ds) a))
