-- Segments of texts that are put together.
use Rattle.std.proofs.Common.{◌≡◌, ℕ, Bool, true, false, not, cond, List, [], ◌∷◌, ◌++◌, refl, ap, ◌∙◌}
use Rattle.std.specs.List.{list_all, onto_first}
use Rattle.iri_ref.specs.Characters.{slash, is_slash, Lacks}
use Rattle.iri_ref.specs.Segments.{segments}
use Rattle.iri_ref.proofs.Texts.{and_left, and_right}
use Rattle.iri_ref.proofs.PathWriting.{segments_parts}

-- a text has a segment at least
pub record Some (text : List ℕ) : Type 0 where
  pub first : List ℕ
  pub others : List (List ℕ)
  pub are : segments text ≡ first ∷ others

pub some_segments : (text : List ℕ) → Some text
some_segments [] = record { first = []; others = []; are = refl }
some_segments (c ∷ cs) = by_test (is_slash c) refl (some_segments cs)
  where
    by_test : (b : Bool) → is_slash c ≡ b → Some cs → Some (c ∷ cs)
    by_test true e below = record { first = []; others = segments cs; are = ap (λ (b : Bool). cond b ([] ∷ segments cs) (onto_first c (segments cs))) e }
    by_test false e below = record {
      first = c ∷ below.first;
      others = below.others;
      are = ap (λ (b : Bool). cond b ([] ∷ segments cs) (onto_first c (segments cs))) e ∙ ap (onto_first c) below.are;
    }

not_true : (b : Bool) → not b ≡ true → b ≡ false
not_true true h = absurd cc
not_true false h = refl

pub segments_lacking : (text : List ℕ) → Lacks is_slash text → segments text ≡ text ∷ []
segments_lacking [] h = refl
segments_lacking (c ∷ cs) h =
    ap (λ (b : Bool). cond b ([] ∷ segments cs) (onto_first c (segments cs))) (not_true (is_slash c) (and_left _ (list_all (λ d. not (is_slash d)) cs) h))
    ∙ ap (onto_first c) (segments_lacking cs (and_right (not (is_slash c)) _ h))

pub segments_cut : (text prefix rest : List ℕ) → text ≡ prefix ++ slash ∷ rest → Lacks is_slash prefix → segments text ≡ prefix ∷ segments rest
segments_cut text prefix rest e h =
    ap segments e ∙ segments_parts prefix rest ∙ ap (λ (x : List (List ℕ)). x ++ segments rest) (segments_lacking prefix h)
