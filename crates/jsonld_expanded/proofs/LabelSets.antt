-- The labels of a document as a set.
use Rattle.std.proofs.Common.{◌≡◌, ◌||◌, ◌++◌, ℕ, Bool, true, false, List, [], ◌∷◌, codes, cond, take, drop, refl, sym, ap, ◌∙◌, if◌then◌else◌}
use Rattle.std.specs.Str.{bytes_eq}
use Rattle.std.proofs.lemmas.Slice.Eq.{bytes_eq-Decides}
use Rattle.std.proofs.lemmas.List.{take-append-drop}
use Rattle.std.proofs.lemmas.List.Folds.{list_any-append}
use Rattle.jsonld_expanded.specs.Nodes.{has_label, labels_of_text}

module _ (text : List ℕ) (none : (l : List ℕ) → text ≡ codes "_:" ++ l → ⊥) where
  at : (b : Bool) → bytes_eq (take 2 text) (codes "_:") ≡ b → (if b then drop 2 text ∷ [] else []) ≡ []
  at true e = absurd (none (drop 2 text) (sym (take-append-drop 2 text) ∙ ap (λ p. p ++ drop 2 text) ((bytes_eq-Decides (take 2 text) (codes "_:")).0 e)))
  at false e = refl

  pub labels_of_text-none : labels_of_text text ≡ []
  labels_of_text-none = at (bytes_eq (take 2 text) (codes "_:")) refl

pub labels_of_text-some : (text l : List ℕ) → text ≡ codes "_:" ++ l → labels_of_text text ≡ l ∷ []
labels_of_text-some text l e = ap labels_of_text e

pub or-false : (b : Bool) → (b || false) ≡ b
or-false true = refl
or-false false = refl

pub or-assoc : (a b c : Bool) → ((a || b) || c) ≡ (a || (b || c))
or-assoc true b c = refl
or-assoc false b c = refl

inserted : (b old : Bool) → cond b true old ≡ (old || (b || false))
inserted true true = refl
inserted true false = refl
inserted false true = refl
inserted false false = refl

-- the set after the label of a text was put in
pub one_label_more : (old new : List ℕ → Bool) (text label key : List ℕ) → text ≡ codes "_:" ++ label → key ≡ label
    → ((l : List ℕ) → new l ≡ cond (bytes_eq key l) true (old l)) → (l : List ℕ) → new l ≡ (old l || has_label (labels_of_text text) l)
one_label_more old new text label key cut same step l =
    step l ∙ inserted (bytes_eq key l) (old l) ∙ ap (λ m. old l || (bytes_eq m l || false)) same ∙ ap (λ ls. old l || has_label ls l) (sym (labels_of_text-some text label cut))

-- labels of one part and then of the rest
pub labels_more : (old : Bool) (xs ys : List (List ℕ)) (l : List ℕ) (now : Bool) → now ≡ (old || has_label xs l) → (now || has_label ys l) ≡ (old || has_label (xs ++ ys) l)
labels_more old xs ys l now e =
    ap (λ b. b || has_label ys l) e ∙ or-assoc old (has_label xs l) (has_label ys l) ∙ ap (λ b. old || b) (sym (list_any-append (λ m. bytes_eq m l) xs ys))
