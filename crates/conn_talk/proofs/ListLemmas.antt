-- Lists of one item more.
use Rattle.std.proofs.Common.{◌≡◌, ℕ, zero, suc, ◌+◌, List, [], ◌∷◌, ◌++◌, map, take, drop, append_assoc, ap, ◌∙◌, refl, arith}
use Rattle.std.specs.List.{AllByRecursion, range_with_len}
use Rattle.std.proofs.lemmas.List.{append-nil, take-append-drop}
use mathlib.Core.List.{IsPrefix}

pub map_snoc : {A B : Type 0} (f : A → B) (xs : List A) (x : A) → map f (xs ++ x ∷ []) ≡ map f xs ++ f x ∷ []
map_snoc f [] x = refl
map_snoc f (y ∷ xs) x = ap (λ rest. f y ∷ rest) (map_snoc f xs x)

pub all_snoc : {A : Type 0} (P : A → Type 0) (xs : List A) (x : A) → AllByRecursion P xs → P x → AllByRecursion P (xs ++ x ∷ [])
all_snoc P [] x h p = (p, tt)
all_snoc P (y ∷ xs) x h p = (h.0, all_snoc P xs x h.1 p)

pub range_snoc : (from count : ℕ) → range_with_len from (count + 1) ≡ range_with_len from count ++ (from + count) ∷ []
range_snoc from zero = ap (λ n. n ∷ []) (omega arith)
range_snoc from (suc count) =
    let next : suc count + 1 ≡ suc (count + 1) = omega arith in
    ap (range_with_len from) next ∙ ap (λ rest. from ∷ rest) (range_snoc (from + 1) count)
    ∙ ap (λ n. from ∷ (range_with_len (from + 1) count ++ n ∷ [])) (omega arith)

-- a prefix of what follows a text
pub front_of_more : (xs ys : List ℕ) (count : ℕ) → IsPrefix (xs ++ take count ys) (xs ++ ys)
front_of_more xs ys count = (drop count ys, append_assoc xs (take count ys) (drop count ys) ∙ ap (λ more. xs ++ more) (take-append-drop count ys))

-- a whole list is a prefix of it
pub whole_front : {A : Type 0} (xs ys : List A) → xs ≡ ys → IsPrefix xs ys
whole_front xs ys is = ([], append-nil xs ∙ is)
