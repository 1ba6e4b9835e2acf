-- Prefixes of lists (`IsPrefix xs ys`: ys is xs ++ something).
use Rattle.std.proofs.Common.{◌≡◌, ℕ, ◌≤◌, List, [], ◌∷◌, ◌++◌, length, take, drop, refl, ap, sym, ◌∙◌, arith, append_assoc, length-append}
use Rattle.std.proofs.lemmas.List.{take-append-drop}
use mathlib.Core.List.{IsPrefix}

module _ {A : Type 0} where
  pub prefix_self : (xs : List A) → IsPrefix xs xs
  prefix_self [] = ([], refl)
  prefix_self (x ∷ xs) = ((prefix_self xs).0, ap (λ ys. x ∷ ys) (prefix_self xs).1)

  pub prefix_of_append : (xs ys : List A) → IsPrefix xs (xs ++ ys)
  prefix_of_append xs ys = (ys, refl)

  pub prefix_take : (count : ℕ) (xs : List A) → IsPrefix (take count xs) xs
  prefix_take count xs = (drop count xs, take-append-drop count xs)

  pub prefix_trans : (xs ys zs : List A) → IsPrefix xs ys → IsPrefix ys zs → IsPrefix xs zs
  prefix_trans xs ys zs p q = (p.0 ++ q.0, sym (append_assoc xs p.0 q.0) ∙ (ap (λ w. w ++ q.0) p.1 ∙ q.1))

  pub prefix_length : (xs ys : List A) → IsPrefix xs ys → length xs ≤ length ys
  prefix_length xs ys p = omega (arith, sym (ap length p.1) ∙ length-append xs p.0)

  -- of two prefixes of one list the shorter is a prefix of the longer
  pub prefix_shorter : (xs ys zs : List A) → IsPrefix xs zs → IsPrefix ys zs → length xs ≤ length ys → IsPrefix xs ys
  prefix_shorter [] ys zs p q le = (ys, refl)
  prefix_shorter (x ∷ xs) [] zs p q le = absurd (omega arith)
  prefix_shorter (x ∷ xs) (y ∷ ys) [] p q le = absurd (cc (p.1))
  prefix_shorter (x ∷ xs) (y ∷ ys) (z ∷ zs) p q le =
      let heads : x ≡ y = cc (p.1, q.1) in
      let rest = prefix_shorter xs ys zs (p.0, cc (p.1)) (q.0, cc (q.1)) (omega arith) in
      (rest.0, cc (heads, rest.1))

  -- a prefix as long as the whole is the whole
  pub prefix_whole : (xs ys : List A) → IsPrefix xs ys → length ys ≤ length xs → xs ≡ ys
  prefix_whole [] [] p le = refl
  prefix_whole [] (y ∷ ys) p le = absurd (omega arith)
  prefix_whole (x ∷ xs) [] p le = absurd (cc (p.1))
  prefix_whole (x ∷ xs) (y ∷ ys) p le =
      let rest = prefix_whole xs ys (p.0, cc (p.1)) (omega arith) in cc (p.1, rest)

  -- two lists that are prefixes of each other are one
  pub prefix_same : (xs ys : List A) → IsPrefix xs ys → IsPrefix ys xs → xs ≡ ys
  prefix_same xs ys p q = prefix_whole xs ys p (prefix_length ys xs q)

  -- prefixes after the same list
  pub prefix_after : (os xs ys : List A) → IsPrefix xs ys → IsPrefix (os ++ xs) (os ++ ys)
  prefix_after os xs ys p = (p.0, append_assoc os xs p.0 ∙ ap (λ w. os ++ w) p.1)
