-- Relations at each position of two lists.
use Rattle.std.proofs.Common.{◌≡◌, ℕ, ◌+◌, All, List, [], ◌∷◌, ◌++◌, length, ap, ap₂, refl, ◌∙◌, sym}
use Rattle.std.specs.Prelude.{sum_by}
use Rattle.std.proofs.lemmas.List.Elements.{All-cons, All-nil}
use Rattle.std.proofs.lemmas.List.Sums.{sum_by-cons}
use Rattle.pod_base.specs.EachTo.{EachTo}

module _ {A B : Type 0} where
  pub EachTo-append : (R : A → B → Type 0) (a : List A) (b : List B) (c : List A) (d : List B) → EachTo R a b → EachTo R c d → EachTo R (a ++ c) (b ++ d)
  EachTo-append R [] [] c d h k = k
  EachTo-append R [] (y ∷ b) c d h k = absurd h
  EachTo-append R (x ∷ a) [] c d h k = absurd h
  EachTo-append R (x ∷ a) (y ∷ b) c d h k = (h.0, EachTo-append R a b c d h.1 k)

  pub EachTo-weaker : (R S : A → B → Type 0) → ((x : A) (y : B) → R x y → S x y) → (xs : List A) (ys : List B) → EachTo R xs ys → EachTo S xs ys
  EachTo-weaker R S f [] [] h = tt
  EachTo-weaker R S f [] (y ∷ ys) h = absurd h
  EachTo-weaker R S f (x ∷ xs) [] h = absurd h
  EachTo-weaker R S f (x ∷ xs) (y ∷ ys) h = (f x y h.0, EachTo-weaker R S f xs ys h.1)

  pub length-EachTo : (R : A → B → Type 0) (xs : List A) (ys : List B) → EachTo R xs ys → length xs ≡ length ys
  length-EachTo R [] [] h = refl
  length-EachTo R [] (y ∷ ys) h = absurd h
  length-EachTo R (x ∷ xs) [] h = absurd h
  length-EachTo R (x ∷ xs) (y ∷ ys) h = cc (length-EachTo R xs ys h.1)

  -- what the relation says of the second list's elements holds of all of them
  pub All-EachTo : (R : A → B → Type 0) (P : B → Type 0) → ((x : A) (y : B) → R x y → P y) → (xs : List A) (ys : List B) → EachTo R xs ys → All P ys
  All-EachTo R P f [] [] h = All-nil P
  All-EachTo R P f [] (y ∷ ys) h = absurd h
  All-EachTo R P f (x ∷ xs) [] h = absurd h
  All-EachTo R P f (x ∷ xs) (y ∷ ys) h = All-cons P y ys (f x y h.0) (All-EachTo R P f xs ys h.1)

  -- where the relation keeps a number, it keeps the sum
  pub sum_by-EachTo : (R : A → B → Type 0) (m : A → ℕ) (n : B → ℕ) → ((x : A) (y : B) → R x y → n y ≡ m x) → (xs : List A) (ys : List B) → EachTo R xs ys → sum_by n ys ≡ sum_by m xs
  sum_by-EachTo R m n f [] [] h = refl
  sum_by-EachTo R m n f [] (y ∷ ys) h = absurd h
  sum_by-EachTo R m n f (x ∷ xs) [] h = absurd h
  sum_by-EachTo R m n f (x ∷ xs) (y ∷ ys) h =
      sum_by-cons n y ys ∙ (ap₂ (λ a b. a + b) (f x y h.0) (sum_by-EachTo R m n f xs ys h.1) ∙ sym (sum_by-cons m x xs))

module _ {A B C : Type 0} where
  -- one relation after another at each position
  pub EachTo-then : (R : A → B → Type 0) (S : B → C → Type 0) (T : A → C → Type 0) → ((x : A) (y : B) (z : C) → R x y → S y z → T x z)
      → (xs : List A) (ys : List B) (zs : List C) → EachTo R xs ys → EachTo S ys zs → EachTo T xs zs
  EachTo-then R S T f [] [] [] h k = tt
  EachTo-then R S T f [] [] (z ∷ zs) h k = absurd k
  EachTo-then R S T f [] (y ∷ ys) zs h k = absurd h
  EachTo-then R S T f (x ∷ xs) [] zs h k = absurd h
  EachTo-then R S T f (x ∷ xs) (y ∷ ys) [] h k = absurd k
  EachTo-then R S T f (x ∷ xs) (y ∷ ys) (z ∷ zs) h k = (f x y z h.0 k.0, EachTo-then R S T f xs ys zs h.1 k.1)
