-- Places of items, one after the other.
use Rattle.std.proofs.Common.{ℕ, ◌≤◌, List, [], ◌∷◌, ◌++◌, Option, Some, None, IfSome, arith}
use Rattle.pod_core.specs.Session.{NeverFalls}

-- places that never fall, and then others
pub falls_append : (before middle after : ℕ) (xs ys : List ℕ) → NeverFalls before xs middle → NeverFalls middle ys after → NeverFalls before (xs ++ ys) after
falls_append before middle after [] ys h k = lower before middle after ys h k
  where
    lower : (a b c : ℕ) (zs : List ℕ) → a ≤ b → NeverFalls b zs c → NeverFalls a zs c
    lower a b c [] h k = omega arith
    lower a b c (z ∷ zs) h k = (omega (arith, k.0), k.1)
falls_append before middle after (x ∷ xs) ys h k = (h.0, falls_append x middle after xs ys h.1 k)

pub if_some_all : {A : Type 0} (o : Option A) (P : A → Type 0) → ((x : A) → P x) → IfSome o P
if_some_all None P f = tt
if_some_all (Some x) P f = f x
