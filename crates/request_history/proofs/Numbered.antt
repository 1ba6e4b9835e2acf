-- Connections by their numbers, with one of them replaced.
use Rattle.std.proofs.Common.{◌≡◌, ℕ, zero, suc, ◌<◌, ◌≤◌, ◌==◌, Bool, true, false, cond, List, [], ◌∷◌, length, set, slice_get, Option, Some, None, refl, sym, ap, subst, ◌∙◌, arith}
use Rattle.std.specs.List.{AllByRecursion}
use Rattle.std.proofs.lemmas.Bool.Decides.{nat_tests}
use Rattle.std.proofs.lemmas.Option.{slice_get_within}
use Rattle.pod_core.specs.World.{Connection, IsSettled, put_connection}
use Rattle.request_history.specs.Connections.{Rests, SettlesTo}
use Rattle.request_history.specs.Worlds.{numbered}

pub get_set : {A : Type 0} (xs : List A) (i : ℕ) (x : A) → i < length xs → slice_get (set xs i x) i ≡ Some x
get_set [] i x h = absurd (omega arith)
get_set (y ∷ ys) zero x h = refl
get_set (y ∷ ys) (suc i) x h = get_set ys i x (omega arith)

pub get_other : {A : Type 0} (xs : List A) (i k : ℕ) (x : A) → (k ≡ i → ⊥) → slice_get (set xs i x) k ≡ slice_get xs k
get_other [] i k x h = refl
get_other (y ∷ ys) zero zero x h = absurd (h refl)
get_other (y ∷ ys) zero (suc k) x h = refl
get_other (y ∷ ys) (suc i) zero x h = refl
get_other (y ∷ ys) (suc i) (suc k) x h = get_other ys i k x (λ e. h (ap suc e))

pub get_all : {A : Type 0} (P : A → Type 0) (xs : List A) (i : ℕ) (x : A) → AllByRecursion P xs → slice_get xs i ≡ Some x → P x
get_all P [] i x h e = absurd (cc e)
get_all P (y ∷ ys) zero x h e =
    let same : y ≡ x = cc e in
    subst P same h.0
get_all P (y ∷ ys) (suc i) x h e = get_all P ys i x h.1 e

pub set_all : {A : Type 0} (P : A → Type 0) (xs : List A) (i : ℕ) (x : A) → AllByRecursion P xs → P x → AllByRecursion P (set xs i x)
set_all P [] i x h p = tt
set_all P (y ∷ ys) zero x h p = (p, h.1)
set_all P (y ∷ ys) (suc i) x h p = (h.0, set_all P ys i x h.1 p)

pub is_within : {A : Type 0} (xs : List A) (i : ℕ) → i < length xs → (x : A) × (slice_get xs i ≡ Some x)
is_within [] i h = absurd (omega arith)
is_within (y ∷ ys) zero h = (y, refl)
is_within (y ∷ ys) (suc i) h = is_within ys i (omega arith)

some_rests : (o : Option Connection) → ((c : Connection) → o ≡ Some c → Rests c) → IsSettled o o
some_rests None h = tt
some_rests (Some c) h = h c refl

module _ (connections : List Connection) (rests : AllByRecursion Rests connections) where
  pub each_rests : (n : ℕ) → IsSettled (numbered connections n) (numbered connections n)
  each_rests zero = tt
  each_rests (suc k) = some_rests (slice_get connections k) (λ c is. get_all Rests connections k c rests is)

module _ (connections : List Connection) (rests : AllByRecursion Rests connections) (conn : ℕ) (within : conn < length connections) (to new : Connection) (settled : SettlesTo to new) where
  others : (n : ℕ) → (n ≡ suc conn → ⊥) → IsSettled (numbered connections n) (numbered (set connections conn new) n)
  others zero h = tt
  others (suc k) h = subst (λ (o : Option Connection). IsSettled (slice_get connections k) o) (sym (get_other connections conn k new (λ e. h (ap suc e)))) (each_rests connections rests (suc k))

  pub settled_at : (n : ℕ) → IsSettled (put_connection (numbered connections) (suc conn) to n) (numbered (set connections conn new) n)
  settled_at n = elim (n == suc conn) as (λ b. (n == suc conn) ≡ b → IsSettled (cond b (Some to) (numbered connections n)) (numbered (set connections conn new) n)) [
    | true ↦ λ e.
        let same : n ≡ suc conn = grind (arith, nat_tests) in
        subst (λ k. IsSettled (Some to) (numbered (set connections conn new) k)) (sym same)
        (subst (λ (o : Option Connection). IsSettled (Some to) o) (sym (get_set connections conn new within)) settled)
    | false ↦ λ e. others n (λ same. grind (arith, nat_tests))
  ] refl
