-- What is lent at a place of a slice.
use Rattle.std.proofs.Common.{◌≡◌, ◌<◌, ◌≤◌, Bor, ℕ, zero, suc, List, [], ◌∷◌, length, Option, Some, None, refl, sym, ap, ◌∙◌, arith}
use Rattle.std.specs.Prelude.{slice_get, slice_index_or, option_copied}
use Rattle.std.specs.Slice.{IsItemAt}
use Rattle.pod_base.specs.declared.heard.Heard.{Heard}
use Rattle.pod_core.specs.World.{Connection}

at_some : {A : Type 0} (xs : List A) (n : ℕ) (d : A) → n < length xs → d ≡ slice_index_or xs n d → Some d ≡ slice_get xs n
at_some [] n d lt e = absurd (omega (arith, lt))
at_some {A} (x ∷ xs) zero d lt e = ap (λ (y : A). Some y) e
at_some (x ∷ xs) (suc n) d lt e = at_some xs n d (omega (arith, lt)) e

at_none : {A : Type 0} (xs : List A) (n : ℕ) → length xs ≤ n → None ≡ slice_get xs n
at_none [] n le = refl
at_none (x ∷ xs) zero le = absurd (omega (arith, le))
at_none (x ∷ xs) (suc n) le = at_none xs n (omega (arith, le))

pub event_lent : (o : Option (Bor Heard)) (xs : List Heard) (n : ℕ) → IsItemAt xs n o → option_copied o ≡ slice_get xs n
event_lent None xs n h = at_none xs n h.3
event_lent (Some x) xs n h = at_some xs n x.now h.3.0 h.1

pub connection_lent : (o : Option (Bor Connection)) (xs : List Connection) (n : ℕ) → IsItemAt xs n o → option_copied o ≡ slice_get xs n
connection_lent None xs n h = at_none xs n h.3
connection_lent (Some x) xs n h = at_some xs n x.now h.3.0 h.1
