-- What the calls of a wire send and count.
use Rattle.std.specs.Prelude.{◌≡◌, ℕ, ◌≤◌, List, [], ◌∷◌, ◌++◌, Option, Result, Ok, Err}
use Rattle.std.specs.Prelude.{OnOk, OnErr}
use Rattle.std.specs.Option.{option_map}
use Rattle.pod_base.specs.Counts.{CountIncreased}
use Rattle.pod_io.specs.Counts.{next_count}
use Rattle.pod_io.specs.declared.wire.Polled.{Polled}
use Rattle.pod_io.specs.declared.wire.Polled.TheVariants.{Nothing, Closed}

-- a text that was sent is the last of those that were, where the wire shows them, and one that was
-- not is none of them
pub record SendsText {T E : Type 0} (result : Result T E) (text : List ℕ)
    (old new : Option (List (List ℕ))) : Type 0 where
  pub sent : OnOk result (new ≡ option_map (λ texts. texts ++ text ∷ []) old)
  pub kept : OnErr result (new ≡ old)

-- a poll that succeeded is counted, where the wire shows its content
pub record CountsPolls {T E : Type 0} (result : Result T E) (old new : Option ℕ) : Type 0 where
  pub polled : OnOk result (new ≡ option_map next_count old)
  pub failed : OnErr result (new ≡ old)

-- errors of a wire are counted, and nothing else is
pub record CountsErrors {T E : Type 0} (result : Result T E) (old new : ℕ) : Type 0 where
  pub no_fewer : old ≤ new
  pub failed : OnErr result (CountIncreased old new)
  pub kept : OnOk result (new ≡ old)

-- polls that found the wire closed are counted, and nothing else is
abbrev pub CountsClosed : {E : Type 0} → Result Polled E → ℕ → ℕ → Type 0
CountsClosed (Ok Nothing) old new = new ≡ old
CountsClosed (Ok Closed) old new = (old ≤ new) × CountIncreased old new
CountsClosed (Err e) old new = new ≡ old
