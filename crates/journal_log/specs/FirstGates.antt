-- What a read of the first gate finds.
use Rattle.std.specs.Prelude.{◌<◌, ◌≤◌, ℕ, List, length}
use Rattle.journal_log.specs.Gates.{IsFirstGateClosed}
use Rattle.journal_log.specs.declared.new_journal.FirstGate.{FirstGate}
use Rattle.journal_log.specs.declared.new_journal.FirstGate.TheVariants.{Missing, Closed, Open}

-- what was read of the first gate
abbrev pub IsFirstGate : FirstGate → List ℕ → Type 0
IsFirstGate Missing disk = length disk < 17
IsFirstGate Closed disk = IsFirstGateClosed disk
IsFirstGate Open disk = (17 ≤ length disk) × (IsFirstGateClosed disk → ⊥)
