-- What is reported of a store that isn't opened.
use Rattle.std.specs.Prelude.{◌≡◌, ℕ, List, ◌++◌, codes, Option}
use Rattle.journal_log.specs.Sides.{side_text}
use Rattle.journal_log.specs.declared.fault.OpenFault.{OpenFault}
use Rattle.journal_log.specs.declared.fault.OpenFault.TheVariants.{Empty, Damaged, DiskFault}
use Rattle.journal_log.specs.declared.fault.OpenFault.TheVariants.{NoMemory}
use Rattle.journal_log.specs.declared.fault.Side.{Side}
use Rattle.pod_io.specs.Writing.{AddsOrPart, number_line}

-- the status of the run
abbrev pub open_status : OpenFault → ℕ
open_status Empty = 10
open_status (Damaged side at) = 5
open_status DiskFault = 6
open_status NoMemory = 7

-- the line of a damage, on the error sink
abbrev pub damage_line : Side → ℕ → List ℕ
damage_line side at = number_line (codes "damaged " ++ side_text side ++ codes " ") at

-- What the error sink has then: the line of a damage, or a part of it where its count increased;
-- else nothing more.
abbrev pub TellsRefusal : OpenFault → Option (List ℕ) → Option (List ℕ) → ℕ → ℕ → Type 0
TellsRefusal (Damaged side at) old new before after =
    AddsOrPart (damage_line side at) old new before after
TellsRefusal _ old new before after = new ≡ old
