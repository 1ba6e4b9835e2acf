-- What a command that opens a store has printed, by its end.
use Rattle.std.specs.Prelude.{◌≡◌, ◌⊎◌, ℕ, List, take, Option}
use Rattle.journal_log.specs.declared.fault.Side.{Side}
use Rattle.journal_pair.specs.Causes.{IfBothVisible}
use Rattle.journal_pair.specs.Stores.{StoreStands, IsStoreEmpty}
use Rattle.pod_io.specs.Writing.{AddsOrPart, ExtendsBy}
use Rattle.pod_command.specs.declared.entry.Entry.{Entry}
use Rattle.pod_command.specs.declared.snapshot.Snapshot.{Snapshot}
use Rattle.pod_records.specs.PodStores.{IsPodDamaged}
use Rattle.pod_records.specs.Records.{Holds}
use Rattle.journal_log.specs.Refusals.{damage_line}
use Rattle.podctl_commands.specs.declared.store_end.StoreEnd.{StoreEnd}
use Rattle.podctl_commands.specs.declared.store_end.StoreEnd.TheVariants.{Done, WriteFault, Damaged}
use Rattle.podctl_commands.specs.declared.store_end.StoreEnd.TheVariants.{DiskFault, NoMemory, NotEmpty}
use Rattle.podctl_commands.specs.declared.store_end.StoreEnd.TheVariants.{Empty}

-- The records of the journal that is taken hold this snapshot and these entries.
pub record IsStoreOf (first second : Option (List ℕ)) (snapshot : Snapshot) (entries : List Entry)
    : Type 0 where
  pub side : Side
  pub format : ℕ
  pub epoch : ℕ
  pub bodies : List (List ℕ)
  pub holds : Holds format bodies snapshot entries
  pub stands : IfBothVisible first second (StoreStands side format epoch bodies)

module _ (text : Snapshot → List Entry → List ℕ) (first second old new : Option (List ℕ)) where
  -- all of the text of the store that was opened
  pub record PrintsAll : Type 0 where
    pub snapshot : Snapshot
    pub entries : List Entry
    pub opened : IsStoreOf first second snapshot entries
    pub printed : ExtendsBy (text snapshot entries) old new

  -- a prefix of it
  pub record PrintsPart : Type 0 where
    pub snapshot : Snapshot
    pub entries : List Entry
    pub opened : IsStoreOf first second snapshot entries
    pub count : ℕ
    pub printed : ExtendsBy (take count (text snapshot entries)) old new

  -- What the output has, and what the disks read as. Damage is that of the store, and the first.
  abbrev pub Prints : StoreEnd → Type 0
  Prints Done = PrintsAll
  Prints WriteFault = PrintsPart
  Prints (Damaged side at) = IfBothVisible first second (IsPodDamaged side at) × (new ≡ old)
  Prints Empty = IfBothVisible first second IsStoreEmpty × (new ≡ old)
  Prints DiskFault = new ≡ old
  Prints NoMemory = (new ≡ old) ⊎ PrintsPart
  Prints NotEmpty = ⊥

-- What the error sink has: the line of a damage, or a part of it where its count increased; else
-- nothing more.
abbrev pub ReportsDamage : StoreEnd → Option (List ℕ) → Option (List ℕ) → ℕ → ℕ → Type 0
ReportsDamage (Damaged side at) old new before after =
    AddsOrPart (damage_line side at) old new before after
ReportsDamage _ old new before after = new ≡ old
