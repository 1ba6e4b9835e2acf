-- What `ship` has written of a store, by its end.
use Rattle.std.specs.Prelude.{◌≡◌, ◌<◌, ℕ, List, length, take, Option}
use Rattle.journal_pair.specs.Causes.{IfBothVisible}
use Rattle.journal_pair.specs.Stores.{IsStoreEmpty}
use Rattle.pod_io.specs.Writing.{ExtendsBy, ExtendsByPart}
use Rattle.pod_command.specs.declared.entry.Entry.{Entry}
use Rattle.pod_command.specs.declared.snapshot.Snapshot.{Snapshot}
use Rattle.pod_follow.specs.Frames.{frames_of}
use Rattle.pod_records.specs.PodStores.{IsPodDamaged}
use Rattle.podctl_commands.specs.Prints.{IsStoreOf}
use Rattle.podctl_commands.specs.declared.store_end.StoreEnd.{StoreEnd}
use Rattle.podctl_commands.specs.declared.store_end.StoreEnd.TheVariants.{Done, WriteFault, Damaged}
use Rattle.podctl_commands.specs.declared.store_end.StoreEnd.TheVariants.{DiskFault, NoMemory, NotEmpty}
use Rattle.podctl_commands.specs.declared.store_end.StoreEnd.TheVariants.{Empty}

module _ (first second old new : Option (List ℕ)) where
  -- The frames of all records of the journal that is taken, which hold a snapshot and entries.
  pub record ShipsAll : Type 0 where
    pub snapshot : Snapshot
    pub entries : List Entry
    pub opened : IsStoreOf first second snapshot entries
    pub shipped : ExtendsBy (frames_of opened.bodies) old new

  -- a prefix of them, which isn't all
  pub record ShipsPart : Type 0 where
    pub snapshot : Snapshot
    pub entries : List Entry
    pub opened : IsStoreOf first second snapshot entries
    pub shipped : ExtendsByPart (frames_of opened.bodies) old new

  -- What the output has, and what the disks read as. Damage is that of the store, and the first.
  abbrev pub Ships : StoreEnd → Type 0
  Ships Done = ShipsAll
  Ships WriteFault = ShipsPart
  Ships (Damaged side at) = IfBothVisible first second (IsPodDamaged side at) × (new ≡ old)
  Ships Empty = IfBothVisible first second IsStoreEmpty × (new ≡ old)
  Ships DiskFault = new ≡ old
  Ships NoMemory = new ≡ old
  Ships NotEmpty = ⊥
