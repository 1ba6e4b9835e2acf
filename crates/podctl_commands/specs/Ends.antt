-- How a command of a store ends.
use Rattle.std.specs.Prelude.{ℕ}
use Rattle.journal_log.specs.declared.fault.OpenFault.{OpenFault}
use Rattle.journal_log.specs.declared.fault.OpenFault.TheVariants as faulty
use Rattle.journal_log.specs.Refusals.{open_status}
use Rattle.podctl_commands.specs.declared.store_end.StoreEnd.{StoreEnd}
use Rattle.podctl_commands.specs.declared.store_end.StoreEnd.TheVariants.{Done, WriteFault, Damaged}
use Rattle.podctl_commands.specs.declared.store_end.StoreEnd.TheVariants.{DiskFault, NoMemory, NotEmpty}
use Rattle.podctl_commands.specs.declared.store_end.StoreEnd.TheVariants.{Empty}

-- the status of each end
abbrev pub status_of_store_end : StoreEnd → ℕ
status_of_store_end Done = 0
status_of_store_end WriteFault = 4
status_of_store_end (Damaged side at) = open_status (faulty.Damaged side at)
status_of_store_end DiskFault = open_status faulty.DiskFault
status_of_store_end NoMemory = open_status faulty.NoMemory
status_of_store_end NotEmpty = 10
status_of_store_end Empty = open_status faulty.Empty

-- the ends of `init`
abbrev pub IsInitEnd : StoreEnd → Type 0
IsInitEnd Done = Unit {0}
IsInitEnd DiskFault = Unit {0}
IsInitEnd NoMemory = Unit {0}
IsInitEnd NotEmpty = Unit {0}
IsInitEnd _ = ⊥

-- the ends of a command that opens a store and prints of it
abbrev pub IsPrintEnd : StoreEnd → Type 0
IsPrintEnd NotEmpty = ⊥
IsPrintEnd _ = Unit {0}

-- the end of a command whose store wasn't opened
abbrev pub refused_end : OpenFault → StoreEnd
refused_end faulty.Empty = Empty
refused_end (faulty.Damaged side at) = Damaged side at
refused_end faulty.DiskFault = DiskFault
refused_end faulty.NoMemory = NoMemory

-- internal: the ends of making a store on two empty disks
abbrev pub IsMadeEnd : StoreEnd → Type 0
IsMadeEnd Done = Unit {0}
IsMadeEnd DiskFault = Unit {0}
IsMadeEnd NoMemory = Unit {0}
IsMadeEnd _ = ⊥
