-- How a command ends whose output was written, and what was read of a store that was opened.
use Rattle.std.specs.Prelude.{◌≡◌, ℕ, List, Option, Result, Ok, Err}
use Rattle.pod_io.specs.Writing.{ExtendsBy, ExtendsByPart}
use Rattle.pod_command.specs.declared.entry.Entry.{Entry}
use Rattle.pod_command.specs.declared.snapshot.Snapshot.{Snapshot}
use Rattle.pod_io.specs.declared.source.Failed.{Failed}
use Rattle.podctl_commands.specs.Prints.{IsStoreOf}
use Rattle.podctl_commands.specs.declared.store_end.StoreEnd.{StoreEnd}
use Rattle.podctl_commands.specs.declared.store_end.StoreEnd.TheVariants as ends

abbrev pub written_end : Result (Unit {0}) Failed → StoreEnd
written_end (Ok done) = ends.Done
written_end (Err failed) = ends.WriteFault

-- What an output has of a report, by the end: all of it, a part of it where a write failed, or
-- nothing, out of memory.
abbrev pub IsReportedSo : List ℕ → Option (List ℕ) → Option (List ℕ) → StoreEnd → Type 0
IsReportedSo text old new ends.Done = ExtendsBy text old new
IsReportedSo text old new ends.WriteFault = ExtendsByPart text old new
IsReportedSo text old new ends.NoMemory = new ≡ old
IsReportedSo text old new _ = ⊥

-- These are the records of the journal that is taken, and hold a snapshot and entries.
pub record AreStored (first second : Option (List ℕ)) (bodies : List (List ℕ)) : Type 0 where
  pub snapshot : Snapshot
  pub entries : List Entry
  pub opened : IsStoreOf first second snapshot entries
  pub taken : opened.bodies ≡ bodies
