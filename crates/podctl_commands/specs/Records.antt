-- The lines of records, and how printing ends.
use Rattle.std.specs.Prelude.{◌≡◌, ℕ, List, [], ◌∷◌, ◌++◌, Result, Ok, Err}
use Rattle.audit_trail.specs.Lines.{entry_line}
use Rattle.pod_command.specs.declared.entry.Entry.{Entry}
use Rattle.pod_records.specs.Readings.{IsEntryOf}
use Rattle.podctl_commands.specs.declared.store_end.StoreEnd.{StoreEnd}
use Rattle.podctl_commands.specs.declared.store_end.StoreEnd.TheVariants as ends
use Rattle.podctl_commands.specs.declared.store_printing.PrintFault.{PrintFault}
use Rattle.podctl_commands.specs.declared.store_printing.PrintFault.TheVariants as printing

-- the record is the text of this entry in a format
abbrev pub IsRecordOf : List ℕ → Entry → Type 0
IsRecordOf body entry = (format : ℕ) × IsEntryOf format body entry

-- the record has this line
abbrev pub HasLine : List ℕ → List ℕ → Type 0
HasLine body line = (entry : Entry) × IsRecordOf body entry × (line ≡ entry_line entry)

-- the records have these lines, one after the other
abbrev pub HaveLines : List (List ℕ) → List ℕ → Type 0
HaveLines [] text = text ≡ []
HaveLines (body ∷ bodies) text = (line : List ℕ) × (rest : List ℕ) × HasLine body line
    × HaveLines bodies rest × (text ≡ line ++ rest)

-- the end of a command whose printing ended so
abbrev pub printed_end : Result (Unit {0}) PrintFault → StoreEnd
printed_end (Ok _) = ends.Done
printed_end (Err printing.WriteFault) = ends.WriteFault
printed_end (Err printing.NoMemory) = ends.NoMemory
