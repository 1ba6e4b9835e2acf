-- What `check` and `audit` print of a store: of its journal's snapshot and the entries after it.
use Rattle.std.specs.Prelude.{ℕ, List, ◌++◌, length, codes, decimal}
use Rattle.std.specs.List.{flat_map}
use Rattle.audit_trail.specs.Lines.{entry_line}
use Rattle.pod_command.specs.declared.entry.Entry.{Entry}
use Rattle.pod_command.specs.declared.snapshot.Snapshot.{Snapshot}
use Rattle.pod_core.specs.History.{pod_at, end_of}
use Rattle.pod_keeper.specs.Stored.{history_of}

-- how many rows the pod has, how many entries the active journal has, and the next number
abbrev pub counts_line : ℕ → ℕ → ℕ → List ℕ
counts_line rows entries next =
    (codes "rows=" ++ decimal rows) ++ ((codes " entries=" ++ decimal entries)
    ++ ((codes " next=" ++ decimal next) ++ codes "\n"))

-- what `check` prints: of the pod after all entries
abbrev pub check_text : Snapshot → List Entry → List ℕ
check_text snapshot entries =
    let history = history_of snapshot entries in
    counts_line (length (pod_at history (end_of history)).rows) (length entries) (end_of history)

-- what `audit` prints: the line of each entry, in their order
abbrev pub audit_text : Snapshot → List Entry → List ℕ
audit_text snapshot entries = flat_map entry_line entries
