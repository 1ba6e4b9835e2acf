-- The lines of a report.
use Rattle.std.specs.Prelude.{◌≡◌, ◌↔◌, ℕ, List, ◌++◌, All, codes}
use Rattle.std.specs.List.{flat_map}
use Rattle.access_report.specs.Checked.{Checks}
use Rattle.access_report.specs.Reports.{HasLine, IsReported, report_of}
use Rattle.access_report.specs.declared.line.Line.{Line}
use Rattle.audit_trail.specs.Lines.{basis_text}
use Rattle.pod_access.specs.PodGrants.{PodGrants}
use Rattle.pod_base.specs.declared.agent.Agent.{Agent}
use Rattle.pod_base.specs.declared.agent.Mode.{Mode}
use Rattle.pod_base.specs.declared.agent.Mode.TheVariants.{Read, Append, Write, Control}
use Rattle.pod_command.specs.declared.entry.Entry.{Entry}
use Rattle.pod_command.specs.declared.snapshot.Snapshot.{Snapshot}
use Rattle.pod_core.specs.History.{pod_at, end_of}
use Rattle.pod_keeper.specs.Stored.{history_of}
use Rattle.pod_rows.specs.Pod.{Pod}
use Rattle.pod_rows.specs.WellFormed.{WellFormed}

abbrev pub mode_word : Mode → List ℕ
mode_word Read = codes "read"
mode_word Write = codes "write"
mode_word Append = codes "append"
mode_word Control = codes "control"

-- the path, the mode, and the basis as the line of an entry has it; one space between, and LF
abbrev pub report_line : Line → List ℕ
report_line line = line.path ++ (codes " " ++ (mode_word line.mode ++ (codes " "
    ++ (basis_text line.basis ++ codes "\n"))))

abbrev pub report_lines : List Line → List ℕ
report_lines lines = flat_map report_line lines

-- what an agent may do in a pod
abbrev pub pod_text : Agent → Pod → List ℕ
pod_text agent pod = report_lines (report_of pod agent)

-- what `report` prints: of the pod after all entries
abbrev pub report_text : Agent → Snapshot → List Entry → List ℕ
report_text agent snapshot entries =
    let history = history_of snapshot entries in pod_text agent (pod_at history (end_of history))

-- There is a line for each mode that the agent is granted on a row that is no access list, and no
-- other.
abbrev pub ReportsGrants : Type 0
ReportsGrants = (pod : Pod) (agent : Agent) (path : List ℕ) (mode : Mode) → WellFormed pod
    → HasLine (report_of pod agent) path mode ↔ (IsReported pod path × PodGrants pod agent path mode)

-- Each line names a rule that grants it.
abbrev pub ReportsCheck : Type 0
ReportsCheck = (pod : Pod) (agent : Agent) → WellFormed pod
    → All (Checks pod agent) (report_of pod agent)
