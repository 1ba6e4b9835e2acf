-- What `check`, `audit` and `report` print.
use Rattle.std.specs.Prelude.{ℕ, List}
use Rattle.podctl_commands.specs.Lines.{report_text}
use Rattle.pod_command.specs.declared.entry.Entry.{Entry}
use Rattle.pod_command.specs.declared.snapshot.Snapshot.{Snapshot}
use Rattle.pod_tool.specs.declared.store_commands.Printing.{Printing}
use Rattle.pod_tool.specs.declared.store_commands.Printing.TheVariants.{Counts, Entries, Report}
use Rattle.podctl_commands.specs.Texts.{audit_text, check_text}

-- internal: the text of each
abbrev pub text_of : Printing → Snapshot → List Entry → List ℕ
text_of Counts = check_text
text_of Entries = audit_text
text_of (Report agent) = report_text agent
