use Rattle.std.proofs.Common.{◌≡◌, ◌++◌, take}
use Rattle.std.specs.List.{flat_map}
use Rattle.podctl_commands.specs.Lines.{report_line}
use Rattle.podctl_commands.proofs.report_lines.append_lines.Given as goal

abbrev pub invariant-loop-line : goal.invariant-loop-line
invariant-loop-line l = l.text.items ≡ l.fn.text.items ++ flat_map report_line (take l.line-index l.lines)
