use Rattle.std.proofs.Common.{◌≡◌, take}
use Rattle.std.specs.Prelude.{All}
use Rattle.std.specs.List.{flat_map}
use Rattle.access_report.specs.Decisions.{IsDecision}
use Rattle.access_report.specs.Reports.{lines_of}
use Rattle.access_report.proofs.reporting.lines_of_rows.Given as goal

-- the lines are those of the rows so far
abbrev pub invariant-loop-row : goal.invariant-loop-row
invariant-loop-row g l = record {
  lines : l.lines.items ≡ flat_map (lines_of (g.S.PodState.pod l.state) l.agent) (take l.row-index l.row-items);
  decided : All (IsDecision (g.S.PodState.pod l.state) l.agent) l.decided.items;
}
