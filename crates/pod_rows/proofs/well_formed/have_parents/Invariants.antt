use Rattle.std.proofs.Common.{◌≡◌, take, true}
use Rattle.std.specs.Prelude.{IsTrue}
use Rattle.std.specs.List.{list_all}
use denote.Shadow.{shadow}
use denote.Text.{Utf8}
use Rattle.pod_rows.specs.WellFormed.{has_parent}
use Rattle.pod_rows.specs.WellFormedTests.{is_known}
use Rattle.pod_rows.proofs.well_formed.have_parents.Given as goal

abbrev pub invariant-loop-row : goal.invariant-loop-row
invariant-loop-row l = (list_all (has_parent l.rows) (take l.row-index l.rows) ≡ true) × IsTrue (is_known l.rows l.known) × shadow (Utf8 l.known)
