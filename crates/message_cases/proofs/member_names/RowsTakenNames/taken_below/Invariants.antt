use Rattle.std.proofs.Common.{◌≡◌, All, true}
use Rattle.message_cases.specs.Rows.{is_row_of}
use Rattle.message_cases.proofs.member_names.RowsTakenNames.taken_below.Given as goal

abbrev pub invariant-loop-row : goal.invariant-loop-row
invariant-loop-row l = All (λ path. is_row_of l.self.texts.now path ≡ true) l.paths.items
