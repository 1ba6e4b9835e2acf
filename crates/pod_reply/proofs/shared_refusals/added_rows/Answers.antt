use Rattle.std.proofs.Common.{sym, ◌∙◌}
use Rattle.pod_edits.proofs.Built.{auxiliary_added}
use Rattle.pod_reply.proofs.shared_refusals.added_rows.Goals as goal

pub returns-then-is_auxiliary : goal.returns-then-is_auxiliary
returns-then-is_auxiliary c = λ rows is. sym (auxiliary_added rows c.args.path.now (sym c.is_auxiliary.ensures.is ∙ c.if-is_auxiliary.true))

pub returns-else-is_auxiliary : goal.returns-else-is_auxiliary
returns-else-is_auxiliary c = λ rows is. c.added_rows.ensures rows c.args.path.now (sym c.is_auxiliary.ensures.is ∙ c.if-is_auxiliary.false) is
