use Rattle.std.proofs.Common.{rules}
use Rattle.journal_log.specs.Heads.{encoded_head}
use Rattle.request_history.proofs.world_journal.head.Goals as goal

pub returns : goal.returns
unfolding encoded_head
returns c = search rules
