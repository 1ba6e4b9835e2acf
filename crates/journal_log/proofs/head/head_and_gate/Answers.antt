use Rattle.std.proofs.Common.{rules}
use Rattle.journal_log.specs.Heads.{encoded_head}
use Rattle.journal_log.proofs.head.head_and_gate.Goals as goal

pub returns : goal.returns
unfolding encoded_head
returns c = search rules
