use Rattle.std.proofs.Common.{rules}
use Rattle.journal_log.proofs.Writing.{is_framed}
use Rattle.journal_log.proofs.framed_record.frame.Goals as goal

pub invariant_of-result : goal.invariant_of-result
invariant_of-result c = is_framed c.args.body.now c.push.new.self.items (search rules) (search rules)
