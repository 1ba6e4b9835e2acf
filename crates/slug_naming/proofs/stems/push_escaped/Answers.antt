use Rattle.std.proofs.Common.{arith}
use Rattle.slug_naming.proofs.PlainLemmas.{escaped_plain}
use Rattle.slug_naming.proofs.stems.push_escaped.Goals as goal

pub returns-then-is_unreserved-clause-plain : goal.returns-then-is_unreserved-clause-plain
returns-then-is_unreserved-clause-plain c = escaped_plain c.args.byte (omega (arith, c.ranges.byte))

pub returns-else-is_unreserved-clause-plain : goal.returns-else-is_unreserved-clause-plain
returns-else-is_unreserved-clause-plain c = escaped_plain c.args.byte (omega (arith, c.ranges.byte))
