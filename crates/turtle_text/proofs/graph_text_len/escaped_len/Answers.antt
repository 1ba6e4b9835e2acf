use Rattle.std.proofs.Common.{rules}
use Rattle.turtle_text.proofs.Lengths.{escaped_length}
use Rattle.turtle_text.proofs.graph_text_len.escaped_len.Goals as goal

pub returns : goal.returns
returns c = rw (escaped_length c.args.lexical.now) (search rules)
