use Rattle.std.proofs.Common.{rules}
use Rattle.turtle_text.proofs.Lengths.{line_length}
use Rattle.turtle_text.proofs.graph_text_len.line_len.Goals as goal

pub returns : goal.returns
returns c = rw line_length (search rules)
