use Rattle.std.proofs.lemmas.Option.{IfSome_then}
use Rattle.turtle_reader.proofs.Holding.{waiting_held}
use Rattle.turtle_reader.proofs.reader.Reader.waiting.Goals as goal

pub returns-clause-held : goal.returns-clause-held
returns-clause-held c = IfSome_then c.waiting.result c.waiting.ensures.names (λ x names start base bytes ls ps ms h. waiting_held ms c.args.self.now h.held x names)
