use Rattle.turtle_text.proofs.Spelling.{spells_kept}
use Rattle.turtle_text.proofs.document_reading.read_triples.Goals as goal

pub walk-requires-clause-empty : goal.walk-requires-clause-empty
walk-requires-clause-empty c = (c.new-triples.ensures c.args.bytes.now).0

pub returns-in-Ok-clause-spells : goal.returns-in-Ok-clause-spells
returns-in-Ok-clause-spells c = spells_kept c.args.base.now c.args.bytes.now c.walk.new.kept c.in-Ok.ensures.text
