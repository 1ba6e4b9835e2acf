use Rattle.std.proofs.Common.{refl}
use Rattle.turtle_text.proofs.Sums.{kept_none}
use Rattle.turtle_text.proofs.document_triples.Triples.new.Goals as goal

pub returns : goal.returns
returns c = λ bytes. (kept_none _ c.new.ensures.items refl bytes, c.new-2.ensures bytes)
