use Rattle.std.proofs.lemmas.Result.{IfOk-weaker}
use Rattle.turtle_reader.proofs.reader.Reader.triple.Goals as goal

pub returns : goal.returns
returns c = IfOk-weaker c.resolved.result _ _ (λ r is start base bytes ls ps ms h. is ms h.kept) c.resolved.ensures
