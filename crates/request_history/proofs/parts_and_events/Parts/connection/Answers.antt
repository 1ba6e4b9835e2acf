use Rattle.std.proofs.Common.{◌∙◌, ap}
use Rattle.std.specs.Prelude.{slice_get}
use Rattle.request_history.proofs.Lent.{connection_lent}
use Rattle.request_history.proofs.parts_and_events.Parts.connection.Goals as goal

pub returns : goal.returns
returns c = connection_lent c.get.result c.as_slice.result.now c.args.conn c.get.ensures.lookup ∙ ap (λ xs. slice_get xs c.args.conn) c.as_slice.ensures.value
