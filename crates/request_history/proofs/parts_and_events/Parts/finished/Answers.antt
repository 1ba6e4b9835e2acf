use Rattle.std.proofs.Common.{sym}
use Rattle.request_history.proofs.parts_and_events.Parts.finished.Goals as goal

pub finished_of-requires-clause-held : goal.finished_of-requires-clause-held
finished_of-requires-clause-held c = sym c.in-Some.ensures
