use Rattle.std.proofs.Common.{sym}
use Rattle.request_history.proofs.parts_and_events.Parts.faulted.Goals as goal

pub faulted_of-requires-clause-held : goal.faulted_of-requires-clause-held
faulted_of-requires-clause-held c = sym c.in-Some.ensures
