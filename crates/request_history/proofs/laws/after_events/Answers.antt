use Rattle.request_history.proofs.Runs.{begins_with_none, taken_stops, takes_one_more}
use Rattle.request_history.proofs.laws.after_events.Goals as goal

pub returns-clause-begins : goal.returns-clause-begins
returns-clause-begins c = begins_with_none

pub returns-clause-takes : goal.returns-clause-takes
returns-clause-takes c = takes_one_more

pub returns-clause-stops : goal.returns-clause-stops
returns-clause-stops c = taken_stops c.one_legal_history.ensures.stops
