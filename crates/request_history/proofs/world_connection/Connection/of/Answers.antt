use Rattle.std.proofs.Common.{[], false}
use Rattle.request_history.proofs.Settled.{fresh_inside, rests}
use Rattle.request_history.proofs.world_connection.Connection.of.Goals as goal

pub invariant_of-result : goal.invariant_of-result
invariant_of-result c = fresh_inside c.new-input.result c.new-input.ensures.parsed c.new-input.ensures.is

pub returns-clause-is : goal.returns-clause-is
returns-clause-is c = λ i. record { input = (c.new-input.ensures.is i).bytes; output = c.new-output.ensures i; done = []; switched = false; seen = c.args.seen }

pub returns-clause-rests : goal.returns-clause-rests
returns-clause-rests c =
    let inside = fresh_inside c.new-input.result c.new-input.ensures.parsed c.new-input.ensures.is in
    let p = c.new-input.ensures.parsed in
    rests c.new-input.result p.0 0 false c.args.seen c.new-output.result p.1 inside.settled
