use Rattle.std.proofs.Common.{false, refl}
use Rattle.request_history.proofs.FirstWorlds.{first_fine, first_is}
use Rattle.request_history.specs.declared.parts_and_events.Parts.{Parts}
use Rattle.request_history.proofs.world.World.with_tokens.Goals as goal

pub invariant_of-result : goal.invariant_of-result
invariant_of-result c = first_fine c.args.first c.args.conns _ c.in_ok-keeper.ensures.is refl c.in_ok-connections.ensures.fresh refl c.in_ok-connections.ensures.rests

pub returns-clause-first : goal.returns-clause-first
returns-clause-first c =
    let parts : Parts = record { tokens = c.args.tokens; keeper = c.in_ok-keeper.keeper; connections = c.in_ok-connections.connections; published = c.args.first.seq; stopped = false } in
    first_is c.args.first c.args.conns parts c.in_ok-keeper.ensures.is refl c.in_ok-connections.ensures.fresh refl
