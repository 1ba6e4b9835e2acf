use Rattle.std.proofs.Common.{subst}
use Rattle.std.specs.Option.{option_copied}
use Rattle.pod_core.specs.World.{Connection}
use Rattle.request_history.proofs.Settled.{has_next}
use Rattle.request_history.specs.Connections.{HasNext}
use Rattle.request_history.proofs.world_connection.Connection.next.Goals as goal

pub returns : goal.returns
returns c =
    let i = c.self.inside in
    let p = c.self.invariant.parsed in
    let found = rw c.events.ensures at c.next_of.ensures in
    subst (λ (k : Connection). HasNext k (option_copied c.next_of.result)) c.self.view_is
    (has_next c.one_parse.ensures i.input p.0 i.done i.seen i.output p.1 i.switched (option_copied c.next_of.result) found)
