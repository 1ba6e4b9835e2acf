use Rattle.std.proofs.Common.{◌∙◌, ap, subst, sym}
use Rattle.pod_core.specs.World.{Connection, with_input}
use Rattle.request_history.proofs.Settled.{arrived_is, still_within}
use Rattle.request_history.specs.Connections.{SettlesTo}
use Rattle.request_history.proofs.world_connection.Connection.arrived.Goals as goal

pub settled-requires-clause-within : goal.settled-requires-clause-within
settled-requires-clause-within c =
    let i = c.self.inside in
    still_within i.input c.in_ok-input.input i.done c.in_ok-input.ensures.events c.self.invariant.within

pub returns : goal.returns
returns c =
    let i = c.self.inside in
    let same = c.in_ok-output.ensures ∙ sym (ap (λ (k : Connection). k.output) c.self.view_is) in
    subst (λ (k : Connection). SettlesTo (with_input k c.args.piece.now) c.in_ok-connection.connection) c.self.view_is
    (subst (λ (k : Connection). SettlesTo k c.in_ok-connection.connection)
    (arrived_is i.input c.in_ok-input.input c.args.piece.now i.done i.output c.in_ok-output.output i.switched i.seen c.in_ok-input.ensures.bytes c.in_ok-input.ensures.events c.self.invariant.within same)
    c.in_ok-connection.ensures)
