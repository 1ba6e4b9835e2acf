use Rattle.std.proofs.Common.{◌∙◌, ◌++◌, ◌+◌, ◌≤◌, length, ap, arith, subst, sym}
use Rattle.pod_core.specs.World.{Connection, IsNextEvent}
use Rattle.request_history.proofs.Settled.{answered_is, within_next}
use Rattle.request_history.specs.Connections.{InputState, IsParsed, SettlesTo, advanced}
use Rattle.request_history.proofs.world_connection.Connection.answered.Goals as goal

pub settled-requires-clause-parsed : goal.settled-requires-clause-parsed
settled-requires-clause-parsed c = subst IsParsed (sym c.in_ok-input.ensures) c.self.invariant.parsed

pub settled-requires-clause-within : goal.settled-requires-clause-within
settled-requires-clause-within c =
    let i = c.self.inside in
    let p = c.self.invariant.parsed in
    let n = subst (λ (k : Connection). IsNextEvent k c.requires.0) (sym c.self.view_is) c.requires.1 in
    let w = within_next c.one_parse.ensures i.input p.0 i.done i.seen i.output p.1 i.switched c.requires.0 n in
    subst (λ (s : InputState). i.done + 1 ≤ length s.events) (sym c.in_ok-input.ensures) (omega (arith, w))

pub returns : goal.returns
returns c = λ event next.
    let i = c.self.inside in
    let p = c.self.invariant.parsed in
    let n = subst (λ (k : Connection). IsNextEvent k event) (sym c.self.view_is) next in
    let longer = c.in_ok-append.ensures.appended ∙ ap (λ t. t ++ c.args.text.now) (c.in_ok-output.ensures ∙ sym (ap (λ (k : Connection). k.output) c.self.view_is)) in
    subst (λ (k : Connection). SettlesTo (advanced k event c.args.text.now c.args.switched c.args.seen) c.in_ok-connection.connection) c.self.view_is
    (subst (λ (k : Connection). SettlesTo k c.in_ok-connection.connection)
    (answered_is c.one_parse.ensures i.input p.0 i.done i.seen i.output p.1 i.switched c.in_ok-input.input c.append.new.self c.args.text.now c.args.switched c.args.seen event c.in_ok-input.ensures longer n)
    c.in_ok-connection.ensures)
