use Rattle.std.proofs.Common.{suc, refl}
use Rattle.std.proofs.lemmas.Option.{slice_get_within}
use Rattle.pod_core.specs.World as world
use Rattle.request_history.proofs.Holding.{took_replaced}
use Rattle.request_history.proofs.Takes.{answer_replaces}
use Rattle.request_history.proofs.parts_and_events.Parts.take_answered.Goals as goal

pub put-requires : goal.put-requires
put-requires c =
    let r = c.requires.ready in
    slice_get_within c.args.self.now.connections.items c.args.conn r.from r.is_there

pub returns-in-Ok : goal.returns-in-Ok
returns-in-Ok c = λ moment t.
    took_replaced c.args.self.now _ (world.take (suc c.args.conn) moment) c.args.conn c.in-Ok.next c.requires.fine
    (answer_replaces c.args.self.now c.requires.fine c.requires.runs c.args.conn moment c.args.answer.now c.in-Ok.next t (λ event next. c.in-Ok.ensures t.from event t.is_there next)) refl refl refl refl c.put.ensures
