use Rattle.std.proofs.Common.{refl}
use Rattle.std.proofs.lemmas.Option.{slice_get_within}
use Rattle.request_history.proofs.Phases.{took_published}
use Rattle.request_history.proofs.parts_and_events.Parts.publish_opened.Goals as goal

pub put-requires : goal.put-requires
put-requires c =
    let a = c.in-Ok.ensures in
    slice_get_within c.args.self.now.connections.items c.in-Ok.replaced.at a.from a.is_there

pub returns-in-Ok : goal.returns-in-Ok
returns-in-Ok c = took_published c.args.self.now c.requires.fine c.requires.runs c.in-Ok.replaced c.requires.opened c.in-Ok.ensures _ refl c.release.ensures c.end-self.ensures c.put.ensures refl
