use Rattle.std.proofs.Common.{◌<◌, length, IfSome, Option, refl, subst}
use Rattle.pod_core.specs.World.{Connection}
use Rattle.request_history.specs.Parts.{ReplacesIfAny}
use Rattle.request_history.proofs.Holding.{took_replaced}
use Rattle.request_history.proofs.parts_and_events.Parts.replace.Goals as goal

pub put-requires : goal.put-requires
put-requires c = subst (λ (o : Option Connection). IfSome o (λ _. c.args.conn < length c.args.self.now.connections.items)) c.in-Some.is c.requires.within

pub returns-in-Some : goal.returns-in-Some
returns-in-Some c = λ event r.
    took_replaced c.args.self.now _ event c.args.conn c.in-Some.next c.requires.fine (subst (ReplacesIfAny c.args.self.now event c.args.conn) c.in-Some.is r) refl refl refl refl c.put.ensures

pub returns-in-None : goal.returns-in-None
returns-in-None c = λ event r. (refl, subst (ReplacesIfAny c.args.self.now event c.args.conn) c.in-None.is r)
