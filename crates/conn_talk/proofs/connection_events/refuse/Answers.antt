use Rattle.std.proofs.Common.{take, refl, subst}
use Rattle.pod_io.specs.Writing.{ExtendsBy}
use Rattle.conn_talk.proofs.connection_events.refuse.Goals as goal

-- all of the refusal was written
pub returns-in-Ok-write_out-clause-refused : goal.returns-in-Ok-write_out-clause-refused
returns-in-Ok-write_out-clause-refused g c =
    let told = c.in-Ok.ensures in
    (refl, (told.0, told.1, subst (λ text. ExtendsBy text (g.K.Output.taken c.args.output.now) (g.K.Output.taken c.write_out.new.output)) told.2 c.in-Ok-write_out.ensures.writes.whole))

-- a prefix of it
pub returns-in-Err-clause-refused : goal.returns-in-Err-clause-refused
returns-in-Err-clause-refused g c =
    let told = c.in-Ok.ensures in
    let part = c.in-Err.ensures.writes.part in
    (told.0, told.1, (part.0, subst (λ text. ExtendsBy (take part.0 text) (g.K.Output.taken c.args.output.now) (g.K.Output.taken c.write_out.new.output)) told.2 part.2))
