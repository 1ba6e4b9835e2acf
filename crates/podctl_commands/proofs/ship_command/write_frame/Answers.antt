use Rattle.std.proofs.Common.{◌≡◌, rules, length, subst}
use Rattle.pod_io.specs.Writing.{ExtendsBy, ExtendsByPart}
use Rattle.pod_io.proofs.Extending.{writes_part, writes_after}
use Rattle.stored_forms.specs.StoredForms.{number_bytes}
use Rattle.podctl_commands.proofs.ship_command.write_frame.Goals as goal

pub returns-in_err-write_all-clause-writes : goal.returns-in_err-write_all-clause-writes
returns-in_err-write_all-clause-writes g c =
    let head = number_bytes (length c.args.body.now) in
    let old = g.K.Sink.taken c.args.output.now in
    let new = g.K.Sink.taken c.write_all.new.output in
    writes_part c.from_residual.result old new head c.args.body.now (search rules)
    (subst (λ text. ExtendsByPart text old new) c.frame_head.ensures c.in_err-write_all.ensures.writes.part)

pub returns-clause-writes : goal.returns-clause-writes
returns-clause-writes g c =
    let head = number_bytes (length c.args.body.now) in
    let old = g.K.Sink.taken c.args.output.now in
    let mid = g.K.Sink.taken c.write_all.new.output in
    writes_after c.write_all-2.result old mid (g.K.Sink.taken c.write_all-2.new.output) head c.args.body.now
    (subst (λ text. ExtendsBy text old mid) c.frame_head.ensures c.in_ok-write_all.ensures.writes.whole) c.write_all-2.ensures.writes
