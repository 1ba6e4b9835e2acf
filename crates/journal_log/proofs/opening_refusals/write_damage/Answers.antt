use Rattle.std.proofs.Common.{subst, sym}
use Rattle.pod_io.specs.Writing.{Writes}
use Rattle.journal_log.specs.Refusals.{damage_line}
use Rattle.journal_log.proofs.opening_refusals.write_damage.Goals as goal

pub returns-in-First-clause-writes : goal.returns-in-First-clause-writes
returns-in-First-clause-writes g c =
    subst (λ side. Writes c.write_number_line.result (damage_line side c.args.at) (g.E.Sink.taken c.args.errors.now) (g.E.Sink.taken c.write_number_line.new.output)) (sym c.in-First.is) c.write_number_line.ensures.writes

pub returns-in-Second-clause-writes : goal.returns-in-Second-clause-writes
returns-in-Second-clause-writes g c =
    subst (λ side. Writes c.write_number_line-in-Second.result (damage_line side c.args.at) (g.E.Sink.taken c.args.errors.now) (g.E.Sink.taken c.write_number_line-in-Second.new.output)) (sym c.in-Second.is) c.write_number_line-in-Second.ensures.writes
