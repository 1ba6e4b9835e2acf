use Rattle.std.proofs.Common.{◌∷◌, [], ◌++◌, sym, ◌∙◌}
use Rattle.pod_disk.specs.NotedCalls.{MayLeave}
use Rattle.journal_log.proofs.DoubtCases.{in_doubt, not_in_doubt}
use Rattle.store_cases.proofs.append.add.Goals as goal

pub returns-then-not-needs_repair : goal.returns-then-not-needs_repair
returns-then-not-needs_repair c = (c.requires.0, not_in_doubt (MayLeave c.append.new.disk) c.append.new.self c.requires.0 c.args.entry.now (sym c.needs_repair.ensures ∙ c.if-not-needs_repair.true) (c.in-Err.ensures.fault c.requires.0 c.requires.1))

pub repair-requires : goal.repair-requires
repair-requires c = (c.requires.0, c.args.entry.now, in_doubt (MayLeave c.append.new.disk) c.append.new.self c.requires.0 c.args.entry.now (sym c.needs_repair.ensures ∙ c.if-not-needs_repair.false) (c.in-Err.ensures.fault c.requires.0 c.requires.1))

pub returns-in-Ok : goal.returns-in-Ok
returns-in-Ok c = (c.requires.0 ++ c.args.entry.now ∷ [], c.in-Ok.ensures.appended c.requires.0 c.requires.1)
