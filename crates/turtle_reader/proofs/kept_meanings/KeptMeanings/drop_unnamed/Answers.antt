use Rattle.turtle_reader.proofs.Holding.{drops_unnamed, drops_kept}
use Rattle.turtle_reader.proofs.kept_meanings.KeptMeanings.drop_unnamed.Goals as goal

pub returns-clause-unnamed : goal.returns-clause-unnamed
returns-clause-unnamed c = drops_unnamed c.args.machine.now c.args.self.now (record { list = c.shorten.new.list; room = c.saturating_add-self.result; due = c.args.self.now.due }) c.shorten.ensures

pub returns-clause-kept : goal.returns-clause-kept
returns-clause-kept c = drops_kept c.args.machine.now c.args.self.now (record { list = c.shorten.new.list; room = c.saturating_add-self.result; due = c.args.self.now.due }) c.shorten.ensures
