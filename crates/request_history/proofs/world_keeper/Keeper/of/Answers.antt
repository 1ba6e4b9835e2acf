use Rattle.request_history.proofs.Keepers.{first_keeper_as, first_recordable, first_view_as}
use Rattle.request_history.proofs.world_keeper.Keeper.of.Goals as goal

pub invariant_of-result : goal.invariant_of-result
invariant_of-result c = first_keeper_as c.args.first c.in-Ok.first c.in_ok-journal.journal c.new-entries.result.items c.new-later.result.items c.new-entries.ensures.items c.new-later.ensures.items c.in-Ok.ensures.version c.in_ok-journal.ensures.is

pub returns-in-Ok-clause-is : goal.returns-in-Ok-clause-is
returns-in-Ok-clause-is c = first_view_as c.args.first c.in-Ok.first c.new-entries.result.items c.new-entries.ensures.items c.in-Ok.ensures.version

pub returns-in-Ok-clause-recordable : goal.returns-in-Ok-clause-recordable
returns-in-Ok-clause-recordable c = first_recordable c.args.first c.requires c.in_ok-journal.ensures.storable c.in_ok-journal.ensures.short
