use Rattle.request_history.proofs.MaySteps.{written_now}
use Rattle.request_history.proofs.world_keeper.Keeper.opened.Goals as goal

pub opening-requires : goal.opening-requires
opening-requires c = written_now c.args.self.now.phase c.requires.0 c.in-Some.holder.now c.requires.1 c.in-Some.ensures
