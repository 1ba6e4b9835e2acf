use Rattle.std.proofs.Common.{inr}
use Rattle.pod_pipe.proofs.store_pipe.run_store.Goals as goal

pub returns-in-Ok-clause-runs : goal.returns-in-Ok-clause-runs
returns-in-Ok-clause-runs g c = inr (record {
  keeper = c.in-Ok.keeper;
  left = c.pipe_keeper-keeper.result.1;
  bodies = c.in-Ok.ensures.opened.0;
  opened = c.in-Ok.ensures.opened.1;
  sure = c.in-Ok.ensures.sure;
  disks = c.in-Ok.ensures.disks;
  first_is = c.close.ensures.first;
  second_is = c.close.ensures.second;
  runs = c.pipe_keeper-keeper.ensures.runs;
})
