use Rattle.std.proofs.Common.{inl, inr, refl}
use Rattle.pod_serve.proofs.podd.run_store.Goals as goal

pub returns-in-Ok : goal.returns-in-Ok
returns-in-Ok g c = inr (record {
  keeper = c.in-Ok.keeper;
  left = c.run_keeper-keeper.result.1;
  bodies = c.in-Ok.ensures.opened.0;
  opened = c.in-Ok.ensures.opened.1;
  sure = c.in-Ok.ensures.sure;
  disks = c.in-Ok.ensures.disks;
  first_is = c.close.ensures.first;
  second_is = c.close.ensures.second;
  runs = c.run_keeper-keeper.ensures;
})

pub returns-in-Err : goal.returns-in-Err
returns-in-Err g c = inl (record {
  fault = c.in-Err.refused.fault;
  cause = c.in-Err.ensures.cause;
  disks = c.in-Err.ensures.refused;
  status_is = c.refuse.ensures.status;
  tells = c.refuse.ensures.told;
  unread = record { rest = refl; faults = refl; reads = refl; ends = refl };
  listener = refl;
})
