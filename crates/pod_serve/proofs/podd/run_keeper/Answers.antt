use Rattle.std.proofs.Common.{inl, inr, refl}
use Rattle.pod_serve.proofs.podd.run_keeper.Goals as goal

pub returns-in-Ok : goal.returns-in-Ok
returns-in-Ok g c = inr (
  record { same = refl; faults = refl },
  record {
    agents = c.in-Ok.table;
    table = c.in-Ok.ensures.table;
    runs = c.run_listener.ensures;
  },
)

pub returns-in-Err : goal.returns-in-Err
returns-in-Err g c = inl (record {
  kept = refl;
  fault = c.in-Err.fault;
  cause = c.in-Err.ensures.fault;
  tells = c.refuse_table.ensures.told;
  listener = refl;
})
