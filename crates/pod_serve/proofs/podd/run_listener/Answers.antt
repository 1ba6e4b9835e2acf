use Rattle.std.proofs.Common.{inl, refl, ap, Err}
use Rattle.pod_serve.proofs.PoddLemmas.{listened}
use Rattle.pod_serve.proofs.podd.run_listener.Goals as goal

pub returns-in-Ok : goal.returns-in-Ok
returns-in-Ok g c = listened _ c.args.keeper _ c.args.table c.args.settings.workers c.in-Ok.gates.items _ _ _ _ _ _ _ _ c.in-Ok.ensures.opened c.in-Ok.ensures.count c.open.ensures.back c.run_gates.ensures

pub returns-in-Err : goal.returns-in-Err
returns-in-Err g c = inl (record {
  kept = refl;
  fault = c.in-Err.fault;
  failed = λ is. c.in-Err.ensures.failed (ap (λ fault. Err fault) is);
  back = c.in-Err.ensures.back;
  status_is = c.status_of_listen.ensures;
})
