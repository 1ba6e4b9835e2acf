-- What came of an event.
use Rattle.std.proofs.Common.{◌≡◌, Result, Ok, Err, OnOk, OnErr, refl, sym, ap, subst}
use Rattle.pod_core.specs.World as world
use Rattle.request_history.specs.Parts.{CameTo, IsWorld}
use Rattle.request_history.specs.Worlds.{HasNoStep, Steps}
use Rattle.request_history.specs.declared.event.StepFault.{StepFault}
use Rattle.request_history.specs.declared.event.StepFault.TheVariants as faults
use Rattle.request_history.specs.declared.parts_and_events.Parts.{Parts}

module _ {T : Type 0} (old new : Parts) (event : world.Event) where
  pub came_fine : (r : Result T StepFault) → IsWorld old → CameTo r old event new → IsWorld new
  came_fine (Ok done) fine t = t.fine
  came_fine (Err fault) fine t = subst IsWorld (sym t.0) fine

  pub came_steps : (r : Result T StepFault) → CameTo r old event new → OnOk r (Steps old event new)
  came_steps (Ok done) t = t.steps
  came_steps (Err fault) t = tt

  pub came_tokens : (r : Result T StepFault) → CameTo r old event new → new.tokens ≡ old.tokens
  came_tokens (Ok done) t = t.tokens
  came_tokens (Err fault) t = ap (λ (p : Parts). p.tokens) t.0

  pub came_not : (r : Result T StepFault) → CameTo r old event new → r ≡ Err faults.NotNow → HasNoStep old event
  came_not (Ok done) t e = absurd (cc e)
  came_not (Err faults.NotNow) t e = t.1
  came_not (Err faults.NoMemory) t e = absurd (cc e)

  pub came_unchanged : (r : Result T StepFault) → CameTo r old event new → OnErr r (new ≡ old)
  came_unchanged (Ok done) t = tt
  came_unchanged (Err fault) t = t.0
