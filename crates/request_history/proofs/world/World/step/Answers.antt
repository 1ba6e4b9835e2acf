use Rattle.std.proofs.Common.{◌≡◌, Err, OnErr, OnOk, subst}
use Rattle.request_history.proofs.Outcomes.{came_fine, came_not, came_steps, came_tokens, came_unchanged}
use Rattle.request_history.proofs.Storing.{steps_storable}
use Rattle.request_history.specs.Worlds.{HasNoStep, Steps, StepsStorable, event_of}
use Rattle.request_history.specs.declared.event.StepFault.TheVariants as faults
use Rattle.request_history.specs.declared.parts_and_events.Parts.{Parts}
use Rattle.request_history.proofs.world.World.step.Goals as goal

pub invariant_of-self : goal.invariant_of-self
invariant_of-self c = came_fine c.self.inside.parts c.step.new.self (event_of c.args.event.now) c.step.result c.self.invariant c.step.ensures

pub returns-clause-steps : goal.returns-clause-steps
returns-clause-steps c = subst (λ (p : Parts). OnOk c.step.result (Steps p (event_of c.args.event.now) c.step.new.self)) c.self.view_is (came_steps c.self.inside.parts c.step.new.self (event_of c.args.event.now) c.step.result c.step.ensures)

pub returns-clause-tokens : goal.returns-clause-tokens
returns-clause-tokens c = subst (λ (p : Parts). c.step.new.self.tokens ≡ p.tokens) c.self.view_is (came_tokens c.self.inside.parts c.step.new.self (event_of c.args.event.now) c.step.result c.step.ensures)

pub returns-clause-storable : goal.returns-clause-storable
returns-clause-storable c = subst (λ (p : Parts). StepsStorable p (event_of c.args.event.now) c.step.new.self) c.self.view_is (steps_storable c.self.inside.parts c.step.new.self (event_of c.args.event.now) c.self.invariant)

pub returns-clause-not_now : goal.returns-clause-not_now
returns-clause-not_now c = subst (λ (p : Parts). c.step.result ≡ Err faults.NotNow → HasNoStep p (event_of c.args.event.now)) c.self.view_is (came_not c.self.inside.parts c.step.new.self (event_of c.args.event.now) c.step.result c.step.ensures)

pub returns-clause-unchanged : goal.returns-clause-unchanged
returns-clause-unchanged c = subst (λ (p : Parts). OnErr c.step.result (c.step.new.self ≡ p)) c.self.view_is (came_unchanged c.self.inside.parts c.step.new.self (event_of c.args.event.now) c.step.result c.step.ensures)
