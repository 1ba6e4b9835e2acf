use Rattle.std.proofs.Common.{[], ◌∷◌, ◌++◌, refl, sym, ap, subst, ◌∙◌, Ok, arith}
use Rattle.std.specs.Option.{option_map}
use Rattle.pod_io.specs.Gates.{CountsLast, GivesFirst}
use Rattle.pod_io.specs.declared.source.Failed.{Failed}
use Rattle.pod_serve.proofs.desk.serve_next.Goals as goal

pub returns-in-Ok-Some : goal.returns-in-Ok-Some
returns-in-Ok-Some g c =
    let told = c.in-Ok-Some.ensures in
    let is = c.in-Ok-Some.field-0-is in
    let gives = subst (λ o. GivesFirst {E = Failed} (Ok o) (g.G.Gate.rest c.args.gate.now) (g.G.Gate.rest c.next.new.self)) is told.rest in
    let counts = subst (λ o. CountsLast {E = Failed} (Ok o) (g.G.Gate.ends c.args.gate.now) (g.G.Gate.ends c.next.new.self)) is told.ends in record {
      one = record { given = c.in-Ok-Some.link; back = c.serve_conn-end.new.link; end = c.serve_conn-end.result; wires = c.new-wires.result; counted = c.serve_conn-end.new.wires };
      end_is = refl;
      served = c.serve_conn-end.ensures;
      given = gives.first ∙ ap (option_map (λ rest. c.in-Ok-Some.link ∷ rest)) (sym c.done.ensures.rest);
      back = c.done.ensures.back ∙ ap (option_map (λ back. back ++ c.serve_conn-end.new.link ∷ [])) told.back;
      ended = c.done.ensures.ends ∙ counts.found;
      faults = omega (arith, told.faults.no_fewer, c.done.ensures.faults);
    }
