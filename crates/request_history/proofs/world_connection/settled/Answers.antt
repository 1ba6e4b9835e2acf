use Rattle.std.proofs.Common.{◌∙◌, arith}
use Rattle.std.proofs.lemmas.List.{length-drop, take_rest}
use Rattle.request_history.proofs.Settled.{settled_after, settles}
use Rattle.request_history.proofs.world_connection.settled.Goals as goal

pub invariant_of-result : goal.invariant_of-result
invariant_of-result c =
    let events = c.args.input.events in
    let cut = take_rest events c.args.done in
    let number = rw (c.events.ensures, cut) at c.in_ok-count.ensures.count in
    let few = rw (c.events.ensures, cut) at c.in_ok-count.ensures.within in
    record {
      parsed = c.requires.parsed;
      within = omega (arith, c.requires.within, few, length-drop c.args.done events);
      settled = settled_after events c.args.done c.in_ok-count.count c.args.switched number;
    }

pub returns : goal.returns
returns c =
    let input = c.args.input in
    let cut = take_rest input.events c.args.done in
    let number = rw (c.events.ensures, cut) at c.in_ok-count.ensures.count in
    let text = rw (c.events.ensures, cut) at c.in_ok-count.ensures.text in
    let p = c.requires.parsed in
    settles input p.0 c.args.done c.args.switched c.args.seen c.args.output c.in_ok-output.output c.in_ok-count.count p.1 (c.in_ok-output.ensures.ok ∙ text) number
