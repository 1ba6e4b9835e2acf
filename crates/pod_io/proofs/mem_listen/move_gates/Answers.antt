use Rattle.std.proofs.Common.{◌≡◌, ◌++◌, [], ◌∷◌, ap, arith, drop, length, length-append, rules, ◌∙◌}
use Rattle.std.proofs.lemmas.List.{drop-drop}
use Rattle.pod_io.proofs.GateLemmas.{opens_next, opens_last}
use Rattle.pod_io.proofs.mem_listen.move_gates.Goals as goal

pub loop-preserved : goal.loop-preserved
loop-preserved g c =
    let gate = c.next_gate-gate.result in
    let grown : c.push.new.self.items ≡ c.loop.gates.items ++ gate ∷ [] = search rules in
    record {
      counted = omega (arith, ap length grown, length-append c.loop.gates.items (gate ∷ []), c.loop.invariant.counted);
      room = omega (arith, c.push.ensures.room, c.loop.invariant.room, c.loop-test.true);
      first = opens_next c.args.rest.now.items c.loop.rest.items c.next_gate-gate.new.rest.items c.loop.gates.items c.push.new.self.items gate c.loop.invariant.first c.next_gate-gate.ensures.first grown;
      rest = c.next_gate-gate.ensures.rest ∙ ap (drop 1) c.loop.invariant.rest ∙ drop-drop 1 c.loop.counter c.args.rest.now.items;
    }

pub returns-clause-first : goal.returns-clause-first
returns-clause-first g c = opens_last c.args.rest.now.items c.loop.rest.items c.loop.gates.items c.loop.invariant.first
