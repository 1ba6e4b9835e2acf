use Rattle.std.proofs.Common.{◌≡◌, ◌+◌, ◌∷◌, arith, drop, drop-cons, add-one, get_or, length-drop}
use Rattle.turtle_terms.proofs.Decoding.{step_decoded, end_decoded}
use Rattle.turtle_terms.proofs.escapes.push_decoded.Goals as goal

pub loop-byte-preserved : goal.loop-byte-preserved
loop-byte-preserved c =
    let i = c.loop-byte.byte-index in
    let text = c.args.text.now in
    let split : drop i text ≡ get_or text i 0 ∷ drop (i + 1) text = rw add-one (drop-cons text i 0 c.loop-byte-test.true) in
    record {
      value = step_decoded c.loop-byte.value.items c.step.new.value.items _ (drop i text) (drop (i + 1) text) c.loop-byte.escape c.in_ok-escape.escape (get_or text i 0)
          c.loop-byte.invariant.value split c.in_ok-escape.ensures.next c.in_ok-escape.ensures.value;
      bounded = c.in_ok-escape.ensures.bounded;
    }

pub returns : goal.returns
returns c =
    end_decoded c.loop-byte.value.items _ (drop c.loop-byte.byte-index c.args.text.now) c.loop-byte.escape c.loop-byte.invariant.value
    (let over = c.loop-byte-test.false in omega (arith, length-drop c.loop-byte.byte-index c.args.text.now))
