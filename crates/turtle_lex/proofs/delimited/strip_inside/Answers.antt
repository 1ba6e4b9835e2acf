use Rattle.std.proofs.Common.{arith}
use Rattle.turtle_lex.specs.Pattern.{◌∘◌, many}
use Rattle.turtle_lex.specs.Delimited.{part, close}
use Rattle.turtle_lex.proofs.Matching.{same_ends, carried, same_step, closes}
use Rattle.turtle_lex.proofs.DelimitedLemmas.{close_apart}
use Rattle.turtle_lex.proofs.PlainLemmas.{run_same}
use Rattle.turtle_lex.proofs.delimited.strip_inside.Goals as goal

pub loop-after-init : goal.loop-after-init
loop-after-init c = record {
  same = run_same c.args.inside c.args.text.now c.args.text.now c.strip_plain-rest.result.now
      (same_ends (many (part c.args.inside) ∘ close c.args.inside) c.args.text.now) c.strip_plain-rest.ensures.run;
  shorter = c.strip_plain-rest.ensures.no_longer;
}

pub returns-in-Some-clause-matches : goal.returns-in-Some-clause-matches
returns-in-Some-clause-matches c =
    let p = part c.args.inside in let q = close c.args.inside in
    carried (many p ∘ q) c.args.text.now c.loop-after.rest.now _ c.loop-after.invariant.same
    (closes p q c.loop-after.rest.now _ (close_apart c.args.inside c.loop-after.rest.now c.in-Some.after.now c.in-Some.ensures.matches.found) c.in-Some.ensures.matches)

pub loop-after-preserved : goal.loop-after-preserved
loop-after-preserved c =
    let more = c.strip_plain-rest-in-Some-strip_part in
    let part_shorter = c.in-Some-strip_part.ensures.shorter in
    let no_longer = more.ensures.no_longer in
    record {
      same = run_same c.args.inside c.args.text.now c.in-Some-strip_part.after.now more.result.now
          (same_step (part c.args.inside) (close c.args.inside) c.args.text.now c.loop-after.rest.now c.in-Some-strip_part.after.now
          c.loop-after.invariant.same c.in-Some-strip_part.ensures.matches c.in-None.ensures.matches) more.ensures.run;
      shorter = omega (arith, part_shorter, no_longer, c.loop-after.invariant.shorter);
    }

pub returns-in-None-strip_part-clause-matches : goal.returns-in-None-strip_part-clause-matches
returns-in-None-strip_part-clause-matches c =
    let p = part c.args.inside in let q = close c.args.inside in
    carried (many p ∘ q) c.args.text.now c.loop-after.rest.now _ c.loop-after.invariant.same
    (closes p q c.loop-after.rest.now _ c.in-None-strip_part.ensures.matches c.in-None.ensures.matches)
