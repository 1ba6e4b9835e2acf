use Rattle.std.proofs.Common.{◌≡◌, ◌≤◌, ◌==◌, ◌∙◌, sym, arith}
use Rattle.std.proofs.lemmas.Bool.Decides.{nat_tests}
use Rattle.request_history.proofs.parts_and_events.is_clock_moment.Goals as goal

pub returns-clause-yes : goal.returns-clause-yes
returns-clause-yes c = λ t.
    let e : c.moment_of.result.0 ≡ c.args.moment.0 = grind (arith, nat_tests) in
    (c.args.moment.0, tt, sym e ∙ c.moment_of.ensures)

pub returns-clause-no : goal.returns-clause-no
returns-clause-no c = λ f k.
    let moment = c.args.moment.0 in
    let small : moment ≤ 253_402_300_799 = omega (arith, k.2) in
    let e : c.moment_of.result.0 ≡ moment = omega (arith, c.moment_of.ensures, small) in
    grind (arith, nat_tests)
