use Rattle.std.proofs.Common.{◌≡◌, ◌∙◌, [], Option, Bor, sym, ap, subst, refl, IfOk}
use Rattle.std.specs.Option.{option_copied, option_map}
use Rattle.conditional_req.specs.Verdicts.{validators, verdict}
use Rattle.pod_command.specs.declared.row.Row.{Row}
use Rattle.pod_representations.specs.Preconditions.{change_verdict, offered_validators}
use Rattle.pod_representations.proofs.row_preconditions.change_verdict.Goals as goal

pub returns-then-compares_tags : goal.returns-then-compares_tags
unfolding change_verdict
returns-then-compares_tags g c =
    let pod = g.S.PodState.pod c.args.state.now in
    subst (λ (o : Option (Bor Row)). IfOk c.judge_offers.result (λ v. v ≡ verdict c.args.conditions.now c.args.method (option_map (offered_validators pod) (option_copied o))))
    (sym c.in-Some.is) c.judge_offers.ensures

pub returns-else-compares_tags : goal.returns-else-compares_tags
unfolding change_verdict
returns-else-compares_tags g c =
    let pod = g.S.PodState.pod c.args.state.now in
    let row = c.in-Some.row.now in
    c.judge_tags.ensures
    ∙ c.compares_tags.ensures.ignores c.if-compares_tags.false c.args.method (validators [] row.modified.0) (offered_validators pod row) refl
    ∙ ap (λ (o : Option (Bor Row)). verdict c.args.conditions.now c.args.method (option_map (offered_validators pod) (option_copied o))) (sym c.in-Some.is)

pub returns-in-None : goal.returns-in-None
unfolding change_verdict
returns-in-None g c =
    let pod = g.S.PodState.pod c.args.state.now in
    c.judge.ensures
    ∙ ap (λ (o : Option (Bor Row)). verdict c.args.conditions.now c.args.method (option_map (offered_validators pod) (option_copied o))) (sym c.in-None.is)
