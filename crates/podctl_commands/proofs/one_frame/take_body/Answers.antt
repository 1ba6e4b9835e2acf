use Rattle.std.proofs.Common.{Option, Some, sym, subst, ◌∙◌}
use Rattle.std.proofs.lemmas.Result.{IfOk-weaker}
use Rattle.pod_rows.specs.State.{NumberedPod}
use Rattle.podctl_commands.specs.Following.{Follows, IsRefused}
use Rattle.podctl_commands.proofs.OneFrame.{follows_on, refused_first, refused_on, within}
use Rattle.podctl_commands.proofs.one_frame.take_body.Goals as goal

pub returns-in-Some-clause-some : goal.returns-in-Some-clause-some
returns-in-Some-clause-some c =
    let there = sym (c.in_ok-start.ensures.kept c.if-branch.false) ∙ (sym c.take.ensures.value ∙ c.in-Some.is) in
    within c.take_or_answer-found.result
    (λ text reads. subst (λ (o : Option NumberedPod). Follows o c.args.body.now text (Some c.take_or_answer-found.new.follower)) (sym there) (follows_on c.in-Some.taken c.take_or_answer-found.new.follower c.args.body.now text reads))
    c.take_or_answer-found.ensures.some

pub returns-in-Some-clause-none : goal.returns-in-Some-clause-none
returns-in-Some-clause-none c =
    let there = sym (c.in_ok-start.ensures.kept c.if-branch.false) ∙ (sym c.take.ensures.value ∙ c.in-Some.is) in
    IfOk-weaker c.take_or_answer-found.result _ _
    (λ found none e. subst (λ (o : Option NumberedPod). IsRefused o c.args.body.now) (sym there) (refused_on c.args.body.now (c.in_ok-start.ensures.no c.if-branch.false) c.in-Some.taken (none e)))
    c.take_or_answer-found.ensures.none

pub returns-in-None-clause-none : goal.returns-in-None-clause-none
returns-in-None-clause-none c =
    let there = sym (c.in_ok-start.ensures.kept c.if-branch.false) ∙ (sym c.take.ensures.value ∙ c.in-None.is) in
    λ e. subst (λ (o : Option NumberedPod). IsRefused o c.args.body.now) (sym there) (refused_first c.args.body.now (c.in_ok-start.ensures.no c.if-branch.false))
