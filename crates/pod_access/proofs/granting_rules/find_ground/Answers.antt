use Rattle.std.proofs.Common.{◌≡◌, ◌<◌, None, Some, length, sym, ◌∙◌, refl}
use Rattle.std.specs.Prelude.{slice_get}
use Rattle.std.specs.List.{position}
use Rattle.std.proofs.lemmas.Option.{slice_get_read}
use Rattle.pod_access.specs.Decision.{covers, rule_grants}
use Rattle.pod_access.proofs.Grounds.{no_rule, at_subject}
use Rattle.pod_access.proofs.granting_rules.find_ground.Goals as goal

pub returns-in_err-rule : goal.returns-in_err-rule
returns-in_err-rule g c =
    let member = g.G.Groups.is_member c.args.groups.now in
    let none : position (rule_grants member c.args.how c.args.at.now c.args.agent.now c.args.mode) c.args.rules.now ≡ None = sym c.position_of_rule.ensures.first ∙ c.in_err-rule.was in
    c.from_residual.ensures ∙ sym (no_rule member c.args.rules.now c.args.how c.args.at.now c.args.agent.now c.args.mode none)

pub returns-in_err-subject : goal.returns-in_err-subject
returns-in_err-subject g c =
    let member = g.G.Groups.is_member c.args.groups.now in
    let i = c.in_ok-rule.rule in
    let rule = c.index-rules-rule.result in
    let first : position (rule_grants member c.args.how c.args.at.now c.args.agent.now c.args.mode) c.args.rules.now ≡ Some i = sym c.position_of_rule.ensures.first ∙ c.in_ok-rule.was in
    let within : i < length c.args.rules.now = c.in_ok-rule.ensures.within in
    let at : slice_get c.args.rules.now i ≡ Some rule = slice_get_read c.args.rules.now (length c.args.rules.now) i rule refl within c.index-rules-rule.is in
    let subject : position (covers member c.args.agent.now) rule.subjects ≡ None = sym c.position_of_subject.ensures ∙ c.in_err-subject.was in
    c.from_residual-in_err-subject.ensures ∙ sym (at_subject member c.args.rules.now c.args.how c.args.at.now c.args.agent.now c.args.mode i rule None first at subject)

pub returns : goal.returns
returns g c =
    let member = g.G.Groups.is_member c.args.groups.now in
    let i = c.in_ok-rule.rule in
    let rule = c.index-rules-rule.result in
    let first : position (rule_grants member c.args.how c.args.at.now c.args.agent.now c.args.mode) c.args.rules.now ≡ Some i = sym c.position_of_rule.ensures.first ∙ c.in_ok-rule.was in
    let within : i < length c.args.rules.now = c.in_ok-rule.ensures.within in
    let at : slice_get c.args.rules.now i ≡ Some rule = slice_get_read c.args.rules.now (length c.args.rules.now) i rule refl within c.index-rules-rule.is in
    let subject : position (covers member c.args.agent.now) rule.subjects ≡ Some c.in_ok-subject.subject = sym c.position_of_subject.ensures ∙ c.in_ok-subject.was in
    sym (at_subject member c.args.rules.now c.args.how c.args.at.now c.args.agent.now c.args.mode i rule (Some c.in_ok-subject.subject) first at subject)
