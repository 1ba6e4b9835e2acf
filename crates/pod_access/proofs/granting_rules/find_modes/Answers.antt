use Rattle.std.proofs.Common.{◌≡◌, ◌≤◌, Bool, List, [], ◌∷◌, length, take, sym, ap, ◌∙◌, arith}
use Rattle.std.specs.Prelude.{is_some}
use Rattle.std.specs.List.{list_any}
use Rattle.std.proofs.lemmas.List.{take_all}
use Rattle.pod_base.specs.declared.agent.Mode.{Mode}
use Rattle.pod_base.specs.declared.agent.Mode.TheVariants.{Read, Write, Append, Control}
use Rattle.acl_rules.specs.declared.rule.Rule.{Rule}
use Rattle.pod_access.specs.Decision.{first_ground, rule_grants}
use Rattle.pod_access.proofs.Grounds.{some_grants}
use Rattle.pod_access.proofs.granting_rules.find_modes.Goals as goal

four : (a b c d a' b' c' d' : Bool) → a ≡ a' → b ≡ b' → c ≡ c' → d ≡ d' → a ∷ b ∷ c ∷ d ∷ [] ≡ a' ∷ b' ∷ c' ∷ d' ∷ []
four a b c d a' b' c' d' ea eb ec ed =
    ap (λ x. x ∷ b ∷ c ∷ d ∷ []) ea ∙ ap (λ x. a' ∷ x ∷ c ∷ d ∷ []) eb ∙ ap (λ x. a' ∷ b' ∷ x ∷ d ∷ []) ec ∙ ap (λ x. a' ∷ b' ∷ c' ∷ x ∷ []) ed

pub returns : goal.returns
returns g c =
    let member = g.G.Groups.is_member c.args.groups.now in
    let rules = c.args.rules.now in
    let past : length rules ≤ c.loop-rule.rule-index = omega arith in
    let all = take_all c.loop-rule.rule-index rules past in
    let grants = λ (mode : Mode). rule_grants member c.args.how c.args.at.now c.args.agent.now mode in
    let some = λ (mode : Mode). is_some (first_ground member rules c.args.how c.args.at.now c.args.agent.now mode) in
    let here = λ (mode : Mode). ap (λ (xs : List Rule). list_any (grants mode) xs) all ∙ sym (some_grants member rules c.args.how c.args.at.now c.args.agent.now mode) in
    four c.loop-rule.found.read c.loop-rule.found.write c.loop-rule.found.append c.loop-rule.found.control (some Read) (some Write) (some Append) (some Control)
    (c.loop-rule.invariant.read ∙ here Read) (c.loop-rule.invariant.write ∙ here Write) (c.loop-rule.invariant.append ∙ here Append) (c.loop-rule.invariant.control ∙ here Control)
