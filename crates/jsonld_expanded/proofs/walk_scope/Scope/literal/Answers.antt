use Rattle.std.proofs.Common.{sym, ◌∙◌}
use Rattle.serde_json.specs.View.{members_view}
use Rattle.serde_json.proofs.Views.{members_len-members_view}
use Rattle.jsonld_expanded.proofs.LiteralCases.{other_count}
use Rattle.jsonld_expanded.proofs.walk_scope.Scope.literal.Goals as goal

pub returns-clause-out : goal.returns-clause-out
returns-clause-out c = λ refused.
    let es = c.args.members.now.entries in
    other_count (members_view es) (λ one. c.if-count-eq1.false (c.len-count.ensures.len ∙ sym (members_len-members_view es) ∙ one)) (λ two. c.if-count-eq2.false (c.len-count.ensures.len ∙ sym (members_len-members_view es) ∙ two))
