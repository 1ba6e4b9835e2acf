use Rattle.std.proofs.Common.{◌≡◌, Some, codes, sym, ap, ◌∙◌}
use Rattle.std.proofs.lemmas.Result.{IfOk-weaker}
use Rattle.serde_json.specs.Events.{members_len}
use Rattle.serde_json.specs.Find.{get_member}
use Rattle.serde_json.specs.View.{view, members_view}
use Rattle.serde_json.proofs.Views.{members_len-members_view}
use Rattle.jsonld_expanded.specs.Literals.{IsLiteralOf, IsPlain}
use Rattle.jsonld_expanded.proofs.LiteralCases.{not_plain, plain, value_at}
use Rattle.jsonld_expanded.proofs.walk_scope.Scope.alone.Goals as goal

pub returns-in-Some-clause-literal : goal.returns-in-Some-clause-literal
returns-in-Some-clause-literal c =
    let ms = members_view c.args.members.now.entries in
    let value = view c.in-Some.value.now in
    let count = members_len-members_view c.args.members.now.entries ∙ c.requires.one in
    let found = value_at (codes "@value") ms (view c.args.object.now) (Some value) c.requires.members c.in-Some.ensures in
    IfOk-weaker c.plain.result (IsPlain value) (IsLiteralOf ms) (λ t h. plain ms value t count found h) c.plain.ensures.literal

pub returns-in-Some-clause-out : goal.returns-in-Some-clause-out
returns-in-Some-clause-out c = λ refused.
    let ms = members_view c.args.members.now.entries in
    let value = view c.in-Some.value.now in
    let count = members_len-members_view c.args.members.now.entries ∙ c.requires.one in
    let found = value_at (codes "@value") ms (view c.args.object.now) (Some value) c.requires.members c.in-Some.ensures in
    not_plain ms value count found (c.plain.ensures.out refused)
