use Rattle.std.proofs.Common.{◌≡◌, Some, None, codes, sym, ap, ◌∙◌, rules}
use Rattle.serde_json.specs.View.{view, members_view}
use Rattle.serde_json.proofs.Views.{members_len-members_view}
use Rattle.turtle_lex.specs.Laws.{IsTextOf}
use Rattle.turtle_lex.specs.Terminals.{lang_tag}
use Rattle.jsonld_expanded.proofs.LiteralCases.{found_at, no_tag, not_tagged, tagged}
use Rattle.jsonld_expanded.proofs.walk_scope.Scope.tagged.Goals as goal

pub returns-then-not-is_lang_tag-clause-out : goal.returns-then-not-is_lang_tag-clause-out
returns-then-not-is_lang_tag-clause-out c = λ refused.
    let ms = members_view c.args.members.now.entries in
    let count = members_len-members_view c.args.members.now.entries ∙ c.requires.two in
    not_tagged ms c.in-Some.lang.now count c.requires.no_type (found_at (codes "@language") ms (view c.args.object.now) (Some c.in-Some.lang.now) c.requires.members c.in-Some.ensures) c.if-not-is_lang_tag.ensures

pub returns-in-None-clause-out : goal.returns-in-None-clause-out
returns-in-None-clause-out c = λ refused.
    let ms = members_view c.args.members.now.entries in
    let count = members_len-members_view c.args.members.now.entries ∙ c.requires.two in
    no_tag ms count c.requires.no_type (found_at (codes "@language") ms (view c.args.object.now) None c.requires.members c.in-None.ensures)

pub returns-in_ok-tagged-in-Some-clause-literal : goal.returns-in_ok-tagged-in-Some-clause-literal
returns-in_ok-tagged-in-Some-clause-literal c =
    let ms = members_view c.args.members.now.entries in
    let count = members_len-members_view c.args.members.now.entries ∙ c.requires.two in
    tagged ms c.args.lexical.now c.in-Some.lang.now c.in_ok-tagged-in-Some.field-0 count c.requires.value c.requires.no_type
    (found_at (codes "@language") ms (view c.args.object.now) (Some c.in-Some.lang.now) c.requires.members c.in-Some.ensures) c.if-not-is_lang_tag.ensures c.in_ok-tagged-in-Some.ensures
