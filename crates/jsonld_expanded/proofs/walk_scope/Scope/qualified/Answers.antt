use Rattle.std.proofs.Common.{◌≡◌, Some, None, codes, sym, ap, ◌∙◌}
use Rattle.std.proofs.lemmas.Result.{IfOk-weaker}
use Rattle.iri_ref.specs.Components.{IsAbsolute}
use Rattle.rdf_graph.specs.declared.term.Term.TheVariants.{Literal}
use Rattle.serde_json.specs.View.{view, members_view}
use Rattle.serde_json.proofs.Views.{members_len-members_view}
use Rattle.jsonld_expanded.specs.Literals.{IsLiteralOf}
use Rattle.jsonld_expanded.proofs.LiteralCases.{found_at, no_lexical, not_typed, typed}
use Rattle.jsonld_expanded.proofs.walk_scope.Scope.qualified.Goals as goal

pub tagged-requires-clause-value : goal.tagged-requires-clause-value
tagged-requires-clause-value c = found_at (codes "@value") (members_view c.args.members.now.entries) (view c.args.object.now) (Some c.in-Some.lexical.now) c.requires.members c.in-Some.ensures

pub tagged-requires-clause-no_type : goal.tagged-requires-clause-no_type
tagged-requires-clause-no_type c = found_at (codes "@type") (members_view c.args.members.now.entries) (view c.args.object.now) None c.requires.members c.in-None-text_at.ensures

pub returns-in-None-clause-out : goal.returns-in-None-clause-out
returns-in-None-clause-out c = λ refused.
    let ms = members_view c.args.members.now.entries in
    no_lexical ms (members_len-members_view c.args.members.now.entries ∙ c.requires.two) (found_at (codes "@value") ms (view c.args.object.now) None c.requires.members c.in-None.ensures)

pub returns-in-Some-text_at-clause-literal : goal.returns-in-Some-text_at-clause-literal
returns-in-Some-text_at-clause-literal c =
    let ms = members_view c.args.members.now.entries in
    let lexical = c.in-Some.lexical.now in
    let datatype = c.in-Some-text_at.datatype.now in
    let count = members_len-members_view c.args.members.now.entries ∙ c.requires.two in
    let value = found_at (codes "@value") ms (view c.args.object.now) (Some lexical) c.requires.members c.in-Some.ensures in
    let kind = found_at (codes "@type") ms (view c.args.object.now) (Some datatype) c.requires.members c.in-Some-text_at.ensures in
    IfOk-weaker c.typed.result (λ t. IsAbsolute datatype × (t ≡ Literal lexical datatype)) (IsLiteralOf ms) (λ t h. typed ms lexical datatype t count value kind h) c.typed.ensures.literal

pub returns-in-Some-text_at-clause-out : goal.returns-in-Some-text_at-clause-out
returns-in-Some-text_at-clause-out c = λ refused.
    let ms = members_view c.args.members.now.entries in
    let datatype = c.in-Some-text_at.datatype.now in
    let count = members_len-members_view c.args.members.now.entries ∙ c.requires.two in
    not_typed ms datatype count (found_at (codes "@type") ms (view c.args.object.now) (Some datatype) c.requires.members c.in-Some-text_at.ensures) (c.typed.ensures.out refused)
