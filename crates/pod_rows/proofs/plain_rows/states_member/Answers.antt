use Rattle.std.proofs.Common.{◌∙◌, sym, ap, List}
use Rattle.acl_rules.specs.Vocabulary.{vcard_has_member}
use Rattle.pod_command.specs.declared.row.Content.{Content}
use Rattle.pod_command.specs.declared.row.Content.TheVariants as contents
use Rattle.pod_command.specs.declared.row.Kind.{Kind}
use Rattle.pod_command.specs.declared.row.Kind.TheVariants as kinds
use Rattle.rdf_graph.specs.declared.triple.Triple.{Triple}
use Rattle.pod_rows.specs.Members.{states_member}
use Rattle.pod_rows.proofs.Changes.{member_is}
use Rattle.pod_rows.proofs.plain_rows.states_member.Goals as goal

pub returns-in-Graph-content : goal.returns-in-Graph-content
unfolding vcard_has_member
returns-in-Graph-content c =
    member_is c.args.group.now c.args.agent.now c.graph.result.now c.has_iris.result c.has_iris.ensures
    ∙ ap (λ (g : List Triple). states_member c.args.group.now c.args.agent.now kinds.Graph (contents.Graph g)) c.graph.ensures
    ∙ sym (ap (λ (k : Kind). states_member c.args.group.now c.args.agent.now k c.args.row.now.content) c.in-Graph.is
    ∙ ap (λ (x : Content). states_member c.args.group.now c.args.agent.now kinds.Graph x) c.in-Graph-content.is)
