-- Who is a member of a group, by the group's document (vCard, `hasMember`).
use Rattle.std.specs.Prelude.{ℕ, Bool, false, List, Option, Some, None}
use Rattle.acl_rules.specs.Vocabulary.{vcard_has_member}
use Rattle.pod_command.specs.declared.row.Content.{Content}
use Rattle.pod_command.specs.declared.row.Content.TheVariants as contents
use Rattle.pod_command.specs.declared.row.Kind.{Kind}
use Rattle.pod_command.specs.declared.row.Kind.TheVariants as kinds
use Rattle.pod_command.specs.declared.row.Row.{Row}
use Rattle.rdf_graph.specs.Triple.{iri_triple}
use Rattle.pod_rows.specs.GraphSets.{has_triple}
use Rattle.pod_rows.specs.Pod.{row_at}

-- Does a document of RDF state that the agent is a member?
abbrev pub states_member : List ℕ → List ℕ → Kind → Content → Bool
states_member group agent kinds.Graph (contents.Graph triples) =
    has_triple triples (iri_triple group vcard_has_member agent)
states_member group agent kind content = false

abbrev pub row_states_member : List ℕ → List ℕ → Option Row → Bool
row_states_member group agent None = false
row_states_member group agent (Some row) = states_member group agent row.kind row.content

-- Is the agent a member of the group, by the document at the path?
abbrev pub is_member_at : List Row → List ℕ → List ℕ → List ℕ → Bool
is_member_at rows doc group agent = row_states_member group agent (row_at rows doc)
