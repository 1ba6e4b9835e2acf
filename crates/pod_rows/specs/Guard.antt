-- The guard of the root: the root's access list gives the owner control.
use Rattle.std.specs.Prelude.{ℕ, Bool, ◌&&◌, List}
use Rattle.std.specs.List.{list_any}
use Rattle.acl_rules.specs.Rules.{is_rule_statement}
use Rattle.acl_rules.specs.Statements.{statement}
use Rattle.acl_rules.specs.Vocabulary.{acl_access_to, acl_mode, acl_control, acl_agent}
use Rattle.rdf_graph.specs.declared.term.Term.{Term}
use Rattle.rdf_graph.specs.declared.triple.Triple.{Triple}
use Rattle.pod_rows.specs.GraphSets.{has_triple}

-- Does the graph give the node that IRI as a value of the property?
abbrev pub has_value : List Triple → Term → List ℕ → List ℕ → Bool
has_value triples node property iri = has_triple triples (statement node property iri)

-- Does the node give the owner control of the root, whose URI is the base?
abbrev pub gives_control : List ℕ → List ℕ → List Triple → Term → Bool
gives_control base owner triples node = has_value triples node acl_access_to base
    && (has_value triples node acl_mode acl_control
    && has_value triples node acl_agent owner)

-- Does the triple give its node the type `acl:Authorization`, and the node that control?
abbrev pub is_guard : List ℕ → List ℕ → List Triple → Triple → Bool
is_guard base owner triples t = is_rule_statement t && gives_control base owner triples t.s

-- Has the graph such a node?
abbrev pub guards : List ℕ → List ℕ → List Triple → Bool
guards base owner triples = list_any (is_guard base owner triples) triples
