-- What a graph states of a node.
use Rattle.std.specs.Prelude.{ℕ, List, Contains}
use Rattle.std.specs.declared.cmp.Ordering.{Ordering}
use Rattle.pod_base.specs.declared.agent.Mode.{Mode}
use Rattle.pod_base.specs.declared.agent.Mode.TheVariants.{Read, Append, Write, Control}
use Rattle.rdf_graph.specs.Triple.{triple_cmp}
use Rattle.rdf_graph.specs.declared.term.Term.{Term}
use Rattle.rdf_graph.specs.declared.term.Term.TheVariants.{Iri}
use Rattle.rdf_graph.specs.declared.triple.Triple.{Triple}
use Rattle.acl_rules.specs.declared.rule.Rule.{Rule}
use Rattle.acl_rules.specs.Vocabulary.{rdf_type, acl_authorization, acl_read, acl_append}
use Rattle.acl_rules.specs.Vocabulary.{acl_write, acl_control}

-- The triple of a node, a property and a value that is an IRI.
abbrev pub statement : Term → List ℕ → List ℕ → Triple
statement node property value = record { s = node; p = Iri property; o = Iri value }

-- The graph has that triple.
abbrev pub States : List Triple → Term → List ℕ → List ℕ → Type 0
States g node property value = Contains g (statement node property value)

-- The node has type `acl:Authorization`.
abbrev pub IsRule : List Triple → Term → Type 0
IsRule g node = States g node rdf_type acl_authorization

abbrev pub mode_iri : Mode → List ℕ
mode_iri Read = acl_read
mode_iri Append = acl_append
mode_iri Write = acl_write
mode_iri Control = acl_control

-- Rules in the order of the triples that give their nodes the type: in the byte order of the nodes'
-- texts.
abbrev pub rule_cmp : Rule → Rule → Ordering
rule_cmp a b = triple_cmp (statement a.node rdf_type acl_authorization)
    (statement b.node rdf_type acl_authorization)
