-- The rules that a graph states (Web Access Control, Authorization Rule).
use Rattle.std.specs.Prelude.{ℕ, Bool, ◌&&◌, if◌then◌else◌, bytes_eq, List, map, filter, Option}
use Rattle.std.specs.Prelude.{Some, None}
use Rattle.std.specs.List.{filter_map}
use Rattle.pod_base.specs.declared.agent.Mode.{Mode}
use Rattle.pod_base.specs.declared.agent.Mode.TheVariants.{Read, Append, Write, Control}
use Rattle.rdf_graph.specs.Term.{term_eq}
use Rattle.rdf_graph.specs.declared.term.Term.{Term}
use Rattle.rdf_graph.specs.declared.term.Term.TheVariants.{Iri, Blank, Literal, Tagged}
use Rattle.rdf_graph.specs.declared.triple.Triple.{Triple}
use Rattle.acl_rules.specs.declared.rule.Rule.{Rule}
use Rattle.acl_rules.specs.declared.rule.Subject.{Subject}
use Rattle.acl_rules.specs.declared.rule.Subject.TheVariants.{Agent, Everyone, Authenticated, Group}
use Rattle.acl_rules.specs.Documents.{document_of, resource_of}
use Rattle.acl_rules.specs.Vocabulary.{rdf_type, acl_authorization, acl_access_to, acl_default}
use Rattle.acl_rules.specs.Vocabulary.{acl_mode, acl_read, acl_append, acl_write, acl_control}
use Rattle.acl_rules.specs.Vocabulary.{acl_agent, acl_agent_class, acl_agent_group}
use Rattle.acl_rules.specs.Vocabulary.{acl_authenticated_agent, foaf_agent}

-- Is it a triple of this property?
abbrev pub is_of : List ℕ → Triple → Bool
is_of property t = term_eq t.p (Iri property)

-- What the IRI gives that is the triple's object, where it is a triple of this property. Another
-- object gives nothing.
abbrev pub from_iri : {X : Type 0} → (List ℕ → Option X) → Term → Option X
from_iri value (Iri iri) = value iri
from_iri value (Blank label) = None
from_iri value (Literal lexical datatype) = None
from_iri value (Tagged lexical lang) = None

abbrev pub value_of : {X : Type 0} → List ℕ → (List ℕ → Option X) → Triple → Option X
value_of property value t = if is_of property t then from_iri value t.o else None

-- The path of a place that the property names.
abbrev pub place_of : List ℕ → List ℕ → Triple → Option (List ℕ)
place_of base property = value_of property (resource_of base)

abbrev pub mode_of : List ℕ → Option Mode
mode_of iri =
    if bytes_eq iri acl_read then Some Read else
    if bytes_eq iri acl_append then Some Append else
    if bytes_eq iri acl_write then Some Write else
    if bytes_eq iri acl_control then Some Control else None

abbrev pub granted_mode : Triple → Option Mode
granted_mode = value_of acl_mode mode_of

abbrev pub class_of : List ℕ → Option Subject
class_of iri =
    if bytes_eq iri foaf_agent then Some Everyone else
    if bytes_eq iri acl_authenticated_agent then Some Authenticated else None

abbrev pub agent_of : List ℕ → Option Subject
agent_of iri = Some (Agent iri)

-- A group and the path of its document, if it is one of this pod.
abbrev pub group_of : List ℕ → List ℕ → Option Subject
group_of base iri = Some (Group (document_of base iri) iri)

abbrev pub subject_of : List ℕ → Triple → Option Subject
subject_of base t =
    if is_of acl_agent t then from_iri agent_of t.o else
    if is_of acl_agent_class t then from_iri class_of t.o else
    if is_of acl_agent_group t then from_iri (group_of base) t.o else None

-- The triples of a node, in their order.
abbrev pub triples_of : Term → List Triple → List Triple
triples_of node g = filter (λ t. term_eq t.s node) g

-- The rule of a node: each list has what the node's triples give, in their order.
abbrev pub rule_from : List ℕ → Term → List Triple → Rule
rule_from base node triples = record {
  node = node;
  access_to = filter_map (place_of base acl_access_to) triples;
  defaults = filter_map (place_of base acl_default) triples;
  modes = filter_map granted_mode triples;
  subjects = filter_map (subject_of base) triples;
}

unfoldable pub rule_of : List ℕ → List Triple → Term → Rule
rule_of base g node = rule_from base node (triples_of node g)

-- Does the triple say that its subject is a rule?
abbrev pub is_rule_statement : Triple → Bool
is_rule_statement t = is_of rdf_type t && term_eq t.o (Iri acl_authorization)

-- A rule for each node of type `acl:Authorization`, in the order of the triples that say so. A
-- graph is a set, so each node has one such triple.
unfoldable pub rules_of : List ℕ → List Triple → List Rule
rules_of base g = map (λ t. rule_of base g t.s) (filter is_rule_statement g)
