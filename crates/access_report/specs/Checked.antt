-- What a line of a report has to say to check, by the triples of the access list that it names (Web
-- Access Control, Authorization Evaluation).
use Rattle.std.specs.Prelude.{◌≡◌, ℕ, IsTrue, List, Option, Some, None}
use Rattle.acl_rules.specs.Statements.{States, IsRule}
use Rattle.acl_rules.specs.Vocabulary.{acl_agent, acl_agent_class, acl_agent_group}
use Rattle.acl_rules.specs.Vocabulary.{acl_authenticated_agent, foaf_agent}
use Rattle.pod_base.specs.declared.agent.Agent.{Agent}
use Rattle.pod_base.specs.declared.agent.Agent.TheVariants as agents
use Rattle.pod_command.specs.declared.basis.Who.{Who}
use Rattle.pod_command.specs.declared.basis.Who.TheVariants as whos
use Rattle.pod_path.specs.Hierarchy.{uri_of, IsUriOf}
use Rattle.rdf_graph.specs.declared.term.Term.{Term}
use Rattle.rdf_graph.specs.declared.triple.Triple.{Triple}
use Rattle.pod_access.specs.Grants.{Membership, GrantsMode, place_property}
use Rattle.pod_access.specs.PodGrants.{list_graph, membership}
use Rattle.pod_rows.specs.Access.{Governs, effective_of, list_path}
use Rattle.pod_rows.specs.Pod.{Pod}
use Rattle.access_report.specs.Reports.{IsReported}
use Rattle.access_report.specs.declared.line.Line.{Line}

module _ (member : Membership) (base : List ℕ) (g : List Triple) (node : Term) where
  -- a group of this IRI, whose document is one of this pod, has the agent as a member
  pub record CoversAsMember (group agent : List ℕ) : Type 0 where
    pub stated : States g node acl_agent_group group
    pub doc : List ℕ
    pub is_doc : IsUriOf base group doc
    pub is_member : IsTrue (member doc group agent)

  -- a subject of the node, of this kind, covers a known agent
  abbrev pub CoversKnownAs : List ℕ → Who → Type 0
  CoversKnownAs agent whos.Agent = States g node acl_agent agent
  CoversKnownAs agent whos.Everyone = States g node acl_agent_class foaf_agent
  CoversKnownAs agent whos.Authenticated = States g node acl_agent_class acl_authenticated_agent
  CoversKnownAs agent (whos.Group group) = CoversAsMember group agent

  -- and the public: everyone alone does
  abbrev pub CoversPublicAs : Who → Type 0
  CoversPublicAs whos.Everyone = States g node acl_agent_class foaf_agent
  CoversPublicAs whos.Agent = ⊥
  CoversPublicAs whos.Authenticated = ⊥
  CoversPublicAs (whos.Group group) = ⊥

  abbrev pub CoversAs : Agent → Who → Type 0
  CoversAs agents.Public who = CoversPublicAs who
  CoversAs (agents.Known agent) who = CoversKnownAs agent who

-- The line names the access list that governs its path, and a node of its graph that is a rule with
-- the place, the mode and such a subject.
pub record ChecksBy (pod : Pod) (agent : Agent) (line : Line) (list : Governs) : Type 0 where
  pub acl : line.basis.acl ≡ list_path list.at
  pub rule : IsRule (list_graph pod list.at) line.basis.rule
  pub place : States (list_graph pod list.at) line.basis.rule (place_property list.how)
      (uri_of pod.base list.at)
  pub grants : GrantsMode (list_graph pod list.at) line.basis.rule line.mode
  pub covers : CoversAs (membership pod) pod.base (list_graph pod list.at) line.basis.rule agent
      line.basis.who

abbrev pub ChecksIn : Pod → Agent → Line → Option Governs → Type 0
ChecksIn pod agent line None = ⊥
ChecksIn pod agent line (Some list) = ChecksBy pod agent line list

-- The line checks.
pub record Checks (pod : Pod) (agent : Agent) (line : Line) : Type 0 where
  pub reported : IsReported pod line.path
  pub basis : ChecksIn pod agent line (effective_of pod.rows line.path)
