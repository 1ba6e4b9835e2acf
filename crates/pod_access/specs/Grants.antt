-- Whom the graph of an access list grants what (Web Access Control, Authorization Evaluation).
use Rattle.std.specs.Prelude.{ℕ, Bool, IsTrue, ◌⊎◌, List}
use Rattle.pod_base.specs.declared.agent.Agent.{Agent}
use Rattle.pod_base.specs.declared.agent.Agent.TheVariants.{Public, Known}
use Rattle.pod_base.specs.declared.agent.Mode.{Mode}
use Rattle.pod_path.specs.Hierarchy.{uri_of, IsUriOf}
use Rattle.rdf_graph.specs.declared.term.Term.{Term}
use Rattle.rdf_graph.specs.declared.triple.Triple.{Triple}
use Rattle.acl_rules.specs.declared.rule.How.{How}
use Rattle.acl_rules.specs.declared.rule.How.TheVariants.{Own, Inherited}
use Rattle.acl_rules.specs.Statements.{States, IsRule, mode_iri}
use Rattle.acl_rules.specs.Vocabulary.{acl_access_to, acl_default, acl_mode, acl_agent}
use Rattle.acl_rules.specs.Vocabulary.{acl_agent_class, acl_agent_group}
use Rattle.acl_rules.specs.Vocabulary.{acl_authenticated_agent, foaf_agent}
use Rattle.pod_access.specs.Modes.{includes}

-- By the document at a path, is an agent a member of a group? Group and agent are IRIs.
abbrev pub Membership : Type 0
Membership = List ℕ → List ℕ → List ℕ → Bool

-- The property that names the subject of the list: a list is its own, or is inherited from above.
abbrev pub place_property : How → List ℕ
place_property Own = acl_access_to
place_property Inherited = acl_default

-- A mode of the node includes the mode.
abbrev pub GrantsMode : List Triple → Term → Mode → Type 0
GrantsMode g node wanted =
    (mode : Mode) × States g node acl_mode (mode_iri mode) × IsTrue (includes mode wanted)

-- A group of the node has the agent as a member, by the document of the group, which is one of
-- this pod.
abbrev pub CoversMember : Membership → List ℕ → List Triple → Term → List ℕ → Type 0
CoversMember member base g node agent = (group : List ℕ) × (doc : List ℕ)
    × States g node acl_agent_group group × IsUriOf base group doc × IsTrue (member doc group agent)

-- A subject of the node covers the agent.
abbrev pub Covers : Membership → List ℕ → List Triple → Term → Agent → Type 0
Covers member base g node Public = States g node acl_agent_class foaf_agent
Covers member base g node (Known agent) = States g node acl_agent_class foaf_agent
    ⊎ (States g node acl_agent_class acl_authenticated_agent
    ⊎ (States g node acl_agent agent ⊎ CoversMember member base g node agent))

-- The node is a rule that grants the agent the mode, in the list of the path, which is the
-- requested path (own) or above it (inherited).
pub record NodeGrants (member : Membership) (base : List ℕ) (g : List Triple) (how : How)
    (at : List ℕ) (agent : Agent) (mode : Mode) (node : Term) : Type 0 where
  pub rule : IsRule g node
  pub place : States g node (place_property how) (uri_of base at)
  pub grants : GrantsMode g node mode
  pub covers : Covers member base g node agent

-- Some node of the graph does so.
abbrev pub Grants : Membership → List ℕ → List Triple → How → List ℕ → Agent → Mode → Type 0
Grants member base g how at agent mode =
    (node : Term) × NodeGrants member base g how at agent mode node
