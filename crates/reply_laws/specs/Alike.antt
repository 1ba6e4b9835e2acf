-- Pods that an agent can't tell apart: they have the same rows but for the contents and moments of
-- those that the agent may read in neither. Access lists, and documents that access lists name for
-- groups, are the same.
use Rattle.std.specs.Prelude.{◌≡◌, ◌⊎◌, ℕ, false, true, List, map, Contains}
use Rattle.acl_rules.specs.Statements.{States}
use Rattle.acl_rules.specs.Vocabulary.{acl_agent_group}
use Rattle.pod_access.specs.PodGrants.{PodGrants}
use Rattle.pod_base.specs.declared.agent.Agent.{Agent}
use Rattle.pod_base.specs.declared.agent.Mode.TheVariants.{Read}
use Rattle.pod_command.specs.declared.row.Kind.{Kind}
use Rattle.pod_command.specs.declared.row.Row.{Row}
use Rattle.pod_path.specs.Hierarchy.{IsUriOf, is_acl}
use Rattle.pod_rows.specs.Pod.{Pod, row_at}
use Rattle.pod_rows.specs.View.{triples_in}
use Rattle.rdf_graph.specs.declared.term.Term.{Term}

-- An access list of the pod names a group whose document is at the path.
pub record NamesGroup (pod : Pod) (path : List ℕ) : Type 0 where
  pub list : Row
  pub is_row : Contains pod.rows list
  pub is_list : is_acl list.path ≡ true
  pub node : Term
  pub group : List ℕ
  pub named : States (triples_in list.content) node acl_agent_group group
  pub document : IsUriOf pod.base group path

-- What is at the path is hidden from the agent: it can't be read, and no decision depends on it.
pub record IsHidden (agent : Agent) (pod : Pod) (path : List ℕ) : Type 0 where
  pub no_list : is_acl path ≡ false
  pub unread : PodGrants pod agent path Read → ⊥
  pub no_group : NamesGroup pod path → ⊥

abbrev pub path_of : Row → List ℕ
path_of row = row.path

abbrev pub kind_of : Row → Kind
kind_of row = row.kind

-- The pods are alike for the agent: they have the same base and owner, the same paths with the same
-- kinds, and what is at a path is the same or hidden in both.
pub record Alike (agent : Agent) (p q : Pod) : Type 0 where
  pub base : p.base ≡ q.base
  pub owner : p.owner ≡ q.owner
  pub paths : map path_of p.rows ≡ map path_of q.rows
  pub kinds : map kind_of p.rows ≡ map kind_of q.rows
  pub rows : (path : List ℕ) → (row_at p.rows path ≡ row_at q.rows path)
      ⊎ (IsHidden agent p path × IsHidden agent q path)
