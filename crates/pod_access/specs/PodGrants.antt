-- Whom a pod grants what (Web Access Control): what the graph of the access list that governs a
-- path grants.
use Rattle.std.specs.Prelude.{◌≡◌, ◌↔◌, ℕ, Bool, IsTrue, List, Option, Some, None}
use Rattle.pod_base.specs.declared.agent.Agent.{Agent}
use Rattle.pod_base.specs.declared.agent.Mode.{Mode}
use Rattle.acl_rules.specs.Rules.{rules_of}
use Rattle.acl_rules.specs.declared.rule.How.{How}
use Rattle.acl_rules.specs.declared.rule.Rule.{Rule}
use Rattle.pod_path.specs.Hierarchy.{uri_of, IsUriOf}
use Rattle.rdf_graph.specs.declared.triple.Triple.{Triple}
use Rattle.pod_access.specs.Grants.{Membership, Grants}
use Rattle.pod_rows.specs.Access.{Governs, effective_of, list_path}
use Rattle.pod_rows.specs.Members.{is_member_at}
use Rattle.pod_rows.specs.Pod.{Pod, row_at}
use Rattle.pod_rows.specs.View.{own_triples}

-- who is a member of which group, by the documents of the pod
abbrev pub membership : Pod → Membership
membership pod doc group agent = is_member_at pod.rows doc group agent

-- the graph of the access list of a path
abbrev pub list_graph : Pod → List ℕ → List Triple
list_graph pod at = own_triples (row_at pod.rows (list_path at))

abbrev pub GrantsBy : Pod → Agent → Mode → Option Governs → Type 0
GrantsBy pod agent mode None = ⊥
GrantsBy pod agent mode (Some list) =
    Grants (membership pod) pod.base (list_graph pod list.at) list.how list.at agent mode

-- The pod grants the agent the mode at the path. A description is governed as its subject is.
abbrev pub PodGrants : Pod → Agent → List ℕ → Mode → Type 0
PodGrants pod agent path mode = GrantsBy pod agent mode (effective_of pod.rows path)

-- Whether these rules grant is what each graph grants whose rules they are.
abbrev pub IsGrantedByGraphs : Pod → List Rule → How → List ℕ → Agent → Mode → Bool → Type 0
IsGrantedByGraphs pod rules how at agent mode granted = (base : List ℕ) (g : List Triple)
    → rules ≡ rules_of base g → IsUriOf base (uri_of base at) at
    → IsTrue granted ↔ Grants (membership pod) base g how at agent mode
