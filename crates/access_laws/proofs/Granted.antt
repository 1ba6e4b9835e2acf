-- A ground and a basis are there exactly where the mode is granted.
use Rattle.std.proofs.Common.{◌≡◌, ℕ, false, List, Option, Some, None, refl, sym, ap, subst, ◌∙◌}
use Rattle.std.specs.Prelude.{◌↔◌, IsTrue, is_some, option_and_then}
use Rattle.std.proofs.lemmas.Bool.{false≢true}
use Rattle.acl_rules.specs.declared.rule.Rule.{Rule}
use Rattle.pod_access.specs.Bases.{basis_of, basis_by, ground_by}
use Rattle.pod_access.specs.PodGrants.{GrantsBy, PodGrants, list_graph, membership}
use Rattle.pod_access.proofs.BasisLemmas.{has_basis}
use Rattle.pod_access.proofs.GraphGrants.{rules_of_graph, uri_governs}
use Rattle.pod_base.specs.declared.agent.Agent.{Agent}
use Rattle.pod_base.specs.declared.agent.Mode.{Mode}
use Rattle.pod_rows.specs.Access.{Governs, effective_of, rules_at}
use Rattle.pod_rows.specs.Pod.{Pod}
use Rattle.pod_rows.specs.WellFormed.{WellFormed}
use Rattle.pod_access.specs.Decision.{first_ground}
use Rattle.pod_access.specs.declared.request_needs.Need.{Need}
use Rattle.pod_access.proofs.Granting.{some_is_granted}
use Rattle.pod_access.proofs.Grounds.{if_rule_within, if_subject_within}

-- by the list that governs
pub by_list : (pod : Pod) (agent : Agent) (path : List ℕ) (mode : Mode) (list : Governs) → WellFormed pod → effective_of pod.rows path ≡ Some list
    → IsTrue (is_some (ground_by pod agent mode list)) ↔ GrantsBy pod agent mode (Some list)
by_list pod agent path mode list w e =
    subst (λ (rules : List Rule). IsTrue (is_some (first_ground (membership pod) rules list.how list.at agent mode)) ↔ GrantsBy pod agent mode (Some list))
    (sym (rules_of_graph pod list.at))
    (some_is_granted (membership pod) pod.base (list_graph pod list.at) list.how list.at agent mode (uri_governs pod path list w e))

pub grounds : (pod : Pod) (agent : Agent) (path : List ℕ) (mode : Mode) (list : Governs) → WellFormed pod → effective_of pod.rows path ≡ Some list
    → IsTrue (is_some (ground_by pod agent mode list)) ↔ PodGrants pod agent path mode
grounds pod agent path mode list w e =
    subst (λ (o : Option Governs). IsTrue (is_some (ground_by pod agent mode list)) ↔ GrantsBy pod agent mode o) (sym e) (by_list pod agent path mode list w e)

-- where nothing governs, nothing is granted
no_basis_at : (pod : Pod) (agent : Agent) (need : Need) → effective_of pod.rows need.path ≡ None → is_some (basis_of pod agent need) ≡ false
unfolding basis_of
no_basis_at pod agent need e = ap (λ (o : Option Governs). is_some (option_and_then (basis_by pod agent need.mode) o)) e

pub bases : (pod : Pod) (agent : Agent) (need : Need) → WellFormed pod → IsTrue (is_some (basis_of pod agent need)) ↔ PodGrants pod agent need.path need.mode
bases pod agent need w = by_governs (effective_of pod.rows need.path) refl
  where
    by_governs : (o : Option Governs) → effective_of pod.rows need.path ≡ o → IsTrue (is_some (basis_of pod agent need)) ↔ PodGrants pod agent need.path need.mode
    by_governs None e = (
      λ h. absurd (false≢true (sym (no_basis_at pod agent need e) ∙ h)),
      λ h. absurd (subst (GrantsBy pod agent need.mode) e h),
    )
    by_governs (Some list) e =
        let rules = rules_at pod list.at in
        let same : is_some (ground_by pod agent need.mode list) ≡ is_some (basis_of pod agent need) =
        has_basis pod agent need list.at list.how rules (ground_by pod agent need.mode list) e refl refl
        (if_rule_within (membership pod) rules list.how list.at agent need.mode (ground_by pod agent need.mode list) refl)
        (if_subject_within (membership pod) rules list.how list.at agent need.mode (ground_by pod agent need.mode list) refl) in
        subst (λ b. IsTrue b ↔ PodGrants pod agent need.path need.mode) same (grounds pod agent need.path need.mode list w e)
