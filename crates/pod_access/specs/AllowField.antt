-- The value of `WAC-Allow` for a path.
use Rattle.std.specs.Prelude.{ℕ, Bool, false, if◌then◌else◌, List, [], ◌∷◌, Option, Some, None}
use Rattle.std.specs.Prelude.{is_some}
use Rattle.pod_base.specs.declared.agent.Agent.{Agent}
use Rattle.pod_base.specs.declared.agent.Agent.TheVariants.{Public}
use Rattle.pod_base.specs.declared.agent.Mode.TheVariants.{Control}
use Rattle.pod_path.specs.Hierarchy.{is_acl}
use Rattle.pod_access.specs.Allow.{allow_text}
use Rattle.pod_access.specs.Decision.{granted_modes}
use Rattle.pod_rows.specs.Access.{Governs, effective_of, rules_at}
use Rattle.pod_rows.specs.Pod.{Pod}
use Rattle.pod_access.specs.Bases.{ground_by}
use Rattle.pod_access.specs.PodGrants.{membership}

abbrev pub four : Bool → List Bool
four granted = granted ∷ granted ∷ granted ∷ granted ∷ []

-- by this access list, in the order read, write, append, control
abbrev pub modes_by : Pod → Agent → Governs → List Bool
modes_by pod agent list =
    granted_modes (membership pod) (rules_at pod list.at) list.how list.at agent

-- Control of an access list's subject grants all modes of the list.
abbrev pub control_by : Pod → Agent → Governs → List Bool
control_by pod agent list = four (is_some (ground_by pod agent Control list))

abbrev pub modes_in : Pod → Agent → Bool → Option Governs → List Bool
modes_in pod agent acl None = four false
modes_in pod agent acl (Some list) =
    if acl then control_by pod agent list else modes_by pod agent list

-- What the agent may do at the path.
unfoldable pub modes_at : Pod → Agent → List ℕ → List Bool
modes_at pod agent path = modes_in pod agent (is_acl path) (effective_of pod.rows path)

abbrev pub allow_field : Pod → Agent → List ℕ → List ℕ
allow_field pod agent path = allow_text (modes_at pod agent path) (modes_at pod Public path)
