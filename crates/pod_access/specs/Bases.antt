-- Why each need of a request is granted: the access list, the first rule that grants, and in it
-- whom the first subject that covers the agent names.
use Rattle.std.specs.Prelude.{List, [], ◌∷◌, Option, Some, None, option_and_then}
use Rattle.pod_base.specs.declared.agent.Agent.{Agent}
use Rattle.pod_base.specs.declared.agent.Mode.{Mode}
use Rattle.pod_command.specs.declared.basis.Basis.{Basis}
use Rattle.pod_access.specs.Decision.{first_ground, basis_at}
use Rattle.pod_access.specs.declared.granting_rules.Ground.{Ground}
use Rattle.pod_access.specs.declared.request_needs.Need.{Need}
use Rattle.pod_rows.specs.Access.{Governs, effective_of, list_path, rules_at}
use Rattle.pod_rows.specs.Pod.{Pod}
use Rattle.pod_access.specs.PodGrants.{membership}

-- by this access list
abbrev pub ground_by : Pod → Agent → Mode → Governs → Option Ground
ground_by pod agent mode list =
    first_ground (membership pod) (rules_at pod list.at) list.how list.at agent mode

abbrev pub basis_by : Pod → Agent → Mode → Governs → Option Basis
basis_by pod agent mode list = option_and_then
    (λ first. basis_at (rules_at pod list.at) first (list_path list.at))
    (ground_by pod agent mode list)

-- The basis of a need; none where it isn't granted.
unfoldable pub basis_of : Pod → Agent → Need → Option Basis
basis_of pod agent need = option_and_then (basis_by pod agent need.mode)
    (effective_of pod.rows need.path)

abbrev pub with_basis : Option Basis → Option (List Basis) → Option (List Basis)
with_basis None bases = None
with_basis (Some basis) None = None
with_basis (Some basis) (Some bases) = Some (basis ∷ bases)

-- The bases of needs, one for each in their order; none where one of them isn't granted.
abbrev pub bases_of : Pod → Agent → List Need → Option (List Basis)
bases_of pod agent [] = Some []
bases_of pod agent (need ∷ needs) =
    with_basis (basis_of pod agent need) (bases_of pod agent needs)
