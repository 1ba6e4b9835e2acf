-- The path of a new member of a container, or why it has none.
use Rattle.std.specs.Prelude.{◌≡◌, ◌⊎◌, ℕ, Bool, List, Result, Ok, Err, codes}
use Rattle.pod_base.specs.declared.response.Response.{Response}
use Rattle.pod_path.specs.Norm.{norm}
use Rattle.pod_path.specs.declared.fault.PathFault.TheVariants.{TooLong, TooDeep}
use Rattle.pod_responses.specs.Responses.{refusal}
use Rattle.pod_rows.specs.Pod.{Pod, is_row}
use Rattle.slug_naming.specs.Names.{IsFreeName}

abbrev pub IsFreeIn : Pod → List ℕ → List ℕ → Bool → List ℕ → Type 0
IsFreeIn pod container stem folder path = IsFreeName (is_row pod.rows) container stem folder path

-- The first free candidate passes a limit of paths.
pub record HasNoName (pod : Pod) (container stem : List ℕ) (folder : Bool) : Type 0 where
  pub path : List ℕ
  pub first : IsFreeIn pod container stem folder path
  pub fault : (norm path ≡ Err TooLong) ⊎ (norm path ≡ Err TooDeep)

pub record IsMemberPath (pod : Pod) (container stem : List ℕ) (folder : Bool) (path : List ℕ)
    : Type 0 where
  pub first : IsFreeIn pod container stem folder path
  pub normal : norm path ≡ Ok path

-- the path of a new member, or the refusal
abbrev pub IsNamed : Pod → List ℕ → List ℕ → Bool → Result (List ℕ) Response → Type 0
IsNamed pod container stem folder (Ok path) = IsMemberPath pod container stem folder path
IsNamed pod container stem folder (Err response) =
    HasNoName pod container stem folder × (response ≡ refusal 409 (codes "no-name"))
