-- The name of a new member of a container: candidates in order, and the first that is free.
use Rattle.std.specs.Prelude.{◌≡◌, ℕ, ◌+◌, ◌<◌, ◌≤◌, ◌==◌, Bool, true, false, not, ◌&&◌}
use Rattle.std.specs.Prelude.{if◌then◌else◌, List, [], ◌++◌, length, Option, Some, None, Err, codes}
use Rattle.std.specs.Prelude.{decimal}
use Rattle.std.specs.List.{Contains}
use Rattle.pod_path.specs.Norm.{norm}
use Rattle.pod_path.specs.Hierarchy.{member_text, twin_of}
use Rattle.pod_path.specs.declared.fault.PathFault.{PathFault}
use Rattle.pod_path.specs.declared.fault.PathFault.TheVariants.{BadEscape, NotNormal, Reserved}
use Rattle.pod_path.specs.declared.fault.PathFault.TheVariants.{TooLong, TooDeep, NoMemory}
use Rattle.slug_naming.specs.declared.name_candidates.TheConstants.{ROW_LIMIT}

-- what follows the stem in candidate k: nothing, -2, -3, ..
abbrev pub candidate_end : ℕ → List ℕ
candidate_end k = if k == 0 then [] else codes "-" ++ decimal (k + 1)

abbrev pub candidate : List ℕ → ℕ → List ℕ
candidate stem k = stem ++ candidate_end k

-- the path of candidate k as a member of a container
abbrev pub candidate_path : List ℕ → List ℕ → Bool → ℕ → List ℕ
candidate_path container stem folder k = member_text container (candidate stem k) folder

abbrev pub is_some_row : (List ℕ → Bool) → Option (List ℕ) → Bool
is_some_row is_row None = false
is_some_row is_row (Some path) = is_row path

-- neither the path nor its twin is a row
abbrev pub is_free : (List ℕ → Bool) → List ℕ → Bool
is_free is_row path = not (is_row path) && not (is_some_row is_row (twin_of path))

-- the path is that of the first candidate that is free
pub record IsFreeName (is_row : List ℕ → Bool) (container stem : List ℕ)
    (folder : Bool) (path : List ℕ) : Type 0 where
  pub number : ℕ
  pub is : path ≡ candidate_path container stem folder number
  pub free : is_free is_row path ≡ true
  pub first : (k : ℕ) → k < number → is_free is_row (candidate_path container stem folder k) ≡ false

-- Why there is no path: the one that it should be passes a limit, or memory ran out.
abbrev pub FailsAs : (List ℕ → Type 0) → PathFault → Type 0
FailsAs IsName TooLong = (path : List ℕ) × IsName path × (norm path ≡ Err TooLong)
FailsAs IsName TooDeep = (path : List ℕ) × IsName path × (norm path ≡ Err TooDeep)
FailsAs IsName NoMemory = Unit {0}
FailsAs IsName BadEscape = ⊥
FailsAs IsName NotNormal = ⊥
FailsAs IsName Reserved = ⊥

-- the list holds each text that is a row, and no more than the limit
pub record HoldsRows (is_row : List ℕ → Bool) (rows : List (List ℕ)) : Type 0 where
  pub few : length rows ≤ ROW_LIMIT
  pub all : (text : List ℕ) → is_row text ≡ true → Contains rows text

abbrev pub HasFewRows : (List ℕ → Bool) → Type 0
HasFewRows is_row = (rows : List (List ℕ)) × HoldsRows is_row rows
