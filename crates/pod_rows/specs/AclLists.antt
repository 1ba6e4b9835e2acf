-- The access lists of a pod, each with the path whose list it is and its rules.
use Rattle.std.specs.Prelude.{◌≡◌, ℕ, ◌≤◌, ◌^◌, Bool, if◌then◌else◌, List, [], ◌∷◌, Option, Some}
use Rattle.std.specs.Prelude.{None}
use Rattle.std.specs.Prelude.{bytes_eq, filter_map}
use Rattle.std.specs.List.{find}
use Rattle.acl_rules.specs.declared.rule.Rule.{Rule}
use Rattle.pod_path.specs.Hierarchy.{is_acl, is_container, without_end}
use Rattle.pod_command.specs.declared.row.Row.{Row}
use Rattle.pod_rows.specs.Access.{rules_in}
use Rattle.pod_rows.specs.State.{NumberedPod}
use Rattle.pod_rows.specs.WellFormed.{WellFormed}
use Rattle.pod_rows.specs.declared.acl_list.AclList.{AclList}

abbrev pub acl_list : List ℕ → List Rule → AclList
acl_list at rules = record { at = at; rules = record { list = rules } }

-- The access list that a row is, if it is one.
abbrev pub list_of : List ℕ → Row → Option AclList
list_of base row = if is_acl row.path
    then Some (acl_list (without_end 4 row.path) (rules_in base row.content)) else None

-- The access lists of the rows, in their order.
abbrev pub lists_of : List ℕ → List Row → List AclList
lists_of base rows = filter_map (list_of base) rows

-- Is it the list of that path?
abbrev pub is_list_of : List ℕ → AclList → Bool
is_list_of path list = bytes_eq list.at path

abbrev pub or_else : Option AclList → Option AclList → Option AclList
or_else None other = other
or_else (Some list) other = Some list

-- The list of the first of these paths that has one.
abbrev pub first_list : List AclList → List (List ℕ) → Option AclList
first_list lists [] = None
first_list lists (path ∷ paths) = or_else (find (is_list_of path) lists) (first_list lists paths)

-- The list of a text that is a container.
abbrev pub container_list : List AclList → List ℕ → Option AclList
container_list lists path = if is_container path then find (is_list_of path) lists else None

-- What a state in memory keeps: a well-formed pod, and its access lists.
pub record KeepsLists (state : NumberedPod) (kept : List AclList) : Type 0 where
  pub number : state.next ≤ 2 ^ 63
  pub well_formed : WellFormed state.pod
  pub lists : kept ≡ lists_of state.pod.base state.pod.rows
