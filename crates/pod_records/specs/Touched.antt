-- What a well-formed pod has at a path, by what is found at it and at those that it is related to.
use Rattle.std.specs.Prelude.{ℕ, Bool, true, false, not, ◌&&◌, ◌||◌, nat_le, ◌-◌}
use Rattle.std.specs.Prelude.{List, length, Option, Some, None, is_some}
use Rattle.std.specs.List.{list_all}
use Rattle.pod_command.specs.declared.row.Content.{Content}
use Rattle.pod_command.specs.declared.row.Row.{Row}
use Rattle.pod_path.specs.Hierarchy.{acl_of, is_root, meta_of, parent_of, subject_of, twin_of}
use Rattle.pod_edits.specs.Refusals.{is_root_list}
use Rattle.pod_rows.specs.Pod.{Pod}
use Rattle.pod_rows.specs.Tree.{children_of}
use Rattle.pod_rows.specs.WellFormed.{has_normal_path, has_right_kind, guards_content}
use Rattle.pod_rows.specs.WellFormed.{lacks_stored_containment}
use Rattle.pod_rows.specs.declared.limits.TheConstants.{ROWS_LIMIT}
use Rattle.pod_records.specs.Made.{added, gone}
use Rattle.pod_records.specs.declared.edited_rows.Made.{Made}

-- What is found at each path.
abbrev pub is_there : (List ℕ → Option Row) → List ℕ → Bool
is_there found path = is_some (found path)

abbrev pub is_there_of : (List ℕ → Option Row) → Option (List ℕ) → Bool
is_there_of found None = false
is_there_of found (Some path) = is_there found path

abbrev pub has_parent : (List ℕ → Option Row) → List ℕ → Bool
has_parent found path = is_root path || is_there_of found (parent_of path)

abbrev pub lacks_twin : (List ℕ → Option Row) → List ℕ → Bool
lacks_twin found path = not (is_there_of found (twin_of path))

abbrev pub is_subject_there : (List ℕ → Option Row) → Option (List ℕ) → Bool
is_subject_there found None = true
is_subject_there found (Some subject) = is_there found subject

abbrev pub has_subject : (List ℕ → Option Row) → List ℕ → Bool
has_subject found path = is_subject_there found (subject_of path)

-- The rows that a row at the path needs exist, and its twin doesn't.
unfoldable pub is_placed : (List ℕ → Option Row) → List ℕ → Bool
is_placed found path = has_parent found path && (lacks_twin found path && has_subject found path)

abbrev pub none_there : (List ℕ → Option Row) → List (List ℕ) → Bool
none_there found paths = list_all (λ path. not (is_there found path)) paths

-- No child that a container had exists.
unfoldable pub lacks_children : List Row → (List ℕ → Option Row) → List ℕ → Bool
lacks_children old found path = none_there found (children_of old path)

unfoldable pub lacks_auxiliaries : (List ℕ → Option Row) → List ℕ → Bool
lacks_auxiliaries found path =
    not (is_there_of found (acl_of path)) && not (is_there_of found (meta_of path))

-- A row that every pod has.
abbrev pub is_kept : List ℕ → Bool
is_kept path = is_root path || is_root_list path

-- A path may have no row.
unfoldable pub is_free : List Row → (List ℕ → Option Row) → List ℕ → Bool
is_free old found path = not (is_kept path)
    && (lacks_children old found path && lacks_auxiliaries found path)

-- A row is valid by itself.
unfoldable pub is_right : Row → Bool
is_right row = has_normal_path row && (has_right_kind row && lacks_stored_containment row)

-- The root's access list gives the owner control.
unfoldable pub keeps_guard : Pod → List ℕ → Content → Bool
keeps_guard pod path content = not (is_root_list path) || guards_content pod content

-- What is at the path is as a well-formed pod has it.
abbrev pub is_row_fine : Pod → (List ℕ → Option Row) → List ℕ → Row → Bool
is_row_fine pod found path row = is_right row
    && (keeps_guard pod path row.content && is_placed found path)

abbrev pub is_fine_with : Pod → (List ℕ → Option Row) → List ℕ → Option Row → Bool
is_fine_with pod found path None = is_free pod.rows found path
is_fine_with pod found path (Some row) = is_row_fine pod found path row

unfoldable pub is_fine : Pod → (List ℕ → Option Row) → List ℕ → Bool
is_fine pod found path = is_fine_with pod found path (found path)

-- There are at most as many rows as a pod may have.
unfoldable pub has_room : List Row → List Made → Bool
has_room old made = nat_le (added made - gone made) (ROWS_LIMIT - length old)
