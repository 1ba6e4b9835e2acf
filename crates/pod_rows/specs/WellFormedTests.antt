-- Well-formed pods, as tests.
use Rattle.std.specs.Prelude.{ℕ, Bool, true, false, not, ◌&&◌, ◌||◌, nat_le, List, [], ◌∷◌, length}
use Rattle.std.specs.List.{list_all}
use Rattle.pod_path.specs.Hierarchy.{is_container}
use Rattle.pod_command.specs.declared.row.Row.{Row}
use Rattle.pod_rows.specs.Apply.{is_before}
use Rattle.pod_rows.specs.Base.{is_base}
use Rattle.pod_rows.specs.Pod.{Pod, is_row}
use Rattle.pod_rows.specs.WellFormed.{has_normal_path, has_right_kind, lacks_stored_containment}
use Rattle.pod_rows.specs.WellFormed.{has_first_rows, has_parent, lacks_twin, has_subject}
use Rattle.pod_rows.specs.declared.limits.TheConstants.{ROWS_LIMIT}

-- Is the path of the row before that of the next, if there is one?
abbrev pub is_before_next : Row → List Row → Bool
is_before_next row [] = true
is_before_next row (next ∷ more) = is_before row.path next.path

abbrev pub in_order : List Row → Bool
in_order [] = true
in_order (row ∷ more) = is_before_next row more && in_order more

-- What each row has by itself.
unfoldable pub are_rows_right : List Row → Bool
are_rows_right rows = list_all has_normal_path rows
    && (list_all has_right_kind rows && list_all lacks_stored_containment rows)

-- Is there no text, or is it the path of a row?
abbrev pub is_empty : List ℕ → Bool
is_empty [] = true
is_empty (c ∷ cs) = false

abbrev pub is_known : List Row → List ℕ → Bool
is_known rows text = is_empty text || is_row rows text

-- Is the row no container, or its twin no row?
abbrev pub lacks_container_twin : List Row → Row → Bool
lacks_container_twin rows row = not (is_container row.path) || lacks_twin rows row

-- What rows have in common.
unfoldable pub are_rows_related : List Row → Bool
are_rows_related rows = list_all (has_parent rows) rows
    && (list_all (lacks_twin rows) rows && list_all (has_subject rows) rows)

-- What the pod has as a whole.
unfoldable pub is_pod_right : Pod → Bool
is_pod_right pod = nat_le (length pod.rows) ROWS_LIMIT
    && (is_base pod.base && has_first_rows pod)
