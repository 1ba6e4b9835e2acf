-- The tests that refuse a change: one for each refusal by the place in the tree or by content.
use Rattle.std.specs.Prelude.{ℕ, suc, Bool, true, false, not, ◌&&◌, ◌+◌, ◌^◌, nat_lt, nat_le}
use Rattle.std.specs.Prelude.{bytes_eq, if◌then◌else◌, List, [], ◌∷◌, length, codes}
use Rattle.std.specs.List.{list_any}
use Rattle.pod_command.specs.declared.row.Kind.{Kind}
use Rattle.pod_command.specs.declared.row.Kind.TheVariants as kinds
use Rattle.pod_command.specs.declared.row.Row.{Row}
use Rattle.pod_path.specs.Hierarchy.{is_auxiliary, is_container, subject_of, twin_of}
use Rattle.rdf_graph.specs.declared.triple.Triple.{Triple}
use Rattle.pod_rows.specs.Guard.{guards}
use Rattle.pod_rows.specs.Pod.{Pod, is_row_of}
use Rattle.pod_rows.specs.Tree.{ancestors, children_of}
use Rattle.pod_rows.specs.WellFormed.{is_subject_row, lacks_containment}
use Rattle.pod_rows.specs.declared.limits.TheConstants.{ROWS_LIMIT}
use Rattle.pod_edits.specs.Places.{missing_of}

-- The twin of a new path, or that of a container above it, is a row (409 `twin`).
unfoldable pub meets_twin : List Row → List ℕ → Bool
meets_twin rows path = list_any (λ p. is_row_of rows (twin_of p)) (path ∷ ancestors path)

-- The subject of a new access list or description is no row (409 `subject`).
unfoldable pub lacks_subject : List Row → List ℕ → Bool
lacks_subject rows path = not (is_subject_row rows (subject_of path))

abbrev pub has_some : List (List ℕ) → Bool
has_some [] = false
has_some (path ∷ more) = true

-- A path to be removed has children (409 `not-empty`).
unfoldable pub has_children : List Row → List ℕ → Bool
has_children rows path = has_some (children_of rows path)

-- A row to be patched is of bytes (409 `not-graph`).
abbrev pub is_bytes : Kind → Bool
is_bytes kinds.Bytes = true
is_bytes kinds.Container = false
is_bytes kinds.Graph = false
is_bytes kinds.Acl = false
is_bytes kinds.Meta = false

-- How many rows a new one adds: itself, and the missing containers above what is no access list and
-- no description.
unfoldable pub added_rows : List Row → List ℕ → ℕ
added_rows rows path = if is_auxiliary path then 1 else suc (length (missing_of rows path))

-- There would be more rows than the limit (507 `rows`).
unfoldable pub exceeds_rows : List Row → ℕ → Bool
exceeds_rows rows added = nat_lt ROWS_LIMIT (length rows + added)

-- There is no number for a further change (507 `rows`).
unfoldable pub lacks_number : ℕ → Bool
lacks_number next = nat_le (2 ^ 63) next

-- A container's triples, or those of a patch of one, state what it contains (409 `contains`).
unfoldable pub states_containment : List ℕ → List Triple → Bool
states_containment path triples = is_container path && not (lacks_containment triples)

-- The path of the root's access list.
abbrev pub is_root_list : List ℕ → Bool
is_root_list path = bytes_eq path (codes "/.acl")

-- The new graph of the root's access list takes control from the owner (409 `owner`).
unfoldable pub breaks_guard : Pod → List ℕ → List Triple → Bool
breaks_guard pod path triples = is_root_list path && not (guards pod.base pod.owner triples)
