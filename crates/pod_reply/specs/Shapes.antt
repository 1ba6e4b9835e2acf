-- What of a request decides its needs.
use Rattle.std.specs.Prelude.{◌≡◌, ℕ, Bool, true, false, not, IsTrue, if◌then◌else◌, List, [], ◌∷◌}
use Rattle.std.specs.Prelude.{Option, Some, None, unwrap_or}
use Rattle.std.specs.List.{list_any}
use Rattle.pod_base.specs.declared.request.Request.{Request}
use Rattle.conditional_req.specs.Conditions.{conditions, needs_read}
use Rattle.pod_command.specs.declared.row.Row.{Row}
use Rattle.pod_edits.specs.Places.{nearest_of, IsPlaceOf}
use Rattle.pod_edits.specs.declared.new_row_place.Place.{Place}
use Rattle.pod_rows.specs.Pod.{Pod, is_row}
use Rattle.request_body.specs.declared.body.RequestBody.{RequestBody}
use Rattle.request_body.specs.declared.body.RequestBody.TheVariants.{Patch, Update}
use Rattle.sparql_patch.specs.declared.named.Named.{Named}
use Rattle.pod_access.specs.declared.request_needs.Shape.{Shape}

abbrev pub is_some_of : {X : Type 0} → List X → Bool
is_some_of [] = false
is_some_of (x ∷ xs) = true

abbrev pub is_insertion : Named → Bool
is_insertion naming = naming.insert

abbrev pub is_deletion : Named → Bool
is_deletion naming = not naming.insert

-- Whether a body has conditions, deletions, insertions. An update has those that it names.
abbrev pub has_conditions : RequestBody → Bool
has_conditions (Patch patch) = is_some_of patch.conditions.items
has_conditions other = false

abbrev pub has_deletions : RequestBody → Bool
has_deletions (Patch patch) = is_some_of patch.deletions.items
has_deletions (Update named) = list_any is_deletion named.items
has_deletions other = false

abbrev pub has_insertions : RequestBody → Bool
has_insertions (Patch patch) = is_some_of patch.insertions.items
has_insertions (Update named) = list_any is_insertion named.items
has_insertions other = false

-- The nearest ancestor of a path that is no row. The needs of a row don't depend on it.
abbrev pub above_of : Pod → List ℕ → List ℕ
above_of pod path = if is_row pod.rows path then path else unwrap_or (nearest_of pod.rows path) path

-- Where a path that is no row would go, and that it is none.
abbrev pub IsPlaced : List Row → List ℕ → Option Place → Type 0
IsPlaced rows path None = IsTrue (is_row rows path)
IsPlaced rows path (Some place) = (is_row rows path ≡ false) × IsPlaceOf rows path place

-- The shape of a request to a path with this body.
abbrev pub shape_of : Pod → Request → List ℕ → RequestBody → Shape
shape_of pod request path body = record {
  method = request.method;
  path = path;
  exists = is_row pod.rows path;
  above = above_of pod path;
  conditions = has_conditions body;
  deletions = has_deletions body;
  insertions = has_insertions body;
  tags = needs_read (conditions request.fields);
}
