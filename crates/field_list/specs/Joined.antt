-- The value of a field that is repeated (RFC 9110, section 5.3).
use Rattle.std.specs.Prelude.{ℕ, if◌then◌else◌, List, [], ◌∷◌, Option, Some, None, map, filter}
use Rattle.std.specs.List.{join_with_byte}
use Rattle.pod_base.specs.Fields.{is_named}
use Rattle.pod_base.specs.declared.field.Field.{Field}

-- the values, joined by commas; none where there is none
abbrev pub joined : List (List ℕ) → Option (List ℕ)
joined [] = None
joined (value ∷ values) = Some (join_with_byte 44 (value ∷ values))

-- the values of the fields of a name, joined
abbrev pub joined_value : List ℕ → List Field → Option (List ℕ)
joined_value name fields = joined (map (λ f. f.value) (filter (is_named name) fields))

-- internal: what a further field adds to the value
abbrev pub added : List ℕ → Field → List ℕ
added name field = if is_named name field then 44 ∷ field.value else []
