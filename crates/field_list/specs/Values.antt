-- The values of the fields of a name (RFC 9110, section 5.2).
use Rattle.std.specs.Prelude.{ℕ, List, [], ◌∷◌, Option, Some, None, map, filter}
use Rattle.pod_base.specs.Fields.{is_named}
use Rattle.pod_base.specs.declared.field.Field.{Field}

-- the values of the fields of a name, in order
abbrev pub values : List ℕ → List Field → List (List ℕ)
values name fields = map (λ f. f.value) (filter (is_named name) fields)

-- the one item of a list; none where it has none or several
abbrev pub only : List (List ℕ) → Option (List ℕ)
only [] = None
only (value ∷ []) = Some value
only (value ∷ second ∷ more) = None

-- the value of the only field of a name
abbrev pub only_value : List ℕ → List Field → Option (List ℕ)
only_value name fields = only (values name fields)
