-- The fields of a head by their names.
use Rattle.std.specs.Prelude.{ℕ, Bool, List, filter}
use Rattle.std.specs.List.{list_any}
use Rattle.pod_base.specs.Fields.{is_named}
use Rattle.pod_base.specs.declared.field.Field.{Field}

-- the fields of a name, in order
abbrev pub fields_named : List ℕ → List Field → List Field
fields_named name fields = filter (is_named name) fields

-- whether there is a field of the name
abbrev pub has_field : List ℕ → List Field → Bool
has_field name fields = list_any (is_named name) fields
