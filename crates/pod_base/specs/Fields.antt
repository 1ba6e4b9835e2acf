-- How the fields of a message are found.
use Rattle.std.specs.Prelude.{Bool, List, ℕ}
use Rattle.std.specs.Str.{str_eq_ignore_ascii_case}
use Rattle.pod_base.specs.declared.field.Field.{Field}

-- whether that is the field's name; letters of ASCII are compared in any case (RFC 9110 section
-- 5.1)
abbrev pub is_named : List ℕ → Field → Bool
is_named name field = str_eq_ignore_ascii_case field.name name
