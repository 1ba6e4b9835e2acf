-- Whether a connection persists after a response (RFC 9112, section 9.3).
use Rattle.std.specs.Prelude.{ℕ, Bool, ◌||◌, ◌==◌, List, codes}
use Rattle.std.specs.List.{list_any, slice_split}
use Rattle.std.specs.Str.{str_eq_ignore_ascii_case}
use Rattle.httparse.specs.Grammar.{trim_ows}
use Rattle.pod_base.specs.declared.field.Field.{Field}
use Rattle.http_head.specs.Fields.{fields_named}

-- whether `close` is among the connection options of a value, which commas separate
abbrev pub has_close_option : List ℕ → Bool
has_close_option value =
    list_any (λ option. str_eq_ignore_ascii_case (trim_ows option) (codes "close"))
    (slice_split (λ b. b == 44) value)

-- The connection closes after the response: some Connection field has the option `close`, or the
-- version is 1.0.
abbrev pub closes : ℕ → List Field → Bool
closes minor fields =
    minor == 0 || list_any
    (λ f. has_close_option f.value) (fields_named (codes "connection") fields)
