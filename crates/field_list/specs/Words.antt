-- Words in lists of tokens, as the options of a connection (RFC 9110, section 7.6.1).
use Rattle.std.specs.Prelude.{ℕ, Bool, ◌&&◌, ◌==◌, List}
use Rattle.std.specs.List.{list_any, slice_split}
use Rattle.std.specs.Str.{str_eq_ignore_ascii_case}
use Rattle.httparse.specs.Grammar.{trim_ows}
use Rattle.pod_base.specs.Fields.{is_named}
use Rattle.pod_base.specs.declared.field.Field.{Field}
use Rattle.field_list.specs.Elements.{comma}
use Rattle.field_list.specs.Values.{values}

-- the word is among the texts between commas, in any case and without the blanks around them
abbrev pub has_word : List ℕ → List ℕ → Bool
has_word word value =
    list_any (λ text. str_eq_ignore_ascii_case (trim_ows text) word)
    (slice_split (λ b. b == comma) value)

-- some field of the name has the word
abbrev pub some_has_word : List ℕ → List ℕ → List Field → Bool
some_has_word name word fields = list_any (has_word word) (values name fields)

-- internal: the field has the name and the word
abbrev pub names_word : List ℕ → List ℕ → Field → Bool
names_word name word field = is_named name field && has_word word field.value
