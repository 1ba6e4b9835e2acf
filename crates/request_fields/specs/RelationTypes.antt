-- Relation types in the value of `rel` (RFC 8288, section 3.3).
use Rattle.std.specs.Prelude.{ℕ, Bool, if◌then◌else◌, List}
use Rattle.std.specs.List.{list_any, slice_split}
use Rattle.std.specs.Str.{str_eq_ignore_ascii_case}
use Rattle.httparse.specs.Grammar.{is_ows}
use Rattle.field_list.specs.QuotedString.{is_quoted_string, meaning}

-- a text between blanks is the word, in any case
abbrev pub has_relation : List ℕ → List ℕ → Bool
has_relation word text =
    list_any (λ relation. str_eq_ignore_ascii_case relation word)
    (slice_split is_ows text)

-- what a token or a quoted string means
abbrev pub meant : List ℕ → List ℕ
meant value = if is_quoted_string value then meaning value else value

-- what the value means has the relation type
abbrev pub has_relation_type : List ℕ → List ℕ → Bool
has_relation_type word value = has_relation word (meant value)
