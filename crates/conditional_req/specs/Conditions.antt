-- The precondition fields of a request.
use Rattle.std.specs.Prelude.{◌≡◌, ℕ, Bool, not, ◌||◌, if◌then◌else◌, List, [], ◌∷◌, ◌++◌, filter}
use Rattle.std.specs.Prelude.{find, Option, codes, bytes_eq}
use Rattle.std.specs.List.{list_any}
use Rattle.std.specs.Option.{option_map, option_and_then}
use Rattle.httpdate.specs.Date.{parse_secs}
use Rattle.pod_base.specs.Fields.{is_named}
use Rattle.pod_base.specs.declared.field.Field.{Field}
use Rattle.field_list.specs.Joined.{joined_value}

abbrev pub is_condition : Field → Bool
is_condition field =
    is_named (codes "if-match") field || (is_named (codes "if-none-match") field
    || (is_named (codes "if-modified-since") field
    || is_named (codes "if-unmodified-since") field))

-- the precondition fields among these, in order
abbrev pub conditions : List Field → List Field
conditions fields = filter is_condition fields

-- some field has another value than `*`
abbrev pub needs_read : List Field → Bool
needs_read fields = list_any (λ f. not (bytes_eq f.value (codes "*"))) fields

-- the value of a field of entity tags, those of repeated fields joined by commas
abbrev pub matching : List Field → Option (List ℕ)
matching fields = joined_value (codes "if-match") fields

abbrev pub none_matching : List Field → Option (List ℕ)
none_matching fields = joined_value (codes "if-none-match") fields

-- The date of the first field of a name, in seconds since the beginning of 1970; none where it
-- can't be read.
abbrev pub date_of : List ℕ → List Field → Option ℕ
date_of name fields = option_and_then parse_secs (option_map (λ f. f.value) (find (is_named name) fields))

abbrev pub unmodified_since : List Field → Option ℕ
unmodified_since fields = date_of (codes "if-unmodified-since") fields

abbrev pub modified_since : List Field → Option ℕ
modified_since fields = date_of (codes "if-modified-since") fields

-- internal: the fields with one more, where it is a precondition
abbrev pub with_condition : List Field → Field → List Field
with_condition fields field = if is_condition field then fields ++ field ∷ [] else fields

-- internal: these are what the fields say
pub record AreRead (fields : List Field) (some none : Option (List ℕ)) (before after : Option ℕ) : Type 0 where
  pub matching_is : some ≡ matching fields
  pub none_matching_is : none ≡ none_matching fields
  pub unmodified_is : before ≡ unmodified_since fields
  pub modified_is : after ≡ modified_since fields
