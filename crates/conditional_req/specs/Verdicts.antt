-- The verdict on a request's preconditions (RFC 9110, section 13.2.2).
use Rattle.std.specs.Prelude.{◌≡◌, ℕ, Bool, true, false, not, ◌&&◌, ◌||◌, nat_lt, nat_le, min}
use Rattle.std.specs.Prelude.{if◌then◌else◌, List, [], Option, Some, None, is_some}
use Rattle.pod_base.specs.declared.field.Field.{Field}
use Rattle.pod_base.specs.declared.moment.TheConstants.{LAST_SECOND}
use Rattle.pod_base.specs.declared.method.Method.{Method}
use Rattle.pod_base.specs.declared.method.Method.TheVariants.{Get, Head, Options, Post, Put, Patch}
use Rattle.pod_base.specs.declared.method.Method.TheVariants.{Delete, Other}
use Rattle.conditional_req.specs.declared.precondition_verdict.Current.{Current}
use Rattle.conditional_req.specs.declared.precondition_verdict.Verdict.{Verdict}
use Rattle.conditional_req.specs.declared.precondition_verdict.Verdict.TheVariants.{Go, NotModified}
use Rattle.conditional_req.specs.declared.precondition_verdict.Verdict.TheVariants.{Failed}
use Rattle.conditional_req.specs.declared.tag.Tag.{Tag}
use Rattle.conditional_req.specs.TagLists.{is_any, are_tags, has_strong_match, has_weak_match}
use Rattle.conditional_req.specs.Conditions.{matching, none_matching, unmodified_since}
use Rattle.conditional_req.specs.Conditions.{modified_since}

-- What preconditions compare with, where the resource exists: the tags of its representations, and
-- the moment of its last change.
pub record Validators : Type 0 where
  pub tags : List Tag
  pub modified : ℕ

abbrev pub validators : List Tag → ℕ → Validators
validators tags modified = record { tags = tags; modified = modified }

-- those of a state of the resource
abbrev pub validators_of : Current → Validators
validators_of current = validators current.tags.now current.modified.0

-- the tags of the resource, none where there is none
abbrev pub tags_of : Option Validators → List Tag
tags_of None = []
tags_of (Some current) = current.tags

-- the second of the last change that dates compare with
abbrev pub second_of : Validators → ℕ
second_of current = min current.modified LAST_SECOND

-- Step 1. If-Match fails: `*` without a resource, a malformed value, a list without a strongly
-- equal tag.
abbrev pub match_fails : Option (List ℕ) → Option Validators → Bool
match_fails None current = false
match_fails (Some value) current =
    if is_any value then not (is_some current)
    else not (are_tags value && has_strong_match (tags_of current) value)

-- the resource was changed after the date, if there are both
abbrev pub is_later : Option ℕ → Option Validators → Bool
is_later date None = false
is_later None (Some current) = false
is_later (Some date) (Some current) = nat_lt date (second_of current)

-- the resource wasn't changed after the date, if there are both
abbrev pub is_not_later : Option ℕ → Option Validators → Bool
is_not_later date None = false
is_not_later None (Some current) = false
is_not_later (Some date) (Some current) = nat_le (second_of current) date

-- If-None-Match counts: it isn't malformed
abbrev pub has_none_match : Option (List ℕ) → Bool
has_none_match None = false
has_none_match (Some value) = is_any value || are_tags value

-- Step 3. If-None-Match fails: `*` with a resource, a list with a weakly equal tag.
abbrev pub none_match_fails : Option (List ℕ) → Option Validators → Bool
none_match_fails None current = false
none_match_fails (Some value) current =
    if is_any value then is_some current
    else (are_tags value && has_weak_match (tags_of current) value)

abbrev pub is_reading : Method → Bool
is_reading Get = true
is_reading Head = true
is_reading Options = false
is_reading Post = false
is_reading Put = false
is_reading Patch = false
is_reading Delete = false
is_reading Other = false

-- OPTIONS has no preconditions.
abbrev pub has_preconditions : Method → Bool
has_preconditions Options = false
has_preconditions Get = true
has_preconditions Head = true
has_preconditions Post = true
has_preconditions Put = true
has_preconditions Patch = true
has_preconditions Delete = true
has_preconditions Other = true

-- Steps 1 and 2: If-Match fails, or there is none and the resource was changed after
-- If-Unmodified-Since.
abbrev pub is_refused : List Field → Option Validators → Bool
is_refused fields current =
    if is_some (matching fields) then match_fails (matching fields) current
    else is_later (unmodified_since fields) current

-- Steps 3 and 4: If-None-Match fails, or none counts, and for GET and HEAD the resource wasn't
-- changed after If-Modified-Since.
abbrev pub is_known : List Field → Method → Option Validators → Bool
is_known fields method current =
    if has_none_match (none_matching fields) then none_match_fails (none_matching fields) current
    else (is_reading method && is_not_later (modified_since fields) current)

-- The verdict, by the steps in their order.
abbrev pub verdict : List Field → Method → Option Validators → Verdict
verdict fields method current =
    if not (has_preconditions method) then Go
    else (if is_refused fields current then Failed
    else (if not (is_known fields method current) then Go
    else (if is_reading method then NotModified else Failed)))

-- The value lists tags, which are compared with those of the resource. `*` and a malformed value
-- don't.
abbrev pub lists_tags : Option (List ℕ) → Bool
lists_tags None = false
lists_tags (Some value) = not (is_any value) && are_tags value

-- some field compares with the tags of the resource
abbrev pub compares_tags : List Field → Bool
compares_tags fields = lists_tags (matching fields) || lists_tags (none_matching fields)

-- The verdict is the same whatever the tags of the resource are.
abbrev pub IgnoresTags : List Field → Type 0
IgnoresTags fields = (method : Method) (first second : Validators)
    → first.modified ≡ second.modified
    → verdict fields method (Some first) ≡ verdict fields method (Some second)

-- The verdict is the same whatever the state of the resource is.
abbrev pub IgnoresState : List Field → Type 0
IgnoresState fields = (method : Method) (first second : Validators)
    → verdict fields method (Some first) ≡ verdict fields method (Some second)
