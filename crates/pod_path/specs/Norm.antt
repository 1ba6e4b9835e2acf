-- The normal path of a request's target, or the first fault.
use Rattle.std.specs.Prelude.{◌≡◌, ℕ, Bool, true, false, not, ◌&&◌, ◌||◌, nat_eq, nat_le, nat_lt}
use Rattle.std.specs.Prelude.{bytes_eq, codes, if◌then◌else◌, List, [], ◌∷◌, length, drop, Option}
use Rattle.std.specs.Prelude.{Some, None, Result, Ok, Err}
use Rattle.std.specs.List.{list_all, list_any, ends_with, before_first}
use Rattle.iri_ref.specs.Characters.{is_slash}
use Rattle.iri_ref.specs.Segments.{segments, is_dot_segment}
use Rattle.pod_path.specs.declared.limits.TheConstants.{PATH_BYTES_LIMIT, PATH_SEGMENTS_LIMIT}
use Rattle.pod_path.specs.declared.fault.PathFault.{PathFault}
use Rattle.pod_path.specs.declared.fault.PathFault.TheVariants.{BadEscape, NotNormal, Reserved}
use Rattle.pod_path.specs.declared.fault.PathFault.TheVariants.{TooLong, TooDeep, NoMemory}
use Rattle.pod_path.specs.Characters.{is_path_character}
use Rattle.iri_ref.specs.Characters.{is_question_mark}
use Rattle.pod_path.specs.Escapes.{normalize_escapes}

abbrev pub is_empty : List ℕ → Bool
is_empty [] = true
is_empty (c ∷ cs) = false

-- The segments after the first slash: the last may be empty, and none is a dot segment.
abbrev pub are_normal : List (List ℕ) → Bool
are_normal [] = false
are_normal (s ∷ []) = not (is_dot_segment s)
are_normal (s ∷ t ∷ ss) = not (is_empty s) && (not (is_dot_segment s) && are_normal (t ∷ ss))

-- The name of an ACL or of a description.
abbrev pub is_auxiliary_name : List ℕ → Bool
is_auxiliary_name s = ends_with nat_eq s (codes ".acl") || ends_with nat_eq s (codes ".meta")

abbrev pub has_reserved_end : List ℕ → Bool
has_reserved_end s = list_any (λ end. ends_with nat_eq s end)
    (codes ".acl.acl" ∷ codes ".meta.acl" ∷ codes ".acl.meta" ∷ codes ".meta.meta" ∷ [])

abbrev pub is_dot_auxiliary : List ℕ → Bool
is_dot_auxiliary s = list_any (λ name. bytes_eq s name)
    (codes "..acl" ∷ codes "...acl" ∷ codes "..meta" ∷ codes "...meta" ∷ [])

-- The name of an ACL or of a description of what can have none, or of a dot segment.
abbrev pub is_reserved_name : List ℕ → Bool
is_reserved_name s = has_reserved_end s || is_dot_auxiliary s

-- An auxiliary before the last slash, or a reserved name after it.
abbrev pub are_reserved : List (List ℕ) → Bool
are_reserved [] = false
are_reserved (s ∷ []) = is_reserved_name s
are_reserved (s ∷ t ∷ ss) = is_auxiliary_name s || are_reserved (t ∷ ss)

-- How many segments these are, or why they are those of no path.
abbrev pub segment_count : List (List ℕ) → Result ℕ PathFault
segment_count ss = if are_normal ss then (if are_reserved ss then Err Reserved else Ok (length ss))
    else Err NotNormal

-- The text, where its segments are counted.
abbrev pub if_counted : List ℕ → Result ℕ PathFault → Result (List ℕ) PathFault
if_counted text (Ok count) = Ok text
if_counted text (Err fault) = Err fault

-- A slash, and then characters of paths.
abbrev pub has_path_characters : List ℕ → Bool
has_path_characters [] = false
has_path_characters (c ∷ cs) = is_slash c && list_all is_path_character cs

-- Steps 2 and 3: a text of segments that are normal and not reserved.
abbrev pub checked_text : List ℕ → Result (List ℕ) PathFault
checked_text text = if has_path_characters text then if_counted text
    (segment_count (segments (drop 1 text))) else Err NotNormal

-- Steps 1 to 3.
abbrev pub checked_escapes : Option (List ℕ) → Result (List ℕ) PathFault
checked_escapes None = Err BadEscape
checked_escapes (Some text) = checked_text text

abbrev pub path_text_of : List ℕ → Result (List ℕ) PathFault
path_text_of text = checked_escapes (normalize_escapes text)

-- A text that steps 1 to 3 leave as it is.
abbrev pub IsPath : List ℕ → Type 0
IsPath text = path_text_of text ≡ Ok text

-- How many segments follow the first slash.
abbrev pub depth : List ℕ → ℕ
depth text = length (segments (drop 1 text))

-- Steps 4 and 5: the limits of bytes and segments.
abbrev pub within_limits : Result (List ℕ) PathFault → Result (List ℕ) PathFault
within_limits (Err fault) = Err fault
within_limits (Ok path) = if nat_lt PATH_BYTES_LIMIT (length path) then Err TooLong
    else (if nat_lt PATH_SEGMENTS_LIMIT (depth path) then Err TooDeep else Ok path)

-- Has the path at most 1,024 bytes and 32 segments?
abbrev pub is_within_limits : List ℕ → Bool
is_within_limits path = nat_le (length path) PATH_BYTES_LIMIT
    && nat_le (depth path) PATH_SEGMENTS_LIMIT

-- The normal path of a target, without its query, or the fault of the first step that fails.
abbrev pub norm : List ℕ → Result (List ℕ) PathFault
norm target = within_limits (path_text_of (before_first is_question_mark target))

-- A limit was passed, or memory ran out.
abbrev pub IsLimitFault : PathFault → Type 0
IsLimitFault TooLong = Unit {0}
IsLimitFault TooDeep = Unit {0}
IsLimitFault NoMemory = Unit {0}
IsLimitFault BadEscape = ⊥
IsLimitFault NotNormal = ⊥
IsLimitFault Reserved = ⊥

-- Memory ran out, or parsing has this fault.
abbrev pub FailsAs : PathFault → Result (List ℕ) PathFault → Type 0
FailsAs BadEscape read = read ≡ Err BadEscape
FailsAs NotNormal read = read ≡ Err NotNormal
FailsAs Reserved read = read ≡ Err Reserved
FailsAs TooLong read = read ≡ Err TooLong
FailsAs TooDeep read = read ≡ Err TooDeep
FailsAs NoMemory read = Unit {0}
