-- Dot segments (RFC 3986, section 5.2.4), on the whole list of a path's segments.
use Rattle.std.specs.Prelude.{ℕ, Bool, not, ◌||◌, IsTrue, if◌then◌else◌, bytes_eq, codes, List, []}
use Rattle.std.specs.Prelude.{◌∷◌, ◌++◌, fold}
use Rattle.std.specs.List.{slice_split, join_with_byte, list_any}
use Rattle.iri_ref.specs.Characters.{slash, is_slash}

-- The parts of a path between its slashes, before the first and after the last.
abbrev pub segments : List ℕ → List (List ℕ)
segments path = slice_split is_slash path

abbrev pub is_single_dot : List ℕ → Bool
is_single_dot segment = bytes_eq segment (codes ".")

abbrev pub is_double_dot : List ℕ → Bool
is_double_dot segment = bytes_eq segment (codes "..")

abbrev pub is_dot_segment : List ℕ → Bool
is_dot_segment segment = is_single_dot segment || is_double_dot segment

-- A path that ends in a dot segment has a slash after it.
abbrev pub with_trailing_slash : List (List ℕ) → List (List ℕ)
with_trailing_slash [] = []
with_trailing_slash (s ∷ []) = if is_dot_segment s then s ∷ [] ∷ [] else s ∷ []
with_trailing_slash (s ∷ t ∷ ss) = s ∷ with_trailing_slash (t ∷ ss)

-- Without the last segment. The empty segment replaces the only one, so nothing climbs above the
-- root.
abbrev pub without_last_segment : List (List ℕ) → List (List ℕ)
without_last_segment [] = [] ∷ []
without_last_segment (s ∷ []) = [] ∷ []
without_last_segment (s ∷ t ∷ []) = s ∷ []
without_last_segment (s ∷ t ∷ u ∷ ss) = s ∷ without_last_segment (t ∷ u ∷ ss)

-- The segments after one more.
abbrev pub push_segment : List (List ℕ) → List ℕ → List (List ℕ)
push_segment kept segment = if is_single_dot segment then kept
    else (if is_double_dot segment then without_last_segment kept else kept ++ segment ∷ [])

-- Leading dot segments are dropped, and the first other segment stays.
abbrev pub kept_segments : List (List ℕ) → List (List ℕ)
kept_segments [] = []
kept_segments (s ∷ ss) = if is_dot_segment s then kept_segments ss
    else fold push_segment (s ∷ []) ss

-- The path without dot segments.
abbrev pub remove_dot_segments : List ℕ → List ℕ
remove_dot_segments path = join_with_byte slash
    (kept_segments (with_trailing_slash (segments path)))

-- No segment of the path is a dot segment.
abbrev pub HasNoDotSegments : List ℕ → Type 0
HasNoDotSegments path = IsTrue (not (list_any is_dot_segment (segments path)))
