-- A path that is written at the end of a text, segment by segment.
use Rattle.std.specs.Prelude.{ℕ, Bool, false, if◌then◌else◌, List, [], ◌∷◌, ◌++◌, Option, Some}
use Rattle.std.specs.Prelude.{None, fold}
use Rattle.std.specs.List.{before_last}
use Rattle.iri_ref.specs.Characters.{slash, is_slash}
use Rattle.iri_ref.specs.Segments.{is_single_dot, is_double_dot, is_dot_segment}

-- The text before the path, and the path so far: none before the first segment.
pub record WriterState : Type 0 where
  pub before : List ℕ
  pub path : Option (List ℕ)

-- The path after one more segment.
abbrev pub after_segment : Option (List ℕ) → List ℕ → Option (List ℕ)
after_segment None segment = if is_dot_segment segment then None else Some segment
after_segment (Some path) segment = if is_single_dot segment then Some path
    else (if is_double_dot segment then Some (before_last is_slash path)
    else Some (path ++ slash ∷ segment))

abbrev pub after_segments : Option (List ℕ) → List (List ℕ) → Option (List ℕ)
after_segments path segments = fold after_segment path segments

-- Is there a last segment that is a dot segment?
abbrev pub ends_in_dot_segment : List (List ℕ) → Bool
ends_in_dot_segment [] = false
ends_in_dot_segment (s ∷ []) = is_dot_segment s
ends_in_dot_segment (s ∷ t ∷ ss) = ends_in_dot_segment (t ∷ ss)
