-- The scan for the end of a head in a text that grows.
use Rattle.std.specs.Prelude.{◌≡◌, ℕ, ◌+◌, ◌≤◌, Bool, true, false, not, ◌==◌, List, [], ◌∷◌, ◌++◌}
use Rattle.std.specs.Prelude.{length, take, drop, Option}
use Rattle.std.specs.Option.{option_map}
use Rattle.http_head.specs.declared.head_ends.TheConstants.{HEAD_LIMIT}
use Rattle.http_head.specs.HeadEnds.{head_length, length_in}

-- The state of a scan: how many bytes it has passed, and whether the request line begins among them
-- or right after them.
pub record ScanState : Type 0 where
  pub at : ℕ
  pub begun : Bool

abbrev pub scan_state : ℕ → Bool → ScanState
scan_state at begun = record { at = at; begun = begun }

-- whether bytes that begin with no empty line begin a line with bytes: a lone CR may still become a
-- line end
abbrev pub begins_line : List ℕ → Bool
begins_line [] = false
begins_line (b ∷ []) = not (b == 13)
begins_line (b ∷ c ∷ bytes) = true

-- the length of a head in the rest that a scan has not passed
abbrev pub length_from : Bool → List ℕ → Option ℕ
length_from true rest = head_length rest
length_from false rest = length_in rest

-- The bytes that were passed don't matter any more: however the window continues, its head ends
-- where that of the rest does.
pub record Passed (search : ScanState) (window : List ℕ) : Type 0 where
  pub there : search.at ≤ length window
  pub rest : (more : List ℕ) → length_in (window ++ more)
      ≡ option_map (λ n. n + search.at) (length_from search.begun (drop search.at (window ++ more)))

-- the state of the scan is true of each text with this prefix
abbrev pub HasScanned : ScanState → List ℕ → Type 0
HasScanned search text = Passed search (take HEAD_LIMIT text)

-- a prefix of the text is what the scan has passed or kept so far
pub record ScannedPrefixOf (search : ScanState) (text : List ℕ) : Type 0 where
  pub scanned : List ℕ
  pub more : List ℕ
  pub is : text ≡ scanned ++ more
  pub scanned_it : HasScanned search scanned
