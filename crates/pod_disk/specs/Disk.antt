-- What the calls of a disk do, and what a crash may leave between two syncs.
use Rattle.std.specs.Prelude.{◌≡◌, ◌≤◌, ◌⊎◌, ◌+◌, ℕ, min, max, List, ◌++◌, length, take, drop}

-- the file with these bytes at this offset
abbrev pub overwritten : ℕ → List ℕ → List ℕ → List ℕ
overwritten at bytes file = take at file ++ bytes ++ drop (at + length bytes) file

-- A write of that many bytes which a crash may cut short: any bytes in the range and past the old
-- end, the same bytes elsewhere. The old length may lie below the offset, where an earlier write is
-- not on the disk yet. What lies between may then hold any bytes too.
pub record Torn (at count : ℕ) (old new : List ℕ) : Type 0 where
  pub before : take (min at (length old)) new ≡ take at old
  pub behind : drop (at + count) new ≡ drop (at + count) old
  pub no_shorter : length old ≤ length new
  pub no_longer : length new ≤ max (length old) (at + count)

-- A cut to that length which a crash may undo in part: some length between the two, and the same
-- bytes below both. Past the lesser of them any bytes may stand.
pub record TornCut (len : ℕ) (old new : List ℕ) : Type 0 where
  pub no_shorter : min len (length old) ≤ length new
  pub no_longer : length new ≤ max len (length old)
  pub below : take (min len (length old)) new ≡ take len old

-- a call that changes nothing
abbrev pub Unchanged : List ℕ → List ℕ → Type 0
Unchanged old new = old ≡ new

-- each of these crash images has P
abbrev pub EachImage : (List ℕ → Type 0) → (List ℕ → Type 0) → Type 0
EachImage images P = (c : List ℕ) → images c → P c

-- One call. Each image after it is one from before it after this step. A crash since an earlier
-- moment may have left what it might have left before, or one of the images now, and nothing else.
pub record Passes {D : Type 0} (image : D → List ℕ → Type 0) (moment : D → ℕ) (left_since : D → ℕ
    → List ℕ → Type 0) (Step : List ℕ → List ℕ → Type 0) (old new : D) : Type 0 where
  pub images : (c : List ℕ) → image new c → (d : List ℕ) × image old d × Step d c
  pub later : moment old ≤ moment new
  pub nothing_else : (t : ℕ) (c : List ℕ) → t ≤ moment old → left_since new t c → left_since old t c
      ⊎ image new c
  pub keeps : (t : ℕ) (c : List ℕ) → t ≤ moment old → left_since old t c → left_since new t c

-- At every moment since old a crash leaves only what has P.
pub record LeavesOnly {D : Type 0} (moment : D → ℕ) (left_since : D → ℕ → List ℕ
    → Type 0) (old new : D) (P : List ℕ → Type 0) : Type 0 where
  pub later : moment old ≤ moment new
  pub each : (c : List ℕ) → left_since new (moment old) c → P c
  -- for a run that began earlier
  pub before : (t : ℕ) (c : List ℕ) → t ≤ moment old → left_since new t c → left_since old t c ⊎ P c
