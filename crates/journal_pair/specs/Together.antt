-- What a run leaves of two disks at each moment.
use Rattle.std.specs.Prelude.{ℕ, List}
use Rattle.pod_disk.specs.Disk.{LeavesOnly}

-- Whatever a crash at a moment since left of the one disk has P with whatever one left of the other
-- since. And the run left nothing else: what a crash since an earlier moment leaves of a disk might
-- have been left before the run, or it has P so.
pub record LeavesTogether {D : Type 0} (moment : D → ℕ) (left_since : D → ℕ → List ℕ → Type 0)
    (first second first_new second_new : D) (P : List ℕ → List ℕ → Type 0) : Type 0 where
  pub on_first : LeavesOnly moment left_since first first_new
      (λ (c : List ℕ). (d : List ℕ) → left_since second_new (moment second) d → P c d)
  pub on_second : LeavesOnly moment left_since second second_new
      (λ (d : List ℕ). (c : List ℕ) → left_since first_new (moment first) c → P c d)
