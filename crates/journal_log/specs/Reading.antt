-- Runs of calls that only read.
use Rattle.std.specs.Prelude.{◌≡◌, ◌≤◌, ℕ, List, Option, take, drop, length}
use Rattle.pod_io.specs.Visible.{IfVisible}
use Rattle.pod_disk.specs.Disk.{EachImage}
use Rattle.journal_log.specs.declared.window.Window.{Window}

-- A run of calls that change nothing: what a crash may leave afterwards, and might have left at a
-- moment inside, it might have left before.
pub record OnlyReads {D : Type 0} (image : D → List ℕ → Type 0) (moment : D → ℕ) (left_since : D → ℕ
    → List ℕ → Type 0) (old new : D) : Type 0 where
  pub images : EachImage (image new) (image old)
  pub later : moment old ≤ moment new
  pub nothing_else : (t : ℕ) (c : List ℕ) → t ≤ moment old → left_since new t c → left_since old t c

-- the window holds bytes of this disk, and knows its length
pub record WindowShows (window : Window) (disk : List ℕ) : Type 0 where
  pub size : length disk ≡ window.size
  pub bytes : take window.filled window.buffer.items ≡ take window.filled (drop window.at disk)

-- after reads that succeeded the disk gives what it gave, and the window shows it
pub record ReadKeeps (old new : Option (List ℕ)) (before after : Window) : Type 0 where
  pub content : new ≡ old
  pub size : after.size ≡ before.size
  pub shown : IfVisible new (WindowShows after)
