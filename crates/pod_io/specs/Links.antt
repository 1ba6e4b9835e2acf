-- What the calls of a link count.
use Rattle.std.specs.Prelude.{◌≡◌, ℕ, ◌==◌, ◌≤◌, if◌then◌else◌, Result, Ok, Err, IsErrOf}
use Rattle.pod_base.specs.Counts.{CountIncreased}
use Rattle.pod_io.specs.Counts.{CountsFaults, CountsReads, CountsEnds, next_count}
use Rattle.pod_io.specs.declared.link.LinkFailed.{LinkFailed}
use Rattle.pod_io.specs.declared.link.LinkFailed.TheVariants.{Failed, Quiet}
use Rattle.pod_io.specs.declared.link.LinkCounts.{LinkCounts}

-- the count of quiet times after a read
abbrev pub quiet_after : Result ℕ LinkFailed → ℕ → ℕ
quiet_after (Ok count) quiet = quiet
quiet_after (Err Failed) quiet = quiet
quiet_after (Err Quiet) quiet = next_count quiet

-- The quiet times in a row after a read: none after one that gave bytes, one more after a quiet
-- time, and else as many as before.
abbrev pub quiet_row_after : Result ℕ LinkFailed → ℕ → ℕ
quiet_row_after (Ok count) row = if count == 0 then row else 0
quiet_row_after (Err Failed) row = row
quiet_row_after (Err Quiet) row = next_count row

-- What a read of a link counts: one that succeeded, one that found the end, one that failed, or a
-- quiet time. Its writes are not counted.
pub record CountsLinkRead (result : Result ℕ LinkFailed) (old new : LinkCounts) : Type 0 where
  pub reads : CountsReads result old.reads new.reads
  pub ends : CountsEnds result old.ends new.ends
  pub no_fewer : old.read_faults ≤ new.read_faults
  pub failed : IsErrOf result Failed → CountIncreased old.read_faults new.read_faults
  pub quiet : new.quiet ≡ quiet_after result old.quiet
  pub quiet_row : new.quiet_row ≡ quiet_row_after result old.quiet_row
  pub write_faults : new.write_faults ≡ old.write_faults

-- what a write of a link counts: one that failed
pub record CountsLinkWrite (result : Result ℕ LinkFailed) (old new : LinkCounts) : Type 0 where
  pub reads : new.reads ≡ old.reads
  pub ends : new.ends ≡ old.ends
  pub read_faults : new.read_faults ≡ old.read_faults
  pub quiet : new.quiet ≡ old.quiet
  pub quiet_row : new.quiet_row ≡ old.quiet_row
  pub write_faults : CountsFaults result old.write_faults new.write_faults
