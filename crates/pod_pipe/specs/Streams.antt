-- What a run reads of its input.
use Rattle.std.specs.Prelude.{◌≡◌, ◌⊎◌, ℕ, ◌+◌, ◌-◌, ◌^◌, ◌≤◌, min, List, [], ◌++◌, Option}
use Rattle.std.specs.Option.{option_map}
use Rattle.pod_io.specs.Counts.{next_count}
use Rattle.pod_io.specs.Visible.{IfVisible}
use Rattle.pod_pipe.specs.declared.status.PipeEnd.{PipeEnd}
use Rattle.pod_pipe.specs.declared.status.PipeEnd.TheVariants.{Peer, Cut, ReadLimit, WriteFault}

-- these bytes were read: they preceded what is left of the input
abbrev pub Reads : List ℕ → Option (List ℕ) → Option (List ℕ) → Type 0
Reads bytes old new = old ≡ option_map (λ rest. bytes ++ rest) new

-- the input is at its end, where it shows that
abbrev pub AtEnd : Option (List ℕ) → Type 0
AtEnd rest = IfVisible rest (λ bytes. bytes ≡ [])

-- The reads that found the end of the input: the last read of a run that ended there, and no other.
-- So nothing is read after the end. A run whose last line failed may have ended there too.
abbrev pub MeetsEnd : PipeEnd → ℕ → ℕ → Type 0
MeetsEnd Peer old new = new ≡ next_count old
MeetsEnd (Cut rest) old new = new ≡ next_count old
MeetsEnd WriteFault old new = (new ≡ old) ⊎ (new ≡ next_count old)
MeetsEnd _ old new = new ≡ old

-- the reads that were counted are at most 2^40
pub record AddsReads (old new : ℕ) : Type 0 where
  pub no_fewer : old ≤ new
  pub bound : new ≤ old + 2 ^ 40

-- they are exactly 2^40, by a count that stops at 2^64 - 1
abbrev pub AddsAllReads : ℕ → ℕ → Type 0
AddsAllReads old new = new ≡ min (old + 2 ^ 40) (2 ^ 64 - 1)

-- The counts of an input: the count of reads never decreases, and there were at most 2^40 reads,
-- exactly so many where a run ended by their limit. A count stops at 2^64 - 1.
pub record CountsInput (end : PipeEnd) (old_reads new_reads old_ends new_ends : ℕ) : Type 0 where
  pub reads : AddsReads old_reads new_reads
  pub limit : end ≡ ReadLimit → AddsAllReads old_reads new_reads
  pub ends : MeetsEnd end old_ends new_ends
