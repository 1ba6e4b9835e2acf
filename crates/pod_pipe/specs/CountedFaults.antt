-- Which counts of faults increased, where a run ends by a fault.
use Rattle.std.specs.Prelude.{◌≡◌, ◌⊎◌, ℕ, ◌≤◌, IfSome, None}
use Rattle.pod_base.specs.Counts.{CountIncreased}
use Rattle.pod_disk.specs.declared.place.Disks.{Disks}
use Rattle.pod_disk.specs.declared.place.Place.{Place}
use Rattle.pod_pipe.specs.RunStreams.{Streams}
use Rattle.pod_pipe.specs.Tables.{TokenSource}

-- Status 3 comes only where the count of the input or of the token table increased, and status 4
-- only where that of the output or of the error sink did. No count of the streams decreased.
pub record StreamFaultsCounted (tokens : TokenSource) (streams : Streams) (status : ℕ)
    : Type 0 where
  pub read_fault : status ≡ 3
      → CountIncreased streams.old_input_faults streams.new_input_faults
      ⊎ CountIncreased tokens.old_faults tokens.new_faults
  pub write_fault : status ≡ 4
      → CountIncreased streams.old_output_faults streams.new_output_faults
      ⊎ CountIncreased streams.old_error_faults streams.new_error_faults
  pub input_faults : streams.old_input_faults ≤ streams.new_input_faults
  pub output_faults : streams.old_output_faults ≤ streams.new_output_faults
  pub error_faults : streams.old_error_faults ≤ streams.new_error_faults

-- The token table of a run that reads none. Its count didn't increase: status 3 comes only by a
-- fault of the input.
abbrev pub no_table : TokenSource
no_table = record {
  old = None;
  new = None;
  old_faults = 0;
  new_faults = 0;
  old_reads = 0;
  new_reads = 0;
  old_ends = 0;
  new_ends = 0;
}

-- the count of faults of one of the two disks increased
abbrev pub DiskCountIncreased : {D : Type 0} → (D → ℕ) → Disks D → Disks D → Type 0
DiskCountIncreased faults old new = CountIncreased (faults old.first) (faults new.first)
    ⊎ CountIncreased (faults old.second) (faults new.second)

-- status 6 comes only where that of a disk in the place did
abbrev pub DiskFaultCounted : {D T : Type 0} → (D → ℕ) → Place D T → Place D T → ℕ → Type 0
DiskFaultCounted faults old new status = status ≡ 6
    → IfSome old.disks (λ a. IfSome new.disks (λ b. DiskCountIncreased faults a b))
