-- Which counts of faults increased, where a command of a store ends by a fault.
use Rattle.std.specs.Prelude.{◌≡◌, ℕ, ◌≤◌}
use Rattle.pod_base.specs.Counts.{CountIncreased}
use Rattle.pod_disk.specs.declared.place.Disks.{Disks}
use Rattle.pod_pipe.specs.CountedFaults.{DiskCountIncreased}
use Rattle.podctl_commands.specs.declared.store_end.StoreEnd.{StoreEnd}
use Rattle.podctl_commands.specs.declared.store_end.StoreEnd.TheVariants.{WriteFault, DiskFault}

-- It ends by a disk fault only where the count of a disk increased, and by a write fault only where
-- that of the output did. No count of the sinks decreased.
pub record EndFaultsCounted {D : Type 0} (faults : D → ℕ) (old new : Disks D)
    (old_output new_output old_errors new_errors : ℕ) (end : StoreEnd) : Type 0 where
  pub disk_fault : end ≡ DiskFault → DiskCountIncreased faults old new
  pub write_fault : end ≡ WriteFault → CountIncreased old_output new_output
  pub output_faults : old_output ≤ new_output
  pub error_faults : old_errors ≤ new_errors
