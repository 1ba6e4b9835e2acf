-- A pod in memory, over a history.
use Rattle.std.specs.Prelude.{◌≡◌, ℕ, Option, None}
use Rattle.pod_command.specs.declared.entry.Entry.{Entry}
use Rattle.pod_core.specs.History.{History, IsHistory, end_of, moment_before, pod_at}
use Rattle.pod_core.specs.Session.{Item}
use Rattle.pod_rows.specs.Pod.{Pod}
use Rattle.pod_pipe.specs.Holders.{DiskFaults, Faults}
use Rattle.pod_pipe.specs.declared.memory_pod.MemoryPod.{MemoryPod}

-- The pod is the one at the end of the history, with the number of the next entry and the moment of
-- the last one, 0 where there is none.
pub record IsMemoryOf (pod : Pod) (next last : ℕ) (history : History) : Type 0 where
  pub is_history : IsHistory history
  pub pod_is : pod ≡ pod_at history (end_of history)
  pub next_is : next ≡ end_of history
  pub last_is : last ≡ moment_before history (end_of history)

-- it has no disks
abbrev pub no_faults : DiskFaults
no_faults = record { first = 0; second = 0 }

-- what it counts: the requests that ran out of memory
abbrev pub memory_faults : MemoryPod → Faults
memory_faults pod = record { disks = no_faults; out_of_memory = pod.out_of_memory }

-- the histories that a pod in memory represents: nothing is in doubt
abbrev pub memory_stands : MemoryPod → History → Option Entry → Type 0
memory_stands pod history doubt =
    IsMemoryOf pod.state.pod pod.state.next pod.last.0 history × (doubt ≡ None)

-- an item says nothing more of it
abbrev pub memory_takes : ℕ → ℕ → MemoryPod → History → Option Entry → Item → MemoryPod
    → Option Entry → Type 0
memory_takes conn clock old history doubt item new after = Unit {0}

-- all but its count is as it was
abbrev pub same_memory : MemoryPod → MemoryPod → Type 0
same_memory old new = (new.state ≡ old.state) × (new.last ≡ old.last)
