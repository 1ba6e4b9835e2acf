-- Items that were answered.
use Rattle.pod_core.specs.Session.{Outcome, answered, disk_fault, no_memory}

-- by a reply: not by out of memory, and not by a disk fault
abbrev pub IsReplied : Outcome → Type 0
IsReplied (answered place reply) = Unit {0}
IsReplied no_memory = ⊥
IsReplied disk_fault = ⊥
