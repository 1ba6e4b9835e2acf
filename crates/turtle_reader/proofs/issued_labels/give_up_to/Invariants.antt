use Rattle.std.proofs.Common.{◌-◌, ◌+◌, length}
use Rattle.std.specs.BTreeSet.{contains}
use Rattle.std.specs.Ordering.{nat_cmp}
use Rattle.turtle_reader.specs.Taken.{AreGivenBeside}
use Rattle.turtle_reader.proofs.issued_labels.give_up_to.Given as goal

abbrev pub invariant-loop-alloc : goal.invariant-loop-alloc
invariant-loop-alloc l =
    AreGivenBeside (contains nat_cmp l.taken) l.initial.given.labels.items l.initial.given.next
    → AreGivenBeside (contains nat_cmp l.taken) l.given.labels.items l.given.next

abbrev pub decreases-loop-alloc : goal.decreases-loop-alloc
decreases-loop-alloc l = l.k + 1 - length l.given.labels.items
