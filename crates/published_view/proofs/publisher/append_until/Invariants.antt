use Rattle.std.proofs.Common.{◌≡◌, drop}
use Rattle.published_view.proofs.publisher.append_until.Given as goal

abbrev pub invariant-loop : goal.invariant-loop
invariant-loop g l =
    (goal.iterator-loop g).can_next l.iterator' × (goal.iterator-loop g).is_finite l.iterator'
    × (l.next ≡ l.initial.next)
    × (l.copies.desk ≡ l.initial.copies.desk)
    × (drop l.copies.behind l.copies.log.items ≡ drop l.initial.copies.behind l.initial.copies.log.items)
