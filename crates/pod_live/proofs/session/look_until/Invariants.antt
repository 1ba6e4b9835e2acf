use Rattle.std.proofs.Common.{◌≡◌, ◌≤◌}
use Rattle.pod_live.proofs.session.look_until.Given as goal

abbrev pub invariant-loop : goal.invariant-loop
invariant-loop g l =
    (goal.iterator-loop g).can_next l.iterator' × (goal.iterator-loop g).is_finite l.iterator'
    × (l.looker.seen ≡ l.initial.looker.seen) × (l.looker.told ≡ l.initial.looker.told) × (l.looker.looks ≡ l.initial.looker.looks)
    × (l.initial.looker.refused ≤ l.looker.refused)
