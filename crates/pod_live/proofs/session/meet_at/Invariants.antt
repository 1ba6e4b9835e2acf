use Rattle.std.proofs.Common.{◌≤◌}
use mathlib.Core.List.{IsPrefix}
use Rattle.pod_live.proofs.session.meet_at.Given as goal

abbrev pub invariant-loop : goal.invariant-loop
invariant-loop g l =
    (goal.iterator-loop g).can_next l.iterator' × (goal.iterator-loop g).is_finite l.iterator'
    × IsPrefix l.initial.looker.seen l.looker.seen × IsPrefix l.front l.looker.told
    × (l.initial.looker.refused ≤ l.looker.refused)
