use Rattle.std.proofs.Common.{◌≡◌, ◌+◌, All, length}
use Rattle.published_view.specs.LookerState.{IsNewLooker}
use Rattle.pod_live.specs.Visits.{IsNewVisit}
use Rattle.pod_live.proofs.live.sessions_of.Given as goal

abbrev pub invariant-loop-looker : goal.invariant-loop-looker
invariant-loop-looker g l = record {
  parts : (l.of_changes.parts ≡ length l.lookers.items) × (l.of_faults.parts ≡ length l.lookers.items);
  amounts : (l.of_changes.amount ≡ 0) × (l.of_faults.amount ≡ 0);
  counted : length l.sessions.items + length l.lookers.items ≡ length l.initial.lookers.items;
  lookers : All (IsNewLooker g.N.ViewName.opening) l.lookers.items;
  sessions : All (IsNewVisit g.N.ViewName.opening) l.sessions.items;
}

abbrev pub decreases-loop-looker : goal.decreases-loop-looker
decreases-loop-looker g l = length l.lookers.items
