use Rattle.std.proofs.Common.{◌≡◌, ◌++◌, ◌≤◌, All, length, map, reverse}
use Rattle.pod_live.specs.Visits.{IsNewVisit}
use Rattle.pod_serve.proofs.podd.make_desks.Given as goal

abbrev pub invariant-loop-gate : goal.invariant-loop-gate
invariant-loop-gate g l = record {
  count : length l.sessions.items ≡ length l.gates.items;
  fits : length l.gates.items ≤ l.desks.room;
  sessions : All (IsNewVisit g.N.ViewName.opening) l.sessions.items;
  gates : map (λ desk. desk.rest.gate) l.desks.items ++ reverse l.gates.items ≡ reverse l.initial.gates.items;
  desks : All (λ desk. IsNewVisit g.N.ViewName.opening desk.session) l.desks.items;
}

abbrev pub decreases-loop-gate : goal.decreases-loop-gate
decreases-loop-gate g l = length l.gates.items
