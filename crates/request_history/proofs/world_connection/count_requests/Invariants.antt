use Rattle.std.proofs.Common.{◌≡◌, ◌≤◌, ◌+◌, drop, length}
use Rattle.pod_core.specs.Session.{requests_of}
use Rattle.request_history.proofs.world_connection.count_requests.Given as goal

abbrev pub invariant-loop-event : goal.invariant-loop-event
invariant-loop-event l = record {
  all : l.count + length (requests_of (drop l.event-index l.events)) ≡ length (requests_of l.events);
  most : l.count ≤ l.event-index;
}
