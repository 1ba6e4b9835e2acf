use Rattle.std.proofs.Common.{◌≡◌, ◌+◌, ◌++◌, drop, length}
use Rattle.pod_core.specs.World.{first_interims, interims_text}
use Rattle.request_history.proofs.world_connection.write_interims.Given as goal

abbrev pub invariant-loop-event : goal.invariant-loop-event
invariant-loop-event l = record {
  count : l.count ≡ l.event-index;
  text : l.output ++ interims_text (drop l.event-index l.events) ≡ l.initial.output ++ interims_text l.events;
  firsts : l.event-index + length (first_interims (drop l.event-index l.events)) ≡ length (first_interims l.events);
}
