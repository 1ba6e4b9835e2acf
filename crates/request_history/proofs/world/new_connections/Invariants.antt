use Rattle.std.proofs.Common.{◌≡◌, replicate}
use Rattle.std.specs.List.{AllByRecursion}
use Rattle.request_history.specs.Connections.{Rests, fresh}
use Rattle.request_history.proofs.world.new_connections.Given as goal

abbrev pub invariant-loop-made : goal.invariant-loop-made
invariant-loop-made l = record {
  fresh_ones : l.connections.items ≡ replicate l.made (fresh l.seen);
  rests : AllByRecursion Rests l.connections.items;
}
