use Rattle.std.proofs.Common.{◌≡◌, map, take}
use Rattle.access_index.specs.Tables.{refreshed}
use Rattle.access_index.proofs.table_changes.refreshed.Given as goal

abbrev pub invariant-loop-entry : goal.invariant-loop-entry
invariant-loop-entry l = l.all.items ≡ map (refreshed l.lists l.gone l.new) (take l.entry-index l.entries)
