use Rattle.std.proofs.Common.{◌≡◌, ◌-◌, length}
use Rattle.turtle_reader.specs.Walks.{HasKept}
use Rattle.turtle_reader.proofs.text_walk.walk.Given as goal

abbrev pub invariant-loop-progress : goal.invariant-loop-progress
invariant-loop-progress g l = record {
  bytes : l.lexer.bytes ≡ l.bytes;
  sound : g.L.Language.is_sound l.bytes l.kept;
  so_far : HasKept g.L.Language.is_kept (g.L.Language.is_large l.base l.bytes) g.L.Language.symbol l.base l.bytes l.lexer.from l.progress l.kept;
}

abbrev pub decreases-loop-progress : goal.decreases-loop-progress
decreases-loop-progress g l = length l.bytes - l.lexer.from
