use Rattle.std.proofs.Common.{take}
use Rattle.turtle_reader.specs.Walks.{KeepsAll}
use Rattle.turtle_reader.proofs.text_walk.keep_all.Given as goal

abbrev pub invariant-loop-production : goal.invariant-loop-production
invariant-loop-production g l = record {
  sound : g.L.Language.is_sound l.bytes l.kept;
  kept : KeepsAll g.L.Language.is_kept l.bytes l.reader (take l.production-index l.productions) l.initial.kept l.kept;
}
