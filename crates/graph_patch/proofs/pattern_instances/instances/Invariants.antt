use Rattle.std.proofs.Common.{take}
use Rattle.std.specs.List.{AllZip}
use Rattle.graph_patch.specs.Pattern.{Instantiates, value_of}
use Rattle.graph_patch.proofs.pattern_instances.instances.Given as goal

abbrev pub invariant-loop-pattern : goal.invariant-loop-pattern
invariant-loop-pattern l = AllZip (Instantiates (value_of l.pairs)) (take l.pattern-index l.patterns) l.triples.items
