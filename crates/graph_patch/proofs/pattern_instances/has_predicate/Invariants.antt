use Rattle.std.proofs.Common.{take}
use Rattle.graph_patch.specs.Patch.{HasPredicate}
use Rattle.graph_patch.specs.Pattern.{value_of}
use Rattle.graph_patch.proofs.pattern_instances.has_predicate.Given as goal

abbrev pub invariant-loop-pattern : goal.invariant-loop-pattern
invariant-loop-pattern l = HasPredicate (value_of l.pairs) (take l.pattern-index l.patterns) l.iri → ⊥
