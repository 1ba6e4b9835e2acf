use Rattle.graph_patch.specs.Search.{AnyBinding, IsSearchResult}
use Rattle.graph_patch.proofs.Solving.{below}
use Rattle.graph_patch.proofs.solution_mappings.solutions.Given as goal

-- the components so far
abbrev pub invariant-loop-label : goal.invariant-loop-label
invariant-loop-label l = IsSearchResult l.graph (below l.conditions l.labels.items l.label) AnyBinding l.found
