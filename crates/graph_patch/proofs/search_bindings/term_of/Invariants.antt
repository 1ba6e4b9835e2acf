use Rattle.std.proofs.Common.{◌≡◌, drop}
use Rattle.graph_patch.specs.Pattern.{value_of}
use Rattle.graph_patch.specs.Search.{pairs_of}
use Rattle.graph_patch.proofs.search_bindings.term_of.Given as goal

-- what is left decides
abbrev pub invariant-loop-pair : goal.invariant-loop-pair
invariant-loop-pair l = value_of (pairs_of (drop l.pair-index l.bound)) l.name ≡ value_of (pairs_of l.bound) l.name
