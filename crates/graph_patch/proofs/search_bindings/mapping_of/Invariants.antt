use Rattle.std.proofs.Common.{◌≡◌, take}
use Rattle.graph_patch.specs.Search.{pairs_of}
use Rattle.graph_patch.proofs.search_bindings.mapping_of.Given as goal

abbrev pub invariant-loop-pair : goal.invariant-loop-pair
invariant-loop-pair l = l.pairs.items ≡ pairs_of (take l.pair-index l.bound)
