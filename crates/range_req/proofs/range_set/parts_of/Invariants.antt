use Rattle.std.proofs.Common.{◌≡◌, ◌++◌, length}
use Rattle.field_list.specs.Elements.{elements_rest}
use Rattle.range_req.specs.RangeSets.{parts_in}
use Rattle.range_req.proofs.range_set.parts_of.Given as goal

abbrev pub invariant-loop-element : goal.invariant-loop-element
invariant-loop-element l =
    l.parts.items ++ parts_in l.size (elements_rest l.elements) ≡ parts_in l.size (elements_rest l.initial.elements)

abbrev pub decreases-loop-element : goal.decreases-loop-element
decreases-loop-element l = length (elements_rest l.elements)
