use Rattle.std.proofs.Common.{◌≡◌, length}
use Rattle.std.specs.List.{list_all}
use Rattle.field_list.specs.Elements.{elements_rest}
use Rattle.range_req.specs.RangeSets.{is_range}
use Rattle.range_req.proofs.range_set.are_ranges.Given as goal

abbrev pub invariant-loop-element : goal.invariant-loop-element
invariant-loop-element l =
    list_all is_range (elements_rest l.elements) ≡ list_all is_range (elements_rest l.initial.elements)

abbrev pub decreases-loop-element : goal.decreases-loop-element
decreases-loop-element l = length (elements_rest l.elements)
