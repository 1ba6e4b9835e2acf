use Rattle.std.proofs.Common.{◌≡◌, ◌≤◌, ◌+◌, length}
use Rattle.field_list.specs.Elements.{elements_rest}
use Rattle.range_req.proofs.range_set.is_within_limit.Given as goal

abbrev pub invariant-loop-element : goal.invariant-loop-element
invariant-loop-element l = record {
  bound : l.count ≤ 16;
  all : l.count + length (elements_rest l.elements) ≡ length (elements_rest l.initial.elements);
}

abbrev pub decreases-loop-element : goal.decreases-loop-element
decreases-loop-element l = length (elements_rest l.elements)
