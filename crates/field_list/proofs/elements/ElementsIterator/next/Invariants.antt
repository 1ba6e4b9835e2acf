use Rattle.std.proofs.Common.{◌≡◌, length}
use Rattle.field_list.specs.Elements.{elements_rest}
use Rattle.field_list.specs.Parts.{parts_rest}
use Rattle.field_list.proofs.elements.ElementsIterator.next.Given as goal

abbrev pub invariant-loop-part : goal.invariant-loop-part
invariant-loop-part l = elements_rest l.self ≡ elements_rest l.initial.self

abbrev pub decreases-loop-part : goal.decreases-loop-part
decreases-loop-part l = length (parts_rest l.self.parts)
