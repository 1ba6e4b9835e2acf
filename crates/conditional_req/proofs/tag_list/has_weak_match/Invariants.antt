use Rattle.std.proofs.Common.{◌≡◌, length}
use Rattle.std.specs.List.{list_any}
use Rattle.field_list.specs.Elements.{elements_rest}
use Rattle.conditional_req.specs.EntityTags.{entity_tag, is_weak_match}
use Rattle.conditional_req.proofs.tag_list.has_weak_match.Given as goal

abbrev pub invariant-loop-element : goal.invariant-loop-element
invariant-loop-element l =
    list_any (λ element. is_weak_match l.tags (entity_tag element)) (elements_rest l.elements)
    ≡ list_any (λ element. is_weak_match l.tags (entity_tag element)) (elements_rest l.initial.elements)

abbrev pub decreases-loop-element : goal.decreases-loop-element
decreases-loop-element l = length (elements_rest l.elements)
