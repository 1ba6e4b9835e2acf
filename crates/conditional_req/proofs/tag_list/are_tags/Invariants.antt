use Rattle.std.proofs.Common.{◌≡◌, length}
use Rattle.std.specs.List.{list_all}
use Rattle.field_list.specs.Elements.{elements_rest}
use Rattle.conditional_req.specs.EntityTags.{is_entity_tag}
use Rattle.conditional_req.proofs.tag_list.are_tags.Given as goal

abbrev pub invariant-loop-element : goal.invariant-loop-element
invariant-loop-element l =
    list_all is_entity_tag (elements_rest l.elements) ≡ list_all is_entity_tag (elements_rest l.initial.elements)

abbrev pub decreases-loop-element : goal.decreases-loop-element
decreases-loop-element l = length (elements_rest l.elements)
