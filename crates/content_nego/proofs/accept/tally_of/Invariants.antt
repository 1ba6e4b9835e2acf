use Rattle.std.proofs.Common.{◌≡◌, length}
use Rattle.std.specs.List.{fold, filter_map}
use Rattle.field_list.specs.Elements.{elements_rest}
use Rattle.content_nego.specs.MediaRanges.{media_range, ranges}
use Rattle.content_nego.specs.Tallies.{with_range, start}
use Rattle.content_nego.specs.Views.{offer_view}
use Rattle.content_nego.proofs.accept.tally_of.Given as goal

abbrev pub invariant-loop-element : goal.invariant-loop-element
invariant-loop-element l =
    fold (with_range (offer_view l.first) (offer_view l.second)) l.tally (filter_map media_range (elements_rest l.elements))
    ≡ fold (with_range (offer_view l.first) (offer_view l.second)) start (ranges l.accept)

abbrev pub decreases-loop-element : goal.decreases-loop-element
decreases-loop-element l = length (elements_rest l.elements)
