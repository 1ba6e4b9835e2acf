use Rattle.std.proofs.Common.{ap, ◌∙◌}
use Rattle.content_nego.specs.MediaTypes.{media_type}
use Rattle.content_nego.specs.MediaRanges.{ranges}
use Rattle.content_nego.specs.Choices.{greater, quality_in}
use Rattle.content_nego.specs.Tallies.{chosen}
use Rattle.content_nego.specs.Views.{offer_view}
use Rattle.content_nego.proofs.TallyLemmas.{chosen-ranges}
use Rattle.content_nego.proofs.accept.choose.Goals as goal

-- the choice by the tally of the field's ranges
pub returns : goal.returns
returns c =
    let first = c.media_type-first.ensures.value ∙ ap media_type c.as_bytes.ensures.value in
    let second = c.media_type-second.ensures.value ∙ ap media_type c.as_bytes-2.ensures.value in
    rw c.in-Some.is
    (c.chosen.ensures ∙ ap chosen c.tally_of.ensures
    ∙ chosen-ranges (offer_view c.media_type-first.result) (offer_view c.media_type-second.result) (ranges c.in-Some.accept.now)
    ∙ ap (λ m. greater (quality_in m (ranges c.in-Some.accept.now)) (quality_in (offer_view c.media_type-second.result) (ranges c.in-Some.accept.now))) first
    ∙ ap (λ m. greater (quality_in (media_type c.args.first.now) (ranges c.in-Some.accept.now)) (quality_in m (ranges c.in-Some.accept.now))) second)
