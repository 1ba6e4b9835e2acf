-- A tally of ranges has the best range of each offer.
use Rattle.std.proofs.Common.{◌≡◌, Bool, true, false, cond, nat_lt, List, [], ◌∷◌, Option, Some, refl, ap, ◌∙◌}
use Rattle.std.specs.List.{fold}
use Rattle.content_nego.specs.MediaTypes.{Media, specificity}
use Rattle.content_nego.specs.MediaRanges.{Range}
use Rattle.content_nego.specs.Choices as choices
use Rattle.content_nego.specs.Choices.{Grade, grade, greater, quality_in}
use Rattle.content_nego.specs.Tallies.{better, with_range, start, chosen}
use Rattle.content_nego.specs.declared.accept.Best.{Best}
use Rattle.content_nego.specs.declared.accept.Tally.{Tally}

abbrev grade_of : Best → Grade
grade_of best = grade best.specificity best.quality

better-grade : (offer : Option Media) (best : Best) (range : Range) → grade_of (better offer best range) ≡ choices.better offer (grade_of best) range
better-grade offer best range = step (nat_lt best.specificity (specificity offer range.media))
  where
    step : (b : Bool) → grade_of (cond b (record { specificity = specificity offer range.media; quality = range.quality }) best) ≡ cond b (grade (specificity offer range.media) range.quality) (grade_of best)
    step true = refl
    step false = refl

fold-grade : (offer : Option Media) (best : Best) (ranges : List Range) → grade_of (fold (better offer) best ranges) ≡ fold (choices.better offer) (grade_of best) ranges
fold-grade offer best [] = refl
fold-grade offer best (range ∷ ranges) =
    fold-grade offer (better offer best range) ranges
    ∙ ap (λ g. fold (choices.better offer) g ranges) (better-grade offer best range)

fold-any : (first second : Option Media) (tally : Tally) (ranges : List Range) → tally.any ≡ true → (fold (with_range first second) tally ranges).any ≡ true
fold-any first second tally [] any = any
fold-any first second tally (range ∷ ranges) any = fold-any first second (with_range first second tally range) ranges refl

fold-first : (first second : Option Media) (tally : Tally) (ranges : List Range) → (fold (with_range first second) tally ranges).first ≡ fold (better first) tally.first ranges
fold-first first second tally [] = refl
fold-first first second tally (range ∷ ranges) = fold-first first second (with_range first second tally range) ranges

fold-second : (first second : Option Media) (tally : Tally) (ranges : List Range) → (fold (with_range first second) tally ranges).second ≡ fold (better second) tally.second ranges
fold-second first second tally [] = refl
fold-second first second tally (range ∷ ranges) = fold-second first second (with_range first second tally range) ranges

chosen-any : (tally : Tally) → tally.any ≡ true → chosen tally ≡ greater tally.first.quality tally.second.quality
chosen-any tally any = ap (λ b. cond b (greater tally.first.quality tally.second.quality) (Some 0)) any

-- the choice by a tally is that of the offers' qualities
pub chosen-ranges : (first second : Option Media) (ranges : List Range) → chosen (fold (with_range first second) start ranges) ≡ greater (quality_in first ranges) (quality_in second ranges)
chosen-ranges first second [] = refl
chosen-ranges first second (range ∷ ranges) =
    chosen-any (fold (with_range first second) start (range ∷ ranges)) (fold-any first second (with_range first second start range) ranges refl)
    ∙ ap (λ b. greater b.quality (fold (with_range first second) start (range ∷ ranges)).second.quality) (fold-first first second start (range ∷ ranges))
    ∙ ap (λ b. greater (fold (better first) start.first (range ∷ ranges)).quality b.quality) (fold-second first second start (range ∷ ranges))
    ∙ ap (λ g. greater g.quality (fold (better second) start.second (range ∷ ranges)).quality) (fold-grade first start.first (range ∷ ranges))
    ∙ ap (λ g. greater (quality_in first (range ∷ ranges)) g.quality) (fold-grade second start.second (range ∷ ranges))
