-- The choice between two offers by an Accept field (RFC 9110, section 12.5.1).
use Rattle.std.specs.Prelude.{ℕ, ◌&&◌, ◌==◌, nat_lt, nat_le, if◌then◌else◌, List, [], ◌∷◌, Option}
use Rattle.std.specs.Prelude.{Some, None}
use Rattle.std.specs.List.{fold}
use Rattle.content_nego.specs.MediaTypes.{Media, media_type, specificity}
use Rattle.content_nego.specs.MediaRanges.{Range, ranges}

-- a range's specificity for an offer, and its quality
pub record Grade : Type 0 where
  pub specificity : ℕ
  pub quality : ℕ

abbrev pub grade : ℕ → ℕ → Grade
grade specificity quality = record { specificity = specificity; quality = quality }

-- the more specific one of the best range so far and another, the first of equals
abbrev pub better : Option Media → Grade → Range → Grade
better offer best range =
    if nat_lt best.specificity (specificity offer range.media)
    then grade (specificity offer range.media) range.quality else best

-- the quality of an offer's most specific range, 0 where no range is one of the offer
abbrev pub best_quality : Option Media → List Range → ℕ
best_quality offer ranges = (fold (better offer) (grade 0 0) ranges).quality

-- the quality of an offer: 1 where no range is given
abbrev pub quality_in : Option Media → List Range → ℕ
quality_in offer [] = 1000
quality_in offer (range ∷ ranges) = best_quality offer (range ∷ ranges)

-- the offer of the greater quality, the first of equals; none where both are 0
abbrev pub greater : ℕ → ℕ → Option ℕ
greater first second =
    if first == 0 && second == 0 then None else (if nat_le second first then Some 0 else Some 1)

abbrev pub choice_in : List ℕ → List ℕ → List Range → Option ℕ
choice_in first second ranges =
    greater (quality_in (media_type first) ranges) (quality_in (media_type second) ranges)

-- the choice by the value of the field, if there is one
abbrev pub choice : Option (List ℕ) → List ℕ → List ℕ → Option ℕ
choice None first second = choice_in first second []
choice (Some accept) first second = choice_in first second (ranges accept)
