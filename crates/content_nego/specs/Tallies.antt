-- The best ranges of two offers, counted together.
use Rattle.std.specs.Prelude.{ℕ, true, false, nat_lt, if◌then◌else◌, Option, Some, None}
use Rattle.content_nego.specs.MediaTypes.{Media, specificity}
use Rattle.content_nego.specs.MediaRanges.{Range}
use Rattle.content_nego.specs.Choices.{greater}
use Rattle.content_nego.specs.declared.accept.Best.{Best}
use Rattle.content_nego.specs.declared.accept.Tally.{Tally}

abbrev pub none : Best
none = record { specificity = 0; quality = 0 }

abbrev pub start : Tally
start = record { any = false; first = none; second = none }

abbrev pub better : Option Media → Best → Range → Best
better offer best range =
    if nat_lt best.specificity (specificity offer range.media)
    then record { specificity = specificity offer range.media; quality = range.quality } else best

abbrev pub with_range : Option Media → Option Media → Tally → Range → Tally
with_range first second tally range = record {
  any = true;
  first = better first tally.first range;
  second = better second tally.second range;
}

abbrev pub with_found : Option Media → Option Media → Tally → Option Range → Tally
with_found first second tally None = tally
with_found first second tally (Some range) = with_range first second tally range

abbrev pub chosen : Tally → Option ℕ
chosen tally = if tally.any then greater tally.first.quality tally.second.quality else Some 0
