-- What the values that borrow from a field represent.
use Rattle.std.specs.Prelude.{Option}
use Rattle.std.specs.Option.{option_map}
use Rattle.content_nego.specs.MediaTypes.{Media, media_of}
use Rattle.content_nego.specs.MediaRanges.{Range, range_of}
use Rattle.content_nego.specs.declared.media_type.MediaType.{MediaType}
use Rattle.content_nego.specs.declared.media_range.MediaRange.{MediaRange}

abbrev pub media_view : MediaType → Media
media_view m = media_of m.kind.now m.subtype.now

abbrev pub offer_view : Option MediaType → Option Media
offer_view offer = option_map media_view offer

abbrev pub range_view : MediaRange → Range
range_view r = range_of (media_view r.media) r.quality
