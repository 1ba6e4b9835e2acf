-- What the values that borrow from a field represent.
use Rattle.conditional_req.specs.EntityTags as spec
use Rattle.conditional_req.specs.declared.tag_parser.EntityTag.{EntityTag}

abbrev pub tag_view : EntityTag → spec.EntityTag
tag_view tag = spec.entity_tag_of tag.weak tag.opaque.now
