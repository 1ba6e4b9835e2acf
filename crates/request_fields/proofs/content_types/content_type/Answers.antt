use Rattle.std.proofs.Common.{codes}
use Rattle.field_list.specs.Values.{only_value}
use Rattle.request_fields.proofs.TextLemmas.{type-utf8}
use Rattle.request_fields.proofs.content_types.content_type.Goals as goal

-- a content type is ASCII
pub unreachable-requires : goal.unreachable-requires
unreachable-requires c =
    c.in-Err.ensures.cases.0 (type-utf8 (only_value (codes "content-type") c.args.fields.now) c.in-Some.bytes.now c.in-Some.ensures)
