use Rattle.std.proofs.Common.{◌≡◌, take, map}
use Rattle.httparse.specs.Spans.{header_bytes}
use Rattle.http_head.specs.Heads.{field_of}
use Rattle.http_head.proofs.head_parser.fields_of.Given as goal

-- the fields so far
abbrev pub invariant-loop-span : goal.invariant-loop-span
invariant-loop-span l = l.fields ≡ map field_of (map (header_bytes l.head) (take l.span-index l.spans))
