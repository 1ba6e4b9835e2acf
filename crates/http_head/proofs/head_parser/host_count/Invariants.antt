use Rattle.std.proofs.Common.{◌≡◌, ◌≤◌, ◌+◌, drop, map}
use Rattle.httparse.specs.Spans.{header_bytes}
use Rattle.http_head.specs.Heads.{host_count}
use Rattle.http_head.proofs.head_parser.host_count.Given as goal

-- those so far and those of the other lines are those of all
abbrev pub invariant-loop-span : goal.invariant-loop-span
invariant-loop-span l =
    (l.count ≤ l.span-index)
    × (l.count + host_count (map (header_bytes l.head) (drop l.span-index l.spans)) ≡ host_count (map (header_bytes l.head) l.spans))
