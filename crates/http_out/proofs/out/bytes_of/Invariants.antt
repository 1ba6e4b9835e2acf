use Rattle.std.proofs.Common.{◌≡◌, ℕ, ◌+◌, ◌≤◌, ◌++◌, List, [], length, take}
use Rattle.http_out.specs.declared.segment.Segment.TheVariants.{Version}
use Rattle.http_out.specs.Segments.{left_at}
use Rattle.http_out.proofs.out.bytes_of.Given as goal

-- The text so far, the bytes of the piece, and those that are left are the whole text. An empty piece is the last.
abbrev pub invariant-loop-count : goal.invariant-loop-count
invariant-loop-count l =
    let left : List ℕ = left_at l.response l.head.date l.head.close l.cursor.segment l.cursor.offset in
    (l.text ++ (take l.count l.piece ++ left) ≡ left_at l.response l.head.date l.head.close Version 0)
    × (length l.piece ≡ 1_024) × (l.count ≤ length l.piece) × (l.count ≡ 0 → left ≡ [])

-- the bytes that are still to be appended
abbrev pub decreases-loop-count : goal.decreases-loop-count
decreases-loop-count l =
    length (left_at l.response l.head.date l.head.close l.cursor.segment l.cursor.offset) + l.count
