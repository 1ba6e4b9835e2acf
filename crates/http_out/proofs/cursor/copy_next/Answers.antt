use Rattle.std.proofs.Common.{◌<◌, subst, sym, arith}
use Rattle.http_out.specs.Segments.{segment_text, text_after, segments_left}
use Rattle.http_out.proofs.SegmentLemmas.{copies_full, copies_rest}
use Rattle.http_out.proofs.cursor.copy_next.Goals as goal

pub returns-then-count-into-clause-copies : goal.returns-then-count-into-clause-copies
returns-then-count-into-clause-copies c =
    let response = c.args.response.now in
    let head = c.args.head.now in
    let segment = c.args.cursor.now.segment in
    copies_full (segment_text response head.date head.close segment) (text_after response head.date head.close segment)
    c.args.into.now c.copy_segment-count.new.into c.args.cursor.now.offset c.copy_segment-count.result
    c.copy_segment-count.ensures.count c.copy_segment-count.ensures.copied (omega arith)

pub returns-else-count-into-clause-copies : goal.returns-else-count-into-clause-copies
returns-else-count-into-clause-copies c =
    let response = c.args.response.now in
    let head = c.args.head.now in
    let segment = c.args.cursor.now.segment in
    copies_rest (segment_text response head.date head.close segment) (text_after response head.date head.close segment) _
    c.args.into.now c.copy_segment-count.new.into c.args.cursor.now.offset c.copy_segment-count.result
    c.copy_segment-count.ensures.count c.copy_segment-count.ensures.copied (λ full. c.if-count-into.false (omega arith))
    (c.next-cursor.ensures.after response head.date head.close (sym c.field_count.ensures))

pub returns-then-count-into-clause-nearer : goal.returns-then-count-into-clause-nearer
returns-then-count-into-clause-nearer c = omega (arith, c.requires.some, c.if-count-into.true)

pub returns-else-count-into-clause-nearer : goal.returns-else-count-into-clause-nearer
returns-else-count-into-clause-nearer c =
    let segment = c.args.cursor.now.segment in
    let nearer = subst (λ n. segments_left n c.next-cursor.result < segments_left n segment) c.field_count.ensures
    (c.next-cursor.ensures.nearer c.requires.not_end) in
    omega (arith, nearer)
