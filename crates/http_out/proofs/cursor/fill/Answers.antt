use Rattle.std.proofs.Common.{◌+◌, subst, sym}
use Rattle.http_out.specs.Segments.{left_at, CopiesPrefix}
use Rattle.pod_base.proofs.RopeLemmas.{put_rest, rest_of}
use Rattle.http_out.proofs.SegmentLemmas.{copies_more}
use Rattle.http_out.proofs.cursor.fill.Goals as goal

pub loop-count-preserved : goal.loop-count-preserved
loop-count-preserved c =
    let response = c.args.response.now in
    let head = c.args.head.now in
    let start = left_at response head.date head.close c.args.cursor.now.segment c.args.cursor.now.offset in
    let before = left_at response head.date head.close c.loop-count.cursor.segment c.loop-count.cursor.offset in
    let after = left_at response head.date head.close c.copy_next-count.new.cursor.segment c.copy_next-count.new.cursor.offset in
    let count = c.loop-count.count in
    let into = c.loop-count.into in
    let new = c.copy_next-count.new.into in
    subst (λ t. CopiesPrefix start after c.args.into.now t (count + c.copy_next-count.result)) (sym (put_rest count into new))
    (copies_more start before after c.args.into.now into new count c.copy_next-count.result c.loop-count.invariant
    (subst (λ t. CopiesPrefix before after t new c.copy_next-count.result) (rest_of count into) c.copy_next-count.ensures.copies))
