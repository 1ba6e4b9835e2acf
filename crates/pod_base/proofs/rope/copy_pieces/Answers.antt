use Rattle.std.proofs.Common.{◌+◌, ◌-◌, ap, drop, length, length-append, subst, sym, take, arith}
use Rattle.std.specs.List.{concat}
use borrow.Rule.Slice.PartMut.{put_mid}
use Rattle.pod_base.proofs.RopeLemmas.{Copied, concat_more, copied_into}
use Rattle.pod_base.proofs.rope.copy_pieces.Goals as goal

pub loop-piece-preserved : goal.loop-piece-preserved
loop-piece-preserved c =
    let l = c.loop-piece in
    let piece = c.piece-item.result in
    let before = concat (take l.piece-index c.args.pieces.now) in
    let more = concat_more c.args.pieces.now l.piece-index piece c.loop-piece-test.true c.piece-item.is in
    let copied = subst (λ t. Copied t l.skip (take (length l.into - l.count) (drop l.count l.into)) c.copy_bytes-count.new.into c.copy_bytes-count.result) c.as_slice.ensures
    (record { counted = c.copy_bytes-count.ensures.count; given = c.copy_bytes-count.ensures.copied }) in (
      subst (λ t. Copied t c.args.offset c.args.into.now (put_mid l.count (length l.into - l.count) l.into c.copy_bytes-count.new.into) (l.count + c.copy_bytes-count.result)) (sym more)
          (copied_into before piece c.args.into.now l.into c.copy_bytes-count.new.into c.args.offset l.skip l.count c.copy_bytes-count.result l.invariant.0 l.invariant.1 copied),
      omega (arith, c.saturating_sub-skip.ensures, c.len.ensures, l.invariant.1, ap length more, length-append before piece),
    )
