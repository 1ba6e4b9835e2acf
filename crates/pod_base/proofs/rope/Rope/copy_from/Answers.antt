use Rattle.std.proofs.Common.{◌≡◌, ◌+◌, ◌-◌, ◌++◌, ap, drop, length, subst, take, arith}
use Rattle.std.specs.List.{concat}
use borrow.Rule.Slice.PartMut.{put_mid}
use Rattle.pod_base.proofs.RopeLemmas.{Copied, copied_into}
use Rattle.pod_base.proofs.rope.Rope.copy_from.Goals as goal

-- the first piece, and then the others
pub returns-clause-copied : goal.returns-clause-copied
returns-clause-copied c =
    let offset = c.args.offset in
    let into = c.args.into.now in
    let first = c.self.inside.first in
    let count = c.copy_bytes-count.result in
    let middle = c.copy_bytes-count.new.into in
    let more = c.copy_pieces.result in
    let skip = c.saturating_sub-skip.result in
    let copied = subst (λ t. Copied t offset into middle count) c.as_slice-first.ensures
    (record { counted = c.copy_bytes-count.ensures.count; given = c.copy_bytes-count.ensures.copied }) in
    let others = subst (λ t. Copied (concat t) skip (take (length middle - count) (drop count middle)) c.copy_pieces.new.into more) c.as_slice.ensures.value
    (record { counted = c.copy_pieces.ensures.count; given = c.copy_pieces.ensures.copied }) in
    let all = copied_into first (concat c.self.inside.more.items) into middle c.copy_pieces.new.into offset skip count more copied
    (omega (arith, c.saturating_sub-skip.ensures, ap length c.as_slice-first.ensures)) others in
    subst (λ t. put_mid count (length middle - count) middle c.copy_pieces.new.into ≡ take (count + more) (drop offset t) ++ drop (count + more) into) c.self.view_is all.given
