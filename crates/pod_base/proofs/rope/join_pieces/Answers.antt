use Rattle.std.proofs.Common.{ℕ, List, ◌++◌, ◌∙◌, ap, sym, take, append_assoc}
use Rattle.std.specs.List.{concat}
use Rattle.pod_base.proofs.RopeLemmas.{concat_more}
use Rattle.pod_base.proofs.rope.join_pieces.Goals as goal

-- one piece more
pub loop-piece-preserved : goal.loop-piece-preserved
loop-piece-preserved c =
    let first = c.args.first.now in
    let piece = c.piece-item.result in
    let before = concat (take c.loop-piece.piece-index c.args.more.now) in
    c.in_ok-append-2.ensures.appended
    ∙ ap (λ (t : List ℕ). c.loop-piece.all ++ t) c.as_slice-in-loop-piece.ensures
    ∙ ap (λ (t : List ℕ). t ++ piece) c.loop-piece.invariant
    ∙ append_assoc first before piece
    ∙ ap (λ (t : List ℕ). first ++ t) (sym (concat_more c.args.more.now c.loop-piece.piece-index piece c.loop-piece-test.true c.piece-item.is))
