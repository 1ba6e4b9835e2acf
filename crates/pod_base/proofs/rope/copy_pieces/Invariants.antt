use Rattle.std.proofs.Common.{◌≡◌, ◌-◌, length, take}
use Rattle.std.specs.List.{concat}
use Rattle.pod_base.proofs.RopeLemmas.{Copied}
use Rattle.pod_base.proofs.rope.copy_pieces.Given as goal

-- the bytes of the pieces so far are copied, and so many bytes are to be left out of the next
abbrev pub invariant-loop-piece : goal.invariant-loop-piece
invariant-loop-piece l =
    Copied (concat (take l.piece-index l.pieces)) l.offset l.initial.into l.into l.count
    × (l.skip ≡ l.offset - length (concat (take l.piece-index l.pieces)))
