use Rattle.std.proofs.Common.{arith}
use Rattle.pod_follow.proofs.FrameLemmas.{frame_found, no_frame}
use Rattle.pod_follow.proofs.frames.split_frame.Goals as goal

pub returns-clause-some : goal.returns-clause-some
returns-clause-some c = frame_found (λ r. (r.0.now, r.1.now)) c.split_piece.result c.args.bytes.now (λ i. omega (arith, c.type_inv.bytes i)) c.split_piece.ensures

pub returns-clause-none : goal.returns-clause-none
returns-clause-none c = no_frame (λ r. (r.0.now, r.1.now)) c.split_piece.result c.args.bytes.now (omega arith) c.split_piece.ensures
