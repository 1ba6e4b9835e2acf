use Rattle.std.proofs.Common.{◌≡◌, ◌+◌, ◌∷◌, ◌++◌, ℕ, List, length, arith}
use Rattle.std.proofs.lemmas.Result.{on_ok_weaker}
use Rattle.pod_disk.specs.Disk.{overwritten}
use Rattle.pod_disk.proofs.Moments.{reads_on}
use Rattle.journal_log.specs.Heads.{encoded_head}
use Rattle.journal_log.specs.Gates.{IsGated}
use Rattle.journal_log.proofs.Splits.{length_head}
use Rattle.journal_log.proofs.GateWrites.{written_after}
use Rattle.journal_log.proofs.RenewRuns.{anew_run, begins, begun_long, begun_torn, length_begun, over_visible}
use Rattle.journal_log.proofs.new_journal.write_anew.Goals as goal

pub returns-in_err-write-clause-torn : goal.returns-in_err-write-clause-torn
returns-in_err-write-clause-torn g c =
    let size = length_begun (encoded_head 2 c.args.epoch) c.head_and_gate.result c.args.gate (length_head 2 c.args.epoch) c.head_and_gate.ensures in
    begun_torn g.D.Disk.image g.D.Disk.moment g.D.Disk.left_since _ _ (length c.head_and_gate.result) (17 + length c.args.framed.now) (omega (arith, size)) c.write.ensures.torn

pub write_through-requires : goal.write_through-requires
write_through-requires g c =
    reads_on (overwritten 0 c.head_and_gate.result) _ _ (λ _. Unit {0}) _ c.in_ok-write.ensures.content
    (λ b _. begun_long (encoded_head 2 c.args.epoch) c.head_and_gate.result b c.args.gate (length_head 2 c.args.epoch) c.head_and_gate.ensures) (λ b _. tt)

pub returns-clause-torn : goal.returns-clause-torn
returns-clause-torn g c =
    let size = length_begun (encoded_head 2 c.args.epoch) c.head_and_gate.result c.args.gate (length_head 2 c.args.epoch) c.head_and_gate.ensures in
    anew_run g.D.Disk.image g.D.Disk.moment g.D.Disk.left_since _ _ _ (length c.head_and_gate.result) (length c.args.framed.now) (17 + length c.args.framed.now)
    (g.D.Disk.counts_now _) (omega (arith, size)) (omega arith) c.write.ensures.torn c.write_through.ensures.torn

pub returns-clause-written : goal.returns-clause-written
returns-clause-written g c = on_ok_weaker c.write_through.result (λ written.
    let head = encoded_head 2 c.args.epoch in
    over_visible (g.D.Disk.image c.write_through.new.disk) (g.D.Disk.content c.write.new.disk) 17 c.args.framed.now
    (λ b. (rest : List ℕ) × (b ≡ head ++ (c.args.gate ∷ rest))) (IsGated head c.args.gate c.args.framed.now)
    (reads_on (overwritten 0 c.head_and_gate.result) _ _ (λ _. Unit {0}) _ c.in_ok-write.ensures.content
    (λ b _. begins head c.head_and_gate.result b c.args.gate c.head_and_gate.ensures) (λ b _. tt))
    (λ b begun. written_after head c.args.framed.now b begun.0 17 c.args.gate (omega (arith, length_head 2 c.args.epoch)) begun.1) written) c.write_through.ensures.written
