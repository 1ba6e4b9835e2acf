use Rattle.std.proofs.Common.{◌≡◌, ◌+◌, ◌∷◌, [], inl, inr, ℕ, List, length, ap, subst, arith}
use Rattle.pod_disk.specs.Disk.{EachImage, LeavesOnly}
use Rattle.pod_disk.proofs.Moments.{both}
use Rattle.journal_log.specs.Frames.{framed_of}
use Rattle.journal_log.specs.Heads.{encoded_head}
use Rattle.journal_log.specs.Gates.{IsGated, IsOpening}
use Rattle.journal_log.specs.JournalState.{JournalState}
use Rattle.journal_log.specs.Renewing.{IsBeforeOpening, IsNewJournal}
use Rattle.journal_log.specs.Writes.{IsTornFrom}
use Rattle.journal_log.proofs.Splits.{length_head}
use Rattle.journal_log.proofs.AppendRuns.{opening_run}
use Rattle.journal_log.proofs.GateWrites.{written_gate}
use Rattle.journal_log.proofs.Records.{length_opening}
use Rattle.journal_log.proofs.RenewRuns.{clean_first, torn_more}
use Rattle.journal_log.proofs.WriteRuns.{over_run}
use Rattle.journal_log.proofs.journal.Journal.renew.Goals as goal

pub write_through-requires : goal.write_through-requires
write_through-requires g c = λ b visible.
    let head = encoded_head 2 c.args.epoch in
    omega (arith, length_head 2 c.args.epoch, length_opening head c.bytes-framed.result.now b (0, c.in-Ok.ensures.prepared b (g.D.Disk.reads_image _ b visible)))

pub returns-in-Ok-write_through-clause-moments : goal.returns-in-Ok-write_through-clause-moments
returns-in-Ok-write_through-clause-moments g c = λ long.
    let body = c.args.first.now in
    let head = encoded_head 2 c.args.epoch in
    let gated = subst (λ (l : List ℕ). EachImage (g.D.Disk.image c.prepare.new.disk) (IsGated head 0 l)) c.bytes-framed.ensures.framed c.in-Ok.ensures.prepared in
    let opening = opening_run g.D.Disk.image g.D.Disk.moment g.D.Disk.left_since c.prepare.new.disk c.write_through.new.disk head (framed_of body) 16 (g.D.Disk.counts_now _) (length_head 2 c.args.epoch) c.write_through.ensures.torn (λ c' now. (0, gated c' now)) in
    both g.D.Disk.image g.D.Disk.moment g.D.Disk.left_since _ _ _ (IsBeforeOpening (g.D.Disk.image c.args.disk.now)) (IsNewJournal c.args.epoch body) _ (λ c' before. inl before) (λ c' new. inr new) (c.prepare.ensures.moments long) opening.0

pub returns-in-Ok-write_through-clause-short : goal.returns-in-Ok-write_through-clause-short
returns-in-Ok-write_through-clause-short g c = λ b visible few.
    let size : length c.bytes-framed.result.now ≡ length (framed_of c.args.first.now) = ap length c.bytes-framed.ensures.framed in
    subst (λ (n : ℕ). LeavesOnly g.D.Disk.moment g.D.Disk.left_since c.args.disk.now c.write_through.new.disk (IsTornFrom (g.D.Disk.image c.args.disk.now) 0 n)) (ap (λ (n : ℕ). 17 + n) size)
    (torn_more g.D.Disk.image g.D.Disk.moment g.D.Disk.left_since _ _ _ 16 1 (17 + length c.bytes-framed.result.now) (g.D.Disk.counts_now _) (omega arith) (c.prepare.ensures.short b visible few) c.write_through.ensures.torn)

pub returns-in-Ok-write_through-clause-clean : goal.returns-in-Ok-write_through-clause-clean
returns-in-Ok-write_through-clause-clean g c =
    let body = c.args.first.now in
    let head = encoded_head 2 c.args.epoch in
    let gated = subst (λ (l : List ℕ). EachImage (g.D.Disk.image c.prepare.new.disk) (IsGated head 0 l)) c.bytes-framed.ensures.framed c.in-Ok.ensures.prepared in
    let set = over_run g.D.Disk.content g.D.Disk.image c.prepare.new.disk c.write_through.new.disk 16 (1 ∷ []) (IsOpening head (framed_of body)) (IsGated head 1 (framed_of body))
    (g.D.Disk.reads_image _) (λ b open_gate. written_gate head (framed_of body) b 16 1 (length_head 2 c.args.epoch) open_gate) (λ c' now. (0, gated c' now)) c.in-Ok-write_through.ensures.written in
    let size : length c.bytes-framed.result.now ≡ length (framed_of body) = ap length c.bytes-framed.ensures.framed in
    clean_first (g.D.Disk.image c.write_through.new.disk) c.new_clean.result c.args.epoch body c.requires (omega (arith, c.bytes-framed.ensures.short)) set
    (ap (λ (h : JournalState). h.format) c.new_clean.ensures) (ap (λ (h : JournalState). h.epoch) c.new_clean.ensures)
    (omega (arith, ap (λ (h : JournalState). h.end) c.new_clean.ensures, size))
    (ap (λ (h : JournalState). h.doubt) c.new_clean.ensures)

pub returns-in-Err-write_through-clause-moments : goal.returns-in-Err-write_through-clause-moments
returns-in-Err-write_through-clause-moments g c = λ long.
    let body = c.args.first.now in
    let head = encoded_head 2 c.args.epoch in
    let gated = subst (λ (l : List ℕ). EachImage (g.D.Disk.image c.prepare.new.disk) (IsGated head 0 l)) c.bytes-framed.ensures.framed c.in-Ok.ensures.prepared in
    let opening = opening_run g.D.Disk.image g.D.Disk.moment g.D.Disk.left_since c.prepare.new.disk c.write_through.new.disk head (framed_of body) 16 (g.D.Disk.counts_now _) (length_head 2 c.args.epoch) c.write_through.ensures.torn (λ c' now. (0, gated c' now)) in
    both g.D.Disk.image g.D.Disk.moment g.D.Disk.left_since _ _ _ (IsBeforeOpening (g.D.Disk.image c.args.disk.now)) (IsNewJournal c.args.epoch body) _ (λ c' before. inl before) (λ c' new. inr new) (c.prepare.ensures.moments long) opening.0

pub returns-in-Err-write_through-clause-short : goal.returns-in-Err-write_through-clause-short
returns-in-Err-write_through-clause-short g c = λ b visible few.
    let size : length c.bytes-framed.result.now ≡ length (framed_of c.args.first.now) = ap length c.bytes-framed.ensures.framed in
    subst (λ (n : ℕ). LeavesOnly g.D.Disk.moment g.D.Disk.left_since c.args.disk.now c.write_through.new.disk (IsTornFrom (g.D.Disk.image c.args.disk.now) 0 n)) (ap (λ (n : ℕ). 17 + n) size)
    (torn_more g.D.Disk.image g.D.Disk.moment g.D.Disk.left_since _ _ _ 16 1 (17 + length c.bytes-framed.result.now) (g.D.Disk.counts_now _) (omega arith) (c.prepare.ensures.short b visible few) c.write_through.ensures.torn)

pub returns-in-Err-write_through-clause-in_doubt : goal.returns-in-Err-write_through-clause-in_doubt
returns-in-Err-write_through-clause-in_doubt g c = λ is.
    let body = c.args.first.now in
    let head = encoded_head 2 c.args.epoch in
    let gated = subst (λ (l : List ℕ). EachImage (g.D.Disk.image c.prepare.new.disk) (IsGated head 0 l)) c.bytes-framed.ensures.framed c.in-Ok.ensures.prepared in
    (opening_run g.D.Disk.image g.D.Disk.moment g.D.Disk.left_since c.prepare.new.disk c.write_through.new.disk head (framed_of body) 16 (g.D.Disk.counts_now _) (length_head 2 c.args.epoch) c.write_through.ensures.torn (λ c' now. (0, gated c' now))).1

pub returns-in-Err-clause-short : goal.returns-in-Err-clause-short
returns-in-Err-clause-short g c = λ b visible few.
    let size : length c.bytes-framed.result.now ≡ length (framed_of c.args.first.now) = ap length c.bytes-framed.ensures.framed in
    subst (λ (n : ℕ). LeavesOnly g.D.Disk.moment g.D.Disk.left_since c.args.disk.now c.prepare.new.disk (IsTornFrom (g.D.Disk.image c.args.disk.now) 0 n)) (ap (λ (n : ℕ). 17 + n) size) (c.prepare.ensures.short b visible few)
