use Rattle.std.proofs.Common.{◌≡◌, ◌∙◌, ℕ, List, length, ap, subst, arith}
use Rattle.std.proofs.lemmas.Result.{on_ok_weaker}
use Rattle.pod_disk.specs.Disk.{EachImage, overwritten}
use Rattle.pod_disk.proofs.Moments.{joined, reads}
use Rattle.journal_log.specs.Gates.{IsFirstGateClosed, IsClosed, IsGated}
use Rattle.journal_log.proofs.Splits.{length_head}
use Rattle.journal_log.proofs.GateWrites.{written_head, written_behind}
use Rattle.journal_log.proofs.RenewRuns.{head_run, behind_run, length_first_closed, over_visible}
use Rattle.journal_log.proofs.new_journal.write_record.Goals as goal

pub returns-in_err-write-clause-moments : goal.returns-in_err-write-clause-moments
returns-in_err-write-clause-moments g c =
    let whole : length c.head_bytes.result ≡ 16 = ap length c.head_bytes.ensures ∙ length_head 2 c.args.epoch in
    (head_run g.D.Disk.image g.D.Disk.moment g.D.Disk.left_since _ _ _ (g.D.Disk.counts_now _) whole c.write.ensures.torn c.requires).0

pub write_through-requires : goal.write_through-requires
write_through-requires g c = λ b visible.
    let whole : length c.head_bytes.result ≡ 16 = ap length c.head_bytes.ensures ∙ length_head 2 c.args.epoch in
    let first = head_run g.D.Disk.image g.D.Disk.moment g.D.Disk.left_since _ _ _ (g.D.Disk.counts_now _) whole c.write.ensures.torn c.requires in
    length_first_closed b (first.1 b (g.D.Disk.reads_image _ b visible))

pub returns-clause-moments : goal.returns-clause-moments
returns-clause-moments g c =
    let whole : length c.head_bytes.result ≡ 16 = ap length c.head_bytes.ensures ∙ length_head 2 c.args.epoch in
    let first = head_run g.D.Disk.image g.D.Disk.moment g.D.Disk.left_since _ _ _ (g.D.Disk.counts_now _) whole c.write.ensures.torn c.requires in
    let second = behind_run g.D.Disk.image g.D.Disk.moment g.D.Disk.left_since _ _ _ (g.D.Disk.counts_now _) c.write_through.ensures.torn first.1 in
    joined g.D.Disk.image g.D.Disk.moment g.D.Disk.left_since _ _ _ IsFirstGateClosed first.0 second.0

pub returns-clause-written : goal.returns-clause-written
returns-clause-written g c = on_ok_weaker c.write_through.result (λ written.
    let head = c.head_bytes.result in
    let whole : length head ≡ 16 = ap length c.head_bytes.ensures ∙ length_head 2 c.args.epoch in
    subst (λ (l : List ℕ). EachImage (g.D.Disk.image c.write_through.new.disk) (IsGated l 0 c.args.framed.now)) c.head_bytes.ensures
    (over_visible (g.D.Disk.image c.write_through.new.disk) (g.D.Disk.content c.write.new.disk) 17 c.args.framed.now (IsClosed head) (IsGated head 0 c.args.framed.now)
    (reads g.D.Disk.content g.D.Disk.image g.D.Disk.reads_image (overwritten 0 head) _ _ IsFirstGateClosed (IsClosed head)
    c.in_ok-write.ensures.content (λ b shut. written_head head b whole shut) c.requires)
    (λ b closed. written_behind head c.args.framed.now b 17 (omega (arith, whole)) closed) written)) c.write_through.ensures.written
