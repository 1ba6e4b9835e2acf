use Rattle.std.proofs.Common.{◌≡◌, ℕ, List, length, ap, subst, arith}
use Rattle.pod_disk.specs.Disk.{EachImage}
use Rattle.journal_log.specs.Frames.{framed_of}
use Rattle.journal_log.specs.Heads.{encoded_head}
use Rattle.journal_log.specs.Gates.{IsGated}
use Rattle.journal_log.specs.JournalState.{JournalState}
use Rattle.journal_log.proofs.RenewRuns.{clean_first}
use Rattle.journal_log.proofs.journal.Journal.init.Goals as goal

pub returns-clause-clean : goal.returns-clause-clean
returns-clause-clean g c =
    let body = c.args.first.now in
    let size : length c.bytes-framed.result.now ≡ length (framed_of body) = ap length c.bytes-framed.ensures.framed in
    clean_first (g.D.Disk.image c.write_anew.new.disk) c.new_clean.result c.args.epoch body c.requires.most (omega (arith, c.bytes-framed.ensures.short))
    (subst (λ (l : List ℕ). EachImage (g.D.Disk.image c.write_anew.new.disk) (IsGated (encoded_head 2 c.args.epoch) 1 l)) c.bytes-framed.ensures.framed c.in_ok-write_anew.ensures.written)
    (ap (λ (h : JournalState). h.format) c.new_clean.ensures) (ap (λ (h : JournalState). h.epoch) c.new_clean.ensures)
    (omega (arith, ap (λ (h : JournalState). h.end) c.new_clean.ensures, size))
    (ap (λ (h : JournalState). h.doubt) c.new_clean.ensures)
