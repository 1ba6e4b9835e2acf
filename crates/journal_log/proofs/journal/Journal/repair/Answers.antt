use Rattle.std.proofs.Common.{◌≡◌, ◌++◌, ◌∷◌, [], ◌∙◌, length, refl, sym, ap, arith, rules}
use Rattle.std.proofs.lemmas.Result.{on_err_weaker}
use Rattle.journal_log.specs.Frames.{framed_of}
use Rattle.journal_log.specs.Gates.{IsGated, IsOpening}
use Rattle.journal_log.specs.JournalState.{JournalState}
use Rattle.journal_log.proofs.AppendRuns.{gate_run, doubtful_gates, opening_run}
use Rattle.journal_log.proofs.GateWrites.{written_gate}
use Rattle.journal_log.proofs.WriteRuns.{over_run}
use Rattle.journal_log.proofs.Records.{length_opening, same_prefix}
use Rattle.journal_log.proofs.journal.Journal.repair.Goals as goal

pub write_through-requires : goal.write_through-requires
write_through-requires g c = λ b visible.
    let doubts = c.requires.2 in
    let ends : c.self.inside.end ≡ c.args.self.now.end = ap (λ (h : JournalState). h.end) c.self.view_is in
    omega (arith, ends, doubts.is_prefix.ends, length_opening doubts.prefix (framed_of c.requires.1) b (doubts.opening b (g.D.Disk.reads_image _ b visible)))

pub returns-in_err-write_through-clause-moments : goal.returns-in_err-write_through-clause-moments
returns-in_err-write_through-clause-moments g c = λ bodies body doubts.
    let ends : length doubts.prefix ≡ c.self.inside.end = doubts.is_prefix.ends ∙ sym (ap (λ (h : JournalState). h.end) c.self.view_is) in
    let run = opening_run g.D.Disk.image g.D.Disk.moment g.D.Disk.left_since c.args.disk.now c.write_through.new.disk doubts.prefix (framed_of body) c.self.inside.end (g.D.Disk.counts_now _) ends c.write_through.ensures.torn doubts.opening in
    gate_run g.D.Disk.moment g.D.Disk.image g.D.Disk.left_since c.args.self.now bodies body doubts.prefix doubts.is_prefix _ _ doubts.short run.0

pub returns-in_err-write_through-clause-gates : goal.returns-in_err-write_through-clause-gates
returns-in_err-write_through-clause-gates g c = λ bodies body doubts.
    let ends : length doubts.prefix ≡ c.self.inside.end = doubts.is_prefix.ends ∙ sym (ap (λ (h : JournalState). h.end) c.self.view_is) in
    let run = opening_run g.D.Disk.image g.D.Disk.moment g.D.Disk.left_since c.args.disk.now c.write_through.new.disk doubts.prefix (framed_of body) c.self.inside.end (g.D.Disk.counts_now _) ends c.write_through.ensures.torn doubts.opening in
    doubtful_gates g.D.Disk.moment g.D.Disk.image g.D.Disk.left_since c.args.self.now bodies body doubts.prefix doubts.is_prefix _ _ run.0

pub returns-in_err-write_through-clause-fault : goal.returns-in_err-write_through-clause-fault
returns-in_err-write_through-clause-fault g c = on_err_weaker {P = Unit {0}} c.from_residual.result (λ _ bodies body doubts.
    let ends : length doubts.prefix ≡ c.self.inside.end = doubts.is_prefix.ends ∙ sym (ap (λ (h : JournalState). h.end) c.self.view_is) in
    let run = opening_run g.D.Disk.image g.D.Disk.moment g.D.Disk.left_since c.args.disk.now c.write_through.new.disk doubts.prefix (framed_of body) c.self.inside.end (g.D.Disk.counts_now _) ends c.write_through.ensures.torn doubts.opening in
    record {
      prefix = doubts.prefix;
      is_prefix = doubts.is_prefix;
      opening = run.1;
      short = doubts.short;
      doubtful = doubts.doubtful;
    }) (search rules)

pub returns-clause-moments : goal.returns-clause-moments
returns-clause-moments g c = λ bodies body doubts.
    let ends : length doubts.prefix ≡ c.self.inside.end = doubts.is_prefix.ends ∙ sym (ap (λ (h : JournalState). h.end) c.self.view_is) in
    let run = opening_run g.D.Disk.image g.D.Disk.moment g.D.Disk.left_since c.args.disk.now c.write_through.new.disk doubts.prefix (framed_of body) c.self.inside.end (g.D.Disk.counts_now _) ends c.write_through.ensures.torn doubts.opening in
    gate_run g.D.Disk.moment g.D.Disk.image g.D.Disk.left_since c.args.self.now bodies body doubts.prefix doubts.is_prefix _ _ doubts.short run.0

pub returns-clause-gates : goal.returns-clause-gates
returns-clause-gates g c = λ bodies body doubts.
    let ends : length doubts.prefix ≡ c.self.inside.end = doubts.is_prefix.ends ∙ sym (ap (λ (h : JournalState). h.end) c.self.view_is) in
    let run = opening_run g.D.Disk.image g.D.Disk.moment g.D.Disk.left_since c.args.disk.now c.write_through.new.disk doubts.prefix (framed_of body) c.self.inside.end (g.D.Disk.counts_now _) ends c.write_through.ensures.torn doubts.opening in
    doubtful_gates g.D.Disk.moment g.D.Disk.image g.D.Disk.left_since c.args.self.now bodies body doubts.prefix doubts.is_prefix _ _ run.0

pub returns-clause-repaired : goal.returns-clause-repaired
returns-clause-repaired g c = λ bodies body doubts.
    let ends : length doubts.prefix ≡ c.self.inside.end = doubts.is_prefix.ends ∙ sym (ap (λ (h : JournalState). h.end) c.self.view_is) in
    let set = over_run g.D.Disk.content g.D.Disk.image c.args.disk.now c.write_through.new.disk c.self.inside.end (0 ∷ []) (IsOpening doubts.prefix (framed_of body)) (IsGated doubts.prefix 0 (framed_of body))
    (g.D.Disk.reads_image _) (λ b opening. written_gate doubts.prefix (framed_of body) b c.self.inside.end 0 ends opening) doubts.opening c.in_ok-write_through.ensures.written in
    record {
      prefix = doubts.prefix;
      is_prefix = same_prefix c.args.self.now _ bodies doubts.prefix (ap (λ (h : JournalState). h.end) c.self.view_is) (ap (λ (h : JournalState). h.format) c.self.view_is) (ap (λ (h : JournalState). h.epoch) c.self.view_is) doubts.is_prefix;
      closed = λ c' now. (framed_of body ++ (set c' now).0, (set c' now).1);
      certain = refl;
    }
