use Rattle.std.proofs.Common.{rules, ◌≡◌, ◌+◌, ◌∷◌, [], inl, inr, List, ℕ, length, refl, sym, ◌∙◌, subst, ap, arith}
use Rattle.std.proofs.lemmas.Result.{on_err_weaker}
use Rattle.pod_disk.specs.Disk.{EachImage}
use Rattle.journal_log.specs.Frames.{framed_of}
use Rattle.journal_log.specs.Gates.{IsClosed, IsGated, IsOpening}
use Rattle.journal_log.specs.JournalState.{JournalState}
use Rattle.journal_log.proofs.AppendRuns.{placed_run, opened_run, placed_gates, opened_gates, closed_run, opening_run}
use Rattle.journal_log.proofs.GateWrites.{written_behind, written_gate}
use Rattle.journal_log.proofs.WriteRuns.{over_run}
use Rattle.journal_log.proofs.Records.{length_closed, length_opening, clean_behind, same_prefix}
use Rattle.journal_log.proofs.journal.Journal.append.Goals as goal

pub write_through-requires : goal.write_through-requires
write_through-requires g c = λ b visible.
    let clean = c.requires.1 in
    let ends : c.self.inside.end ≡ c.args.self.now.end = ap (λ (h : JournalState). h.end) c.self.view_is in
    omega (arith, ends, clean.is_prefix.ends, length_closed clean.prefix b (clean.closed b (g.D.Disk.reads_image _ b visible)))

pub returns-in_err-write_through-clause-moments : goal.returns-in_err-write_through-clause-moments
returns-in_err-write_through-clause-moments g c = λ bodies clean.
    let ends : length clean.prefix ≡ c.self.inside.end = clean.is_prefix.ends ∙ sym (ap (λ (h : JournalState). h.end) c.self.view_is) in
    let first = closed_run g.D.Disk.image g.D.Disk.moment g.D.Disk.left_since c.args.disk.now c.write_through.new.disk clean.prefix c.self.inside.end _ (g.D.Disk.counts_now _) ends c.write_through.ensures.torn clean.closed in
    placed_run g.D.Disk.moment g.D.Disk.image g.D.Disk.left_since c.args.self.now bodies _ clean.prefix clean.is_prefix _ _ first.0

pub returns-in_err-write_through-clause-gates : goal.returns-in_err-write_through-clause-gates
returns-in_err-write_through-clause-gates g c = λ bodies clean.
    let ends : length clean.prefix ≡ c.self.inside.end = clean.is_prefix.ends ∙ sym (ap (λ (h : JournalState). h.end) c.self.view_is) in
    let first = closed_run g.D.Disk.image g.D.Disk.moment g.D.Disk.left_since c.args.disk.now c.write_through.new.disk clean.prefix c.self.inside.end _ (g.D.Disk.counts_now _) ends c.write_through.ensures.torn clean.closed in
    placed_gates g.D.Disk.moment g.D.Disk.image g.D.Disk.left_since c.args.self.now bodies _ clean.prefix clean.is_prefix _ _ first.0

pub returns-in_err-write_through-clause-fault : goal.returns-in_err-write_through-clause-fault
returns-in_err-write_through-clause-fault g c = on_err_weaker {P = Unit {0}} c.from_residual.result (λ _ bodies clean.
    let ends : length clean.prefix ≡ c.self.inside.end = clean.is_prefix.ends ∙ sym (ap (λ (h : JournalState). h.end) c.self.view_is) in
    let first = closed_run g.D.Disk.image g.D.Disk.moment g.D.Disk.left_since c.args.disk.now c.write_through.new.disk clean.prefix c.self.inside.end _ (g.D.Disk.counts_now _) ends c.write_through.ensures.torn clean.closed in
    inl (record { prefix = clean.prefix; is_prefix = clean.is_prefix; closed = first.1; certain = clean.certain })) (search rules)

pub write_through-requires-2 : goal.write_through-requires-2
write_through-requires-2 g c = λ b visible.
    let clean = c.requires.1 in
    let ends : length clean.prefix ≡ c.self.inside.end = clean.is_prefix.ends ∙ sym (ap (λ (h : JournalState). h.end) c.self.view_is) in
    let placed = over_run g.D.Disk.content g.D.Disk.image c.args.disk.now c.write_through.new.disk (c.self.inside.end + 1) c.bytes.result.now (IsClosed clean.prefix) (IsGated clean.prefix 0 c.bytes.result.now)
    (g.D.Disk.reads_image _) (λ b closed. written_behind clean.prefix c.bytes.result.now b (c.self.inside.end + 1) (omega (arith, ends)) closed) clean.closed c.in_ok-write_through.ensures.written in
    omega (arith, ends, length_opening clean.prefix c.bytes.result.now b (0, placed b (g.D.Disk.reads_image _ b visible)))

pub returns-in_err-write_through-2-clause-moments : goal.returns-in_err-write_through-2-clause-moments
returns-in_err-write_through-2-clause-moments g c = λ bodies clean.
    let body = c.args.framed.now in
    let ends : length clean.prefix ≡ c.self.inside.end = clean.is_prefix.ends ∙ sym (ap (λ (h : JournalState). h.end) c.self.view_is) in
    let first = closed_run g.D.Disk.image g.D.Disk.moment g.D.Disk.left_since c.args.disk.now c.write_through.new.disk clean.prefix c.self.inside.end _ (g.D.Disk.counts_now _) ends c.write_through.ensures.torn clean.closed in
    let placed = over_run g.D.Disk.content g.D.Disk.image c.args.disk.now c.write_through.new.disk (c.self.inside.end + 1) c.bytes.result.now (IsClosed clean.prefix) (IsGated clean.prefix 0 c.bytes.result.now)
    (g.D.Disk.reads_image _) (λ b closed. written_behind clean.prefix c.bytes.result.now b (c.self.inside.end + 1) (omega (arith, ends)) closed) clean.closed c.in_ok-write_through.ensures.written in
    let gated = subst (λ (l : List ℕ). EachImage (g.D.Disk.image c.write_through.new.disk) (IsGated clean.prefix 0 l)) c.bytes.ensures.framed placed in
    let second = opening_run g.D.Disk.image g.D.Disk.moment g.D.Disk.left_since c.write_through.new.disk c.write_through-2.new.disk clean.prefix (framed_of body) c.self.inside.end (g.D.Disk.counts_now _) ends c.write_through-2.ensures.torn (λ c' now. (0, gated c' now)) in
    opened_run g.D.Disk.moment g.D.Disk.image g.D.Disk.left_since c.args.self.now bodies _ clean.prefix clean.is_prefix _ _ _ (omega (arith, c.bytes.ensures.short)) first.0 second.0

pub returns-in_err-write_through-2-clause-gates : goal.returns-in_err-write_through-2-clause-gates
returns-in_err-write_through-2-clause-gates g c = λ bodies clean.
    let body = c.args.framed.now in
    let ends : length clean.prefix ≡ c.self.inside.end = clean.is_prefix.ends ∙ sym (ap (λ (h : JournalState). h.end) c.self.view_is) in
    let first = closed_run g.D.Disk.image g.D.Disk.moment g.D.Disk.left_since c.args.disk.now c.write_through.new.disk clean.prefix c.self.inside.end _ (g.D.Disk.counts_now _) ends c.write_through.ensures.torn clean.closed in
    let placed = over_run g.D.Disk.content g.D.Disk.image c.args.disk.now c.write_through.new.disk (c.self.inside.end + 1) c.bytes.result.now (IsClosed clean.prefix) (IsGated clean.prefix 0 c.bytes.result.now)
    (g.D.Disk.reads_image _) (λ b closed. written_behind clean.prefix c.bytes.result.now b (c.self.inside.end + 1) (omega (arith, ends)) closed) clean.closed c.in_ok-write_through.ensures.written in
    let gated = subst (λ (l : List ℕ). EachImage (g.D.Disk.image c.write_through.new.disk) (IsGated clean.prefix 0 l)) c.bytes.ensures.framed placed in
    let second = opening_run g.D.Disk.image g.D.Disk.moment g.D.Disk.left_since c.write_through.new.disk c.write_through-2.new.disk clean.prefix (framed_of body) c.self.inside.end (g.D.Disk.counts_now _) ends c.write_through-2.ensures.torn (λ c' now. (0, gated c' now)) in
    opened_gates g.D.Disk.moment g.D.Disk.image g.D.Disk.left_since c.args.self.now bodies _ clean.prefix clean.is_prefix _ _ _ first.0 second.0

pub returns-in_err-write_through-2-clause-fault : goal.returns-in_err-write_through-2-clause-fault
returns-in_err-write_through-2-clause-fault g c = on_err_weaker {P = Unit {0}} c.from_residual-in_err-write_through-2.result (λ _ bodies clean.
    let body = c.args.framed.now in
    let ends : length clean.prefix ≡ c.self.inside.end = clean.is_prefix.ends ∙ sym (ap (λ (h : JournalState). h.end) c.self.view_is) in
    let placed = over_run g.D.Disk.content g.D.Disk.image c.args.disk.now c.write_through.new.disk (c.self.inside.end + 1) c.bytes.result.now (IsClosed clean.prefix) (IsGated clean.prefix 0 c.bytes.result.now)
    (g.D.Disk.reads_image _) (λ b closed. written_behind clean.prefix c.bytes.result.now b (c.self.inside.end + 1) (omega (arith, ends)) closed) clean.closed c.in_ok-write_through.ensures.written in
    let gated = subst (λ (l : List ℕ). EachImage (g.D.Disk.image c.write_through.new.disk) (IsGated clean.prefix 0 l)) c.bytes.ensures.framed placed in
    let second = opening_run g.D.Disk.image g.D.Disk.moment g.D.Disk.left_since c.write_through.new.disk c.write_through-2.new.disk clean.prefix (framed_of body) c.self.inside.end (g.D.Disk.counts_now _) ends c.write_through-2.ensures.torn (λ c' now. (0, gated c' now)) in
    inr (record {
      prefix = clean.prefix;
      is_prefix = same_prefix c.args.self.now _ bodies clean.prefix (ap (λ (h : JournalState). h.end) c.self.view_is) (ap (λ (h : JournalState). h.format) c.self.view_is) (ap (λ (h : JournalState). h.epoch) c.self.view_is) clean.is_prefix;
      opening = second.1;
      short = omega (arith, c.bytes.ensures.short);
      doubtful = refl;
    })) (search rules)

pub returns-clause-moments : goal.returns-clause-moments
returns-clause-moments g c = λ bodies clean.
    let body = c.args.framed.now in
    let ends : length clean.prefix ≡ c.self.inside.end = clean.is_prefix.ends ∙ sym (ap (λ (h : JournalState). h.end) c.self.view_is) in
    let first = closed_run g.D.Disk.image g.D.Disk.moment g.D.Disk.left_since c.args.disk.now c.write_through.new.disk clean.prefix c.self.inside.end _ (g.D.Disk.counts_now _) ends c.write_through.ensures.torn clean.closed in
    let placed = over_run g.D.Disk.content g.D.Disk.image c.args.disk.now c.write_through.new.disk (c.self.inside.end + 1) c.bytes.result.now (IsClosed clean.prefix) (IsGated clean.prefix 0 c.bytes.result.now)
    (g.D.Disk.reads_image _) (λ b closed. written_behind clean.prefix c.bytes.result.now b (c.self.inside.end + 1) (omega (arith, ends)) closed) clean.closed c.in_ok-write_through.ensures.written in
    let gated = subst (λ (l : List ℕ). EachImage (g.D.Disk.image c.write_through.new.disk) (IsGated clean.prefix 0 l)) c.bytes.ensures.framed placed in
    let second = opening_run g.D.Disk.image g.D.Disk.moment g.D.Disk.left_since c.write_through.new.disk c.write_through-2.new.disk clean.prefix (framed_of body) c.self.inside.end (g.D.Disk.counts_now _) ends c.write_through-2.ensures.torn (λ c' now. (0, gated c' now)) in
    opened_run g.D.Disk.moment g.D.Disk.image g.D.Disk.left_since c.args.self.now bodies _ clean.prefix clean.is_prefix _ _ _ (omega (arith, c.bytes.ensures.short)) first.0 second.0

pub returns-clause-gates : goal.returns-clause-gates
returns-clause-gates g c = λ bodies clean.
    let body = c.args.framed.now in
    let ends : length clean.prefix ≡ c.self.inside.end = clean.is_prefix.ends ∙ sym (ap (λ (h : JournalState). h.end) c.self.view_is) in
    let first = closed_run g.D.Disk.image g.D.Disk.moment g.D.Disk.left_since c.args.disk.now c.write_through.new.disk clean.prefix c.self.inside.end _ (g.D.Disk.counts_now _) ends c.write_through.ensures.torn clean.closed in
    let placed = over_run g.D.Disk.content g.D.Disk.image c.args.disk.now c.write_through.new.disk (c.self.inside.end + 1) c.bytes.result.now (IsClosed clean.prefix) (IsGated clean.prefix 0 c.bytes.result.now)
    (g.D.Disk.reads_image _) (λ b closed. written_behind clean.prefix c.bytes.result.now b (c.self.inside.end + 1) (omega (arith, ends)) closed) clean.closed c.in_ok-write_through.ensures.written in
    let gated = subst (λ (l : List ℕ). EachImage (g.D.Disk.image c.write_through.new.disk) (IsGated clean.prefix 0 l)) c.bytes.ensures.framed placed in
    let second = opening_run g.D.Disk.image g.D.Disk.moment g.D.Disk.left_since c.write_through.new.disk c.write_through-2.new.disk clean.prefix (framed_of body) c.self.inside.end (g.D.Disk.counts_now _) ends c.write_through-2.ensures.torn (λ c' now. (0, gated c' now)) in
    opened_gates g.D.Disk.moment g.D.Disk.image g.D.Disk.left_since c.args.self.now bodies _ clean.prefix clean.is_prefix _ _ _ first.0 second.0

pub returns-clause-appended : goal.returns-clause-appended
returns-clause-appended g c = λ bodies clean.
    let body = c.args.framed.now in
    let ends : length clean.prefix ≡ c.self.inside.end = clean.is_prefix.ends ∙ sym (ap (λ (h : JournalState). h.end) c.self.view_is) in
    let placed = over_run g.D.Disk.content g.D.Disk.image c.args.disk.now c.write_through.new.disk (c.self.inside.end + 1) c.bytes.result.now (IsClosed clean.prefix) (IsGated clean.prefix 0 c.bytes.result.now)
    (g.D.Disk.reads_image _) (λ b closed. written_behind clean.prefix c.bytes.result.now b (c.self.inside.end + 1) (omega (arith, ends)) closed) clean.closed c.in_ok-write_through.ensures.written in
    let gated = subst (λ (l : List ℕ). EachImage (g.D.Disk.image c.write_through.new.disk) (IsGated clean.prefix 0 l)) c.bytes.ensures.framed placed in
    let set = over_run g.D.Disk.content g.D.Disk.image c.write_through.new.disk c.write_through-2.new.disk c.self.inside.end (1 ∷ []) (IsOpening clean.prefix (framed_of body)) (IsGated clean.prefix 1 (framed_of body))
    (g.D.Disk.reads_image _) (λ b opening. written_gate clean.prefix (framed_of body) b c.self.inside.end 1 ends opening) (λ c' now. (0, gated c' now)) c.in_ok-write_through-2.ensures.written in
    let size : length c.bytes-2.result.now ≡ length (framed_of body) = ap length c.bytes-2.ensures.framed in
    clean_behind c.args.self.now bodies clean.prefix clean.is_prefix _ _ body (omega (arith, c.bytes.ensures.short)) set
    (ap (λ (h : JournalState). h.format) c.self.view_is) (ap (λ (h : JournalState). h.epoch) c.self.view_is)
    (omega (arith, size, ap (λ (h : JournalState). h.end) c.self.view_is)) refl
