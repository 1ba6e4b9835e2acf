-- A record is added, after the journal was made ready.
use Rattle.std.proofs.Common.{◌≡◌, ◌⊎◌, inl, inr, false, ◌+◌, ◌≤◌, ℕ, List, [], ◌∷◌, ◌++◌, Option, Some, None, Result, Ok, Err, OnOk, OnErr, refl, sym, ◌∙◌, subst, arith, append_assoc}
use Rattle.std.proofs.lemmas.List.Elements.{Contains-append_left, Contains-push}
use Rattle.std.proofs.lemmas.Result.{on_ok_weaker, on_err_weaker}
use Rattle.pod_disk.specs.Disk.{LeavesOnly}
use Rattle.pod_disk.proofs.Moments.{weaker, joined, holds_now}
use Rattle.journal_log.specs.CleanJournal.{IsShort, IsWhileAppended}
use Rattle.journal_log.specs.Images.{IsEither}
use Rattle.journal_log.specs.declared.fault.Side.{Side}
use Rattle.journal_pair.specs.PairJournal.{HasSnapshot, IsPairClean, IsAppendInDoubt, IsPassedBeside, IsLongBeside}
use Rattle.journal_pair.specs.PairMoments.{ThroughMending}
use Rattle.journal_pair.specs.PairState.{PairState}
use Rattle.journal_pair.specs.Sides.{active_of, other_of, opposite_of}
use Rattle.journal_pair.proofs.Beside.{stands_open, opposite_active, opposite_other}
use Rattle.journal_pair.proofs.PairRuns.{kept_run}
use Rattle.journal_pair.proofs.Reopening.{appended_through, openings_of, through_weaker}
use Rattle.journal_pair.specs.Doubts.{RecordDoubt, certain, entered, checkpointed, HasRecords, tails_in, news_in}
use Rattle.journal_pair.specs.Writes.{records_before, alone, with_record, tail_of, Moves, IsActiveImage, IsOtherImage, Runs, Readies, Writes, IsLeftByWrite}
use Rattle.journal_pair.proofs.Renewals.{more_news, other_news}
use Rattle.journal_pair.proofs.TogetherRuns.{together_of}
use Rattle.journal_pair.proofs.WrittenPairs.{written_pair}

snapshot_in : {D : Type 0} (image : D → List ℕ → Type 0) (first second : D) (pair : PairState) (bodies : List (List ℕ)) (doubt : RecordDoubt) → HasRecords image first second pair bodies doubt → HasSnapshot pair.snapshot bodies
snapshot_in image first second pair bodies certain h = h.snapshot
snapshot_in image first second pair bodies (entered body) h = h.snapshot
snapshot_in image first second pair bodies (checkpointed body) h = h.old

-- more records may follow
more_tails : (format epoch : ℕ) (bodies tails more : List (List ℕ)) (c : List ℕ) → IsActiveImage format epoch bodies tails c → IsActiveImage format epoch bodies (tails ++ more) c
more_tails format epoch bodies tails more c (inl stands) = inl stands
more_tails format epoch bodies tails more c (inr (tail, is, stands)) = inr (tail, Contains-append_left tails more tail is, stands)

of_append : (format epoch : ℕ) (bodies tails : List (List ℕ)) (body c : List ℕ) → IsEither format epoch bodies body c → IsActiveImage format epoch bodies (tails ++ body ∷ []) c
of_append format epoch bodies tails body c (inl stands) = inl stands
of_append format epoch bodies tails body c (inr stands) = inr (body, Contains-push tails body, stands)

-- a new journal to which a record is added
of_new_append : (side : Side) (epoch : ℕ) (snapshot body d : List ℕ) → IsEither 2 (epoch + 1) (snapshot ∷ []) body d → IsOtherImage side epoch ((snapshot ∷ []) ∷ (snapshot ∷ body ∷ []) ∷ []) d
of_new_append side epoch snapshot body d (inl stands) = inr (snapshot ∷ [], (0, omega arith, refl), stands_open 2 (epoch + 1) snapshot [] d stands, stands)
of_new_append side epoch snapshot body d (inr stands) = inr (snapshot ∷ body ∷ [], (1, omega arith, refl), stands_open 2 (epoch + 1) snapshot (body ∷ []) d stands, stands)

module _ {D : Type 0} (image : D → List ℕ → Type 0) (moment : D → ℕ) (left_since : D → ℕ → List ℕ → Type 0)
    (only_now : (d : D) (c : List ℕ) → left_since d (moment d) c → image d c)
    (counts_now : (d : D) (t : ℕ) (c : List ℕ) → t ≤ moment d → image d c → left_since d t c)
    (first second first_mid second_mid : D) (old mid : PairState) (snapshot : Option (List ℕ)) (body : List ℕ) where
  -- the journal wasn't made ready
  pub not_written : {T E : Type 0} (e : E) → Readies image moment left_since first second first_mid second_mid old mid {T = T} {E = E} (Err e) snapshot → Writes image moment left_since first second first_mid second_mid old mid {T = T} {E = E} (Err e) snapshot body
  not_written e h = record {
    done = tt;
    moved = tt;
    renewed = tt;
    fault = λ bodies doubt was. let left = h.fault bodies doubt was in inl (left.0, left.1, left.2, h.stayed);
    pairs = λ bodies doubt was sure long.
        let run = h.runs bodies doubt was sure long in
        let tails = tails_in doubt ++ tail_of snapshot body in
        let news = news_in doubt ++ (alone snapshot ++ with_record snapshot body) in
        together_of image moment left_since old.active first second first_mid second_mid
        (ThroughMending (IsActiveImage old.journal.format old.journal.epoch bodies tails)) (ThroughMending (IsOtherImage old.active old.journal.epoch news)) _
        (openings_of old.active _ _ _ (written_pair old.active old.journal.format old.journal.epoch old.snapshot bodies tails news (snapshot_in image first second old bodies doubt was)))
        (weaker image moment left_since _ _ _ _ (through_weaker _ _ (more_tails old.journal.format old.journal.epoch bodies (tails_in doubt) (tail_of snapshot body))) run.active)
        (weaker image moment left_since _ _ _ _ (through_weaker _ _ (λ d is. subst (λ l. IsOtherImage old.active old.journal.epoch l d) (append_assoc (news_in doubt) (alone snapshot) (with_record snapshot body)) (more_news old.active old.journal.epoch (news_in doubt ++ alone snapshot) (with_record snapshot body) d is))) run.other);
    sure = h.sure;
    long = h.long;
  }

  module _ (first_new second_new : D) (new : PairState) {T E : Type 0} (result : Result T E) where
    -- what `Pair::append` promises
    pub record Appended : Type 0 where
      pub moments : (bodies : List (List ℕ)) → IsPairClean image first_mid second_mid mid bodies → LeavesOnly moment left_since (active_of mid.active first_mid second_mid) (active_of mid.active first_new second_new) (ThroughMending (IsEither mid.journal.format mid.journal.epoch bodies body))
      pub other : other_of mid.active first_new second_new ≡ other_of mid.active first_mid second_mid
      pub active : new.active ≡ mid.active
      pub format : new.journal.format ≡ mid.journal.format
      pub epoch : new.journal.epoch ≡ mid.journal.epoch
      pub appended : OnOk result ((bodies : List (List ℕ)) → IsPairClean image first_mid second_mid mid bodies → IsPairClean image first_new second_new new (bodies ++ body ∷ []))
      pub fault : OnErr result ((bodies : List (List ℕ)) → IsPairClean image first_mid second_mid mid bodies → IsPairClean image first_new second_new new bodies ⊎ IsAppendInDoubt image first_new second_new new bodies body)
      pub passed : IsPassedBeside image first_mid second_mid mid → IsPassedBeside image first_new second_new new
      pub long : IsLongBeside image first_mid second_mid mid → IsLongBeside image first_new second_new new

  -- what it leaves at each moment, by the gates
  pub appends_through : (first_new second_new : D) → IsShort body
      → ((bodies : List (List ℕ)) → IsPairClean image first_mid second_mid mid bodies → LeavesOnly moment left_since (active_of mid.active first_mid second_mid) (active_of mid.active first_new second_new) (IsWhileAppended mid.journal.format mid.journal.epoch bodies body))
      → (bodies : List (List ℕ)) → IsPairClean image first_mid second_mid mid bodies → LeavesOnly moment left_since (active_of mid.active first_mid second_mid) (active_of mid.active first_new second_new) (ThroughMending (IsEither mid.journal.format mid.journal.epoch bodies body))
  appends_through first_new second_new short gates bodies clean =
      weaker image moment left_since _ _ _ _ (λ c is. appended_through mid.journal bodies clean.journal.prefix clean.journal.is_prefix body c short is) (gates bodies clean)

  moves_on : (s : Option (List ℕ)) (new : PairState) → Moves s old mid → new.active ≡ mid.active → new.journal.format ≡ mid.journal.format → new.journal.epoch ≡ mid.journal.epoch → Moves s old new
  moves_on None new m a f e = (a ∙ m.0, f ∙ m.1, e ∙ m.2)
  moves_on (Some s) new m a f e = (a ∙ m.0, f ∙ m.1, e ∙ m.2)

  module _ {T0 E0 : Type 0} (x0 : T0) (ready : Readies image moment left_since first second first_mid second_mid old mid {T = T0} {E = E0} (Ok x0) snapshot) (known : (bodies : List (List ℕ)) × (doubt : RecordDoubt) × HasRecords image first second old bodies doubt) where
    mid_off : mid.checkpoint ≡ false
    mid_off = (ready.done known.0 known.1 known.2).certain

    module _ (first_new second_new : D) (new : PairState) {T E : Type 0} (result : Result T E) (h : Appended first_new second_new new result) where
      always : (P : Type 0) → P → OnOk result P
      always P p = on_ok_weaker {P = (bodies : List (List ℕ)) → IsPairClean image first_mid second_mid mid bodies → IsPairClean image first_new second_new new (bodies ++ body ∷ [])} result (λ _. p) h.appended

      left_by : (bodies : List (List ℕ)) (doubt : RecordDoubt) → IsPairClean image first_new second_new new (records_before bodies snapshot) ⊎ IsAppendInDoubt image first_new second_new new (records_before bodies snapshot) body
          → IsLeftByWrite image moment left_since first second first_new second_new old new bodies doubt snapshot body
      left_by bodies doubt (inl clean) = inr (certain, inl refl, clean, moves_on snapshot new ready.moved h.active h.format h.epoch)
      left_by bodies doubt (inr in_doubt) = inr (entered body, inr refl, in_doubt, moves_on snapshot new ready.moved h.active h.format h.epoch)

      -- the images, with no checkpoint and with one
      run : (s : Option (List ℕ)) (bodies : List (List ℕ)) (doubt : RecordDoubt) → Moves s old mid → IsPairClean image first_mid second_mid mid (records_before bodies s)
          → Runs image moment left_since first second first_mid second_mid old mid bodies (tails_in doubt) (news_in doubt ++ alone s)
          → Runs image moment left_since first second first_new second_new old new bodies (tails_in doubt ++ tail_of s body) (news_in doubt ++ (alone s ++ with_record s body))
      run None bodies doubt moved clean before =
          let kept = subst (λ s. other_of s first_new second_new ≡ other_of s first_mid second_mid) moved.0 h.other in
          let during = subst (λ s. LeavesOnly moment left_since (active_of s first_mid second_mid) (active_of s first_new second_new) (ThroughMending (IsEither mid.journal.format mid.journal.epoch bodies body))) moved.0 (h.moments bodies clean) in
          let in_format = subst (λ f. LeavesOnly moment left_since (active_of old.active first_mid second_mid) (active_of old.active first_new second_new) (ThroughMending (IsEither f mid.journal.epoch bodies body))) moved.1 during in
          let in_epoch = subst (λ e. LeavesOnly moment left_since (active_of old.active first_mid second_mid) (active_of old.active first_new second_new) (ThroughMending (IsEither old.journal.format e bodies body))) moved.2 in_format in record {
            active = joined image moment left_since _ _ _ _
                (weaker image moment left_since _ _ _ _ (through_weaker _ _ (more_tails old.journal.format old.journal.epoch bodies (tails_in doubt) (body ∷ []))) before.active)
                (weaker image moment left_since _ _ _ _ (through_weaker _ _ (of_append old.journal.format old.journal.epoch bodies (tails_in doubt) body)) in_epoch);
            other = joined image moment left_since _ _ _ _ before.other
                (kept_run image moment left_since _ _ _ (only_now _) kept (holds_now image moment left_since _ _ _ (counts_now _) before.other));
          }
      run (Some s) bodies doubt moved clean before =
          let kept = subst (λ x. other_of x first_new second_new ≡ other_of x first_mid second_mid) moved.0 h.other in
          let during = subst (λ x. LeavesOnly moment left_since (active_of x first_mid second_mid) (active_of x first_new second_new) (ThroughMending (IsEither mid.journal.format mid.journal.epoch (s ∷ []) body))) moved.0 (h.moments (s ∷ []) clean) in
          let in_format = subst (λ f. LeavesOnly moment left_since (active_of (opposite_of old.active) first_mid second_mid) (active_of (opposite_of old.active) first_new second_new) (ThroughMending (IsEither f mid.journal.epoch (s ∷ []) body))) moved.1 during in
          let in_epoch = subst (λ e. LeavesOnly moment left_since (active_of (opposite_of old.active) first_mid second_mid) (active_of (opposite_of old.active) first_new second_new) (ThroughMending (IsEither 2 e (s ∷ []) body))) moved.2 in_format in
          let on_first = subst (λ x. LeavesOnly moment left_since x (active_of (opposite_of old.active) first_new second_new) (ThroughMending (IsEither 2 (old.journal.epoch + 1) (s ∷ []) body))) (sym (opposite_active old.active first_mid second_mid)) in_epoch in
          let on_other = subst (λ x. LeavesOnly moment left_since (other_of old.active first_mid second_mid) x (ThroughMending (IsEither 2 (old.journal.epoch + 1) (s ∷ []) body))) (sym (opposite_active old.active first_new second_new)) on_first in
          let still = opposite_other old.active first_new second_new ∙ (kept ∙ sym (opposite_other old.active first_mid second_mid)) in record {
            active = joined image moment left_since _ _ _ _
                (weaker image moment left_since _ _ _ _ (through_weaker _ _ (more_tails old.journal.format old.journal.epoch bodies (tails_in doubt) [])) before.active)
                (kept_run image moment left_since _ _ _ (only_now _) still (λ c here. through_weaker _ _ (more_tails old.journal.format old.journal.epoch bodies (tails_in doubt) []) c (holds_now image moment left_since _ _ _ (counts_now _) before.active c here)));
            other = joined image moment left_since _ _ _ _
                (weaker image moment left_since _ _ _ _ (through_weaker _ _ (λ d is. subst (λ l. IsOtherImage old.active old.journal.epoch l d) (append_assoc (news_in doubt) ((s ∷ []) ∷ []) ((s ∷ body ∷ []) ∷ [])) (more_news old.active old.journal.epoch (news_in doubt ++ (s ∷ []) ∷ []) ((s ∷ body ∷ []) ∷ []) d is))) before.other)
                (weaker image moment left_since _ _ _ _ (through_weaker _ _ (λ d is. other_news old.active old.journal.epoch (news_in doubt) ((s ∷ []) ∷ (s ∷ body ∷ []) ∷ []) d (of_new_append old.active old.journal.epoch s body d is))) on_other);
          }

      pub written : Writes image moment left_since first second first_new second_new old new result snapshot body
      written = record {
        done = on_ok_weaker result (λ appended bodies doubt was. appended (records_before bodies snapshot) (ready.done bodies doubt was)) h.appended;
        moved = always _ (moves_on snapshot new ready.moved h.active h.format h.epoch);
        renewed = always _ (λ some. let is = ready.renewed some in ((λ off. h.passed (is.0 mid_off)), (λ off. h.long (is.1 mid_off))));
        fault = on_err_weaker result (λ fault bodies doubt was. left_by bodies doubt (fault (records_before bodies snapshot) (ready.done bodies doubt was))) h.fault;
        pairs = λ bodies doubt was sure long.
            let runs = run snapshot bodies doubt ready.moved (ready.done bodies doubt was) (ready.runs bodies doubt was sure long) in
            let tails = tails_in doubt ++ tail_of snapshot body in
            let news = news_in doubt ++ (alone snapshot ++ with_record snapshot body) in
            together_of image moment left_since old.active first second first_new second_new
            (ThroughMending (IsActiveImage old.journal.format old.journal.epoch bodies tails)) (ThroughMending (IsOtherImage old.active old.journal.epoch news)) _
            (openings_of old.active _ _ _ (written_pair old.active old.journal.format old.journal.epoch old.snapshot bodies tails news (snapshot_in image first second old bodies doubt was)))
            runs.active runs.other;
        sure = λ sure long off. h.passed (ready.sure sure long mid_off);
        long = λ sure long off. h.long (ready.long sure long mid_off);
      }
