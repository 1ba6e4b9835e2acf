-- A checkpoint after a repair.
use Rattle.std.proofs.Common.{◌≡◌, ◌⊎◌, inl, inr, false, ◌+◌, ◌<◌, ◌≤◌, ◌^◌, ℕ, List, [], ◌∷◌, ◌++◌, Some, None, Result, Ok, Err, OnOk, OnErr, refl, ◌∙◌, ap, subst, arith}
use Rattle.std.proofs.lemmas.Bool.{false≢true}
use Rattle.std.proofs.lemmas.List.{append-nil}
use Rattle.std.proofs.lemmas.List.Elements.{Contains-append_left, Contains-append_right}
use Rattle.std.proofs.lemmas.Result.{on_ok_weaker, on_err_weaker}
use Rattle.pod_disk.specs.Disk.{LeavesOnly}
use Rattle.pod_disk.proofs.Moments.{weaker, joined, holds_now}
use Rattle.journal_log.specs.CleanJournal.{IsShort}
use Rattle.journal_log.specs.JournalState.{JournalState}
use Rattle.journal_log.specs.declared.fault.Side.{Side}
use Rattle.journal_pair.specs.Checkpointed.{IsCheckpointed}
use Rattle.journal_pair.specs.PairJournal.{IsPairClean, IsCheckpointInDoubt, IsPassedBeside, IsLongBeside}
use Rattle.journal_pair.specs.PairMoments.{IsWhileCheckpointed, ThroughMending}
use Rattle.journal_pair.specs.PairState.{PairState}
use Rattle.journal_pair.specs.Sides.{active_of, other_of, opposite_of}
use Rattle.journal_pair.proofs.PairRuns.{kept_run}
use Rattle.journal_pair.proofs.Reopening.{through_weaker}
use Rattle.journal_pair.specs.Doubts.{RecordDoubt, certain, checkpointed, HasRecords, IsSure, IsLong, tails_in, news_in}
use Rattle.journal_pair.specs.Writes.{IsOtherImage, Runs, Readies, Moves}
use Rattle.journal_pair.proofs.Repairs.{of_new, of_passed}

-- more lists of records may be new
pub more_news : (side : Side) (epoch : ℕ) (news more : List (List (List ℕ))) (d : List ℕ) → IsOtherImage side epoch news d → IsOtherImage side epoch (news ++ more) d
more_news side epoch news more d (inl passed) = inl passed
more_news side epoch news more d (inr (new, is, is_open, stands)) = inr (new, Contains-append_left news more new is, is_open, stands)

pub other_news : (side : Side) (epoch : ℕ) (news more : List (List (List ℕ))) (d : List ℕ) → IsOtherImage side epoch more d → IsOtherImage side epoch (news ++ more) d
other_news side epoch news more d (inl passed) = inl passed
other_news side epoch news more d (inr (new, is, is_open, stands)) = inr (new, Contains-append_right news more new is, is_open, stands)

of_while : (side : Side) (epoch : ℕ) (snapshot d : List ℕ) → epoch < 2 ^ 63 → IsShort snapshot → IsWhileCheckpointed side epoch snapshot d → ThroughMending (IsOtherImage side epoch ((snapshot ∷ []) ∷ [])) d
of_while side epoch snapshot d most short (inl passed) = of_passed side epoch ((snapshot ∷ []) ∷ []) d passed.0
of_while side epoch snapshot d most short (inr new) = of_new side epoch snapshot d most short new

module _ {D : Type 0} (image : D → List ℕ → Type 0) (moment : D → ℕ) (left_since : D → ℕ → List ℕ → Type 0)
    (only_now : (d : D) (c : List ℕ) → left_since d (moment d) c → image d c)
    (counts_now : (d : D) (t : ℕ) (c : List ℕ) → t ≤ moment d → image d c → left_since d t c)
    (first second first_mid second_mid : D) (old mid : PairState) where
  -- a repair that failed
  pub not_renewed : {T E : Type 0} (e : E) (snapshot : List ℕ) → Readies image moment left_since first second first_mid second_mid old mid {T = T} {E = E} (Err e) None → Readies image moment left_since first second first_mid second_mid old mid {T = T} {E = E} (Err e) (Some snapshot)
  not_renewed e snapshot h = record {
    done = tt;
    moved = tt;
    renewed = tt;
    fault = λ bodies doubt was. let left = h.fault bodies doubt was in (left.0, inl left.1, left.2);
    stayed = h.stayed;
    runs = λ bodies doubt was sure long. let run = h.runs bodies doubt was sure (λ none. absurd (false≢true none)) in record {
      active = run.active;
      other = weaker image moment left_since _ _ _ _ (through_weaker _ _ (λ d is. more_news old.active old.journal.epoch (news_in doubt) ((snapshot ∷ []) ∷ []) d (subst (λ l. IsOtherImage old.active old.journal.epoch l d) (append-nil (news_in doubt)) is))) run.other;
    };
    sure = λ sure long. h.sure sure (λ none. absurd (false≢true none));
    long = h.long;
  }

  module _ (first_new second_new : D) (new : PairState) (snapshot : List ℕ) {T E : Type 0} (result : Result T E) where
    -- what `Pair::checkpoint` promises
    pub record Renewed : Type 0 where
      pub moments : IsPassedBeside image first_mid second_mid mid → IsLongBeside image first_mid second_mid mid → LeavesOnly moment left_since (other_of mid.active first_mid second_mid) (other_of mid.active first_new second_new) (IsWhileCheckpointed mid.active mid.journal.epoch snapshot)
      pub kept : active_of mid.active first_new second_new ≡ active_of mid.active first_mid second_mid
      pub done : OnOk result (mid.journal.epoch < 2 ^ 63 → IsCheckpointed image first_new second_new mid new snapshot)
      pub fault : OnErr result ((bodies : List (List ℕ)) → IsPairClean image first_mid second_mid mid bodies → IsPairClean image first_new second_new new bodies ⊎ IsCheckpointInDoubt image first_new second_new new bodies snapshot)
      pub fault_active : OnErr result (new.active ≡ mid.active)
      pub fault_journal : OnErr result (new.journal ≡ mid.journal)
      pub fault_passed : OnErr result (new.checkpoint ≡ false → IsPassedBeside image first_mid second_mid mid → IsLongBeside image first_mid second_mid mid → IsPassedBeside image first_new second_new new)
      pub fault_long : OnErr result (new.checkpoint ≡ false → IsPassedBeside image first_mid second_mid mid → IsLongBeside image first_mid second_mid mid → IsLongBeside image first_new second_new new)

  module _ {T0 E0 : Type 0} (x0 : T0) (ready : Readies image moment left_since first second first_mid second_mid old mid {T = T0} {E = E0} (Ok x0) None) (known : (bodies : List (List ℕ)) × (doubt : RecordDoubt) × HasRecords image first second old bodies doubt) where
    mid_off : mid.checkpoint ≡ false
    mid_off = (ready.done known.0 known.1 known.2).certain

    mid_passed : IsSure image first second old → IsPassedBeside image first_mid second_mid mid
    mid_passed sure = ready.sure sure (λ none. absurd (false≢true none)) mid_off

    mid_long : IsSure image first second old → IsLong image first second old → IsLongBeside image first_mid second_mid mid
    mid_long sure long = ready.long sure long mid_off

    pub renewed : (first_new second_new : D) (new : PairState) (snapshot : List ℕ) {T E : Type 0} (result : Result T E) → old.journal.epoch < 2 ^ 63 → IsShort snapshot → Renewed first_new second_new new snapshot result → Readies image moment left_since first second first_new second_new old new result (Some snapshot)
    renewed first_new second_new new snapshot result most short h = record {
      done = on_ok_weaker result (λ done bodies doubt was. (done mid_most).clean) h.done;
      moved = on_ok_weaker result (λ done. let is = done mid_most in (is.active ∙ ap opposite_of ready.moved.0, is.format, is.epoch ∙ ap (λ n. n + 1) ready.moved.2)) h.done;
      renewed = on_ok_weaker result (λ done some. let is = done mid_most in ((λ off. is.passed), (λ off. is.long))) h.done;
      fault = on_err_weaker result (λ fault bodies doubt was. left_by bodies doubt (fault bodies (ready.done bodies doubt was))) h.fault;
      stayed = stayed_both result h.fault_active h.fault_journal;
      runs = λ bodies doubt was sure long. run bodies doubt was sure (long refl);
      sure = λ sure long. sure_after result h.done h.fault_passed (mid_passed sure) (mid_long sure (long refl));
      long = λ sure long. long_after result h.done h.fault_long (mid_passed sure) (mid_long sure long);
    }
      where
        mid_most : mid.journal.epoch < 2 ^ 63
        mid_most = omega (arith, ready.moved.2, most)

        left_by : (bodies : List (List ℕ)) (doubt : RecordDoubt) → IsPairClean image first_new second_new new bodies ⊎ IsCheckpointInDoubt image first_new second_new new bodies snapshot
            → (left : RecordDoubt) × ((left ≡ doubt) ⊎ ((left ≡ certain) ⊎ (left ≡ checkpointed snapshot))) × HasRecords image first_new second_new new bodies left
        left_by bodies doubt (inl clean) = (certain, inr (inl refl), clean)
        left_by bodies doubt (inr in_doubt) = (checkpointed snapshot, inr (inr refl), in_doubt)

        stayed_both : {T E : Type 0} (r : Result T E) → OnErr r (new.active ≡ mid.active) → OnErr r (new.journal ≡ mid.journal) → OnErr r (Moves None old new)
        stayed_both (Ok x) a j = tt
        stayed_both (Err e) a j = (a ∙ ready.moved.0, ap (λ (s : JournalState). s.format) j ∙ ready.moved.1, ap (λ (s : JournalState). s.epoch) j ∙ ready.moved.2)

        sure_after : {T E : Type 0} (r : Result T E) → OnOk r (mid.journal.epoch < 2 ^ 63 → IsCheckpointed image first_new second_new mid new snapshot) → OnErr r (new.checkpoint ≡ false → IsPassedBeside image first_mid second_mid mid → IsLongBeside image first_mid second_mid mid → IsPassedBeside image first_new second_new new)
            → IsPassedBeside image first_mid second_mid mid → IsLongBeside image first_mid second_mid mid → new.checkpoint ≡ false → IsPassedBeside image first_new second_new new
        sure_after (Ok x) done fault passed long off = (done mid_most).passed
        sure_after (Err e) done fault passed long off = fault off passed long

        long_after : {T E : Type 0} (r : Result T E) → OnOk r (mid.journal.epoch < 2 ^ 63 → IsCheckpointed image first_new second_new mid new snapshot) → OnErr r (new.checkpoint ≡ false → IsPassedBeside image first_mid second_mid mid → IsLongBeside image first_mid second_mid mid → IsLongBeside image first_new second_new new)
            → IsPassedBeside image first_mid second_mid mid → IsLongBeside image first_mid second_mid mid → new.checkpoint ≡ false → IsLongBeside image first_new second_new new
        long_after (Ok x) done fault passed long off = (done mid_most).long
        long_after (Err e) done fault passed long off = fault off passed long

        run : (bodies : List (List ℕ)) (doubt : RecordDoubt) → HasRecords image first second old bodies doubt → IsSure image first second old → IsLong image first second old → Runs image moment left_since first second first_new second_new old new bodies (tails_in doubt) (news_in doubt ++ (snapshot ∷ []) ∷ [])
        run bodies doubt was sure long =
            let before = ready.runs bodies doubt was sure (λ none. absurd (false≢true none)) in
            let kept = subst (λ s. active_of s first_new second_new ≡ active_of s first_mid second_mid) ready.moved.0 h.kept in
            let during = subst (λ s. LeavesOnly moment left_since (other_of s first_mid second_mid) (other_of s first_new second_new) (IsWhileCheckpointed s mid.journal.epoch snapshot)) ready.moved.0 (h.moments (mid_passed sure) (mid_long sure long)) in
            let of_epoch = subst (λ e. LeavesOnly moment left_since (other_of old.active first_mid second_mid) (other_of old.active first_new second_new) (IsWhileCheckpointed old.active e snapshot)) ready.moved.2 during in record {
              active = joined image moment left_since _ _ _ _ before.active
                  (kept_run image moment left_since _ _ _ (only_now _) kept (holds_now image moment left_since _ _ _ (counts_now _) before.active));
              other = joined image moment left_since _ _ _ _
                  (weaker image moment left_since _ _ _ _ (through_weaker _ _ (λ d is. more_news old.active old.journal.epoch (news_in doubt) ((snapshot ∷ []) ∷ []) d (subst (λ l. IsOtherImage old.active old.journal.epoch l d) (append-nil (news_in doubt)) is))) before.other)
                  (weaker image moment left_since _ _ _ _ (λ d is. through_weaker _ _ (other_news old.active old.journal.epoch (news_in doubt) ((snapshot ∷ []) ∷ [])) d (of_while old.active old.journal.epoch snapshot d most short is)) of_epoch);
            }
