-- A repair, where one is needed.
use Rattle.std.proofs.Common.{◌≡◌, ◌⊎◌, inl, inr, ⊎_elim, ◌||◌, Bool, true, false, ◌+◌, ◌<◌, ◌^◌, ℕ, List, [], ◌∷◌, ◌++◌, Contains, None, Result, Ok, Err, OnOk, OnErr, refl, sym, ◌∙◌, ap, arith}
use Rattle.std.proofs.lemmas.Bool.{true≢false, false≢true}
use Rattle.std.proofs.lemmas.Result.{on_ok_weaker, on_err_weaker}
use Rattle.pod_disk.specs.Disk.{EachImage, LeavesOnly}
use Rattle.pod_disk.proofs.Moments.{weaker}
use Rattle.journal_log.specs.CleanJournal.{IsShort, IsClean}
use Rattle.journal_log.specs.Frames.{framed_of, opened}
use Rattle.journal_log.specs.Gates.{IsOpening}
use Rattle.journal_log.specs.Heads.{encoded_head}
use Rattle.journal_log.specs.Images.{Stands, IsEither}
use Rattle.journal_log.specs.Renewing.{IsNewJournal}
use Rattle.journal_log.specs.declared.fault.Side.{Side}
use Rattle.journal_pair.specs.PairJournal.{IsPairClean, IsAppendInDoubt, IsCheckpointInDoubt, IsPairInDoubt, IsPassedBeside, IsLongBeside}
use Rattle.journal_pair.specs.PairMoments.{ThroughMending}
use Rattle.journal_pair.specs.PairState.{PairState}
use Rattle.journal_pair.specs.Sides.{active_of, other_of}
use Rattle.journal_pair.specs.Stores.{IsPassedOver}
use Rattle.journal_pair.proofs.Beside.{closed_passed, closed_class, stands_open, stands_none}
use Rattle.journal_pair.proofs.PairRuns.{kept_run}
use Rattle.journal_pair.proofs.Reopening.{through_weaker, passed_through, clean_each_through, doubt_each_through, repaired_through, new_through}
use Rattle.journal_pair.specs.Doubts.{RecordDoubt, certain, entered, checkpointed, HasRecords, IsSure, tails_in, news_in}
use Rattle.journal_pair.specs.Writes.{IsActiveImage, IsOtherImage, Runs, Readies}
use Rattle.journal_pair.proofs.DoubtSteps.{clean_of, doubt_of, doubt_stays}

pub bool_cases : (b : Bool) → (b ≡ false) ⊎ (b ≡ true)
bool_cases true = inr refl
bool_cases false = inl refl

pub err_both : {T E A B C : Type 0} (r : Result T E) → (A → B → C) → OnErr r A → OnErr r B → OnErr r C
err_both (Ok x) f a b = tt
err_both (Err e) f a b = f a b

pub has_one : {X : Type 0} (x : X) → Contains (x ∷ []) x
has_one x = (0, omega arith, refl)

pub of_either : (format epoch : ℕ) (bodies : List (List ℕ)) (body c : List ℕ) → IsEither format epoch bodies body c → IsActiveImage format epoch bodies (body ∷ []) c
of_either format epoch bodies body c (inl stands) = inl stands
of_either format epoch bodies body c (inr stands) = inr (body, has_one body, stands)

-- a new journal with any first gate is passed over, or is open
of_new_either : (side : Side) (epoch : ℕ) (body d : List ℕ) → IsEither 2 (epoch + 1) [] body d → IsOtherImage side epoch ((body ∷ []) ∷ []) d
of_new_either side epoch body d (inl none) = inl (closed_passed side epoch d (closed_class d (stands_none 2 (epoch + 1) d none)))
of_new_either side epoch body d (inr stands) = inr (body ∷ [], has_one (body ∷ []), stands_open 2 (epoch + 1) body [] d stands, stands)

pub of_new : (side : Side) (epoch : ℕ) (body d : List ℕ) → epoch < 2 ^ 63 → IsShort body → IsNewJournal (epoch + 1) body d → ThroughMending (IsOtherImage side epoch ((body ∷ []) ∷ [])) d
of_new side epoch body d most short new =
    through_weaker (IsEither 2 (epoch + 1) [] body) _ (of_new_either side epoch body) d (new_through epoch body d most short new)

pub of_passed : (side : Side) (epoch : ℕ) (news : List (List (List ℕ))) (d : List ℕ) → IsPassedOver side epoch d → ThroughMending (IsOtherImage side epoch news) d
of_passed side epoch news d passed = through_weaker (IsPassedOver side epoch) _ (λ x is. inl is) d (passed_through side epoch d passed)

module _ {D : Type 0} (image : D → List ℕ → Type 0) (moment : D → ℕ) (left_since : D → ℕ → List ℕ → Type 0) (only_now : (d : D) (c : List ℕ) → left_since d (moment d) c → image d c) (first second : D) (old : PairState) where
  of_clean : (bodies tails : List (List ℕ)) → IsClean (image (active_of old.active first second)) old.journal bodies → EachImage (image (active_of old.active first second)) (ThroughMending (IsActiveImage old.journal.format old.journal.epoch bodies tails))
  of_clean bodies tails clean c here = through_weaker (Stands old.journal.format old.journal.epoch bodies) _ (λ x stands. inl stands) c (clean_each_through (image (active_of old.active first second)) old.journal bodies clean c here)

  pub each_active : (bodies : List (List ℕ)) (doubt : RecordDoubt) → HasRecords image first second old bodies doubt → EachImage (image (active_of old.active first second)) (ThroughMending (IsActiveImage old.journal.format old.journal.epoch bodies (tails_in doubt)))
  each_active bodies certain h = λ c here. of_clean bodies [] h.journal c here
  each_active bodies (entered body) h = λ c here. through_weaker _ _ (of_either old.journal.format old.journal.epoch bodies body) c (doubt_each_through (image (active_of old.active first second)) old.journal bodies body h.journal c here)
  each_active bodies (checkpointed body) h = λ c here. of_clean bodies [] h.journal c here

  pub each_other : (bodies : List (List ℕ)) (doubt : RecordDoubt) → HasRecords image first second old bodies doubt → IsSure image first second old → EachImage (image (other_of old.active first second)) (ThroughMending (IsOtherImage old.active old.journal.epoch (news_in doubt)))
  each_other bodies certain h sure = λ c here. of_passed old.active old.journal.epoch [] c (sure h.certain c here)
  each_other bodies (entered body) h sure = λ c here. of_passed old.active old.journal.epoch [] c (sure h.certain c here)
  each_other bodies (checkpointed body) h sure = λ c here. of_new old.active old.journal.epoch body c h.most h.short (h.new c here)

  -- nothing is in doubt, and no call is made
  pub not_needed : {T E : Type 0} (x : T) → (old.checkpoint || old.journal.doubt) ≡ false → Readies image moment left_since first second first second old old {T = T} {E = E} (Ok x) None
  not_needed x off = record {
    done = λ bodies doubt h. clean_of image first second old bodies doubt h off;
    moved = (refl, refl, refl);
    renewed = λ none. absurd (false≢true none);
    fault = tt;
    stayed = tt;
    runs = λ bodies doubt h sure long. untouched bodies doubt h sure;
    sure = λ sure long. sure;
    long = λ sure long. long;
  }
    where
      untouched : (bodies : List (List ℕ)) (doubt : RecordDoubt) → HasRecords image first second old bodies doubt → IsSure image first second old → Runs image moment left_since first second first second old old bodies (tails_in doubt) (news_in doubt ++ [])
      untouched bodies certain h sure = record {
        active = kept_run image moment left_since _ _ _ (only_now _) refl (each_active bodies certain h);
        other = kept_run image moment left_since _ _ _ (only_now _) refl (each_other bodies certain h sure);
      }
      untouched bodies (entered body) h sure = record {
        active = kept_run image moment left_since _ _ _ (only_now _) refl (each_active bodies (entered body) h);
        other = kept_run image moment left_since _ _ _ (only_now _) refl (each_other bodies (entered body) h sure);
      }
      untouched bodies (checkpointed body) h sure = record {
        active = kept_run image moment left_since _ _ _ (only_now _) refl (each_active bodies (checkpointed body) h);
        other = kept_run image moment left_since _ _ _ (only_now _) refl (each_other bodies (checkpointed body) h sure);
      }

  module _ (first_new second_new : D) (new : PairState) {T E : Type 0} (result : Result T E) where
    -- what `Pair::repair` promises
    pub record Repaired : Type 0 where
      pub done : OnOk result ((bodies : List (List ℕ)) (body : List ℕ) → IsPairInDoubt image first second old bodies body → IsPairClean image first_new second_new new bodies)
      pub fault : OnErr result ((bodies : List (List ℕ)) (body : List ℕ) → IsPairInDoubt image first second old bodies body → IsPairInDoubt image first_new second_new new bodies body)
      pub kind : OnErr result (new.checkpoint ≡ old.checkpoint)
      pub active : new.active ≡ old.active
      pub format : new.journal.format ≡ old.journal.format
      pub epoch : new.journal.epoch ≡ old.journal.epoch
      pub append_gates : (bodies : List (List ℕ)) (body : List ℕ) → IsAppendInDoubt image first second old bodies body → LeavesOnly moment left_since (active_of old.active first second) (active_of old.active first_new second_new) (IsOpening (encoded_head old.journal.format old.journal.epoch ++ opened bodies) (framed_of body))
      pub checkpoint_moments : (bodies : List (List ℕ)) (body : List ℕ) → IsCheckpointInDoubt image first second old bodies body → LeavesOnly moment left_since (other_of old.active first second) (other_of old.active first_new second_new) (IsNewJournal (old.journal.epoch + 1) body)
      pub active_kept : old.checkpoint ≡ true → active_of old.active first_new second_new ≡ active_of old.active first second
      pub other_kept : old.checkpoint ≡ false → other_of old.active first_new second_new ≡ other_of old.active first second
      pub append_passed : old.checkpoint ≡ false → IsPassedBeside image first second old → IsPassedBeside image first_new second_new new
      pub append_long : old.checkpoint ≡ false → IsLongBeside image first second old → IsLongBeside image first_new second_new new
      pub checkpoint_passed : OnOk result (old.checkpoint ≡ true → IsPassedBeside image first_new second_new new)
      pub checkpoint_long : OnOk result (old.checkpoint ≡ true → IsLongBeside image first_new second_new new)

  -- what holds of the other disk after either
  after_either : {T E : Type 0} (result : Result T E) (was is : Bool) (P Q : Type 0) → (was ≡ false → P → Q) → OnOk result (was ≡ true → Q) → OnErr result (is ≡ was) → (was ≡ false → P) → is ≡ false → Q
  after_either (Ok x) was is P Q kept fresh same held off = ⊎_elim (λ no. kept no (held no)) fresh (bool_cases was)
  after_either (Err e) was is P Q kept fresh same held off = let no : was ≡ false = sym same ∙ off in kept no (held no)

  pub repaired : (first_new second_new : D) (new : PairState) {T E : Type 0} (result : Result T E) → (old.checkpoint || old.journal.doubt) ≡ true → Repaired first_new second_new new result → Readies image moment left_since first second first_new second_new old new result None
  repaired first_new second_new new result on h = record {
    done = on_ok_weaker result (λ done bodies doubt was. let of = doubt_of image first second old bodies doubt was on in done bodies of.0 of.1) h.done;
    moved = on_ok_weaker {P = (bodies : List (List ℕ)) (body : List ℕ) → IsPairInDoubt image first second old bodies body → IsPairClean image first_new second_new new bodies} result (λ _. (h.active, h.format, h.epoch)) h.done;
    renewed = on_ok_weaker {P = (bodies : List (List ℕ)) (body : List ℕ) → IsPairInDoubt image first second old bodies body → IsPairClean image first_new second_new new bodies} result (λ _ none. absurd (false≢true none)) h.done;
    fault = err_both result (λ fault kind bodies doubt was. (doubt, refl, doubt_stays image first second first_new second_new old new bodies doubt on kind (fault bodies) was)) h.fault h.kind;
    stayed = on_err_weaker {P = new.checkpoint ≡ old.checkpoint} result (λ _. (h.active, h.format, h.epoch)) h.kind;
    runs = λ bodies doubt was sure long. run bodies doubt was sure;
    sure = λ sure long off. after_either result old.checkpoint new.checkpoint (IsPassedBeside image first second old) (IsPassedBeside image first_new second_new new) h.append_passed h.checkpoint_passed h.kind sure off;
    long = λ sure long off. after_either result old.checkpoint new.checkpoint (IsLongBeside image first second old) (IsLongBeside image first_new second_new new) h.append_long h.checkpoint_long h.kind long off;
  }
    where
      run : (bodies : List (List ℕ)) (doubt : RecordDoubt) → HasRecords image first second old bodies doubt → IsSure image first second old → Runs image moment left_since first second first_new second_new old new bodies (tails_in doubt) (news_in doubt ++ [])
      run bodies certain was sure = absurd (true≢false (sym on ∙ (ap (λ b. b || old.journal.doubt) was.certain ∙ was.journal.certain)))
      run bodies (entered body) was sure = record {
        active = weaker image moment left_since _ _ _ _ (λ c gate. through_weaker _ _ (of_either old.journal.format old.journal.epoch bodies body) c (repaired_through old.journal bodies was.journal.prefix was.journal.is_prefix body c was.journal.short gate)) (h.append_gates bodies body was);
        other = kept_run image moment left_since _ _ _ (only_now _) (h.other_kept was.certain) (each_other bodies (entered body) was sure);
      }
      run bodies (checkpointed body) was sure = record {
        active = kept_run image moment left_since _ _ _ (only_now _) (h.active_kept was.doubtful) (each_active bodies (checkpointed body) was);
        other = weaker image moment left_since _ _ _ _ (λ d. of_new old.active old.journal.epoch body d was.most was.short) (h.checkpoint_moments bodies body was);
      }
