-- What is in doubt, by the flags of the pair.
use Rattle.std.proofs.Common.{◌≡◌, inl, inr, ◌||◌, Bool, true, false, ℕ, List, refl, sym, ◌∙◌, ap}
use Rattle.std.proofs.lemmas.Bool.{true≢false}
use Rattle.journal_pair.specs.PairJournal.{IsPairClean, IsAppendInDoubt, IsCheckpointInDoubt, IsPairInDoubt}
use Rattle.journal_pair.specs.PairState.{PairState}
use Rattle.journal_pair.specs.Doubts.{RecordDoubt, certain, entered, checkpointed, HasRecords}

flags_off : (a b : Bool) → (a || b) ≡ false → (a ≡ false) × (b ≡ false)
flags_off true b e = absurd (true≢false e)
flags_off false b e = (refl, e)

module _ {D : Type 0} (image : D → List ℕ → Type 0) (first second : D) (pair : PairState) where
  -- with no gate in doubt the pair is clean
  pub clean_of : (bodies : List (List ℕ)) (doubt : RecordDoubt) → HasRecords image first second pair bodies doubt → (pair.checkpoint || pair.journal.doubt) ≡ false → IsPairClean image first second pair bodies
  clean_of bodies certain h off = h
  clean_of bodies (entered body) h off = absurd (true≢false (sym h.journal.doubtful ∙ (flags_off pair.checkpoint pair.journal.doubt off).1))
  clean_of bodies (checkpointed body) h off = absurd (true≢false (sym h.doubtful ∙ (flags_off pair.checkpoint pair.journal.doubt off).0))

  -- with one in doubt there is a record for it
  pub doubt_of : (bodies : List (List ℕ)) (doubt : RecordDoubt) → HasRecords image first second pair bodies doubt → (pair.checkpoint || pair.journal.doubt) ≡ true → (body : List ℕ) × IsPairInDoubt image first second pair bodies body
  doubt_of bodies certain h on = absurd (true≢false (sym on ∙ (ap (λ b. b || pair.journal.doubt) h.certain ∙ h.journal.certain)))
  doubt_of bodies (entered body) h on = (body, inl h)
  doubt_of bodies (checkpointed body) h on = (body, inr h)

  -- which of the two it is
  pub entered_of : (bodies : List (List ℕ)) (body : List ℕ) → pair.checkpoint ≡ false → IsPairInDoubt image first second pair bodies body → IsAppendInDoubt image first second pair bodies body
  entered_of bodies body off (inl h) = h
  entered_of bodies body off (inr h) = absurd (true≢false (sym h.doubtful ∙ off))

  pub checkpointed_of : (bodies : List (List ℕ)) (body : List ℕ) → pair.checkpoint ≡ true → IsPairInDoubt image first second pair bodies body → IsCheckpointInDoubt image first second pair bodies body
  checkpointed_of bodies body on (inl h) = absurd (true≢false (sym on ∙ h.certain))
  checkpointed_of bodies body on (inr h) = h

-- a failed repair leaves what was in doubt
pub doubt_stays : {D : Type 0} (image : D → List ℕ → Type 0) (first second first_new second_new : D) (old new : PairState) (bodies : List (List ℕ)) (doubt : RecordDoubt) → (old.checkpoint || old.journal.doubt) ≡ true → new.checkpoint ≡ old.checkpoint
    → ((body : List ℕ) → IsPairInDoubt image first second old bodies body → IsPairInDoubt image first_new second_new new bodies body)
    → HasRecords image first second old bodies doubt → HasRecords image first_new second_new new bodies doubt
doubt_stays image first second first_new second_new old new bodies certain on same stays h = absurd (true≢false (sym on ∙ (ap (λ b. b || old.journal.doubt) h.certain ∙ h.journal.certain)))
doubt_stays image first second first_new second_new old new bodies (entered body) on same stays h = entered_of image first_new second_new new bodies body (same ∙ h.certain) (stays body (inl h))
doubt_stays image first second first_new second_new old new bodies (checkpointed body) on same stays h = checkpointed_of image first_new second_new new bodies body (same ∙ h.doubtful) (stays body (inr h))
