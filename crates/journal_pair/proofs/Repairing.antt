-- What a repair leaves.
use Rattle.std.proofs.Common.{◌≡◌, inl, inr, ℕ, ◌+◌, ◌≤◌, List, Option, Some, length, true, false, sym, ◌∙◌}
use Rattle.pod_io.specs.Visible.{IfVisible}
use Rattle.pod_disk.specs.Disk.{LeavesOnly}
use Rattle.pod_disk.proofs.Moments.{weaker, holds_now}
use Rattle.journal_log.specs.Renewing.{IsNewJournal}
use Rattle.journal_pair.specs.Sides.{active_of, other_of}
use Rattle.journal_pair.specs.Stores.{StoreStandsBoth}
use Rattle.journal_pair.specs.PairState.{PairState}
use Rattle.journal_pair.specs.PairJournal.{IsAppendInDoubt, IsCheckpointInDoubt, IsPairInDoubt}
use Rattle.journal_pair.specs.PairMoments.{LeavesPairs, IsWhileCheckpointed}
use Rattle.journal_pair.proofs.Beside.{new_long}
use Rattle.journal_pair.proofs.Pairing.{both_run}
use Rattle.journal_pair.proofs.Checkpointing.{kept_clean}

true_is_false : true ≡ false → ⊥
true_is_false is = cc

module _ {D : Type 0} (content : D → Option (List ℕ)) (image : D → List ℕ → Type 0) (moment : D → ℕ) (left_since : D → ℕ → List ℕ → Type 0)
    (reads_image : (disk : D) (b : List ℕ) → content disk ≡ Some b → image disk b)
    (counts_now : (disk : D) (t : ℕ) (c : List ℕ) → t ≤ moment disk → image disk c → left_since disk t c)
    (only_now : (disk : D) (c : List ℕ) → left_since disk (moment disk) c → image disk c)
    (first second : D) (pair : PairState) where
  -- the flag says which gate is in doubt
  pub of_checkpoint : (bodies : List (List ℕ)) (body : List ℕ) → pair.checkpoint ≡ true → IsPairInDoubt image first second pair bodies body → IsCheckpointInDoubt image first second pair bodies body
  of_checkpoint bodies body is (inl append) = absurd (true_is_false (sym is ∙ append.certain))
  of_checkpoint bodies body is (inr checkpoint) = checkpoint

  pub of_append : (bodies : List (List ℕ)) (body : List ℕ) → pair.checkpoint ≡ false → IsPairInDoubt image first second pair bodies body → IsAppendInDoubt image first second pair bodies body
  of_append bodies body is (inl append) = append
  of_append bodies body is (inr checkpoint) = absurd (true_is_false (sym checkpoint.doubtful ∙ is))

  pub long_beside : (bodies : List (List ℕ)) (body : List ℕ) → IsCheckpointInDoubt image first second pair bodies body → IfVisible (content (other_of pair.active first second)) (λ b. 17 ≤ length b)
  long_beside bodies body doubt b visible = new_long (pair.journal.epoch + 1) body b (doubt.new b (reads_image (other_of pair.active first second) b visible))

  module _ (first_new second_new : D) (bodies : List (List ℕ)) (body : List ℕ) (doubt : IsCheckpointInDoubt image first second pair bodies body)
      (run : LeavesOnly moment left_since (other_of pair.active first second) (other_of pair.active first_new second_new) (IsNewJournal (pair.journal.epoch + 1) body))
      (same : active_of pair.active first_new second_new ≡ active_of pair.active first second) where
    -- while the first gate of a checkpoint is closed
    pub shut_pairs : LeavesPairs moment left_since first second first_new second_new (StoreStandsBoth pair.active pair.journal.format pair.journal.epoch bodies body)
    shut_pairs =
        both_run image moment left_since first second pair first_new second_new only_now bodies body doubt.old doubt.most doubt.short doubt.journal
        (weaker image moment left_since _ _ _ (IsWhileCheckpointed pair.active pair.journal.epoch body) (λ c new. inr new) run) same

    -- and after a fault it is in doubt still
    pub still_doubt : IsCheckpointInDoubt image first_new second_new pair bodies body
    still_doubt = record {
      journal = kept_clean image _ _ pair.journal bodies same doubt.journal;
      old = doubt.old;
      most = doubt.most;
      short = doubt.short;
      new = holds_now image moment left_since _ _ _ (counts_now _) run;
      doubtful = doubt.doubtful;
    }
