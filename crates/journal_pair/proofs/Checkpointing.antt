-- What a checkpoint leaves.
use Rattle.std.proofs.Common.{◌≡◌, ℕ, ◌+◌, ◌<◌, ◌≤◌, ◌^◌, List, Option, Some, length, sym, ◌∙◌, subst, arith}
use Rattle.pod_io.specs.Visible.{IfVisible}
use Rattle.pod_disk.specs.Disk.{EachImage, LeavesOnly}
use Rattle.pod_disk.proofs.Moments.{weaker, holds_now}
use Rattle.journal_log.specs.Classes.{HasClass}
use Rattle.journal_log.specs.CleanJournal.{IsClean}
use Rattle.journal_log.specs.JournalState.{JournalState}
use Rattle.journal_log.specs.Renewing.{IsBeforeOpening, IsWhileRenewed}
use Rattle.journal_log.specs.declared.disk_class.DiskClass.TheVariants.{Open}
use Rattle.journal_log.specs.declared.fault.Side.{Side}
use Rattle.journal_pair.specs.Sides.{active_of, other_of, opposite_of}
use Rattle.journal_pair.specs.Stores.{IsPassedOver, StoreStandsBoth}
use Rattle.journal_pair.specs.PairState.{PairState}
use Rattle.journal_pair.specs.PairJournal.{IsPairClean, IsPassedBeside, IsLongBeside}
use Rattle.journal_pair.specs.PairMoments.{LeavesPairs, IsWhileCheckpointed}
use Rattle.journal_pair.proofs.Beside.{before_passed, while_passed, snapshot_open, open_passed, open_long, opposite_other}
use Rattle.journal_pair.proofs.Pairing.{clean_each, both_run}

-- a disk that no call touched keeps a clean journal
pub kept_clean : {D : Type 0} (image : D → List ℕ → Type 0) (old new : D) (journal : JournalState) (bodies : List (List ℕ)) → new ≡ old → IsClean (image old) journal bodies → IsClean (image new) journal bodies
kept_clean {D = D} image old new journal bodies same clean = subst (λ (n : D). IsClean (image n) journal bodies) (sym same) clean

module _ {D : Type 0} (content : D → Option (List ℕ)) (image : D → List ℕ → Type 0) (moment : D → ℕ) (left_since : D → ℕ → List ℕ → Type 0)
    (reads_image : (disk : D) (b : List ℕ) → content disk ≡ Some b → image disk b)
    (counts_now : (disk : D) (t : ℕ) (c : List ℕ) → t ≤ moment disk → image disk c → left_since disk t c)
    (only_now : (disk : D) (c : List ℕ) → left_since disk (moment disk) c → image disk c)
    (first second first_new second_new : D) (now : PairState) (side : Side) (is_side : side ≡ now.active) where
  visible_long : IsLongBeside image first second now → IfVisible (content (other_of side first second)) (λ b. 17 ≤ length b)
  visible_long long b visible = long b (subst (λ (s : Side). image (other_of s first second) b) is_side (reads_image (other_of side first second) b visible))

  kept_active : active_of side first_new second_new ≡ active_of side first second → active_of now.active first_new second_new ≡ active_of now.active first second
  kept_active same = subst (λ (s : Side). active_of s first_new second_new ≡ active_of s first second) is_side same

  module _ (epoch : ℕ) (is_epoch : epoch ≡ now.journal.epoch) where
    module _ (body : List ℕ) (passed : IsPassedBeside image first second now) (long : IsLongBeside image first second now)
        (run : IfVisible (content (other_of side first second)) (λ b. 17 ≤ length b) → LeavesOnly moment left_since (other_of side first second) (other_of side first_new second_new) (IsWhileRenewed (image (other_of side first second)) (epoch + 1) body)) where
      -- the disk beside is passed over, or holds the new journal
      pub renew_moments : LeavesOnly moment left_since (other_of now.active first second) (other_of now.active first_new second_new) (IsWhileCheckpointed now.active now.journal.epoch body)
      renew_moments =
          let here = subst (λ (s : Side). LeavesOnly moment left_since (other_of s first second) (other_of s first_new second_new) (IsWhileRenewed (image (other_of s first second)) (epoch + 1) body)) is_side (run (visible_long long)) in
          let there = subst (λ (e : ℕ). LeavesOnly moment left_since (other_of now.active first second) (other_of now.active first_new second_new) (IsWhileRenewed (image (other_of now.active first second)) (e + 1) body)) is_epoch here in
          weaker image moment left_since _ _ _ _ (λ c is. while_passed (image (other_of now.active first second)) now.active now.journal.epoch passed long body c is) there

      pub renew_pairs : (bodies : List (List ℕ)) → IsPairClean image first second now bodies → epoch < 2 ^ 63 → length body < 2 ^ 64 → active_of side first_new second_new ≡ active_of side first second
          → LeavesPairs moment left_since first second first_new second_new (StoreStandsBoth now.active now.journal.format now.journal.epoch bodies body)
      renew_pairs bodies clean most short same =
          both_run image moment left_since first second now first_new second_new only_now bodies body clean.snapshot (omega (arith, most, is_epoch)) short clean.journal renew_moments (kept_active same)

    -- after a fault before the first gate was opened
    pub closed_left : IsPassedBeside image first second now → IsLongBeside image first second now
        → (IfVisible (content (other_of side first second)) (λ b. 17 ≤ length b) → LeavesOnly moment left_since (other_of side first second) (other_of side first_new second_new) (IsBeforeOpening (image (other_of side first second))))
        → EachImage (image (other_of now.active first_new second_new)) (λ c. IsPassedOver now.active now.journal.epoch c × (17 ≤ length c))
    closed_left passed long run c here =
        let there = subst (λ (s : Side). LeavesOnly moment left_since (other_of s first second) (other_of s first_new second_new) (IsBeforeOpening (image (other_of s first second)))) is_side (run (visible_long long)) in
        before_passed (image (other_of now.active first second)) now.active now.journal.epoch passed long c
        (holds_now image moment left_since (other_of now.active first second) (other_of now.active first_new second_new) _ (counts_now _) there c here)

    -- and after Ok: the disk that was the active one
    module _ (bodies : List (List ℕ)) (clean : IsPairClean image first second now bodies) (same : active_of side first_new second_new ≡ active_of side first second) (beside : Side) (is_beside : beside ≡ opposite_of side) where
      was_open : (c : List ℕ) → image (other_of beside first_new second_new) c → HasClass (Open epoch) c
      was_open c here =
          let opposite : image (other_of (opposite_of side) first_new second_new) c = subst (λ (s : Side). image (other_of s first_new second_new) c) is_beside here in
          let active : image (active_of side first second) c = subst (λ (x : D). image x c) (sym (opposite_other side first_new second_new) ∙ same) opposite in
          let there : image (active_of now.active first second) c = subst (λ (s : Side). image (active_of s first second) c) is_side active in
          subst (λ (e : ℕ). HasClass (Open e) c) (sym is_epoch)
          (snapshot_open now.snapshot now.journal.format now.journal.epoch bodies c clean.snapshot (clean_each (image (active_of now.active first second)) now.journal bodies clean.journal c there))

      pub renewed_passed : (next : ℕ) → next ≡ epoch + 1 → EachImage (image (other_of beside first_new second_new)) (IsPassedOver beside next)
      renewed_passed next is c here = open_passed beside next epoch c (omega (arith, is)) (was_open c here)

      pub renewed_long : EachImage (image (other_of beside first_new second_new)) (λ c. 17 ≤ length c)
      renewed_long c here = open_long epoch c (was_open c here)
