-- A pair that is clean or in doubt, and what its disks stand for.
use Rattle.std.proofs.Common.{◌≡◌, inr, ℕ, ◌<◌, ◌^◌, List, length, sym, subst}
use Rattle.pod_disk.specs.Disk.{EachImage, LeavesOnly}
use Rattle.journal_log.specs.Images.{Stands, IsEither}
use Rattle.journal_log.specs.JournalState.{JournalState}
use Rattle.journal_log.specs.CleanJournal.{IsClean, IsInDoubt}
use Rattle.journal_log.proofs.Records.{stands_closed, stands_opening}
use Rattle.journal_pair.specs.Sides.{active_of, other_of}
use Rattle.journal_pair.specs.Stores.{IsPassedOver, StoreStands, StoreStandsEither, StoreStandsBoth}
use Rattle.journal_pair.specs.PairState.{PairState}
use Rattle.journal_pair.specs.PairJournal.{HasSnapshot, IsPairClean, IsAppendInDoubt, IsCheckpointInDoubt, IsPassedBeside}
use Rattle.journal_pair.specs.PairMoments.{LeavesPairs, EachPair, IsWhileCheckpointed}
use Rattle.journal_pair.proofs.Beside.{store_stands, store_stands_either, store_stands_both}
use Rattle.journal_pair.proofs.PairRuns.{kept_run, pairs_of, each_pair}

pub clean_each : (images : List ℕ → Type 0) (journal : JournalState) (bodies : List (List ℕ)) → IsClean images journal bodies → EachImage images (Stands journal.format journal.epoch bodies)
clean_each images journal bodies clean c now = stands_closed journal bodies clean.prefix clean.is_prefix c (clean.closed c now)

pub doubt_each : (images : List ℕ → Type 0) (journal : JournalState) (bodies : List (List ℕ)) (body : List ℕ) → IsInDoubt images journal bodies body → EachImage images (IsEither journal.format journal.epoch bodies body)
doubt_each images journal bodies body doubt c now = stands_opening journal bodies doubt.prefix doubt.is_prefix body c doubt.short (doubt.opening c now)

module _ {D : Type 0} (image : D → List ℕ → Type 0) (moment : D → ℕ) (left_since : D → ℕ → List ℕ → Type 0) (first second : D) (pair : PairState) where
  abbrev pub active_images : List ℕ → Type 0
  active_images = image (active_of pair.active first second)

  pub clean_pairs : (bodies : List (List ℕ)) → IsPairClean image first second pair bodies → IsPassedBeside image first second pair
      → EachPair (image first) (image second) (StoreStands pair.active pair.journal.format pair.journal.epoch bodies)
  clean_pairs bodies clean passed =
      each_pair image moment left_since pair.active first second (Stands pair.journal.format pair.journal.epoch bodies) (IsPassedOver pair.active pair.journal.epoch) _
      (λ c d stands beside. store_stands pair.active pair.journal.format pair.journal.epoch pair.snapshot bodies clean.snapshot c d stands beside)
      (clean_each active_images pair.journal bodies clean.journal) passed

  pub append_doubt_pairs : (bodies : List (List ℕ)) (body : List ℕ) → IsAppendInDoubt image first second pair bodies body → IsPassedBeside image first second pair
      → EachPair (image first) (image second) (StoreStandsEither pair.active pair.journal.format pair.journal.epoch bodies body)
  append_doubt_pairs bodies body doubt passed =
      each_pair image moment left_since pair.active first second (IsEither pair.journal.format pair.journal.epoch bodies body) (IsPassedOver pair.active pair.journal.epoch) _
      (λ c d stands beside. store_stands_either pair.active pair.journal.format pair.journal.epoch pair.snapshot bodies body c d doubt.snapshot stands beside)
      (doubt_each active_images pair.journal bodies body doubt.journal) passed

  pub checkpoint_doubt_pairs : (bodies : List (List ℕ)) (body : List ℕ) → IsCheckpointInDoubt image first second pair bodies body
      → EachPair (image first) (image second) (StoreStandsBoth pair.active pair.journal.format pair.journal.epoch bodies body)
  checkpoint_doubt_pairs bodies body doubt =
      each_pair image moment left_since pair.active first second (Stands pair.journal.format pair.journal.epoch bodies) (IsWhileCheckpointed pair.active pair.journal.epoch body) _
      (λ c d stands beside. store_stands_both pair.active pair.journal.format pair.journal.epoch pair.snapshot bodies doubt.old c d body doubt.most doubt.short stands beside)
      (clean_each active_images pair.journal bodies doubt.journal) (λ c now. inr (doubt.new c now))

  module _ (first_new second_new : D) (only_now : (d : D) (c : List ℕ) → left_since d (moment d) c → image d c) where
    -- a run on the active disk beside one that no call touched
    pub either_run : (bodies : List (List ℕ)) (body : List ℕ) → HasSnapshot pair.snapshot bodies → IsPassedBeside image first second pair
        → LeavesOnly moment left_since (active_of pair.active first second) (active_of pair.active first_new second_new) (IsEither pair.journal.format pair.journal.epoch bodies body)
        → other_of pair.active first_new second_new ≡ other_of pair.active first second
        → LeavesPairs moment left_since first second first_new second_new (StoreStandsEither pair.active pair.journal.format pair.journal.epoch bodies body)
    either_run bodies body has passed run same =
        pairs_of image moment left_since pair.active first second first_new second_new (IsEither pair.journal.format pair.journal.epoch bodies body) (IsPassedOver pair.active pair.journal.epoch) _
        (λ c d stands beside. store_stands_either pair.active pair.journal.format pair.journal.epoch pair.snapshot bodies body c d has stands beside)
        run (kept_run image moment left_since _ _ _ (only_now _) same passed)

    -- and one on the other disk
    pub both_run : (bodies : List (List ℕ)) (body : List ℕ) → HasSnapshot pair.snapshot bodies → pair.journal.epoch < 2 ^ 63 → length body < 2 ^ 64
        → IsClean active_images pair.journal bodies
        → LeavesOnly moment left_since (other_of pair.active first second) (other_of pair.active first_new second_new) (IsWhileCheckpointed pair.active pair.journal.epoch body)
        → active_of pair.active first_new second_new ≡ active_of pair.active first second
        → LeavesPairs moment left_since first second first_new second_new (StoreStandsBoth pair.active pair.journal.format pair.journal.epoch bodies body)
    both_run bodies body has most short clean run same =
        pairs_of image moment left_since pair.active first second first_new second_new (Stands pair.journal.format pair.journal.epoch bodies) (IsWhileCheckpointed pair.active pair.journal.epoch body) _
        (λ c d stands beside. store_stands_both pair.active pair.journal.format pair.journal.epoch pair.snapshot bodies has c d body most short stands beside)
        (kept_run image moment left_since _ _ _ (only_now _) same (clean_each active_images pair.journal bodies clean)) run

-- what holds of each image of a disk that no call touched
pub kept_each : {D : Type 0} (image : D → List ℕ → Type 0) (old new : D) (P : List ℕ → Type 0) → new ≡ old → EachImage (image old) P → EachImage (image new) P
kept_each {D = D} image old new P same was = subst (λ (n : D). EachImage (image n) P) (sym same) was
