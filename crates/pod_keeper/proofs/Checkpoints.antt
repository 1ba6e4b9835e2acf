-- What a keeper stands for after a checkpoint.
use Rattle.std.proofs.Common.{◌≡◌, inl, inr, ⊎_elim, ℕ, zero, suc, ◌+◌, List, [], ◌∷◌, ◌++◌, Contains, Some, None, Result, Ok, Err, refl, sym, subst, arith}
use Rattle.std.proofs.lemmas.List.Elements.{Contains-append_cases}
use Rattle.journal_pair.specs.PairJournal.{HasSnapshot}
use Rattle.journal_pair.specs.PairState.{PairState}
use Rattle.journal_pair.specs.Sides.{opposite_of}
use Rattle.journal_pair.specs.Stores.{StoreStands}
use Rattle.journal_pair.specs.Doubts as records
use Rattle.journal_pair.specs.Doubts.{RecordDoubt, HasRecords, IsSure, IsLong, tails_in, news_in}
use Rattle.journal_pair.specs.Writes.{Readies, Moves, StandsForWritten, IsLeftBefore, IsActiveImage, IsOtherImage}
use Rattle.journal_pair.proofs.TogetherRuns.{together_of, together_weaker}
use Rattle.journal_pair.proofs.WrittenPairs.{written_pair}
use Rattle.journal_pair.specs.PairMoments.{ThroughMending, ThroughOpenings}
use Rattle.journal_pair.proofs.Reopening.{openings_of, openings_weaker}
use Rattle.pod_core.specs.History.{History, end_of, longer}
use Rattle.pod_keeper.specs.Commits.{IsCheckpointed, IsCheckpointFaulted, LeavesPodsOf}
use Rattle.pod_keeper.specs.CrashedPods.{StandsForOneOf}
use Rattle.pod_keeper.specs.Kept.{Doubt, certain, checkpointed, entries_in, IsCheckpointText, IsKept, StandsForSome}
use Rattle.pod_keeper.specs.KeeperState.{KeeperState}
use Rattle.pod_keeper.specs.Stored.{IsStored}
use Rattle.pod_keeper.proofs.Committed.{SameEffects, records_of, kept_as}
use Rattle.pod_keeper.proofs.Doubting.{IsDoubtOf, InRecords, tail_entry, new_checkpoint}
use Rattle.pod_keeper.proofs.Storing.{stored_more, stored_at_end}
use Rattle.pod_records.specs.Records.{IsSnapshotText}

only_one : {X : Type 0} (x y : X) → Contains (x ∷ []) y → x ≡ y
only_one x y (zero, lt, e) = e
only_one x y (suc k, lt, e) = absurd (omega (arith, lt))

snapshot_in : {D : Type 0} (image : D → List ℕ → Type 0) (first second : D) (pair : PairState) (bodies : List (List ℕ)) (doubt : RecordDoubt) → HasRecords image first second pair bodies doubt → HasSnapshot pair.snapshot bodies
snapshot_in image first second pair bodies records.certain h = h.snapshot
snapshot_in image first second pair bodies (records.entered body) h = h.snapshot
snapshot_in image first second pair bodies (records.checkpointed body) h = h.old

module _ {D : Type 0} (image : D → List ℕ → Type 0) (moment : D → ℕ) (left_since : D → ℕ → List ℕ → Type 0) (old : KeeperState D) (s : List ℕ) (text : IsSnapshotText old.pod old.next s) where
  module _ (history : History) (place : ℕ) (doubt : Doubt) (h : IsKept image old history place doubt) where
    abbrev of_old : InRecords image old.first old.second old.pair history h.bodies doubt
    of_old = records_of image moment left_since old history place doubt h

    text_is : IsCheckpointText history s
    text_is = subst (λ p. IsSnapshotText p (end_of history) s) h.pod (subst (λ n. IsSnapshotText old.pod n s) h.next text)

    -- the images
    by_new : (new : List (List ℕ)) (t c d : List ℕ) → IsCheckpointText history t → new ≡ t ∷ [] → StoreStands (opposite_of old.pair.active) 2 (old.pair.journal.epoch + 1) new c d → StandsForOneOf history (entries_in doubt) c d
    by_new new t c d is same stands = inl (record {
      side = opposite_of old.pair.active;
      format = 2;
      epoch = old.pair.journal.epoch + 1;
      bodies = new;
      place = end_of history;
      stands = stands;
      stored = subst (IsStored history 2 (end_of history)) (sym same) (stored_at_end history t is);
    })

    by_tail : (tail c d : List ℕ) → Contains (tails_in of_old.records_doubt) tail → StoreStands old.pair.active old.pair.journal.format old.pair.journal.epoch (h.bodies ++ tail ∷ []) c d → StandsForOneOf history (entries_in doubt) c d
    by_tail tail c d has stands =
        let of = tail_entry history old.pair.journal.format doubt of_old.records_doubt tail of_old.is has in
        inr (
          of.0,
          of.1,
          record {
            side = old.pair.active;
            format = old.pair.journal.format;
            epoch = old.pair.journal.epoch;
            bodies = h.bodies ++ tail ∷ [];
            place = place;
            stands = stands;
            stored = subst (λ t. IsStored (longer history (of.0 ∷ [])) old.pair.journal.format place (h.bodies ++ t ∷ [])) (sym of.3) (stored_more history old.pair.journal.format place h.bodies of.0 h.stored of.2);
          },
        )

    written_stands : (c d : List ℕ) → StandsForWritten old.pair.active old.pair.journal.format old.pair.journal.epoch h.bodies (tails_in of_old.records_doubt) (news_in of_old.records_doubt ++ (s ∷ []) ∷ []) c d → StandsForOneOf history (entries_in doubt) c d
    written_stands c d (inl stands) = inl (record {
      side = old.pair.active;
      format = old.pair.journal.format;
      epoch = old.pair.journal.epoch;
      bodies = h.bodies;
      place = place;
      stands = stands;
      stored = h.stored;
    })
    written_stands c d (inr (inl (tail, has, stands))) = by_tail tail c d has stands
    written_stands c d (inr (inr (new, has, stands))) = ⊎_elim
        (λ in_doubt.
        let of = new_checkpoint history old.pair.journal.format doubt of_old.records_doubt new of_old.is in_doubt in
        by_new new of.0 c d of.1 of.2 stands)
        (λ made. by_new new s c d text_is (sym (only_one (s ∷ []) new made)) stands)
        (Contains-append_cases (news_in of_old.records_doubt) ((s ∷ []) ∷ []) new has)

    module _ (new : KeeperState D) {T E : Type 0} (r : Result T E) (ready : Readies image moment left_since old.first old.second new.first new.second old.pair new.pair r (Some s)) where
      pub checkpoint_leaves : IsSure image old.first old.second old.pair → IsLong image old.first old.second old.pair → LeavesPodsOf moment left_since old new history (entries_in doubt)
      checkpoint_leaves sure long =
          let runs = ready.runs h.bodies of_old.records_doubt of_old.has sure (λ _. long) in
          together_weaker image moment left_since old.first old.second new.first new.second _ (ThroughOpenings (StandsForOneOf history (entries_in doubt))) (openings_weaker _ _ written_stands)
          (together_of image moment left_since old.pair.active old.first old.second new.first new.second
          (ThroughMending (IsActiveImage old.pair.journal.format old.pair.journal.epoch h.bodies (tails_in of_old.records_doubt))) (ThroughMending (IsOtherImage old.pair.active old.pair.journal.epoch (news_in of_old.records_doubt ++ (s ∷ []) ∷ []))) _
          (openings_of old.pair.active _ _ _ (written_pair old.pair.active old.pair.journal.format old.pair.journal.epoch old.pair.snapshot h.bodies (tails_in of_old.records_doubt) (news_in of_old.records_doubt ++ (s ∷ []) ∷ [])
          (snapshot_in image old.first old.second old.pair h.bodies of_old.records_doubt of_old.has)))
          runs.active runs.other)

    module _ (new : KeeperState D) (pod : new.pod ≡ old.pod) (next : new.next ≡ old.next) (last : new.last ≡ old.last) (feed : SameEffects new old) where
      -- the checkpoint was made
      pub checkpoint_made : {T E : Type 0} (x : T) → Readies image moment left_since old.first old.second new.first new.second old.pair new.pair {T = T} {E = E} (Ok x) (Some s) → IsCheckpointed image old new history place
      checkpoint_made x ready = record {
        kept = kept_as image moment left_since old history place doubt h new (end_of history) 2 certain (s ∷ []) records.certain pod next last feed ready.moved.1 (stored_at_end history s text_is) (ready.done h.bodies of_old.records_doubt of_old.has) tt;
        active = ready.moved.0;
        format = ready.moved.1;
        epoch = ready.moved.2;
        renewed = ready.renewed refl;
      }

      -- it failed
      failed_with : (left : RecordDoubt) → IsLeftBefore of_old.records_doubt (Some s) left → HasRecords image new.first new.second new.pair h.bodies left → Moves None old.pair new.pair → IsCheckpointFaulted image old new history place doubt
      failed_with left (inl same) has m = record {
        left = doubt;
        in_doubt = inl refl;
        kept = kept_as image moment left_since old history place doubt h new place old.pair.journal.format doubt h.bodies left pod next last feed m.1 h.stored has (subst (IsDoubtOf history old.pair.journal.format doubt) (sym same) of_old.is);
        active = m.0;
      }
      failed_with left (inr (inl same)) has m = record {
        left = certain;
        in_doubt = inr (inl refl);
        kept = kept_as image moment left_since old history place doubt h new place old.pair.journal.format certain h.bodies records.certain pod next last feed m.1 h.stored (subst (HasRecords image new.first new.second new.pair h.bodies) same has) tt;
        active = m.0;
      }
      failed_with left (inr (inr same)) has m = record {
        left = checkpointed;
        in_doubt = inr (inr refl);
        kept = kept_as image moment left_since old history place doubt h new place old.pair.journal.format checkpointed h.bodies (records.checkpointed s) pod next last feed m.1 h.stored (subst (HasRecords image new.first new.second new.pair h.bodies) same has) text_is;
        active = m.0;
      }

      pub checkpoint_failed : {T E : Type 0} (e : E) → Readies image moment left_since old.first old.second new.first new.second old.pair new.pair {T = T} {E = E} (Err e) (Some s) → IsCheckpointFaulted image old new history place doubt
      checkpoint_failed e ready =
          let left = ready.fault h.bodies of_old.records_doubt of_old.has in failed_with left.0 left.1 left.2 ready.stayed

-- the keeper stands for some history afterwards
pub stands_checkpointed : {D : Type 0} (image : D → List ℕ → Type 0) (old new : KeeperState D) → ((history : History) (place : ℕ) (doubt : Doubt) → IsKept image old history place doubt → IsCheckpointed image old new history place) → StandsForSome image old → StandsForSome image new
stands_checkpointed image old new made stands = (stands.0, end_of stands.0, certain, (made stands.0 stands.1 stands.2 stands.3).kept)

pub stands_not_checkpointed : {D : Type 0} (image : D → List ℕ → Type 0) (old new : KeeperState D) → ((history : History) (place : ℕ) (doubt : Doubt) → IsKept image old history place doubt → IsCheckpointFaulted image old new history place doubt) → StandsForSome image old → StandsForSome image new
stands_not_checkpointed image old new failed stands =
    let of = failed stands.0 stands.1 stands.2 stands.3 in (stands.0, stands.1, of.left, of.kept)

-- what a repair and a checkpoint keep
module _ {D : Type 0} (image : D → List ℕ → Type 0) (moment : D → ℕ) (left_since : D → ℕ → List ℕ → Type 0) (old new : KeeperState D) (s : List ℕ) {T E : Type 0} (r : Result T E) (ready : Readies image moment left_since old.first old.second new.first new.second old.pair new.pair r (Some s)) where
  pub checkpoint_sure : IsSure image old.first old.second old.pair → IsLong image old.first old.second old.pair → IsSure image new.first new.second new.pair
  checkpoint_sure sure long = ready.sure sure (λ _. long)

  pub checkpoint_long : IsSure image old.first old.second old.pair → IsLong image old.first old.second old.pair → IsLong image new.first new.second new.pair
  checkpoint_long sure long = ready.long sure long
