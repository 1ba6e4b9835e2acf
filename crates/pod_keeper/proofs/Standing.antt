-- What the crash images of a keeper's disks stand for.
use Rattle.std.proofs.Common.{inl, inr, ℕ, ◌+◌, List, [], ◌∷◌, ◌++◌, refl, subst, arith}
use Rattle.std.proofs.lemmas.List.Elements.{Contains-append_left}
use Rattle.journal_log.specs.Classes.{HasClass}
use Rattle.journal_log.specs.Images.{Stands, IsEither}
use Rattle.journal_log.specs.declared.disk_class.DiskClass.TheVariants.{Open}
use Rattle.journal_log.specs.declared.fault.Side.{Side}
use Rattle.journal_pair.specs.PairJournal.{HasSnapshot, IsPassedBeside}
use Rattle.journal_pair.specs.PairMoments.{EachPair, ThroughMending, ThroughOpenings}
use Rattle.journal_pair.specs.Sides.{active_of, other_of, opposite_of}
use Rattle.journal_pair.specs.Stores.{IsPassedOver, StoreStands, StoreStandsEither, StoreStandsBoth}
use Rattle.journal_pair.proofs.Beside.{closed_passed, closed_class, open_passed, stands_open, stands_none, snapshot_open, opposite_active, opposite_other, store_stands, store_stands_either}
use Rattle.journal_pair.proofs.PairRuns.{each_pair}
use Rattle.journal_pair.proofs.Reopening.{clean_each_through, doubt_each_through, new_through, openings_of, passed_through}
use Rattle.journal_pair.specs.Doubts.{IsSure}
use Rattle.pod_command.specs.declared.entry.Entry.{Entry}
use Rattle.pod_core.specs.History.{History, end_of}
use Rattle.pod_disk.specs.Disk.{EachImage}
use Rattle.pod_keeper.specs.CrashedPods.{StandsFor, StandsForOneOf}
use Rattle.pod_keeper.specs.Kept.{Doubt, certain, entered, checkpointed, entries_in, IsNextEntry, IsCheckpointText, HasOnDisks}
use Rattle.pod_keeper.specs.KeeperState.{KeeperState}
use Rattle.pod_keeper.specs.Stored.{IsStored}
use Rattle.pod_keeper.proofs.Storing.{stored_more, stored_at_end}
use Rattle.pod_records.specs.Records.{entry_text}

-- with more entries to choose from
pub more_entries : (history : History) (some more : List Entry) (c d : List ℕ) → StandsForOneOf history some c d → StandsForOneOf history (some ++ more) c d
more_entries history some more c d (inl stands) = inl stands
more_entries history some more c d (inr (entry, has, stands)) = inr (entry, Contains-append_left some more entry has, stands)

-- a journal, and on the other disk a new one that stands for its record or for none
stands_both : (side : Side) (format epoch len : ℕ) (bodies : List (List ℕ)) → HasSnapshot len bodies → (c d body : List ℕ) → Stands format epoch bodies (active_of side c d) → IsEither 2 (epoch + 1) [] body (other_of side c d)
    → StoreStandsBoth side format epoch bodies body c d
stands_both side format epoch len bodies has c d body stands (inl none) =
    inl (store_stands side format epoch len bodies has c d stands (closed_passed side epoch (other_of side c d) (closed_class (other_of side c d) (stands_none 2 (epoch + 1) (other_of side c d) none))))
stands_both side format epoch len bodies has c d body stands (inr alone) = inr (record {
  taken = record {
    is_open = subst (HasClass (Open (epoch + 1))) (opposite_active side c d) (stands_open 2 (epoch + 1) body [] (other_of side c d) alone);
    beside = subst (IsPassedOver (opposite_of side) (epoch + 1)) (opposite_other side c d)
        (open_passed (opposite_of side) (epoch + 1) epoch (active_of side c d) (omega arith) (snapshot_open len format epoch bodies (active_of side c d) has stands));
  };
  stands = subst (Stands 2 (epoch + 1) (body ∷ [])) (opposite_active side c d) alone;
})

module _ {D : Type 0} (image : D → List ℕ → Type 0) (moment : D → ℕ) (left_since : D → ℕ → List ℕ → Type 0) (keeper : KeeperState D) (history : History) (place : ℕ) (bodies : List (List ℕ)) (stored : IsStored history keeper.pair.journal.format place bodies) where
  of_store : (c d : List ℕ) → StoreStands keeper.pair.active keeper.pair.journal.format keeper.pair.journal.epoch bodies c d → StandsFor history c d
  of_store c d stands = record {
    side = keeper.pair.active;
    format = keeper.pair.journal.format;
    epoch = keeper.pair.journal.epoch;
    bodies = bodies;
    place = place;
    stands = stands;
    stored = stored;
  }

  of_either : (entry : Entry) (c d : List ℕ) → IsNextEntry history keeper.pair.journal.format entry → StoreStandsEither keeper.pair.active keeper.pair.journal.format keeper.pair.journal.epoch bodies (entry_text keeper.pair.journal.format entry) c d → StandsForOneOf history (entry ∷ []) c d
  of_either entry c d next (inl stands) = inl (of_store c d stands)
  of_either entry c d next (inr stands) = inr (
    entry,
    (0, omega arith, refl),
    record {
      side = keeper.pair.active;
      format = keeper.pair.journal.format;
      epoch = keeper.pair.journal.epoch;
      bodies = bodies ++ entry_text keeper.pair.journal.format entry ∷ [];
      place = place;
      stands = stands;
      stored = stored_more history keeper.pair.journal.format place bodies entry stored next;
    },
  )

  of_both : (text c d : List ℕ) → IsCheckpointText history text → StoreStandsBoth keeper.pair.active keeper.pair.journal.format keeper.pair.journal.epoch bodies text c d → StandsForOneOf history [] c d
  of_both text c d is (inl stands) = inl (of_store c d stands)
  of_both text c d is (inr stands) = inl (record {
    side = opposite_of keeper.pair.active;
    format = 2;
    epoch = keeper.pair.journal.epoch + 1;
    bodies = text ∷ [];
    place = end_of history;
    stands = stands;
    stored = stored_at_end history text is;
  })

  by_side : (P Q : List ℕ → Type 0) (R : List ℕ → List ℕ → Type 0) → ((c d : List ℕ) → P (active_of keeper.pair.active c d) → Q (other_of keeper.pair.active c d) → R c d)
      → EachImage (image (active_of keeper.pair.active keeper.first keeper.second)) (ThroughMending P) → EachImage (image (other_of keeper.pair.active keeper.first keeper.second)) (ThroughMending Q)
      → EachPair (image keeper.first) (image keeper.second) (ThroughOpenings R)
  by_side P Q R leads = each_pair image moment left_since keeper.pair.active keeper.first keeper.second (ThroughMending P) (ThroughMending Q) (ThroughOpenings R) (openings_of keeper.pair.active P Q R leads)

  passed_each : IsPassedBeside image keeper.first keeper.second keeper.pair → EachImage (image (other_of keeper.pair.active keeper.first keeper.second)) (ThroughMending (IsPassedOver keeper.pair.active keeper.pair.journal.epoch))
  passed_each passed c here = passed_through keeper.pair.active keeper.pair.journal.epoch c (passed c here)

  -- and so do those that crashes leave of them while they are opened
  pub disks_stand : (doubt : Doubt) → HasOnDisks image keeper.first keeper.second keeper.pair history bodies doubt → IsSure image keeper.first keeper.second keeper.pair
      → EachPair (image keeper.first) (image keeper.second) (ThroughOpenings (StandsForOneOf history (entries_in doubt)))
  disks_stand certain h sure =
      by_side (Stands keeper.pair.journal.format keeper.pair.journal.epoch bodies) (IsPassedOver keeper.pair.active keeper.pair.journal.epoch) (StandsForOneOf history [])
      (λ c d stands passed. inl (of_store c d (store_stands keeper.pair.active keeper.pair.journal.format keeper.pair.journal.epoch keeper.pair.snapshot bodies h.snapshot c d stands passed)))
      (clean_each_through _ keeper.pair.journal bodies h.journal) (passed_each (sure h.certain))
  disks_stand (entered entry) h sure =
      by_side (IsEither keeper.pair.journal.format keeper.pair.journal.epoch bodies (entry_text keeper.pair.journal.format entry)) (IsPassedOver keeper.pair.active keeper.pair.journal.epoch) (StandsForOneOf history (entry ∷ []))
      (λ c d either passed. of_either entry c d h.0 (store_stands_either keeper.pair.active keeper.pair.journal.format keeper.pair.journal.epoch keeper.pair.snapshot bodies (entry_text keeper.pair.journal.format entry) c d h.1.snapshot either passed))
      (doubt_each_through _ keeper.pair.journal bodies (entry_text keeper.pair.journal.format entry) h.1.journal) (passed_each (sure h.1.certain))
  disks_stand checkpointed h sure =
      by_side (Stands keeper.pair.journal.format keeper.pair.journal.epoch bodies) (IsEither 2 (keeper.pair.journal.epoch + 1) [] h.0) (StandsForOneOf history [])
      (λ c d stands either. of_both h.0 c d h.1 (stands_both keeper.pair.active keeper.pair.journal.format keeper.pair.journal.epoch keeper.pair.snapshot bodies h.2.old c d h.0 stands either))
      (clean_each_through _ keeper.pair.journal bodies h.2.journal) (λ c here. new_through keeper.pair.journal.epoch h.0 c h.2.most h.2.short (h.2.new c here))
