-- What an opening gives after a crash.
use Rattle.std.proofs.Common.{◌≡◌, inl, inr, ℕ, List, [], ◌∷◌, Option, Some, refl, sym, subst}
use Rattle.std.specs.List.{AllByRecursion}
use Rattle.journal_pair.specs.PairLaws.{StoreStandsOnce}
use Rattle.journal_pair.specs.PairMoments.{ThroughOpenings}
use Rattle.journal_pair.proofs.Reopening.{openings_now}
use Rattle.journal_pair.proofs.TogetherRuns.{together_pairs}
use Rattle.pod_command.specs.declared.entry.Entry.{Entry}
use Rattle.pod_core.specs.History.{History}
use Rattle.pod_keeper.specs.CrashedPods.{StandsFor, StandsForOneOf}
use Rattle.pod_keeper.specs.KeeperState.{KeeperState}
use Rattle.pod_keeper.specs.OpenedPods.{IsOpened}
use Rattle.pod_keeper.specs.Stored.{IsStored}
use Rattle.pod_keeper.specs.Reopened.{HoldsOneOf, Opening, OpenInTurn, OpensOneOf, OpensAfterCrash, OpeningsGiveWhatStands}

module _ {D : Type 0} (image : D → List ℕ → Type 0) (once : StoreStandsOnce) where
  same_records : (history : History) (first second : List ℕ) (bodies : List (List ℕ)) (keeper : KeeperState D) → StandsFor history first second → IsOpened image (Some first) (Some second) bodies keeper
      → (place : ℕ) × IsStored history keeper.pair.journal.format place bodies
  same_records history first second bodies keeper s opened =
      let same = once s.side keeper.pair.active s.format keeper.pair.journal.format s.epoch keeper.pair.journal.epoch s.bodies bodies first second s.stands (opened.stands first refl second refl) in
      (s.place, subst (λ (l : List (List ℕ)). IsStored history keeper.pair.journal.format s.place l) same.3 (subst (λ (f : ℕ). IsStored history f s.place s.bodies) same.1 s.stored))

  pub gives_what_stands : OpeningsGiveWhatStands image
  gives_what_stands history entries first second bodies keeper (inl stands) opened = inl (same_records history first second bodies keeper stands opened)
  gives_what_stands history entries first second bodies keeper (inr (entry, has, stands)) opened = inr (entry, has, same_records _ first second bodies keeper stands opened)

module _ {D : Type 0} (content : D → Option (List ℕ)) (image : D → List ℕ → Type 0) (moment : D → ℕ) (left_since : D → ℕ → List ℕ → Type 0) (faults : D → ℕ)
    (reads_image : (disk : D) (b : List ℕ) → content disk ≡ Some b → image disk b) (once : StoreStandsOnce) where
  -- what each pair of images is through openings, each opening in turn gives
  pub in_turn : (on_first on_second : List ℕ → Type 0) (history : History) (entries : List Entry)
      → ((c d : List ℕ) → on_first c → on_second d → ThroughOpenings (StandsForOneOf history entries) c d)
      → (openings : List (Opening D)) → OpenInTurn content image moment left_since faults on_first on_second openings
      → AllByRecursion (OpensOneOf content image moment left_since faults history entries) openings
  in_turn on_first on_second history entries each [] opens = tt
  in_turn on_first on_second history entries each (one ∷ others) opens =
      let through : (c d : List ℕ) → image one.first c → image one.second d → ThroughOpenings (StandsForOneOf history entries) c d = λ c d now now_2. each c d (opens.0 c now) (opens.1 d now_2) in
      let leaves = opens.2.again history entries through in (
        record {
          leaves = leaves;
          gives = λ bodies keeper first second reads reads_2 opened.
              gives_what_stands image once history entries first second bodies keeper
              (openings_now (StandsForOneOf history entries) first second (through first second (reads_image one.first first reads) (reads_image one.second second reads_2))) opened;
        },
        in_turn (left_since one.first_new (moment one.first)) (left_since one.second_new (moment one.second)) history entries leaves others opens.3,
      )

  pub after_crash : OpensAfterCrash content image moment left_since faults
  after_crash old new history entries leaves openings opens =
      in_turn (left_since new.first (moment old.first)) (left_since new.second (moment old.second)) history entries
      (together_pairs image moment left_since old.first old.second new.first new.second (ThroughOpenings (StandsForOneOf history entries)) leaves) openings opens
