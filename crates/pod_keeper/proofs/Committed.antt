-- What a keeper stands for after an entry was written.
use Rattle.std.proofs.Common.{◌≡◌, ◌⊎◌, inl, inr, ⊎_elim, ℕ, zero, suc, ◌+◌, List, [], ◌∷◌, ◌++◌, Contains, Option, Some, None, IfSome, Result, Ok, Err, refl, sym, ◌∙◌, ap, subst, arith, length-append}
use Rattle.std.specs.Prelude.{IsSome}
use Rattle.std.proofs.lemmas.List.Elements.{Contains-append_cases, Contains-append_left, Contains-append_right}
use Rattle.journal_log.specs.Heads.{IsKnownHead}
use Rattle.journal_pair.specs.PairState.{PairState}
use Rattle.journal_pair.specs.Sides.{opposite_of}
use Rattle.journal_pair.specs.Stores.{StoreStands}
use Rattle.journal_pair.specs.Doubts as records
use Rattle.journal_pair.specs.Doubts.{RecordDoubt, HasRecords, IsSure, IsLong, tails_in, news_in}
use Rattle.journal_pair.specs.Writes.{Writes, Moves, IsLeftBefore, IsLeftByWrite, StandsForWritten, records_before, alone, with_record, tail_of}
use Rattle.journal_pair.proofs.TogetherRuns.{together_weaker}
use Rattle.journal_pair.specs.PairMoments.{ThroughOpenings}
use Rattle.journal_pair.proofs.Reopening.{openings_weaker}
use Rattle.stored_forms.specs.Storable.{IsStorable}
use Rattle.stored_forms.specs.StoredForms.{entry_bytes}
use Rattle.pod_command.specs.declared.entry.Entry.{Entry}
use Rattle.pod_core.specs.History.{History, end_of, longer}
use Rattle.pod_core.proofs.Histories.{pod_at_end, replayed_next}
use Rattle.pod_keeper.specs.Commits.{MovesWhereDue, IsGrown, IsLeftFaulted, LeavesPodsOf}
use Rattle.pod_keeper.specs.CrashedPods.{StandsFor, StandsForOneOf}
use Rattle.pod_keeper.specs.Kept.{Doubt, certain, entered, checkpointed, entries_in, IsNextEntry, IsCheckpointText, HasOnDisks, IsKept, version_of}
use Rattle.pod_keeper.specs.KeeperState.{KeeperState, version_in, IsCheckpointDue}
use Rattle.pod_keeper.specs.Stored.{IsStored}
use Rattle.pod_keeper.proofs.HistoryLaws.{version_kept, version_longer}
use Rattle.pod_keeper.proofs.Doubting.{IsDoubtOf, InRecords, in_records, on_disks, tail_entry, new_checkpoint}
use Rattle.pod_keeper.proofs.Storing.{stored_more, stored_at_end, history_grows}
use Rattle.pod_pages.specs.State.{VersionState, state_after}
use Rattle.pod_records.specs.Records.{entry_text, IsEntryIn, IsSnapshotText}
use Rattle.pod_records.proofs.Entries.{last_more}
use Rattle.pod_rows.specs.Apply.{Applies, applied}

only_one : {X : Type 0} (x y : X) → Contains (x ∷ []) y → x ≡ y
only_one x y (zero, lt, e) = e
only_one x y (suc k, lt, e) = absurd (omega (arith, lt))

-- the same effects
abbrev pub SameEffects : {D : Type 0} → KeeperState D → KeeperState D → Type 0
SameEffects new old = (new.effects ≡ old.effects) × (new.oldest ≡ old.oldest)

-- the head of the active journal
known_head : {D : Type 0} (image : D → List ℕ → Type 0) (first second : D) (pair : PairState) (history : History) (bodies : List (List ℕ)) (doubt : Doubt) → HasOnDisks image first second pair history bodies doubt → IsKnownHead pair.journal.format pair.journal.epoch
known_head image first second pair history bodies certain h = h.journal.is_prefix.known
known_head image first second pair history bodies (entered entry) h = h.1.journal.is_prefix.known
known_head image first second pair history bodies checkpointed h = h.2.journal.is_prefix.known

-- an entry as format 2 has it
in_new_format : (format : ℕ) (entry : Entry) → format ≡ 2 → IsStorable entry → IsEntryIn format entry
in_new_format format entry is stored = record { storable = stored; bases = λ old. absurd (omega (arith, is, old)) }

text_new : (format : ℕ) (entry : Entry) → format ≡ 2 → entry_bytes entry ≡ entry_text format entry
text_new format entry is = subst (λ f. entry_bytes entry ≡ entry_text f entry) (sym is) refl

module _ {D : Type 0} (image : D → List ℕ → Type 0) (moment : D → ℕ) (left_since : D → ℕ → List ℕ → Type 0) (old : KeeperState D) (history : History) (place : ℕ) (doubt : Doubt) (h : IsKept image old history place doubt) where
  pub records_of : InRecords image old.first old.second old.pair history h.bodies doubt
  records_of = in_records image old.first old.second old.pair history h.bodies doubt h.disks

  -- a keeper with the same pod
  pub kept_as : (new : KeeperState D) (new_place format : ℕ) (new_doubt : Doubt) (bodies : List (List ℕ)) (of : RecordDoubt) → new.pod ≡ old.pod → new.next ≡ old.next → new.last ≡ old.last → SameEffects new old → new.pair.journal.format ≡ format → IsStored history format new_place bodies
      → HasRecords image new.first new.second new.pair bodies of → IsDoubtOf history format new_doubt of → IsKept image new history new_place new_doubt
  kept_as new new_place format new_doubt bodies of pod next last feed in_format stored has is = record {
    is_history = h.is_history;
    pod = pod ∙ h.pod;
    next = next ∙ h.next;
    effects = feed.0 ∙ h.effects;
    oldest = feed.1 ∙ h.oldest;
    last = last ∙ h.last;
    bodies = bodies;
    stored = subst (λ f. IsStored history f new_place bodies) (sym in_format) stored;
    disks = on_disks image new.first new.second new.pair history bodies new_doubt of has (subst (λ f. IsDoubtOf history f new_doubt of) (sym in_format) is);
  }

  module _ (entry : Entry) (snapshot : Option (List ℕ)) (applies : Applies old.pod old.next entry) (stored : IsStorable entry) (text : IfSome snapshot (IsSnapshotText old.pod old.next)) (due : IsSome snapshot → IsCheckpointDue old.pair) (not_due : snapshot ≡ None → IsCheckpointDue old.pair → ⊥) where
    next_entry : (format : ℕ) → format ≡ 2 → IsNextEntry history format entry
    next_entry format is = record {
      applies = subst (λ p. Applies p (end_of history) entry) h.pod (subst (λ n. Applies old.pod n entry) h.next applies);
      storable = in_new_format format entry is stored;
    }

    old_format : snapshot ≡ None → old.pair.journal.format ≡ 2
    old_format none =
        let known = known_head image old.first old.second old.pair history h.bodies doubt h.disks in
        ⊎_elim (λ one. absurd (not_due none (record { below = omega (arith, known.old one); rule = inl one }))) (λ two. two) known.either

    checkpoint_text : (s : List ℕ) → snapshot ≡ Some s → IsCheckpointText history s
    checkpoint_text s is =
        let of : IsSnapshotText old.pod old.next s = subst (λ o. IfSome o (IsSnapshotText old.pod old.next)) is text in
        subst (λ p. IsSnapshotText p (end_of history) s) h.pod (subst (λ n. IsSnapshotText old.pod n s) h.next of)

    -- what is stored before the entry, and with it
    abbrev before_place : Option (List ℕ) → ℕ
    before_place None = place
    before_place (Some s) = end_of history

    abbrev before_format : Option (List ℕ) → ℕ
    before_format None = old.pair.journal.format
    before_format (Some s) = 2

    stored_before : (o : Option (List ℕ)) → snapshot ≡ o → IsStored history (before_format o) (before_place o) (records_before h.bodies o)
    stored_before None is = h.stored
    stored_before (Some s) is = stored_at_end history s (checkpoint_text s is)

    new_format : (o : Option (List ℕ)) → snapshot ≡ o → before_format o ≡ 2
    new_format None is = old_format is
    new_format (Some s) is = refl

    stored_after : (o : Option (List ℕ)) → snapshot ≡ o → IsStored (longer history (entry ∷ [])) (before_format o) (before_place o) (records_before h.bodies o ++ entry_bytes entry ∷ [])
    stored_after o is =
        let format = before_format o in
        subst (λ t. IsStored (longer history (entry ∷ [])) format (before_place o) (records_before h.bodies o ++ t ∷ [])) (sym (text_new format entry (new_format o is)))
        (stored_more history format (before_place o) (records_before h.bodies o) entry (stored_before o is) (next_entry format (new_format o is)))

    moved_format : (o : Option (List ℕ)) (new : PairState) → Moves o old.pair new → new.journal.format ≡ before_format o
    moved_format None new m = m.1
    moved_format (Some s) new m = m.1

    moves_where_due : (o : Option (List ℕ)) → snapshot ≡ o → (new : PairState) → Moves o old.pair new → MovesWhereDue history place (before_place o) old.pair new
    moves_where_due None is new m = record { due = λ d. absurd (not_due is d); kept = λ no. (refl, m.0, m.1, m.2) }
    moves_where_due (Some s) is new m = record { due = λ d. (refl, m.0, m.1, m.2); kept = λ no. absurd (no (due (subst IsSome (sym is) refl))) }

    -- the entry was written
    pub grown : (new : KeeperState D) {T E : Type 0} (x : T) → Writes image moment left_since old.first old.second new.first new.second old.pair new.pair {T = T} {E = E} (Ok x) snapshot (entry_bytes entry) → new.pod ≡ applied old.pod entry → new.next ≡ old.next + 1 → new.last ≡ Some entry.moment → (new.effects ≡ (state_after (version_in old) entry).effects) × (new.oldest ≡ (state_after (version_in old) entry).oldest) → IsGrown image old new history place entry
    grown new x w pod next last feed =
        let after : version_of (longer history (entry ∷ [])) ≡ state_after (version_in old) entry =
        version_longer history (version_in old) (entry ∷ []) (sym (version_kept image old history place doubt h)) in record {
          new_place = before_place snapshot;
          kept = record {
            is_history = history_grows history 2 entry h.is_history (next_entry 2 refl);
            pod = pod ∙ (ap (λ p. applied p entry) h.pod ∙ (ap (λ p. applied p entry) (pod_at_end history) ∙ (sym (replayed_next history.first history.entries entry) ∙ sym (pod_at_end (longer history (entry ∷ []))))));
            next = omega (arith, next, h.next, length-append history.entries (entry ∷ []));
            effects = feed.0 ∙ ap (λ (v : VersionState). v.effects) (sym after);
            oldest = feed.1 ∙ ap (λ (v : VersionState). v.oldest) (sym after);
            last = last ∙ sym (last_more None history.entries entry);
            bodies = records_before h.bodies snapshot ++ entry_bytes entry ∷ [];
            stored = subst (λ f. IsStored (longer history (entry ∷ [])) f (before_place snapshot) (records_before h.bodies snapshot ++ entry_bytes entry ∷ [])) (sym (moved_format snapshot new.pair w.moved)) (stored_after snapshot refl);
            disks = w.done h.bodies records_of.records_doubt records_of.has;
          };
          moves = moves_where_due snapshot refl new.pair w.moved;
          renewed = λ d. renewed snapshot refl w.renewed d;
        }
      where
        renewed : (o : Option (List ℕ)) → snapshot ≡ o → (IsSome o → IsSure image new.first new.second new.pair × IsLong image new.first new.second new.pair) → IsCheckpointDue old.pair → IsSure image new.first new.second new.pair × IsLong image new.first new.second new.pair
        renewed None is f d = absurd (not_due is d)
        renewed (Some s) is f d = f refl

    -- the write failed
    abbrev pub IsLeftKept : KeeperState D → Type 0
    IsLeftKept new = IsLeftFaulted image new history place doubt entry

    place_before : (o : Option (List ℕ)) → (before_place o ≡ place) ⊎ (before_place o ≡ end_of history)
    place_before None = inl refl
    place_before (Some s) = inr refl

    left_before : (new : KeeperState D) (o : Option (List ℕ)) → snapshot ≡ o → (left : RecordDoubt) → IsLeftBefore records_of.records_doubt o left → HasRecords image new.first new.second new.pair h.bodies left → Moves None old.pair new.pair → new.pod ≡ old.pod → new.next ≡ old.next → new.last ≡ old.last → SameEffects new old → IsLeftKept new
    left_before new None is left same has m pod next last feed = record {
      new_place = place;
      left = doubt;
      in_doubt = inl refl;
      kept = kept_as new place old.pair.journal.format doubt h.bodies left pod next last feed m.1 h.stored has (subst (IsDoubtOf history old.pair.journal.format doubt) (sym same) records_of.is);
      at = inl refl;
    }
    left_before new (Some s) is left (inl same) has m pod next last feed = record {
      new_place = place;
      left = doubt;
      in_doubt = inl refl;
      kept = kept_as new place old.pair.journal.format doubt h.bodies left pod next last feed m.1 h.stored has (subst (IsDoubtOf history old.pair.journal.format doubt) (sym same) records_of.is);
      at = inl refl;
    }
    left_before new (Some s) is left (inr (inl same)) has m pod next last feed = record {
      new_place = place;
      left = certain;
      in_doubt = inr (inl refl);
      kept = kept_as new place old.pair.journal.format certain h.bodies records.certain pod next last feed m.1 h.stored (subst (HasRecords image new.first new.second new.pair h.bodies) same has) tt;
      at = inl refl;
    }
    left_before new (Some s) is left (inr (inr same)) has m pod next last feed = record {
      new_place = place;
      left = checkpointed;
      in_doubt = inr (inr (inl refl));
      kept = kept_as new place old.pair.journal.format checkpointed h.bodies (records.checkpointed s) pod next last feed m.1 h.stored (subst (HasRecords image new.first new.second new.pair h.bodies) same has) (checkpoint_text s is);
      at = inl refl;
    }

    left_after : (new : KeeperState D) (left : RecordDoubt) → (left ≡ records.certain) ⊎ (left ≡ records.entered (entry_bytes entry)) → HasRecords image new.first new.second new.pair (records_before h.bodies snapshot) left → Moves snapshot old.pair new.pair → new.pod ≡ old.pod → new.next ≡ old.next → new.last ≡ old.last → SameEffects new old → IsLeftKept new
    left_after new left (inl same) has m pod next last feed = record {
      new_place = before_place snapshot;
      left = certain;
      in_doubt = inr (inl refl);
      kept = kept_as new (before_place snapshot) (before_format snapshot) certain (records_before h.bodies snapshot) records.certain pod next last feed (moved_format snapshot new.pair m) (stored_before snapshot refl)
          (subst (HasRecords image new.first new.second new.pair (records_before h.bodies snapshot)) same has) tt;
      at = place_before snapshot;
    }
    left_after new left (inr same) has m pod next last feed = record {
      new_place = before_place snapshot;
      left = entered entry;
      in_doubt = inr (inr (inr refl));
      kept = kept_as new (before_place snapshot) (before_format snapshot) (entered entry) (records_before h.bodies snapshot) (records.entered (entry_bytes entry)) pod next last feed (moved_format snapshot new.pair m) (stored_before snapshot refl)
          (subst (HasRecords image new.first new.second new.pair (records_before h.bodies snapshot)) same has)
          (next_entry (before_format snapshot) (new_format snapshot refl), text_new (before_format snapshot) entry (new_format snapshot refl));
      at = place_before snapshot;
    }

    left_by : (new : KeeperState D) → IsLeftByWrite image moment left_since old.first old.second new.first new.second old.pair new.pair h.bodies records_of.records_doubt snapshot (entry_bytes entry) → new.pod ≡ old.pod → new.next ≡ old.next → new.last ≡ old.last → SameEffects new old → IsLeftKept new
    left_by new (inl (left, is, has, m)) pod next last feed = left_before new snapshot refl left is has m pod next last feed
    left_by new (inr (left, is, has, m)) pod next last feed = left_after new left is has m pod next last feed

    pub failed : (new : KeeperState D) {T E : Type 0} (e : E) → Writes image moment left_since old.first old.second new.first new.second old.pair new.pair {T = T} {E = E} (Err e) snapshot (entry_bytes entry) → new.pod ≡ old.pod → new.next ≡ old.next → new.last ≡ old.last → SameEffects new old → IsLeftKept new
    failed new e w pod next last feed = left_by new (w.fault h.bodies records_of.records_doubt records_of.has) pod next last feed

    -- the images
    tail_stands : (o : Option (List ℕ)) → snapshot ≡ o → (tail c d : List ℕ) → Contains (tails_in records_of.records_doubt ++ tail_of o (entry_bytes entry)) tail → StoreStands old.pair.active old.pair.journal.format old.pair.journal.epoch (h.bodies ++ tail ∷ []) c d → StandsForOneOf history (entries_in doubt ++ entry ∷ []) c d
    tail_stands o is tail c d has stands = ⊎_elim
        (λ in_doubt.
        let of = tail_entry history old.pair.journal.format doubt records_of.records_doubt tail records_of.is in_doubt in
        inr (
          of.0,
          Contains-append_left (entries_in doubt) (entry ∷ []) of.0 of.1,
          record {
            side = old.pair.active;
            format = old.pair.journal.format;
            epoch = old.pair.journal.epoch;
            bodies = h.bodies ++ tail ∷ [];
            place = place;
            stands = stands;
            stored = subst (λ t. IsStored (longer history (of.0 ∷ [])) old.pair.journal.format place (h.bodies ++ t ∷ [])) (sym of.3) (stored_more history old.pair.journal.format place h.bodies of.0 h.stored of.2);
          },
        ))
        (λ under_way. added o is under_way)
        (Contains-append_cases (tails_in records_of.records_doubt) (tail_of o (entry_bytes entry)) tail has)
      where
        added : (o : Option (List ℕ)) → snapshot ≡ o → Contains (tail_of o (entry_bytes entry)) tail → StandsForOneOf history (entries_in doubt ++ entry ∷ []) c d
        added None is has = inr (
          entry,
          Contains-append_right (entries_in doubt) (entry ∷ []) entry (0, omega arith, refl),
          record {
            side = old.pair.active;
            format = old.pair.journal.format;
            epoch = old.pair.journal.epoch;
            bodies = h.bodies ++ tail ∷ [];
            place = place;
            stands = stands;
            stored = subst (λ t. IsStored (longer history (entry ∷ [])) old.pair.journal.format place (h.bodies ++ t ∷ [])) (only_one (entry_bytes entry) tail has) (stored_after None is);
          },
        )
        added (Some s) is has = absurd (omega (arith, has.1))

    new_stands : (o : Option (List ℕ)) → snapshot ≡ o → (new : List (List ℕ)) (c d : List ℕ) → Contains (news_in records_of.records_doubt ++ (alone o ++ with_record o (entry_bytes entry))) new → StoreStands (opposite_of old.pair.active) 2 (old.pair.journal.epoch + 1) new c d → StandsForOneOf history (entries_in doubt ++ entry ∷ []) c d
    new_stands o is new c d has stands = ⊎_elim
        (λ in_doubt.
        let of = new_checkpoint history old.pair.journal.format doubt records_of.records_doubt new records_of.is in_doubt in
        inl (at_end of.0 of.1 of.2))
        (λ made. made_new o is made)
        (Contains-append_cases (news_in records_of.records_doubt) (alone o ++ with_record o (entry_bytes entry)) new has)
      where
        at_end : (t : List ℕ) → IsCheckpointText history t → new ≡ t ∷ [] → StandsFor history c d
        at_end t is_text same = record {
          side = opposite_of old.pair.active;
          format = 2;
          epoch = old.pair.journal.epoch + 1;
          bodies = new;
          place = end_of history;
          stands = stands;
          stored = subst (IsStored history 2 (end_of history)) (sym same) (stored_at_end history t is_text);
        }

        made_new : (o : Option (List ℕ)) → snapshot ≡ o → Contains (alone o ++ with_record o (entry_bytes entry)) new → StandsForOneOf history (entries_in doubt ++ entry ∷ []) c d
        made_new None is has = absurd (omega (arith, has.1))
        made_new (Some s) is (zero, lt, e) = inl (at_end s (checkpoint_text s is) (sym e))
        made_new (Some s) is (suc zero, lt, e) = inr (
          entry,
          Contains-append_right (entries_in doubt) (entry ∷ []) entry (0, omega arith, refl),
          record {
            side = opposite_of old.pair.active;
            format = 2;
            epoch = old.pair.journal.epoch + 1;
            bodies = new;
            place = end_of history;
            stands = stands;
            stored = subst (IsStored (longer history (entry ∷ [])) 2 (end_of history)) e (stored_after (Some s) is);
          },
        )
        made_new (Some s) is (suc (suc k), lt, e) = absurd (omega (arith, lt))

    pub written_stands : (c d : List ℕ) → StandsForWritten old.pair.active old.pair.journal.format old.pair.journal.epoch h.bodies (tails_in records_of.records_doubt ++ tail_of snapshot (entry_bytes entry)) (news_in records_of.records_doubt ++ (alone snapshot ++ with_record snapshot (entry_bytes entry))) c d
        → StandsForOneOf history (entries_in doubt ++ entry ∷ []) c d
    written_stands c d (inl stands) = inl (record {
      side = old.pair.active;
      format = old.pair.journal.format;
      epoch = old.pair.journal.epoch;
      bodies = h.bodies;
      place = place;
      stands = stands;
      stored = h.stored;
    })
    written_stands c d (inr (inl (tail, has, stands))) = tail_stands snapshot refl tail c d has stands
    written_stands c d (inr (inr (new, has, stands))) = new_stands snapshot refl new c d has stands

    some_due : (IsCheckpointDue old.pair → IsLong image old.first old.second old.pair) → IsSome snapshot → IsLong image old.first old.second old.pair
    some_due long some = long (due some)

    pub leaves : (new : KeeperState D) {T E : Type 0} (r : Result T E) → Writes image moment left_since old.first old.second new.first new.second old.pair new.pair r snapshot (entry_bytes entry) → IsSure image old.first old.second old.pair → (IsCheckpointDue old.pair → IsLong image old.first old.second old.pair)
        → LeavesPodsOf moment left_since old new history (entries_in doubt ++ entry ∷ [])
    leaves new r w sure long = together_weaker image moment left_since old.first old.second new.first new.second _ (ThroughOpenings (StandsForOneOf history (entries_in doubt ++ entry ∷ []))) (openings_weaker _ _ written_stands) (w.pairs h.bodies records_of.records_doubt records_of.has sure (some_due long))
