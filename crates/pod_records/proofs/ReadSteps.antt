-- One record more is read.
use Rattle.std.proofs.Common.{◌≡◌, inl, inr, ℕ, ◌+◌, List, [], ◌∷◌, ◌++◌, length, map, Option, Some, None, refl, sym, ap, subst, ◌∙◌, arith, rules, length-append}
use Rattle.std.specs.List.{AllByRecursion}
use Rattle.pod_base.specs.declared.moment.Moment.{Moment}
use Rattle.stored_forms.specs.StoredForms.{snapshot_bytes}
use Rattle.pod_command.specs.declared.entry.Entry.{Entry}
use Rattle.pod_command.specs.declared.snapshot.Snapshot.{Snapshot}
use Rattle.pod_rows.specs.Apply.{Applies, AllApply, applied, replayed, after_edits, with_rows_if}
use Rattle.pod_rows.specs.Pod.{Pod}
use Rattle.pod_rows.specs.WellFormed.{pod_of}
use Rattle.pod_records.specs.PodStores.{BreaksAfter}
use Rattle.pod_pages.specs.State.{VersionState, first_state, state_after, states_after}
use Rattle.pod_pages.proofs.History.{pod_replayed, next_replayed}
use Rattle.pod_records.specs.Readings.{AreRecordsRead, IsSnapshotOf, IsSnapshotRead, IsEntryOf, IsEntryRead, HasNoEntry}
use Rattle.pod_records.specs.Records.{entry_text, Holds, IsEntryIn, IsReadable}
use Rattle.pod_records.proofs.Entries.{replayed_more, last_more, apply_more, apply_split, all_more, all_split, map_more, ends_in}

-- entries with the same edits make the same pod
same_pod : (pod : Pod) (a b : Entry) → a.edits.items ≡ b.edits.items → applied pod a ≡ applied pod b
same_pod pod a b e = ap (λ edits. with_rows_if pod (after_edits (Some pod.rows) edits)) e

-- records that hold something are some first one and the entries' texts
some_first : (format : ℕ) (first : List ℕ) (texts : List (List ℕ)) (text : List ℕ) (snapshot : Snapshot) (entries : List Entry) → Holds format ((first ∷ texts) ++ text ∷ []) snapshot entries → (first ≡ snapshot_bytes snapshot) × (texts ++ text ∷ [] ≡ map (entry_text format) entries)
some_first format first texts text snapshot entries h = let e = h.texts in (search (rules, e), search (rules, e))

-- what holds these records and one more
pub record HoldsMore (format : ℕ) (bodies : List (List ℕ)) (text : List ℕ) (snapshot : Snapshot) (entries : List Entry) : Type 0 where
  pub front : List Entry
  pub last : Entry
  pub are : entries ≡ front ++ last ∷ []
  pub holds : Holds format bodies snapshot front
  pub is : IsEntryOf format text last
  pub applies : Applies (replayed (pod_of snapshot) front) (snapshot.seq + length front) last

pub holds_more : (format : ℕ) (first : List ℕ) (texts : List (List ℕ)) (text : List ℕ) (snapshot : Snapshot) (entries : List Entry) → Holds format ((first ∷ texts) ++ text ∷ []) snapshot entries → HoldsMore format (first ∷ texts) text snapshot entries
holds_more format first texts text snapshot entries h =
    let parts = some_first format first texts text snapshot entries h in
    let ends = ends_in (entry_text format) texts text entries parts.1 in
    let stored = all_split (IsEntryIn format) ends.front ends.last (subst (AllByRecursion (IsEntryIn format)) ends.are h.all_stored) in
    let apply = apply_split (pod_of snapshot) snapshot.seq ends.front ends.last (subst (AllApply (pod_of snapshot) snapshot.seq) ends.are h.apply) in record {
      front = ends.front;
      last = ends.last;
      are = ends.are;
      holds = record {
        texts = ap (λ l. l ∷ texts) parts.0 ∙ ap (λ l. snapshot_bytes snapshot ∷ l) ends.texts_are;
        stored = h.stored;
        well_formed = h.well_formed;
        all_stored = stored.0;
        apply = apply.0;
      };
      is = record { form = ends.text_is; stored = stored.1 };
      applies = apply.1;
    }

pub held_more : (format : ℕ) (bodies : List (List ℕ)) (text : List ℕ) (snapshot : Snapshot) (entries : List Entry) (entry : Entry) → Holds format bodies snapshot entries → IsEntryOf format text entry → Applies (replayed (pod_of snapshot) entries) (snapshot.seq + length entries) entry → Holds format (bodies ++ text ∷ []) snapshot (entries ++ entry ∷ [])
held_more format bodies text snapshot entries entry h is applies = record {
  texts = ap (λ l. l ++ text ∷ []) h.texts ∙ ap (λ l. snapshot_bytes snapshot ∷ l) (ap (λ t. map (entry_text format) entries ++ t ∷ []) is.form ∙ sym (map_more (entry_text format) entries entry));
  stored = h.stored;
  well_formed = h.well_formed;
  all_stored = all_more (IsEntryIn format) entries entry h.all_stored is.stored;
  apply = apply_more (pod_of snapshot) snapshot.seq entries entry h.apply applies;
}

-- records that hold something have a first one
first_of : (format : ℕ) (bodies : List (List ℕ)) (snapshot : Snapshot) (entries : List Entry) → Holds format bodies snapshot entries → bodies ≡ snapshot_bytes snapshot ∷ map (entry_text format) entries
first_of format bodies snapshot entries h = h.texts

-- the version after one entry more
states_more : (v : VersionState) (entries : List Entry) (entry : Entry) → states_after v (entries ++ entry ∷ []) ≡ state_after (states_after v entries) entry
states_more v [] entry = refl
states_more v (one ∷ more) entry = states_more (state_after v one) more entry

-- its pod, and the number of its next change
pub read_pod : (format : ℕ) (bodies : List (List ℕ)) (version : VersionState) (last : Option Moment) (h : AreRecordsRead format bodies version last) → version.pod ≡ replayed (pod_of h.snapshot) h.entries
read_pod format bodies version last h = ap (λ (v : VersionState). v.pod) h.version_is ∙ pod_replayed (first_state h.snapshot) h.entries

pub read_number : (format : ℕ) (bodies : List (List ℕ)) (version : VersionState) (last : Option Moment) (h : AreRecordsRead format bodies version last) → version.next ≡ h.snapshot.seq + length h.entries
read_number format bodies version last h = ap (λ (v : VersionState). v.next) h.version_is ∙ next_replayed (first_state h.snapshot) h.entries

-- the next record is read
pub read_more : (format : ℕ) (bodies : List (List ℕ)) (text : List ℕ) (version : VersionState) (last : Option Moment) (entry : Entry) (new : VersionState) → AreRecordsRead format bodies version last → IsEntryRead format text entry → Applies version.pod version.next entry → new ≡ state_after version entry → AreRecordsRead format (bodies ++ text ∷ []) new (Some entry.moment)
read_more format bodies text version last entry new h is applies new_is =
    let s = h.snapshot in
    let es = h.entries in
    let new_pod : new.pod ≡ applied version.pod entry = ap (λ (v : VersionState). v.pod) new_is in
    let new_next : new.next ≡ version.next + 1 = ap (λ (v : VersionState). v.next) new_is in
    let here : Applies (replayed (pod_of s) es) (s.seq + length es) entry = subst (λ p. Applies p (s.seq + length es) entry) (read_pod format bodies version last h) (subst (λ n. Applies version.pod n entry) (read_number format bodies version last h) applies) in record {
      snapshot = s;
      entries = es ++ entry ∷ [];
      holds = held_more format bodies text s es entry h.holds is.is here;
      version_is = new_is ∙ (ap (λ v. state_after v entry) h.version_is ∙ sym (states_more (first_state s) es entry));
      last_is = sym (last_more None es entry);
      only = λ other others held.
          let more = holds_more format (snapshot_bytes s) (map (entry_text format) es) text other others (subst (λ l. Holds format (l ++ text ∷ []) other others) h.holds.texts held) in
          let front = h.only other more.front (subst (λ l. Holds format l other more.front) (sym h.holds.texts) more.holds) in
          let same = is.only more.last more.is in (
            ap (replayed (pod_of other)) more.are ∙ (replayed_more (pod_of other) more.front more.last ∙ (ap (λ p. applied p more.last) front.0 ∙ (same_pod version.pod more.last entry same.1 ∙ sym new_pod))),
            omega (arith, ap length more.are, length-append more.front (more.last ∷ []), front.1, new_next),
          );
    }

-- and where it has no entry that applies, the records with it hold nothing
pub not_read : (format : ℕ) (bodies : List (List ℕ)) (text : List ℕ) (version : VersionState) (last : Option Moment) → AreRecordsRead format bodies version last → HasNoEntry format text version.pod version.next → IsReadable format (bodies ++ text ∷ []) → ⊥
not_read format bodies text version last h none readable =
    let s = h.snapshot in
    let es = h.entries in
    let other = readable.0 in
    let others = readable.1 in
    let more = holds_more format (snapshot_bytes s) (map (entry_text format) es) text other others (subst (λ l. Holds format (l ++ text ∷ []) other others) h.holds.texts readable.2) in
    let front = h.only other more.front (subst (λ l. Holds format l other more.front) (sym h.holds.texts) more.holds) in
    none more.last more.is (subst (λ p. Applies p version.next more.last) front.0 (subst (λ n. Applies (replayed (pod_of other) more.front) n more.last) front.1 more.applies))

-- an entry applies where one with the same number and edits does
pub applies_alike : (pod : Pod) (next : ℕ) (entry other : Entry) → (other.seq ≡ entry.seq) × (other.edits.items ≡ entry.edits.items) → Applies pod next other → Applies pod next entry
applies_alike pod next entry other same a = record {
  number = sym same.0 ∙ a.number;
  numbered = a.numbered;
  rows = a.rows;
  edits = ap (after_edits (Some pod.rows)) (sym same.1) ∙ a.edits;
  well_formed = a.well_formed;
}

-- the first record is read
pub read_first : (format : ℕ) (text : List ℕ) (version : VersionState) → IsSnapshotRead text version → AreRecordsRead format (text ∷ []) version None
read_first format text version h = record {
  snapshot = h.snapshot;
  entries = [];
  holds = record { texts = ap (λ t. t ∷ []) h.is.form; stored = h.is.stored; well_formed = h.is.well_formed; all_stored = tt; apply = tt };
  version_is = h.version_is;
  last_is = refl;
  only = λ other others held. alone other others held (first_text other others held);
}
  where
    first_text : (other : Snapshot) (others : List Entry) → Holds format (text ∷ []) other others → (text ≡ snapshot_bytes other) × (others ≡ [])
    first_text other [] held = let e = held.texts in (search (rules, e), refl)
    first_text other (o ∷ os) held = let e = held.texts in search (rules, e)

    alone : (other : Snapshot) (others : List Entry) → Holds format (text ∷ []) other others → (text ≡ snapshot_bytes other) × (others ≡ []) → (replayed (pod_of other) others ≡ version.pod) × (other.seq + length others ≡ version.next)
    alone other others held is =
        let same = h.only other (record { form = is.0; stored = held.stored; well_formed = held.well_formed }) in
        (ap (replayed (pod_of other)) is.1 ∙ same.0, omega (arith, ap length is.1, same.1))

-- a first record that isn't the text of a well-formed snapshot holds nothing
pub first_not_read : (format : ℕ) (text : List ℕ) → ((snapshot : Snapshot) → IsSnapshotOf text snapshot → ⊥) → IsReadable format (text ∷ []) → ⊥
first_not_read format text none readable =
    let held = readable.2 in
    let e = held.texts in
    none readable.0 (record { form = search (rules, e); stored = held.stored; well_formed = held.well_formed })

-- damage at the next record
pub breaks_next : (format : ℕ) (bodies rest : List (List ℕ)) (text : List ℕ) (version : VersionState) (last : Option Moment) → AreRecordsRead format bodies version last → HasNoEntry format text version.pod version.next → BreaksAfter format (bodies ++ text ∷ rest) bodies
breaks_next format bodies rest text version last h none = record {
  bad = text;
  rest = rest;
  are = refl;
  holds = inr (h.snapshot, h.entries, h.holds);
  breaks = not_read format bodies text version last h none;
}

pub breaks_first : (format : ℕ) (rest : List (List ℕ)) (text : List ℕ) → ((snapshot : Snapshot) → IsSnapshotOf text snapshot → ⊥) → BreaksAfter format (text ∷ rest) []
breaks_first format rest text none = record {
  bad = text;
  rest = rest;
  are = refl;
  holds = inl refl;
  breaks = first_not_read format text none;
}
