-- The entry and the snapshot of a text.
use Rattle.std.proofs.Common.{◌≡◌, ◌≤◌, ◌^◌, ◌⊎◌, inl, inr, ℕ, ◌==◌, if◌then◌else◌, Bool, true, false, List, Result, Ok, Err, IfOk, refl, sym, ap, ◌∙◌, subst, rules, arith}
use Rattle.pod_command.specs.Bare.{bare_snapshot}
use Rattle.stored_forms.specs.Storable.{IsStorableSnapshot}
use Rattle.stored_forms.specs.StoredForms.{entry_bytes, entry_1_bytes, snapshot_bytes}
use Rattle.pod_command.specs.declared.entry.Entry.{Entry}
use Rattle.pod_command.specs.declared.snapshot.Snapshot.{Snapshot}
use Rattle.pod_records.specs.Readings.{IsEntryOf, IsEntryRead, IsSnapshotOf}
use Rattle.pod_records.specs.Records.{IsEntryIn, IsSnapshotText}
use Rattle.pod_records.proofs.Snapshots.{text_of}
use Rattle.pod_rows.specs.State.{NumberedPod}
use Rattle.pod_rows.specs.WellFormed.{IsWellFormedSnapshot, WellFormed, pod_of}
use Rattle.pod_follow.specs.Followed.{IsEntryText, IsStart, IsTheEntry}

-- a text in some format is one in format 1 or 2
module _ (text : List ℕ) (entry : Entry) where
  by_format : (b : Bool) (format : ℕ) → (format == 1) ≡ b → text ≡ (if b then entry_1_bytes entry else entry_bytes entry) → IsEntryIn format entry → IsEntryOf 1 text entry ⊎ IsEntryOf 2 text entry
  by_format true format is form stored = inl (record { form = form; stored = record { storable = stored.storable; bases = λ e. stored.bases (grind (arith, is)) } })
  by_format false format is form stored = inr (record { form = form; stored = record { storable = stored.storable; bases = λ e. search (rules, e) } })

  pub one_format : IsEntryText text entry → IsEntryOf 1 text entry ⊎ IsEntryOf 2 text entry
  one_format (format, is) = by_format (format == 1) format refl is.form is.stored

abbrev Apart : Type 0
Apart = (a b : Entry) → entry_bytes a ≡ entry_1_bytes b → ⊥

pub the_new : (text : List ℕ) (entry : Entry) → Apart → IsEntryRead 2 text entry → IsTheEntry text entry
the_new text entry apart read = record { is = (2, read.is); only = λ other is. by_two other (one_format text other is) }
  where
    by_two : (other : Entry) → IsEntryOf 1 text other ⊎ IsEntryOf 2 text other → (other.seq ≡ entry.seq) × (other.edits.items ≡ entry.edits.items)
    by_two other (inl old) = absurd (apart entry other (sym read.is.form ∙ old.form))
    by_two other (inr new) = read.only other new

pub the_old : (text : List ℕ) (entry : Entry) → Apart → IsEntryRead 1 text entry → IsTheEntry text entry
the_old text entry apart read = record { is = (1, read.is); only = λ other is. by_two other (one_format text other is) }
  where
    by_two : (other : Entry) → IsEntryOf 1 text other ⊎ IsEntryOf 2 text other → (other.seq ≡ entry.seq) × (other.edits.items ≡ entry.edits.items)
    by_two other (inl old) = read.only other old
    by_two other (inr new) = absurd (apart other entry (sym new.form ∙ read.is.form))

pub neither : (text : List ℕ) → ((e : Entry) → IsEntryOf 1 text e → ⊥) → ((e : Entry) → IsEntryOf 2 text e → ⊥) → (e : Entry) → IsEntryText text e → ⊥
neither text no_old no_new e is = by_two (one_format text e is)
  where
    by_two : IsEntryOf 1 text e ⊎ IsEntryOf 2 text e → ⊥
    by_two (inl old) = no_old e old
    by_two (inr new) = no_new e new

-- what starts with the snapshot that was decoded
module _ (text : List ℕ) (snapshot : Snapshot) (form : text ≡ snapshot_bytes snapshot) (stored : IsStorableSnapshot snapshot) (only : (s : Snapshot) → IsStorableSnapshot s → text ≡ snapshot_bytes s → snapshot ≡ bare_snapshot s) where
  pub starts : {E : Type 0} (r : Result NumberedPod E) → IfOk r (λ state. state.pod ≡ pod_of snapshot) → IfOk r (λ state. state.next ≡ snapshot.seq) → IfOk r (λ _. IsWellFormedSnapshot snapshot) → IfOk r (IsStart text)
  starts (Err e) pod next w = tt
  starts (Ok state) pod next w = record {
    snapshot = snapshot;
    is = record { form = form; stored = stored; well_formed = w };
    pod_is = pod;
    next_is = next;
    only = λ other is.
        let same = only other is.stored is.form in (
          ap pod_of (sym same) ∙ sym pod,
          ap (λ (s : Snapshot). s.seq) (sym same) ∙ sym next,
        );
  }

  -- and where that snapshot isn't well-formed, none that has the text is
  pub no_other : (IsWellFormedSnapshot snapshot → ⊥) → (other : Snapshot) → IsSnapshotOf text other → ⊥
  no_other bad other is =
      let same = only other is.stored is.form in
      bad (record {
        number = subst (λ (n : ℕ). n ≤ 2 ^ 63) (ap (λ (s : Snapshot). s.seq) (sym same)) is.well_formed.number;
        pod = subst WellFormed (ap pod_of (sym same)) is.well_formed.pod;
      })

-- the text of a snapshot that was encoded
pub saved : {E : Type 0} (r : Result (List ℕ) E) (snapshot : Snapshot) (state : NumberedPod) → IfOk r (λ bytes. bytes ≡ snapshot_bytes snapshot) → IfOk r (λ _. IsStorableSnapshot snapshot) → IsWellFormedSnapshot snapshot
    → pod_of snapshot ≡ state.pod → snapshot.seq ≡ state.next → IfOk r (IsSnapshotText state.pod state.next)
saved (Err e) snapshot state form stored w pod next = tt
saved (Ok text) snapshot state form stored w pod next =
    subst (λ p. IsSnapshotText p state.next text) pod (subst (λ n. IsSnapshotText (pod_of snapshot) n text) next (text_of snapshot text w stored form))
