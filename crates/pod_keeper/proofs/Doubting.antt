-- What is in doubt, as records.
use Rattle.std.proofs.Common.{◌≡◌, ℕ, zero, suc, List, [], ◌∷◌, Contains, refl, sym, ◌∙◌, subst, arith}
use Rattle.journal_pair.specs.PairState.{PairState}
use Rattle.journal_pair.specs.Doubts as records
use Rattle.journal_pair.specs.Doubts.{RecordDoubt, HasRecords, tails_in, news_in}
use Rattle.pod_command.specs.declared.entry.Entry.{Entry}
use Rattle.pod_core.specs.History.{History}
use Rattle.pod_keeper.specs.Kept.{Doubt, certain, entered, checkpointed, entries_in, IsNextEntry, IsCheckpointText, HasOnDisks}
use Rattle.pod_records.specs.Records.{entry_text}

-- the record is what is in doubt
abbrev pub IsDoubtOf : History → ℕ → Doubt → RecordDoubt → Type 0
IsDoubtOf history format certain records.certain = Unit {0}
IsDoubtOf history format (entered entry) (records.entered body) = IsNextEntry history format entry × (body ≡ entry_text format entry)
IsDoubtOf history format checkpointed (records.checkpointed body) = IsCheckpointText history body
IsDoubtOf history format _ _ = ⊥

module _ {D : Type 0} (image : D → List ℕ → Type 0) (first second : D) (pair : PairState) (history : History) (bodies : List (List ℕ)) where
  pub record InRecords (doubt : Doubt) : Type 0 where
    pub records_doubt : RecordDoubt
    pub has : HasRecords image first second pair bodies records_doubt
    pub is : IsDoubtOf history pair.journal.format doubt records_doubt

  pub in_records : (doubt : Doubt) → HasOnDisks image first second pair history bodies doubt → InRecords doubt
  in_records certain h = record { records_doubt = records.certain; has = h; is = tt }
  in_records (entered entry) h = record { records_doubt = records.entered (entry_text pair.journal.format entry); has = h.1; is = (h.0, refl) }
  in_records checkpointed h = record { records_doubt = records.checkpointed h.0; has = h.2; is = h.1 }

  pub on_disks : (doubt : Doubt) (of : RecordDoubt) → HasRecords image first second pair bodies of → IsDoubtOf history pair.journal.format doubt of → HasOnDisks image first second pair history bodies doubt
  on_disks certain records.certain h is = h
  on_disks certain (records.entered body) h is = absurd is
  on_disks certain (records.checkpointed body) h is = absurd is
  on_disks (entered entry) records.certain h is = absurd is
  on_disks (entered entry) (records.entered body) h is = (is.0, subst (λ b. HasRecords image first second pair bodies (records.entered b)) is.1 h)
  on_disks (entered entry) (records.checkpointed body) h is = absurd is
  on_disks checkpointed records.certain h is = absurd is
  on_disks checkpointed (records.entered body) h is = absurd is
  on_disks checkpointed (records.checkpointed body) h is = (body, is, h)

-- which entry a record in doubt is
pub tail_entry : (history : History) (format : ℕ) (doubt : Doubt) (of : RecordDoubt) (tail : List ℕ) → IsDoubtOf history format doubt of → Contains (tails_in of) tail
    → (entry : Entry) × Contains (entries_in doubt) entry × IsNextEntry history format entry × (tail ≡ entry_text format entry)
tail_entry history format certain records.certain tail is has = absurd (omega (arith, has.1))
tail_entry history format certain (records.entered body) tail is has = absurd is
tail_entry history format certain (records.checkpointed body) tail is has = absurd is
tail_entry history format (entered entry) records.certain tail is has = absurd is
tail_entry history format (entered entry) (records.entered body) tail is has = (entry, (0, omega arith, refl), is.0, sym (only body tail has) ∙ is.1)
  where
    only : (x y : List ℕ) → Contains (x ∷ []) y → x ≡ y
    only x y (zero, lt, e) = e
    only x y (suc k, lt, e) = absurd (omega (arith, lt))
tail_entry history format (entered entry) (records.checkpointed body) tail is has = absurd is
tail_entry history format checkpointed records.certain tail is has = absurd is
tail_entry history format checkpointed (records.entered body) tail is has = absurd is
tail_entry history format checkpointed (records.checkpointed body) tail is has = absurd (omega (arith, has.1))

-- and which checkpoint
pub new_checkpoint : (history : History) (format : ℕ) (doubt : Doubt) (of : RecordDoubt) (new : List (List ℕ)) → IsDoubtOf history format doubt of → Contains (news_in of) new
    → (text : List ℕ) × IsCheckpointText history text × (new ≡ text ∷ [])
new_checkpoint history format certain records.certain new is has = absurd (omega (arith, has.1))
new_checkpoint history format certain (records.entered body) new is has = absurd is
new_checkpoint history format certain (records.checkpointed body) new is has = absurd is
new_checkpoint history format (entered entry) records.certain new is has = absurd is
new_checkpoint history format (entered entry) (records.entered body) new is has = absurd (omega (arith, has.1))
new_checkpoint history format (entered entry) (records.checkpointed body) new is has = absurd is
new_checkpoint history format checkpointed records.certain new is has = absurd is
new_checkpoint history format checkpointed (records.entered body) new is has = absurd is
new_checkpoint history format checkpointed (records.checkpointed body) new is has = (body, is, sym (only (body ∷ []) new has))
  where
    only : (x y : List (List ℕ)) → Contains (x ∷ []) y → x ≡ y
    only x y (zero, lt, e) = e
    only x y (suc k, lt, e) = absurd (omega (arith, lt))
