-- How an opening fails.
use Rattle.std.proofs.Common.{◌≡◌, inl, inr, ℕ, List, [], ◌∷◌, length, Option, Result, Ok, Err, IfOk, IfErr, refl, sym, ap, subst, arith, length-append}
use Rattle.std.specs.List.{sum_by}
use Rattle.std.proofs.lemmas.List.Sums.{sum_by-cons}
use Rattle.journal_log.specs.CleanJournal.{IsClean}
use Rattle.journal_log.specs.Frames.{sized, opened, frame_len}
use Rattle.journal_log.specs.Heads.{encoded_head}
use Rattle.journal_log.specs.JournalState.{JournalState}
use Rattle.journal_log.specs.declared.fault.OpenFault.{OpenFault}
use Rattle.journal_log.specs.declared.fault.OpenFault.TheVariants as faults
use Rattle.journal_log.specs.declared.fault.Side.{Side}
use Rattle.journal_log.proofs.Splits.{length_head, length_sized}
use Rattle.journal_pair.specs.Causes.{IfBothVisible, HasStoreCause}
use Rattle.journal_pair.specs.PairState.{PairState}
use Rattle.journal_pair.specs.Stores.{StoreStands}
use Rattle.pod_records.specs.OpenedStores.{HasPodCause, HasContentCause}
use Rattle.pod_records.specs.PodStores.{gate_after}

-- the last gate of a journal is after all its records
opened_len : (bodies : List (List ℕ)) → length (opened bodies) ≡ sum_by frame_len bodies
opened_len [] = refl
opened_len (body ∷ bodies) = omega (arith, sum_by-cons frame_len body bodies, length-append (1 ∷ sized body) (opened bodies), length_sized body, opened_len bodies)

pub gate_within : (images : List ℕ → Type 0) (journal : JournalState) (bodies : List (List ℕ)) → IsClean images journal bodies → gate_after bodies ≡ journal.end
gate_within images journal bodies h =
    let whole = ap length h.is_prefix.spells in
    omega (arith, whole, h.is_prefix.ends, length-append (encoded_head journal.format journal.epoch) (opened bodies), length_head journal.format journal.epoch, opened_len bodies)

module _ (first second : Option (List ℕ)) (a a_new b b_new : ℕ) where
  -- damage of frames
  pub of_frames : (fault : OpenFault) → HasStoreCause first second a a_new b b_new fault → HasPodCause first second a a_new b b_new fault
  of_frames faults.Empty h = h
  of_frames (faults.Damaged side at) h = λ c is d is_2. inl (h c is d is_2)
  of_frames faults.DiskFault h = h
  of_frames faults.NoMemory h = tt

  -- damage of what the records hold
  of_content : (side : Side) (format epoch : ℕ) (bodies : List (List ℕ)) → IfBothVisible first second (StoreStands side format epoch bodies) → (fault : OpenFault) → HasContentCause side format bodies fault → HasPodCause first second a a_new b b_new fault
  of_content side format epoch bodies stands faults.Empty h = absurd h
  of_content side format epoch bodies stands (faults.Damaged on at) (same, good, breaks, place) = λ c is d is_2. inr (record {
    format = format;
    epoch = epoch;
    bodies = bodies;
    stands = subst (λ s. StoreStands s format epoch bodies c d) (sym same) (stands c is d is_2);
    good = good;
    breaks = breaks;
    place = place;
  })
  of_content side format epoch bodies stands faults.DiskFault h = absurd h
  of_content side format epoch bodies stands faults.NoMemory h = tt

  pub content_cause : {T : Type 0} (side : Side) (format epoch : ℕ) (bodies : List (List ℕ)) → IfBothVisible first second (StoreStands side format epoch bodies) → (r : Result T OpenFault) → IfErr r (HasContentCause side format bodies) → IfErr r (HasPodCause first second a a_new b b_new)
  content_cause side format epoch bodies stands (Ok x) h = tt
  content_cause side format epoch bodies stands (Err fault) h = of_content side format epoch bodies stands fault h

-- what holds of this pair and these records holds of a result that has them
pub if_ok_has : {T E : Type 0} (r : Result T E) (pair_of : T → PairState) (items_of : T → List (List ℕ)) (pair : PairState) (bodies : List (List ℕ)) (P : PairState → List (List ℕ) → Type 0)
    → IfOk r (λ t. pair_of t ≡ pair) → IfOk r (λ t. items_of t ≡ bodies) → P pair bodies → IfOk r (λ t. P (pair_of t) (items_of t))
if_ok_has (Ok t) pair_of items_of pair bodies P same same_2 p = subst (λ x. P x (items_of t)) (sym same) (subst (P pair) (sym same_2) p)
if_ok_has (Err e) pair_of items_of pair bodies P same same_2 p = tt
