-- What a keeper stands for when it was opened.
use Rattle.std.proofs.Common.{◌≡◌, inl, inr, ℕ, ◌≤◌, List, Option, Result, Ok, Err, IfOk, IfErr, refl, sym, ap, ◌∙◌, subst}
use Rattle.journal_log.specs.Opening.{IsNormalizing}
use Rattle.journal_log.specs.declared.fault.Side.TheVariants.{First, Second}
use Rattle.journal_pair.specs.Causes.{IfBothVisible}
use Rattle.journal_pair.specs.PairJournal.{IsPairClean}
use Rattle.journal_pair.specs.PairMoments.{EachPair, LeavesPairs, IsWhileStoreOpened}
use Rattle.journal_pair.specs.PairState.{PairState}
use Rattle.journal_pair.specs.Stores.{StoreStands}
use Rattle.journal_pair.proofs.Reopening.{openings_again}
use Rattle.pod_base.specs.declared.moment.Moment.{Moment}
use Rattle.pod_core.proofs.Histories.{pod_at_end}
use Rattle.pod_keeper.specs.CrashedPods.{StandsForOneOf, ThoughMended}
use Rattle.pod_keeper.specs.KeeperState.{KeeperState}
use Rattle.pod_keeper.specs.OpenedPods.{IsOpened, OpensDisks}
use Rattle.pod_keeper.specs.Stored.{history_of}
use Rattle.pod_keeper.proofs.Places.{held_history, held_from_start}
use Rattle.pod_pages.specs.State.{VersionState}
use Rattle.pod_records.proofs.ReadSteps.{read_pod, read_number}
use Rattle.pod_records.specs.Readings.{AreRecordsRead}

-- a result whose value is this one
pub if_ok_is : {T E X : Type 0} (r : Result T E) (of : T → X) (x : X) (P : X → Type 0) → IfOk r (λ t. of t ≡ x) → P x → IfOk r (λ t. P (of t))
if_ok_is (Ok t) of x P is p = subst P (sym is) p
if_ok_is (Err e) of x P is p = tt

module _ {D : Type 0} (image : D → List ℕ → Type 0) (first second : D) (pair : PairState) (version : VersionState) (last : Option Moment) where
  abbrev pub keeper_at : KeeperState D
  keeper_at = record { first = first; second = second; pair = pair; pod = version.pod; next = version.next; effects = version.effects; oldest = version.oldest; last = last }

  pub is_opened : (content content_2 : Option (List ℕ)) (bodies : List (List ℕ)) → AreRecordsRead pair.journal.format bodies version last → IsPairClean image first second pair bodies
      → IfBothVisible content content_2 (StoreStands pair.active pair.journal.format pair.journal.epoch bodies) → IsOpened image content content_2 bodies keeper_at
  is_opened content content_2 bodies read clean stands =
      let history = history_of read.snapshot read.entries in record {
        snapshot = read.snapshot;
        entries = read.entries;
        holds = read.holds;
        stands = stands;
        kept = record {
          is_history = held_history pair.journal.format bodies read.snapshot read.entries read.holds;
          pod = read_pod pair.journal.format bodies version last read ∙ sym (pod_at_end history);
          next = read_number pair.journal.format bodies version last read;
          effects = ap (λ (v : VersionState). v.effects) read.version_is;
          oldest = ap (λ (v : VersionState). v.oldest) read.version_is;
          last = read.last_is;
          bodies = bodies;
          stored = held_from_start pair.journal.format bodies read.snapshot read.entries read.holds;
          disks = clean;
        };
      }

-- a torn gate of one of these images is one of that image alone
of_itself : (images : List ℕ → Type 0) (c : List ℕ) (torn : IsNormalizing images c) → IsNormalizing (λ image. image ≡ torn.from) c
of_itself images c torn = record {
  from = torn.from;
  was = refl;
  format = torn.format;
  epoch = torn.epoch;
  bodies = torn.bodies;
  body = torn.body;
  gate = torn.gate;
  torn = torn.torn;
  gated = torn.gated;
  stood = torn.stood;
  changed = torn.changed;
  stands = torn.stands;
}

module _ {D : Type 0} (image : D → List ℕ → Type 0) (moment : D → ℕ) (left_since : D → ℕ → List ℕ → Type 0) (faults : D → ℕ) (first second first_new second_new : D) where
  -- what was so of each pair of images stays so while torn gates are written
  mended : (P : List ℕ → List ℕ → Type 0) → EachPair (image first) (image second) (ThoughMended P) → (c d : List ℕ) → IsWhileStoreOpened image first second c d → P c d
  mended P each c d (First, inl was, other) = (each c d was other).now
  mended P each c d (First, inr torn, other) = (each torn.from d torn.was other).mended_first c (of_itself (image first) c torn)
  mended P each c d (Second, inl was, other) = (each c d other was).now
  mended P each c d (Second, inr torn, other) = (each c torn.from other torn.was).mended_second d (of_itself (image second) d torn)

  pub opens_disks : LeavesPairs moment left_since first second first_new second_new (IsWhileStoreOpened image first second) → moment first ≤ moment first_new → moment second ≤ moment second_new → faults first ≤ faults first_new → faults second ≤ faults second_new
      → OpensDisks image moment left_since faults first second first_new second_new
  opens_disks pairs later_first later_second no_fewer_first no_fewer_second = record {
    pairs = pairs;
    stands = λ history entries each c d left left_2. mended (StandsForOneOf history entries) each c d (pairs c d left left_2);
    again = λ history entries each c d left left_2. openings_again image first second (StandsForOneOf history entries) each c d (pairs c d left left_2);
    later_first = later_first;
    later_second = later_second;
    no_fewer_first = no_fewer_first;
    no_fewer_second = no_fewer_second;
  }

-- and of a result with these two
pub if_ok_both : {T E X Y : Type 0} (r : Result T E) (of : T → X) (of_2 : T → Y) (x : X) (y : Y) (P : X → Y → Type 0) → IfOk r (λ t. of t ≡ x) → IfOk r (λ t. of_2 t ≡ y) → P x y → IfOk r (λ t. P (of t) (of_2 t))
if_ok_both (Ok t) of of_2 x y P same same_2 p = subst (λ v. P v (of_2 t)) (sym same) (subst (P x) (sym same_2) p)
if_ok_both (Err e) of of_2 x y P same same_2 p = tt

pub if_err_both : {T E X Y : Type 0} (r : Result T E) (of : E → X) (of_2 : E → Y) (x : X) (y : Y) (P : X → Y → Type 0) → IfErr r (λ t. of t ≡ x) → IfErr r (λ t. of_2 t ≡ y) → P x y → IfErr r (λ t. P (of t) (of_2 t))
if_err_both (Err t) of of_2 x y P same same_2 p = subst (λ v. P v (of_2 t)) (sym same) (subst (P x) (sym same_2) p)
if_err_both (Ok e) of of_2 x y P same same_2 p = tt
