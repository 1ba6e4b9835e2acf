-- Opening: from the classes of two disks to what is opened.
use Rattle.std.proofs.Common.{◌≡◌, ◌⊎◌, inl, inr, ⊎_elim, ℕ, ◌≤◌, List, Option, Some, [], ◌∷◌, length, sym, ap, subst, arith}
use Rattle.pod_io.specs.Visible.{IfVisible}
use Rattle.pod_disk.specs.Disk.{EachImage, LeavesOnly}
use Rattle.pod_disk.proofs.Moments.{both}
use Rattle.journal_log.specs.Classes.{HasClass}
use Rattle.journal_log.specs.Images.{Stands}
use Rattle.journal_log.specs.Opening.{IsWhileOpened}
use Rattle.journal_log.specs.Causes.{HasCause}
use Rattle.journal_log.specs.JournalState.{JournalState}
use Rattle.journal_log.specs.declared.disk_class.DiskClass.TheVariants as class
use Rattle.journal_log.specs.declared.fault.Side.{Side}
use Rattle.journal_log.specs.declared.fault.Side.TheVariants.{First, Second}
use Rattle.journal_log.specs.declared.fault.OpenFault.{OpenFault}
use Rattle.journal_log.specs.declared.fault.OpenFault.TheVariants.{Empty, Damaged, DiskFault, NoMemory}
use Rattle.journal_pair.specs.Sides.{active_of, other_of}
use Rattle.journal_pair.specs.Stores.{IsPassedOver, IsTaken, StoreStands, IsStoreDamaged, IsStoreEmpty}
use Rattle.journal_pair.specs.PairState.{PairState}
use Rattle.journal_pair.specs.PairJournal.{IsPassedBeside}
use Rattle.journal_pair.specs.PairMoments.{LeavesPairs, IsWhileStoreOpened}
use Rattle.journal_pair.specs.Causes.{IfBothVisible, HasStoreCause}
use Rattle.journal_pair.specs.Choices.{IsChosenBy}
use Rattle.journal_pair.specs.declared.disk_choice.Choice.TheVariants as choice
use Rattle.journal_pair.proofs.Classing.{one_epoch, other_class, passed_of, taken_of, damaged_of, empty_of}
use Rattle.journal_pair.proofs.Beside.{stands_open, stands_none}

module _ {D : Type 0} (content : D → Option (List ℕ)) (first second : D) where
  visible_active : (side : Side) (c d : List ℕ) → content first ≡ Some c → content second ≡ Some d → content (active_of side first second) ≡ Some (active_of side c d)
  visible_active First c d one other = one
  visible_active Second c d one other = other

-- the journal that is read is the one that the classes visible of
never : (format epoch opened : ℕ) (bodies : List (List ℕ)) (image : List ℕ) → Stands format epoch bodies image → HasClass (class.Open opened) image → ((epoch ≡ opened → ⊥) ⊎ (bodies ≡ [])) → ⊥
never format epoch opened [] image stands is_open either = other_class class.Closed (class.Open opened) image (λ is. omega (arith, is)) (stands_none format epoch image stands) is_open
never format epoch opened (body ∷ others) image stands is_open (inl differs) = differs (one_epoch epoch opened image (stands_open format epoch body others image stands) is_open)
never format epoch opened (body ∷ others) image stands is_open (inr none) = omega (arith, ap length none)

module _ {D : Type 0} (content : D → Option (List ℕ)) (image : D → List ℕ → Type 0) (faults : D → ℕ) (first second : D) (side : Side) (epoch : ℕ)
    (chosen : IsChosenBy (content first) (content second) (image first) (image second) (choice.Take side epoch)) where
  pub both_taken : IfBothVisible (content first) (content second) (IsTaken side epoch)
  both_taken c visible d shown_2 = taken_of side chosen.a chosen.b c d (chosen.first_visible c visible) (chosen.second_visible d shown_2) epoch chosen.chosen

  -- a fault of the journal is one of the store
  pub store_cause : (first_new second_new : D) (fault : OpenFault)
      → HasCause (content (active_of side first second)) side (faults (active_of side first second)) (faults (active_of side first_new second_new)) fault
      → HasStoreCause (content first) (content second) (faults first) (faults first_new) (faults second) (faults second_new) fault
  store_cause first_new second_new Empty cause = λ c visible d shown_2.
      let here = cause (active_of side c d) (visible_active content first second side c d visible shown_2) in
      let is_open = (both_taken c visible d shown_2).is_open in
      absurd (other_class class.Empty (class.Open epoch) (active_of side c d) (λ is. omega (arith, is)) here is_open)
  store_cause first_new second_new (Damaged on at) cause = λ c visible d shown_2.
      subst (λ (s : Side). IsStoreDamaged s at c d) (sym cause.0) (inr (inl (record {
        epoch = epoch;
        taken = both_taken c visible d shown_2;
        damaged = cause.1 (active_of side c d) (visible_active content first second side c d visible shown_2);
      })))
  store_cause first_new second_new DiskFault cause = on_side side cause
    where
      on_side : (s : Side) → HasCause (content (active_of s first second)) s (faults (active_of s first second)) (faults (active_of s first_new second_new)) DiskFault
          → HasStoreCause (content first) (content second) (faults first) (faults first_new) (faults second) (faults second_new) DiskFault
      on_side First increased = inl increased
      on_side Second increased = inr increased
  store_cause first_new second_new NoMemory cause = tt

  each_other : (s : Side) → EachImage (image (other_of s first second)) (HasClass (other_of s chosen.a chosen.b))
  each_other First = chosen.second_each
  each_other Second = chosen.first_each

  -- the disk beside it is passed over
  pub opened_passed : (first_new second_new : D) (pair : PairState) → other_of side first_new second_new ≡ other_of side first second → pair.active ≡ side → pair.journal.epoch ≡ epoch
      → IsPassedBeside image first_new second_new pair
  opened_passed first_new second_new pair same is_side is_epoch c now =
      let here : image (other_of side first_new second_new) c = subst (λ (s : Side). image (other_of s first_new second_new) c) is_side now in
      let before : image (other_of side first second) c = subst (λ (x : D). image x c) same here in
      let passed : IsPassedOver side epoch c = passed_of side epoch (other_of side chosen.a chosen.b) c chosen.chosen.1 (each_other side c before) in
      subst (λ (s : Side). IsPassedOver s pair.journal.epoch c) (sym is_side) (subst (λ (e : ℕ). IsPassedOver side e c) (sym is_epoch) passed)

  -- and the store stands for the records that were read
  pub opened_stands : (journal : JournalState) (pair : PairState) (bodies : List (List ℕ)) → IfVisible (content (active_of side first second)) (Stands journal.format journal.epoch bodies)
      → pair.active ≡ side → pair.journal ≡ journal → journal.epoch ≡ epoch
      → IfBothVisible (content first) (content second) (StoreStands pair.active pair.journal.format pair.journal.epoch bodies)
  opened_stands journal pair bodies visible is_side is_journal is_epoch c shown d shown_2 =
      subst (λ (s : Side). StoreStands s pair.journal.format pair.journal.epoch bodies c d) (sym is_side)
      (subst (λ (j : JournalState). StoreStands side j.format j.epoch bodies c d) (sym is_journal) (record {
        taken = subst (λ (e : ℕ). IsTaken side e c d) (sym is_epoch) (both_taken c shown d shown_2);
        stands = visible (active_of side c d) (visible_active content first second side c d shown shown_2);
      }))

  -- other bytes than those that were classified are never read
  pub never_other : (journal : JournalState) (bodies : List (List ℕ)) → IfVisible (content (active_of side first second)) (Stands journal.format journal.epoch bodies)
      → ((journal.epoch ≡ epoch → ⊥) ⊎ (bodies ≡ [])) → IfBothVisible (content first) (content second) (IsStoreDamaged side 0)
  never_other journal bodies visible either c shown d shown_2 =
      absurd (never journal.format journal.epoch epoch bodies (active_of side c d) (visible (active_of side c d) (visible_active content first second side c d shown shown_2)) (both_taken c shown d shown_2).is_open either)

-- what was chosen where nothing is taken
pub chosen_damaged : (one other : Option (List ℕ)) (images images_2 : List ℕ → Type 0) (side : Side) (at : ℕ) → IsChosenBy one other images images_2 (choice.Damaged side at) → IfBothVisible one other (IsStoreDamaged side at)
chosen_damaged one other images images_2 side at chosen c visible d shown_2 = damaged_of side chosen.a chosen.b c d (chosen.first_visible c visible) (chosen.second_visible d shown_2) at chosen.chosen

pub chosen_empty : (one other : Option (List ℕ)) (images images_2 : List ℕ → Type 0) → IsChosenBy one other images images_2 choice.Empty → IfBothVisible one other IsStoreEmpty
chosen_empty one other images images_2 chosen c visible d shown_2 = empty_of chosen.a chosen.b c d (chosen.first_visible c visible) (chosen.second_visible d shown_2) chosen.chosen

-- a cause after calls that only counted is one from before them
pub cause_before : (one one_old other other_old : Option (List ℕ)) (a a_old a_new b b_old b_new : ℕ) (fault : OpenFault) → one ≡ one_old → other ≡ other_old → a_old ≤ a → b_old ≤ b
    → HasStoreCause one other a a_new b b_new fault → HasStoreCause one_old other_old a_old a_new b_old b_new fault
cause_before one one_old other other_old a a_old a_new b b_old b_new Empty same same_2 le le_2 cause =
    subst (λ (o : Option (List ℕ)). IfBothVisible o other_old IsStoreEmpty) same (subst (λ (o : Option (List ℕ)). IfBothVisible one o IsStoreEmpty) same_2 cause)
cause_before one one_old other other_old a a_old a_new b b_old b_new (Damaged side at) same same_2 le le_2 cause =
    subst (λ (o : Option (List ℕ)). IfBothVisible o other_old (IsStoreDamaged side at)) same (subst (λ (o : Option (List ℕ)). IfBothVisible one o (IsStoreDamaged side at)) same_2 cause)
cause_before one one_old other other_old a a_old a_new b b_old b_new DiskFault same same_2 le le_2 cause =
    ⊎_elim (λ rose. inl (λ below. omega (arith, le, rose below))) (λ rose. inr (λ below. omega (arith, le_2, rose below))) cause
cause_before one one_old other other_old a a_old a_new b b_old b_new NoMemory same same_2 le le_2 cause = tt

module _ {D : Type 0} (image : D → List ℕ → Type 0) (moment : D → ℕ) (left_since : D → ℕ → List ℕ → Type 0) where
  -- calls that only read, and then an opening
  pub opened_disk : (old mid new : D) → LeavesOnly moment left_since old mid (image old) → EachImage (image mid) (image old) → LeavesOnly moment left_since mid new (IsWhileOpened (image mid))
      → LeavesOnly moment left_since old new (IsWhileOpened (image old))
  opened_disk old mid new first each second =
      both image moment left_since old mid new (image old) (IsWhileOpened (image mid)) (IsWhileOpened (image old)) (λ c was. inl was)
      (λ c either. ⊎_elim (λ was. inl (each c was)) (λ found. inr (record {
        from = found.from;
        was = each found.from found.was;
        format = found.format;
        epoch = found.epoch;
        bodies = found.bodies;
        body = found.body;
        gate = found.gate;
        torn = found.torn;
        gated = found.gated;
        stood = found.stood;
        changed = found.changed;
        stands = found.stands;
      })) either) first second

  -- the disk that is taken, and the one beside it, which stays
  pub opened_first : (side : Side) (first second first_new second_new : D) → ((c : List ℕ) → left_since first (moment first) c → image first c)
      → LeavesOnly moment left_since (active_of side first second) (active_of side first_new second_new) (IsWhileOpened (image (active_of side first second)))
      → other_of side first_new second_new ≡ other_of side first second → LeavesOnly moment left_since first first_new (IsWhileOpened (image first))
  opened_first First first second first_new second_new only_now run same = run
  opened_first Second first second first_new second_new only_now run same =
      subst (λ (n : D). LeavesOnly moment left_since first n (IsWhileOpened (image first))) (sym same) (record {
        later = omega arith;
        each = λ c left. inl (only_now c left);
        before = λ t c le left. inl left;
      })

  pub opened_second : (side : Side) (first second first_new second_new : D) → ((c : List ℕ) → left_since second (moment second) c → image second c)
      → LeavesOnly moment left_since (active_of side first second) (active_of side first_new second_new) (IsWhileOpened (image (active_of side first second)))
      → other_of side first_new second_new ≡ other_of side first second → LeavesOnly moment left_since second second_new (IsWhileOpened (image second))
  opened_second Second first second first_new second_new only_now run same = run
  opened_second First first second first_new second_new only_now run same =
      subst (λ (n : D). LeavesOnly moment left_since second n (IsWhileOpened (image second))) (sym same) (record {
        later = omega arith;
        each = λ c left. inl (only_now c left);
        before = λ t c le left. inl left;
      })

  -- what the disk beside it leaves
  pub other_left : (side : Side) (first second first_mid second_mid first_new second_new : D)
      → LeavesOnly moment left_since first first_mid (image first) → LeavesOnly moment left_since second second_mid (image second)
      → other_of side first_new second_new ≡ other_of side first_mid second_mid
      → LeavesOnly moment left_since (other_of side first second) (other_of side first_new second_new) (image (other_of side first second))
  other_left First first second first_mid second_mid first_new second_new one other same = subst (λ (n : D). LeavesOnly moment left_since second n (image second)) (sym same) other
  other_left Second first second first_mid second_mid first_new second_new one other same = subst (λ (n : D). LeavesOnly moment left_since first n (image first)) (sym same) one

  -- one disk is being mended, and no other
  pub opened_pairs : (side : Side) (first second first_mid second_mid first_new second_new : D)
      → LeavesOnly moment left_since first first_mid (image first) → LeavesOnly moment left_since second second_mid (image second)
      → LeavesOnly moment left_since first first_new (IsWhileOpened (image first)) → LeavesOnly moment left_since second second_new (IsWhileOpened (image second))
      → other_of side first_new second_new ≡ other_of side first_mid second_mid
      → LeavesPairs moment left_since first second first_new second_new (IsWhileStoreOpened image first second)
  opened_pairs First first second first_mid second_mid first_new second_new one other run run_2 same c d left left_2 =
      (First, run.each c left, (other_left First first second first_mid second_mid first_new second_new one other same).each d left_2)
  opened_pairs Second first second first_mid second_mid first_new second_new one other run run_2 same c d left left_2 =
      (Second, run_2.each d left_2, (other_left Second first second first_mid second_mid first_new second_new one other same).each c left)
