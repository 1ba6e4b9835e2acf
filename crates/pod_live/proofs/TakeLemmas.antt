-- One change more that was carried to the disks, and the moments of all of them.
use Rattle.std.proofs.Common.{◌≡◌, ◌⊎◌, inl, inr, ⊎_elim, ◌≤◌, ◌+◌, ℕ, List, [], ◌∷◌, ◌++◌, Option, Some, None, IsSome, refl, sym, ap, subst, append_assoc, ◌∙◌, arith}
use Rattle.std.proofs.lemmas.List.{append-nil}
use Rattle.std.specs.Option.{option_to_list}
use Rattle.journal_pair.specs.Doubts.{IsSure, IsLong}
use Rattle.pod_base.specs.declared.moment.Stamp.{Stamp}
use Rattle.pod_base.specs.declared.request.Request.{Request}
use Rattle.pod_command.specs.declared.entry.Entry.{Entry}
use Rattle.pod_core.specs.History.{History, longer}
use Rattle.pod_core.specs.KeeperSteps.{item_at_end, stamp_at_end}
use Rattle.pod_core.specs.Session.{answered, disk_fault, entries_of}
use Rattle.pod_keeper.specs.CommitEvents.{entry_in_doubt}
use Rattle.pod_keeper.specs.Commits.{IsGrown, IsLeftFaulted, LeavesPodsOf, later}
use Rattle.pod_keeper.specs.KeeperRuns.{StandsWith}
use Rattle.pod_keeper.specs.Kept.{Doubt, entries_in, IsKept}
use Rattle.pod_keeper.specs.KeeperState.{KeeperState, IsCheckpointDue}
use Rattle.pod_keeper.proofs.Stamps.{later_at_end}
use Rattle.pod_keeper.proofs.TakenItems.{item_with, same_history, taken_faulted, taken_grown}
use Rattle.pod_live.specs.Locks.{PlansEntry}
use Rattle.pod_live.specs.Takes.{AreOfChanges, IsOfChangeOnFirst, IsOfChangeOnSecond, LeadsFrom, MomentsAreOfChanges, TakenItem, TakesChange, TakesChanges, TookChanges, entries_taken, faults_on, faults_taken}
use Rattle.token_table.specs.Credentials.{AskedAgent}

-- ---- lists

entries_more : (xs : List TakenItem) (one : TakenItem) (ys : List Entry) → entries_of one.item ≡ ys → entries_taken (xs ++ one ∷ []) ≡ entries_taken xs ++ ys
entries_more [] one ys is = append-nil (entries_of one.item) ∙ is
entries_more (x ∷ xs) one ys is = ap (λ (es : List Entry). entries_of x.item ++ es) (entries_more xs one ys is) ∙ sym (append_assoc (entries_of x.item) (entries_taken xs) ys)

faults_more : (xs : List TakenItem) (one : TakenItem) → faults_taken (xs ++ one ∷ []) ≡ faults_taken xs + faults_on one.item.outcome
faults_more [] one = omega arith
faults_more (x ∷ xs) one = omega (arith, faults_more xs one)

longer_twice : (history : History) (xs ys : List Entry) → longer (longer history xs) ys ≡ longer history (xs ++ ys)
longer_twice history xs ys = ap (λ (entries : List Entry). record history { entries = entries }) (append_assoc history.entries xs ys)

module _ {D : Type 0} (image : D → List ℕ → Type 0) (moment : D → ℕ) (left_since : D → ℕ → List ℕ → Type 0) where
  abbrev Steps : KeeperState D → History → Option Entry → List TakenItem → KeeperState D → Option Entry → Type 0
  Steps = TakesChanges image moment left_since

  abbrev Step : TakenItem → KeeperState D → History → Option Entry → KeeperState D → Option Entry → Type 0
  Step = TakesChange image moment left_since

  -- what the last keeper represents
  stands_after : (old mid : KeeperState D) (history : History) (doubt between : Option Entry) (taken : List TakenItem) → StandsWith image old history doubt → Steps old history doubt taken mid between
      → StandsWith image mid (longer history (entries_taken taken)) between
  stands_after old mid history doubt between [] stands steps =
      subst (λ (k : KeeperState D). StandsWith image k (longer history []) between) (sym steps.0)
      (subst (λ (b : Option Entry). StandsWith image old (longer history []) b) (sym steps.1) (subst (λ (h : History). StandsWith image old h doubt) (sym (same_history history)) stands))
  stands_after old mid history doubt between (one ∷ others) stands steps =
      subst (λ (h : History). StandsWith image mid h between) (longer_twice history (entries_of one.item) (entries_taken others))
      (stands_after steps.0 mid (longer history (entries_of one.item)) steps.1 between others steps.2.step.stands steps.3)

  -- one change more
  steps_more : (old mid new : KeeperState D) (history : History) (doubt between after : Option Entry) (taken : List TakenItem) (one : TakenItem) → Steps old history doubt taken mid between
      → Step one mid (longer history (entries_taken taken)) between new after → Steps old history doubt (taken ++ one ∷ []) new after
  steps_more old mid new history doubt between after [] one steps step =
      let here : Step one old history doubt new after =
      subst (λ (k : KeeperState D). Step one k history doubt new after) steps.0
      (subst (λ (b : Option Entry). Step one mid history b new after) steps.1 (subst (λ (h : History). Step one mid h between new after) (same_history history) step)) in
      (new, after, here, (refl, refl))
  steps_more old mid new history doubt between after (x ∷ xs) one steps step = (
    steps.0,
    steps.1,
    steps.2,
    steps_more steps.0 mid new (longer history (entries_of x.item)) steps.1 between after xs one steps.3
        (subst (λ (h : History). Step one mid h between new after) (sym (longer_twice history (entries_of x.item) (entries_taken xs))) step),
  )

  -- ---- a change that was carried to the disks
  module _ (began : KeeperState D → Type 0) (old new : KeeperState D) (list : List Entry) (faults : ℕ) (was : TookChanges image moment left_since began list faults old)
      (request : Request) (asked : AskedAgent) (stamp : Stamp) (entry : Entry) (plans : PlansEntry image old request asked stamp (Some entry))
      (pairs : (history : History) (place : ℕ) (doubt : Doubt) → IsKept image old history place doubt → IsSure image old.first old.second old.pair → (IsCheckpointDue old.pair → IsLong image old.first old.second old.pair) → LeavesPodsOf moment left_since old new history (entries_in doubt ++ entry ∷ []))
      (sure : IsSure image old.first old.second old.pair → (IsCheckpointDue old.pair → IsLong image old.first old.second old.pair) → IsSure image new.first new.second new.pair)
      (long : IsSure image old.first old.second old.pair → IsLong image old.first old.second old.pair → IsLong image new.first new.second new.pair) where
    -- its moment, with that of the last entry
    abbrev seconds : ℕ
    seconds = (later stamp old.last).moment.0

    -- it was added
    abbrev added : TakenItem
    added = record { conn = stamp.conn; clock = stamp.moment.0; item = item_with request asked stamp seconds (answered old.next plans.reply) }

    pub took_grown : ((history : History) (place : ℕ) (doubt : Doubt) → IsKept image old history place doubt → IsGrown image old new history place entry) → TookChanges image moment left_since began (list ++ entry ∷ []) faults new
    took_grown grows = record {
      taken = was.taken ++ added ∷ [];
      entries = entries_more was.taken added (entry ∷ []) (ap option_to_list (sym plans.entry_is)) ∙ ap (λ (es : List Entry). es ++ entry ∷ []) was.entries;
      faulted = omega (arith, faults_more was.taken added, was.faulted);
      so = λ k b h d stands.
          let led = was.so k b h d stands in
          let here = stands_after k old h d led.0 was.taken stands led.1 in
          let at : History = longer h (entries_taken was.taken) in
          let step = taken_grown image moment left_since old at request asked stamp seconds led.0 here new sure long old.next plans.reply entry (sym plans.entry_is) (grows at here.place here.doubt here.kept) (pairs at here.place here.doubt here.kept) in
          let its_moment : seconds ≡ (stamp_at_end at stamp).moment.0 = ap (λ (s : Stamp). s.moment.0) (later_at_end at old.last stamp here.kept.last) in
          let is : added.item ≡ item_at_end at request asked stamp plans.reply = λ i. item_with request asked stamp (its_moment i) (answered (here.kept.next i) plans.reply) in
          let has : IsSome plans.reply.entry = subst (λ (o : Option Entry). IsSome o) plans.entry_is refl in
          (None, steps_more k old new h d led.0 None was.taken added led.1 (record { step = step; answer = (is, plans.at_end at here.place here.doubt here.kept, has) }));
    }

    -- it met a disk fault
    abbrev failed : TakenItem
    failed = record { conn = stamp.conn; clock = stamp.moment.0; item = item_with request asked stamp stamp.moment.0 disk_fault }

    pub took_faulted : ((history : History) (place : ℕ) (doubt : Doubt) → IsKept image old history place doubt → IsLeftFaulted image new history place doubt entry) → TookChanges image moment left_since began list (faults + 1) new
    took_faulted stays = record {
      taken = was.taken ++ failed ∷ [];
      entries = entries_more was.taken failed [] refl ∙ (append-nil (entries_taken was.taken) ∙ was.entries);
      faulted = omega (arith, faults_more was.taken failed, was.faulted);
      so = λ k b h d stands.
          let led = was.so k b h d stands in
          let here = stands_after k old h d led.0 was.taken stands led.1 in
          let at : History = longer h (entries_taken was.taken) in
          let left = stays at here.place here.doubt here.kept in
          let step = taken_faulted image moment left_since old at request asked stamp stamp.moment.0 led.0 here new sure long entry (record { reply = plans.reply; is = plans.at_end at here.place here.doubt here.kept; has = sym plans.entry_is }) left (pairs at here.place here.doubt here.kept) in
          (entry_in_doubt left.left, steps_more k old new h d led.0 (entry_in_doubt left.left) was.taken failed led.1 (record { step = step; answer = tt }));
    }

  -- none was
  pub took_none : (began : KeeperState D → Type 0) (keeper : KeeperState D) → ((old : KeeperState D) → began old → keeper ≡ old) → TookChanges image moment left_since began [] 0 keeper
  took_none began keeper is = record { taken = []; entries = refl; faulted = refl; so = λ k b h d stands. (d, (is k b, refl)) }

  -- ---- moments
  later_both : (old : KeeperState D) (history : History) (doubt : Option Entry) (taken : List TakenItem) (new : KeeperState D) (doubt_new : Option Entry) → Steps old history doubt taken new doubt_new → IsSure image old.first old.second old.pair → IsLong image old.first old.second old.pair
      → (moment old.first ≤ moment new.first) × (moment old.second ≤ moment new.second)
  later_both old history doubt [] new doubt_new steps sure long = subst (λ (k : KeeperState D). (moment old.first ≤ moment k.first) × (moment old.second ≤ moment k.second)) (sym steps.0) (omega arith, omega arith)
  later_both old history doubt (one ∷ others) new doubt_new steps sure long =
      let step = steps.2.step in
      let leaves = step.leaves sure (λ _. long) in
      let rest = later_both steps.0 (longer history (entries_of one.item)) steps.1 others new doubt_new steps.3 (step.sure sure (λ _. long)) (step.long sure long) in
      (omega (arith, leaves.on_first.later, rest.0), omega (arith, leaves.on_second.later, rest.1))

  first_of : (old : KeeperState D) (history : History) (doubt : Option Entry) (taken : List TakenItem) (new : KeeperState D) (doubt_new : Option Entry) (steps : Steps old history doubt taken new doubt_new) → IsSure image old.first old.second old.pair → IsLong image old.first old.second old.pair
      → (t : ℕ) (c : List ℕ) → t ≤ moment old.first → left_since new.first t c → left_since old.first t c ⊎ IsOfChangeOnFirst image moment left_since old history doubt taken new doubt_new steps c
  first_of old history doubt [] new doubt_new steps sure long t c le left = inl (subst (λ (k : KeeperState D). left_since k.first t c) steps.0 left)
  first_of old history doubt (one ∷ others) new doubt_new steps sure long t c le left =
      let step = steps.2.step in
      let leaves = step.leaves sure (λ _. long) in
      ⊎_elim
      (λ before. ⊎_elim (λ was. inl was) (λ here. inr (inl here)) (leaves.on_first.before t c le before))
      (λ after. inr (inr after))
      (first_of steps.0 (longer history (entries_of one.item)) steps.1 others new doubt_new steps.3 (step.sure sure (λ _. long)) (step.long sure long) t c (omega (arith, le, leaves.on_first.later)) left)

  second_of : (old : KeeperState D) (history : History) (doubt : Option Entry) (taken : List TakenItem) (new : KeeperState D) (doubt_new : Option Entry) (steps : Steps old history doubt taken new doubt_new) → IsSure image old.first old.second old.pair → IsLong image old.first old.second old.pair
      → (t : ℕ) (d : List ℕ) → t ≤ moment old.second → left_since new.second t d → left_since old.second t d ⊎ IsOfChangeOnSecond image moment left_since old history doubt taken new doubt_new steps d
  second_of old history doubt [] new doubt_new steps sure long t d le left = inl (subst (λ (k : KeeperState D). left_since k.second t d) steps.0 left)
  second_of old history doubt (one ∷ others) new doubt_new steps sure long t d le left =
      let step = steps.2.step in
      let leaves = step.leaves sure (λ _. long) in
      ⊎_elim
      (λ before. ⊎_elim (λ was. inl was) (λ here. inr (inl here)) (leaves.on_second.before t d le before))
      (λ after. inr (inr after))
      (second_of steps.0 (longer history (entries_of one.item)) steps.1 others new doubt_new steps.3 (step.sure sure (λ _. long)) (step.long sure long) t d (omega (arith, le, leaves.on_second.later)) left)

  pub moments_of_changes : MomentsAreOfChanges image moment left_since
  moments_of_changes old history doubt taken new doubt_new steps sure long =
      let both = later_both old history doubt taken new doubt_new steps sure long in
      record {
        later_first = both.0;
        later_second = both.1;
        on_first = first_of old history doubt taken new doubt_new steps sure long;
        on_second = second_of old history doubt taken new doubt_new steps sure long;
      }
