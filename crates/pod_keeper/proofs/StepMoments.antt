-- Each moment of a run of a keeper is one of a step.
use Rattle.std.proofs.Common.{◌⊎◌, inl, inr, ⊎_elim, ◌≤◌, ℕ, List, [], ◌∷◌, Option, refl, sym, subst, arith}
use Rattle.journal_pair.specs.Doubts.{IsSure, IsLong}
use Rattle.pod_command.specs.declared.entry.Entry.{Entry}
use Rattle.pod_core.specs.History.{History, longer}
use Rattle.pod_core.specs.Session.{entries_of}
use Rattle.pod_keeper.specs.KeeperRuns.{ConnItem, TakesItems}
use Rattle.pod_keeper.specs.KeeperState.{KeeperState}
use Rattle.pod_keeper.specs.RunMoments.{AreOfSteps, IsOfStepOnFirst, IsOfStepOnSecond, MomentsAreOfSteps}

module _ {D : Type 0} (image : D → List ℕ → Type 0) (moment : D → ℕ) (left_since : D → ℕ → List ℕ → Type 0) (may_give : ℕ → Type 0) where
  abbrev Steps : KeeperState D → History → Option Entry → List ConnItem → KeeperState D → Option Entry → Type 0
  Steps = TakesItems image moment left_since may_give

  later : (old : KeeperState D) (history : History) (doubt : Option Entry) (items : List ConnItem) (new : KeeperState D) (doubt_new : Option Entry) → Steps old history doubt items new doubt_new → IsSure image old.first old.second old.pair → IsLong image old.first old.second old.pair
      → (moment old.first ≤ moment new.first) × (moment old.second ≤ moment new.second)
  later old history doubt [] new doubt_new steps sure long = subst (λ (k : KeeperState D). (moment old.first ≤ moment k.first) × (moment old.second ≤ moment k.second)) (sym steps.0) (omega arith, omega arith)
  later old history doubt (one ∷ others) new doubt_new steps sure long =
      let step = steps.2.2 in
      let leaves = step.leaves sure (λ _. long) in
      let rest = later steps.0 (longer history (entries_of one.item)) steps.1 others new doubt_new steps.3 (step.sure sure (λ _. long)) (step.long sure long) in
      (omega (arith, leaves.on_first.later, rest.0), omega (arith, leaves.on_second.later, rest.1))

  first_of : (old : KeeperState D) (history : History) (doubt : Option Entry) (items : List ConnItem) (new : KeeperState D) (doubt_new : Option Entry) (steps : Steps old history doubt items new doubt_new) → IsSure image old.first old.second old.pair → IsLong image old.first old.second old.pair
      → (t : ℕ) (c : List ℕ) → t ≤ moment old.first → left_since new.first t c → left_since old.first t c ⊎ IsOfStepOnFirst image moment left_since may_give old history doubt items new doubt_new steps c
  first_of old history doubt [] new doubt_new steps sure long t c le left = inl (subst (λ (k : KeeperState D). left_since k.first t c) steps.0 left)
  first_of old history doubt (one ∷ others) new doubt_new steps sure long t c le left =
      let step = steps.2.2 in
      let leaves = step.leaves sure (λ _. long) in
      ⊎_elim
      (λ before. ⊎_elim (λ was. inl was) (λ here. inr (inl here)) (leaves.on_first.before t c le before))
      (λ after. inr (inr after))
      (first_of steps.0 (longer history (entries_of one.item)) steps.1 others new doubt_new steps.3 (step.sure sure (λ _. long)) (step.long sure long) t c (omega (arith, le, leaves.on_first.later)) left)

  second_of : (old : KeeperState D) (history : History) (doubt : Option Entry) (items : List ConnItem) (new : KeeperState D) (doubt_new : Option Entry) (steps : Steps old history doubt items new doubt_new) → IsSure image old.first old.second old.pair → IsLong image old.first old.second old.pair
      → (t : ℕ) (d : List ℕ) → t ≤ moment old.second → left_since new.second t d → left_since old.second t d ⊎ IsOfStepOnSecond image moment left_since may_give old history doubt items new doubt_new steps d
  second_of old history doubt [] new doubt_new steps sure long t d le left = inl (subst (λ (k : KeeperState D). left_since k.second t d) steps.0 left)
  second_of old history doubt (one ∷ others) new doubt_new steps sure long t d le left =
      let step = steps.2.2 in
      let leaves = step.leaves sure (λ _. long) in
      ⊎_elim
      (λ before. ⊎_elim (λ was. inl was) (λ here. inr (inl here)) (leaves.on_second.before t d le before))
      (λ after. inr (inr after))
      (second_of steps.0 (longer history (entries_of one.item)) steps.1 others new doubt_new steps.3 (step.sure sure (λ _. long)) (step.long sure long) t d (omega (arith, le, leaves.on_second.later)) left)

  pub moments_of_steps : MomentsAreOfSteps image moment left_since may_give
  moments_of_steps old history doubt items new doubt_new steps sure long =
      let later_both = later old history doubt items new doubt_new steps sure long in
      record {
        later_first = later_both.0;
        later_second = later_both.1;
        on_first = first_of old history doubt items new doubt_new steps sure long;
        on_second = second_of old history doubt items new doubt_new steps sure long;
      }
