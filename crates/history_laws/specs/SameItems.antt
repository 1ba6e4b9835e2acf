-- Items that make the same requests, with the same agents and at the same moments, are the same where
-- nothing failed.
use Rattle.std.specs.Prelude.{◌≡◌, ℕ, List, [], ◌∷◌}
use Rattle.std.specs.List.{AllByRecursion, flat_map}
use Rattle.pod_core.specs.History.{History, end_of, longer}
use Rattle.pod_core.specs.Session.{IsItem, Item, NeverFalls, Outcome, answered, disk_fault}
use Rattle.pod_core.specs.Session.{entries_of, no_memory, places_of}

-- the same request, with the same number and agent, at the same moment
pub record AsksSame (item other : Item) : Type 0 where
  pub request : item.request ≡ other.request
  pub number : item.number ≡ other.number
  pub asked : item.asked ≡ other.asked
  pub moment : item.moment ≡ other.moment

abbrev pub AskSame : List Item → List Item → Type 0
AskSame [] [] = Unit {0}
AskSame (item ∷ items) (other ∷ others) = AsksSame item other × AskSame items others
AskSame _ _ = ⊥

-- the item was answered: it ended in no 500 and in no 503
abbrev pub EndsAnswered : Outcome → Type 0
EndsAnswered (answered place reply) = Unit {0}
EndsAnswered no_memory = ⊥
EndsAnswered disk_fault = ⊥

abbrev pub AreAnswered : List Item → Type 0
AreAnswered items = AllByRecursion (λ (item : Item). EndsAnswered item.outcome) items

-- The items are ones of the history with their entries, from its end on. Each was answered.
pub record AreItemsAfter (may_give : ℕ → Type 0) (conn : ℕ) (begun : History) (items : List Item)
    : Type 0 where
  pub answers : AllByRecursion
      (IsItem may_give conn (longer begun (flat_map entries_of items))) items
  pub places : NeverFalls (end_of begun) (flat_map places_of items)
      (end_of (longer begun (flat_map entries_of items)))
  pub answered : AreAnswered items

-- Items after one history that ask the same are the same, with the same places and replies.
abbrev pub SameItems : (ℕ → Type 0) → Type 0
SameItems may_give = (conn : ℕ) (begun : History) (items others : List Item)
    → AreItemsAfter may_give conn begun items → AreItemsAfter may_give conn begun others
    → AskSame items others → items ≡ others
