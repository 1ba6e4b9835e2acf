-- How far a follower comes by entries that may be lost, repeated, or come in any order.
use Rattle.std.specs.Prelude.{◌≡◌, ◌⊎◌, ◌≤◌, ◌+◌, ℕ, zero, suc, List, [], ◌∷◌, map, Contains}
use Rattle.pod_command.specs.declared.entry.Entry.{Entry}
use Rattle.pod_core.specs.History.{History, IsHistory, IsPlace, pod_at}
use Rattle.pod_rows.specs.State.{NumberedPod}
use Rattle.pod_follow.specs.Followed.{IsEntryText, Takes}
use Rattle.pod_follow.specs.declared.follower.Took.{Took}

-- so many numbers, from one on
abbrev pub run : ℕ → ℕ → List ℕ
run from zero = []
run from (suc count) = from ∷ run (from + 1) count

-- The first list is what is left of the second one where some of its numbers are left out.
abbrev pub IsSubsequence : List ℕ → List ℕ → Type 0
IsSubsequence [] numbers = Unit {0}
IsSubsequence (x ∷ xs) [] = ⊥
IsSubsequence (x ∷ xs) (y ∷ ys) = ((x ≡ y) × IsSubsequence xs ys) ⊎ IsSubsequence (x ∷ xs) ys

-- The place to which entries with these numbers take a follower that began at `start`: the greatest
-- one such that all numbers from `start` to before it come among them, in their order.
pub record IsFollowedPrefix (start : ℕ) (numbers : List ℕ) (place : ℕ) : Type 0 where
  pub count : ℕ
  pub is : place ≡ start + count
  pub among : IsSubsequence (run start count) numbers
  pub greatest : (more : ℕ) → IsSubsequence (run start more) numbers → more ≤ count

-- A follower took these bytes, one after the other.
abbrev pub TakesAll : NumberedPod → List (List ℕ) → NumberedPod → Type 0
TakesAll old [] new = new ≡ old
TakesAll old (text ∷ texts) new =
    (mid : NumberedPod) × (took : Took) × Takes old text mid took × TakesAll mid texts new

-- The bytes are the texts of these entries, each of them one of the history.
abbrev pub AreSent : History → List (List ℕ) → List Entry → Type 0
AreSent history [] [] = Unit {0}
AreSent history (text ∷ texts) (entry ∷ entries) =
    IsEntryText text entry × Contains history.entries entry × AreSent history texts entries
AreSent history _ _ = ⊥

-- The state of a history at a place.
abbrev pub state_at : History → ℕ → NumberedPod
state_at history place = record { pod = pod_at history place; next = place }

-- What a follower is after it began at a place of a history and took entries of the history,
-- whatever was lost, repeated, or came late: the pod of a place of the history, and of which.
abbrev pub FollowsPrefix : Type 0
FollowsPrefix = (history : History) (start : ℕ) (texts : List (List ℕ)) (entries : List Entry)
    (new : NumberedPod) → IsHistory history → IsPlace history start
    → AreSent history texts entries → TakesAll (state_at history start) texts new
    → (place : ℕ) × IsFollowedPrefix start (map (λ (entry : Entry). entry.seq) entries) place
    × IsPlace history place × (new ≡ state_at history place)
