-- From what each of two disks leaves to what they leave together.
use Rattle.std.proofs.Common.{◌≡◌, ℕ, List, sym, subst}
use Rattle.pod_disk.specs.Disk.{EachImage, LeavesOnly}
use Rattle.pod_disk.proofs.Moments.{no_call}
use Rattle.journal_log.specs.declared.fault.Side.{Side}
use Rattle.journal_log.specs.declared.fault.Side.TheVariants.{First, Second}
use Rattle.journal_pair.specs.Sides.{active_of, other_of}
use Rattle.journal_pair.specs.PairMoments.{LeavesPairs, EachPair}

module _ {D : Type 0} (image : D → List ℕ → Type 0) (moment : D → ℕ) (left_since : D → ℕ → List ℕ → Type 0) where
  -- a disk that no call touched leaves what it left before
  pub kept_run : (old new : D) (P : List ℕ → Type 0) → ((c : List ℕ) → left_since old (moment old) c → image old c) → new ≡ old → EachImage (image old) P → LeavesOnly moment left_since old new P
  kept_run old new P only_now same was =
      subst (λ (n : D). LeavesOnly moment left_since old n P) (sym same) (no_call image moment left_since old P only_now was)

  -- what the two leave at each moment
  pub pairs_of : (side : Side) (first second first_new second_new : D) (P Q : List ℕ → Type 0) (R : List ℕ → List ℕ → Type 0)
      → ((c d : List ℕ) → P (active_of side c d) → Q (other_of side c d) → R c d)
      → LeavesOnly moment left_since (active_of side first second) (active_of side first_new second_new) P
      → LeavesOnly moment left_since (other_of side first second) (other_of side first_new second_new) Q
      → LeavesPairs moment left_since first second first_new second_new R
  pairs_of First first second first_new second_new P Q R leads one other c d left left_2 = leads c d (one.each c left) (other.each d left_2)
  pairs_of Second first second first_new second_new P Q R leads one other c d left left_2 = leads c d (one.each d left_2) (other.each c left)

  -- and now
  pub each_pair : (side : Side) (first second : D) (P Q : List ℕ → Type 0) (R : List ℕ → List ℕ → Type 0)
      → ((c d : List ℕ) → P (active_of side c d) → Q (other_of side c d) → R c d)
      → EachImage (image (active_of side first second)) P → EachImage (image (other_of side first second)) Q
      → EachPair (image first) (image second) R
  each_pair First first second P Q R leads one other c d now now_2 = leads c d (one c now) (other d now_2)
  each_pair Second first second P Q R leads one other c d now now_2 = leads c d (one d now_2) (other c now)
