-- From what each of two disks leaves to what they leave together.
use Rattle.std.proofs.Common.{ℕ, List}
use Rattle.pod_disk.specs.Disk.{LeavesOnly}
use Rattle.pod_disk.proofs.Moments.{no_call, weaker}
use Rattle.journal_log.specs.declared.fault.Side.{Side}
use Rattle.journal_log.specs.declared.fault.Side.TheVariants.{First, Second}
use Rattle.journal_pair.specs.PairMoments.{EachPair, LeavesPairs}
use Rattle.journal_pair.specs.Sides.{active_of, other_of}
use Rattle.journal_pair.specs.Together.{LeavesTogether}

module _ {D : Type 0} (image : D → List ℕ → Type 0) (moment : D → ℕ) (left_since : D → ℕ → List ℕ → Type 0) where
  -- from what each leaves by itself
  pub together_of : (side : Side) (first second first_new second_new : D) (P Q : List ℕ → Type 0) (R : List ℕ → List ℕ → Type 0)
      → ((c d : List ℕ) → P (active_of side c d) → Q (other_of side c d) → R c d)
      → LeavesOnly moment left_since (active_of side first second) (active_of side first_new second_new) P
      → LeavesOnly moment left_since (other_of side first second) (other_of side first_new second_new) Q
      → LeavesTogether moment left_since first second first_new second_new R
  together_of First first second first_new second_new P Q R leads one other = record {
    on_first = weaker image moment left_since first first_new P _ (λ c has d left. leads c d has (other.each d left)) one;
    on_second = weaker image moment left_since second second_new Q _ (λ d has c left. leads c d (one.each c left) has) other;
  }
  together_of Second first second first_new second_new P Q R leads one other = record {
    on_first = weaker image moment left_since first first_new Q _ (λ c has d left. leads c d (one.each d left) has) other;
    on_second = weaker image moment left_since second second_new P _ (λ d has c left. leads c d has (other.each c left)) one;
  }

  -- of a weaker property
  pub together_weaker : (first second first_new second_new : D) (P Q : List ℕ → List ℕ → Type 0) → ((c d : List ℕ) → P c d → Q c d)
      → LeavesTogether moment left_since first second first_new second_new P → LeavesTogether moment left_since first second first_new second_new Q
  together_weaker first second first_new second_new P Q leads run = record {
    on_first = weaker image moment left_since first first_new _ _ (λ c has d left. leads c d (has d left)) run.on_first;
    on_second = weaker image moment left_since second second_new _ _ (λ d has c left. leads c d (has c left)) run.on_second;
  }

  -- the pairs
  pub together_pairs : (first second first_new second_new : D) (P : List ℕ → List ℕ → Type 0)
      → LeavesTogether moment left_since first second first_new second_new P → LeavesPairs moment left_since first second first_new second_new P
  together_pairs first second first_new second_new P run c d left left_2 = run.on_first.each c left d left_2

  -- a run of no call
  pub together_still : ((d : D) (c : List ℕ) → left_since d (moment d) c → image d c) → (first second : D) (P : List ℕ → List ℕ → Type 0)
      → EachPair (image first) (image second) P → LeavesTogether moment left_since first second first second P
  together_still only_now first second P each = record {
    on_first = no_call image moment left_since first _ (only_now first) (λ c now d left. each c d now (only_now second d left));
    on_second = no_call image moment left_since second _ (only_now second) (λ d now c left. each c d (only_now first c left) now);
  }
