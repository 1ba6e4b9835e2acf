-- What two images stand for, by what each of them is.
use Rattle.std.proofs.Common.{inl, inr, ◌+◌, ℕ, List, [], ◌∷◌, ◌++◌, subst, arith}
use Rattle.journal_log.specs.Classes.{HasClass}
use Rattle.journal_log.specs.Images.{Stands}
use Rattle.journal_log.specs.declared.disk_class.DiskClass.TheVariants.{Open}
use Rattle.journal_log.specs.declared.fault.Side.{Side}
use Rattle.journal_pair.specs.PairJournal.{HasSnapshot}
use Rattle.journal_pair.specs.Sides.{active_of, other_of, opposite_of}
use Rattle.journal_pair.specs.Stores.{IsPassedOver}
use Rattle.journal_pair.proofs.Beside.{open_passed, snapshot_open, snapshot_stays, opposite_active, opposite_other, store_stands}
use Rattle.journal_pair.specs.Writes.{IsActiveImage, IsOtherImage, StandsForWritten}

module _ (side : Side) (format epoch len : ℕ) (bodies tails : List (List ℕ)) (news : List (List (List ℕ))) (has : HasSnapshot len bodies) (c d : List ℕ) where
  active_open : IsActiveImage format epoch bodies tails (active_of side c d) → HasClass (Open epoch) (active_of side c d)
  active_open (inl stands) = snapshot_open len format epoch bodies (active_of side c d) has stands
  active_open (inr (tail, is, stands)) = snapshot_open len format epoch (bodies ++ tail ∷ []) (active_of side c d) (snapshot_stays len bodies tail has) stands

  pub written_pair : IsActiveImage format epoch bodies tails (active_of side c d) → IsOtherImage side epoch news (other_of side c d) → StandsForWritten side format epoch bodies tails news c d
  written_pair (inl stands) (inl passed) = inl (store_stands side format epoch len bodies has c d stands passed)
  written_pair (inr (tail, is, stands)) (inl passed) = inr (inl (tail, is, store_stands side format epoch len (bodies ++ tail ∷ []) (snapshot_stays len bodies tail has) c d stands passed))
  written_pair active (inr (new, is, is_open, stands)) = inr (inr (
    new,
    is,
    record {
      taken = record {
        is_open = subst (HasClass (Open (epoch + 1))) (opposite_active side c d) is_open;
        beside = subst (IsPassedOver (opposite_of side) (epoch + 1)) (opposite_other side c d)
            (open_passed (opposite_of side) (epoch + 1) epoch (active_of side c d) (omega arith) (active_open active));
      };
      stands = subst (Stands 2 (epoch + 1) new) (opposite_active side c d) stands;
    },
  ))
