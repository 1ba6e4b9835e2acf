-- From the classes of two disks to what their images are.
use Rattle.std.proofs.Common.{◌≡◌, inl, inr, ⊎_elim, ℕ, List, ap, subst}
use Rattle.journal_log.specs.Classes.{HasClass}
use Rattle.journal_log.specs.declared.disk_class.DiskClass.{DiskClass}
use Rattle.journal_log.specs.declared.disk_class.DiskClass.TheVariants.{Empty, Short, Torn, Closed, Wrong, Open}
use Rattle.journal_log.specs.declared.fault.Side.{Side}
use Rattle.journal_log.specs.declared.fault.Side.TheVariants.{First, Second}
use Rattle.journal_log.proofs.Classifying.{one_class_lem}
use Rattle.journal_pair.specs.Sides.{active_of, other_of}
use Rattle.journal_pair.specs.Stores.{IsPassedOver, IsTaken, IsUnopened, IsBesideUnopened, IsStoreDamaged, IsStoreEmpty}
use Rattle.journal_pair.specs.Choices.{IsPassedClass, IsUnopenedClass, IsBesideClass, IsChosen}
use Rattle.journal_pair.specs.declared.disk_choice.Choice.TheVariants as choice

-- a number for each class
abbrev pub code : DiskClass → ℕ
code Empty = 0
code Short = 1
code Torn = 2
code Closed = 3
code Wrong = 4
code (Open epoch) = 5

abbrev pub epoch_of : DiskClass → ℕ
epoch_of (Open epoch) = epoch
epoch_of other = 0

-- an image has one epoch where it is open
pub one_epoch : (d e : ℕ) (image : List ℕ) → HasClass (Open d) image → HasClass (Open e) image → d ≡ e
one_epoch d e image a b = ap epoch_of (one_class_lem (Open d) (Open e) image a b)

-- and isn't of two classes of other numbers
pub other_class : (a b : DiskClass) (image : List ℕ) → (code a ≡ code b → ⊥) → HasClass a image → HasClass b image → ⊥
other_class a b image differ has has_2 = differ (ap code (one_class_lem a b image has has_2))

pub has_active : (side : Side) (a b : DiskClass) (c d : List ℕ) → HasClass a c → HasClass b d → HasClass (active_of side a b) (active_of side c d)
has_active First a b c d one other = one
has_active Second a b c d one other = other

pub has_other : (side : Side) (a b : DiskClass) (c d : List ℕ) → HasClass a c → HasClass b d → HasClass (other_of side a b) (other_of side c d)
has_other First a b c d one other = other
has_other Second a b c d one other = one

pub passed_of : (side : Side) (epoch : ℕ) (a : DiskClass) (image : List ℕ) → IsPassedClass side epoch a → HasClass a image → IsPassedOver side epoch image
passed_of side epoch a image passed has = record {
  not_wrong = λ wrong. passed.not_wrong (one_class_lem a Wrong image has wrong);
  older = λ beside is_open. passed.older beside (one_class_lem a (Open beside) image has is_open);
}

unopened_of : (at : ℕ) (a : DiskClass) (image : List ℕ) → IsUnopenedClass at a → HasClass a image → IsUnopened at image
unopened_of at a image (inl (is, place)) has = inl (subst (λ (k : DiskClass). HasClass k image) is has, place)
unopened_of at a image (inr (either, place)) has =
    inr (⊎_elim (λ is. inl (subst (λ (k : DiskClass). HasClass k image) is has)) (λ is. inr (subst (λ (k : DiskClass). HasClass k image) is has)) either, place)

beside_of : (side : Side) (a : DiskClass) (image : List ℕ) → IsBesideClass side a → HasClass a image → IsBesideUnopened side image
beside_of First a image is has = (λ wrong. is.0 (one_class_lem a Wrong image has wrong), λ epoch is_open. is.1 epoch (one_class_lem a (Open epoch) image has is_open))
beside_of Second a image is has = subst (λ (k : DiskClass). HasClass k image) is has

module _ (side : Side) (a b : DiskClass) (c d : List ℕ) (one : HasClass a c) (other : HasClass b d) where
  pub taken_of : (epoch : ℕ) → IsChosen (choice.Take side epoch) a b → IsTaken side epoch c d
  taken_of epoch chosen = record {
    is_open = subst (λ (k : DiskClass). HasClass k (active_of side c d)) chosen.0 (has_active side a b c d one other);
    beside = passed_of side epoch (other_of side a b) (other_of side c d) chosen.1 (has_other side a b c d one other);
  }

  pub damaged_of : (at : ℕ) → IsChosen (choice.Damaged side at) a b → IsStoreDamaged side at c d
  damaged_of at (inl wrong) = inl (record {
    wrong = subst (λ (k : DiskClass). HasClass k (active_of side c d)) wrong.0 (has_active side a b c d one other);
    before = λ second is. wrong.1 second (one_class_lem a Wrong c one is);
    place = wrong.2;
  })
  damaged_of at (inr (unopened, beside)) = inr (inr (record {
    unopened = unopened_of at (active_of side a b) (active_of side c d) unopened (has_active side a b c d one other);
    beside = beside_of side (other_of side a b) (other_of side c d) beside (has_other side a b c d one other);
  }))

pub empty_of : (a b : DiskClass) (c d : List ℕ) → HasClass a c → HasClass b d → IsChosen choice.Empty a b → IsStoreEmpty c d
empty_of a b c d one other chosen = (
  subst (λ (k : DiskClass). HasClass k c) chosen.0 one,
  subst (λ (k : DiskClass). HasClass k d) chosen.1 other,
)
