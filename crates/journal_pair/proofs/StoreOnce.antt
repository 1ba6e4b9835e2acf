-- Two images are read in one way.
use Rattle.std.proofs.Common.{◌≡◌, ◌⊎◌, inl, inr, ⊎_elim, ℕ, ◌≤◌, List, refl, sym, ◌∙◌, subst, arith}
use Rattle.journal_log.specs.Classes.{HasClass}
use Rattle.journal_log.specs.Images.{Stands, IsDamaged}
use Rattle.journal_log.specs.declared.disk_class.DiskClass.{DiskClass}
use Rattle.journal_log.specs.declared.disk_class.DiskClass.TheVariants.{Empty, Short, Torn, Closed, Wrong, Open}
use Rattle.journal_log.specs.declared.fault.Side.{Side}
use Rattle.journal_log.specs.declared.fault.Side.TheVariants.{First, Second}
use Rattle.journal_log.proofs.Once.{stands_once_lem, damaged_once_lem, stands_or_damaged_lem}
use Rattle.journal_pair.specs.Sides.{active_of}
use Rattle.journal_pair.specs.Stores.{IsTaken, IsUnopened, HasWrongDisk, HasDamagedJournal, HasNoJournal, IsStoreDamaged, IsStoreEmpty}
use Rattle.journal_pair.specs.PairLaws.{StoreStandsOnce, StoreDamagedOnce, StoreStandsOrDamaged, StoreEmptyOnly}
use Rattle.journal_pair.proofs.Classing.{code, one_epoch, other_class}

pub taken_once : (side side_2 : Side) (epoch epoch_2 : ℕ) (c d : List ℕ) → IsTaken side epoch c d → IsTaken side_2 epoch_2 c d → (side ≡ side_2) × (epoch ≡ epoch_2)
taken_once First First epoch epoch_2 c d a b = (refl, one_epoch epoch epoch_2 c a.is_open b.is_open)
taken_once Second Second epoch epoch_2 c d a b = (refl, one_epoch epoch epoch_2 d a.is_open b.is_open)
taken_once First Second epoch epoch_2 c d a b = absurd (omega (arith, a.beside.older epoch_2 b.is_open, b.beside.older epoch a.is_open))
taken_once Second First epoch epoch_2 c d a b = absurd (omega (arith, a.beside.older epoch_2 b.is_open, b.beside.older epoch a.is_open))

-- no disk is wrong beside the one that is taken, or is it
taken_not_wrong : (side on : Side) (epoch : ℕ) (c d : List ℕ) → IsTaken side epoch c d → HasClass Wrong (active_of on c d) → ⊥
taken_not_wrong First First epoch c d taken wrong = other_class Wrong (Open epoch) c (λ is. omega (arith, is)) wrong taken.is_open
taken_not_wrong First Second epoch c d taken wrong = taken.beside.not_wrong wrong
taken_not_wrong Second First epoch c d taken wrong = taken.beside.not_wrong wrong
taken_not_wrong Second Second epoch c d taken wrong = other_class Wrong (Open epoch) d (λ is. omega (arith, is)) wrong taken.is_open

-- an unopened image is closed, short or torn, and damaged in one place
unopened_is : (at : ℕ) (image : List ℕ) (a : DiskClass) → (1 ≤ code a → code a ≤ 3 → ⊥) → IsUnopened at image → HasClass a image → ⊥
unopened_is at image a differs (inl (closed, place)) has = other_class Closed a image (λ is. differs (omega (arith, is)) (omega (arith, is))) closed has
unopened_is at image a differs (inr (either, place)) has = ⊎_elim
    (λ short. other_class Short a image (λ is. differs (omega (arith, is)) (omega (arith, is))) short has)
    (λ torn. other_class Torn a image (λ is. differs (omega (arith, is)) (omega (arith, is))) torn has) either

closed_only : (image : List ℕ) → HasClass Closed image → (HasClass Short image ⊎ HasClass Torn image) → ⊥
closed_only image closed either = ⊎_elim
    (λ short. other_class Closed Short image (λ is. omega (arith, is)) closed short)
    (λ torn. other_class Closed Torn image (λ is. omega (arith, is)) closed torn) either

unopened_once : (at at_2 : ℕ) (image : List ℕ) → IsUnopened at image → IsUnopened at_2 image → at ≡ at_2
unopened_once at at_2 image (inl (a, place)) (inl (b, place_2)) = place ∙ sym place_2
unopened_once at at_2 image (inl (a, place)) (inr (b, place_2)) = absurd (closed_only image a b)
unopened_once at at_2 image (inr (a, place)) (inl (b, place_2)) = absurd (closed_only image b a)
unopened_once at at_2 image (inr (a, place)) (inr (b, place_2)) = place ∙ sym place_2

-- where there is no journal no disk is wrong or open
none_not : (side on : Side) (at : ℕ) (c d : List ℕ) (a : DiskClass) → (1 ≤ code a → code a ≤ 3 → ⊥) → (code a ≡ 0 → ⊥) → (HasClass a d → (HasClass Wrong d) ⊎ ((epoch : ℕ) × HasClass (Open epoch) d))
    → HasNoJournal side at c d → HasClass a (active_of on c d) → ⊥
none_not First First at c d a differs full leads none has = unopened_is at c a differs none.unopened has
none_not First Second at c d a differs full leads none has = ⊎_elim none.beside.0 (λ (epoch, is_open). none.beside.1 epoch is_open) (leads has)
none_not Second First at c d a differs full leads none has = other_class a Empty c full has none.beside
none_not Second Second at c d a differs full leads none has = unopened_is at d a differs none.unopened has

none_not_wrong : (side on : Side) (at : ℕ) (c d : List ℕ) → HasNoJournal side at c d → HasClass Wrong (active_of on c d) → ⊥
none_not_wrong side on at c d none wrong = none_not side on at c d Wrong (λ _ most. omega (arith, most)) (λ is. omega (arith, is)) (λ has. inl has) none wrong

none_not_taken : (side on : Side) (at epoch : ℕ) (c d : List ℕ) → HasNoJournal side at c d → IsTaken on epoch c d → ⊥
none_not_taken side on at epoch c d none taken = none_not side on at c d (Open epoch) (λ _ most. omega (arith, most)) (λ is. omega (arith, is)) (λ has. inr (epoch, has)) none taken.is_open

none_once : (side side_2 : Side) (at at_2 : ℕ) (c d : List ℕ) → HasNoJournal side at c d → HasNoJournal side_2 at_2 c d → (side ≡ side_2) × (at ≡ at_2)
none_once First First at at_2 c d a b = (refl, unopened_once at at_2 c a.unopened b.unopened)
none_once Second Second at at_2 c d a b = (refl, unopened_once at at_2 d a.unopened b.unopened)
none_once First Second at at_2 c d a b = absurd (unopened_is at c Empty (λ least _. omega (arith, least)) a.unopened b.beside)
none_once Second First at at_2 c d a b = absurd (unopened_is at_2 c Empty (λ least _. omega (arith, least)) b.unopened a.beside)

wrong_once : (side side_2 : Side) (at at_2 : ℕ) (c d : List ℕ) → HasWrongDisk side at c d → HasWrongDisk side_2 at_2 c d → (side ≡ side_2) × (at ≡ at_2)
wrong_once First First at at_2 c d a b = (refl, a.place ∙ sym b.place)
wrong_once Second Second at at_2 c d a b = (refl, a.place ∙ sym b.place)
wrong_once First Second at at_2 c d a b = absurd (b.before refl a.wrong)
wrong_once Second First at at_2 c d a b = absurd (a.before refl b.wrong)

taken_damaged_once : (side side_2 : Side) (at at_2 : ℕ) (c d : List ℕ) → HasDamagedJournal side at c d → HasDamagedJournal side_2 at_2 c d → (side ≡ side_2) × (at ≡ at_2)
taken_damaged_once side side_2 at at_2 c d a b =
    let one = taken_once side side_2 a.epoch b.epoch c d a.taken b.taken in
    (one.0, damaged_once_lem at at_2 (active_of side_2 c d) (subst (λ (s : Side). IsDamaged at (active_of s c d)) one.0 a.damaged) b.damaged)

pub store_damaged_once_lem : StoreDamagedOnce
store_damaged_once_lem side side_2 at at_2 c d (inl a) (inl b) = wrong_once side side_2 at at_2 c d a b
store_damaged_once_lem side side_2 at at_2 c d (inl a) (inr (inl b)) = absurd (taken_not_wrong side_2 side b.epoch c d b.taken a.wrong)
store_damaged_once_lem side side_2 at at_2 c d (inl a) (inr (inr b)) = absurd (none_not_wrong side_2 side at_2 c d b a.wrong)
store_damaged_once_lem side side_2 at at_2 c d (inr (inl a)) (inl b) = absurd (taken_not_wrong side side_2 a.epoch c d a.taken b.wrong)
store_damaged_once_lem side side_2 at at_2 c d (inr (inl a)) (inr (inl b)) = taken_damaged_once side side_2 at at_2 c d a b
store_damaged_once_lem side side_2 at at_2 c d (inr (inl a)) (inr (inr b)) = absurd (none_not_taken side_2 side at_2 a.epoch c d b a.taken)
store_damaged_once_lem side side_2 at at_2 c d (inr (inr a)) (inl b) = absurd (none_not_wrong side side_2 at c d a b.wrong)
store_damaged_once_lem side side_2 at at_2 c d (inr (inr a)) (inr (inl b)) = absurd (none_not_taken side side_2 at b.epoch c d a b.taken)
store_damaged_once_lem side side_2 at at_2 c d (inr (inr a)) (inr (inr b)) = none_once side side_2 at at_2 c d a b

pub store_stands_once_lem : StoreStandsOnce
store_stands_once_lem side side_2 format format_2 epoch epoch_2 ones twos c d a b =
    let one = taken_once side side_2 epoch epoch_2 c d a.taken b.taken in
    let lists = stands_once_lem format format_2 epoch epoch_2 ones twos (active_of side_2 c d) (subst (λ (s : Side). Stands format epoch ones (active_of s c d)) one.0 a.stands) b.stands in
    (one.0, lists.0, lists.1, lists.2)

pub store_stands_or_damaged_lem : StoreStandsOrDamaged
store_stands_or_damaged_lem side on format epoch at bodies c d stands (inl wrong) = taken_not_wrong side on epoch c d stands.taken wrong.wrong
store_stands_or_damaged_lem side on format epoch at bodies c d stands (inr (inl damaged)) =
    let one = taken_once side on epoch damaged.epoch c d stands.taken damaged.taken in
    stands_or_damaged_lem format epoch at bodies (active_of on c d) (subst (λ (s : Side). Stands format epoch bodies (active_of s c d)) one.0 stands.stands) damaged.damaged
store_stands_or_damaged_lem side on format epoch at bodies c d stands (inr (inr none)) = none_not_taken on side at epoch c d none stands.taken

-- an empty disk is neither taken nor damaged
empty_is : (side : Side) (c d : List ℕ) → IsStoreEmpty c d → HasClass Empty (active_of side c d)
empty_is First c d (one, other) = one
empty_is Second c d (one, other) = other

empty_not_taken : (side : Side) (epoch : ℕ) (c d : List ℕ) → IsStoreEmpty c d → IsTaken side epoch c d → ⊥
empty_not_taken side epoch c d none taken = other_class Empty (Open epoch) (active_of side c d) (λ is. omega (arith, is)) (empty_is side c d none) taken.is_open

empty_not_damaged : (side : Side) (at : ℕ) (c d : List ℕ) → IsStoreEmpty c d → IsStoreDamaged side at c d → ⊥
empty_not_damaged side at c d none (inl wrong) = other_class Empty Wrong (active_of side c d) (λ is. omega (arith, is)) (empty_is side c d none) wrong.wrong
empty_not_damaged side at c d none (inr (inl damaged)) = empty_not_taken side damaged.epoch c d none damaged.taken
empty_not_damaged side at c d none (inr (inr unopened)) = unopened_is at (active_of side c d) Empty (λ least _. omega (arith, least)) unopened.unopened (empty_is side c d none)

pub store_empty_only_lem : StoreEmptyOnly
store_empty_only_lem side format epoch at bodies c d none = (
  λ stands. empty_not_taken side epoch c d none stands.taken,
  λ damaged. empty_not_damaged side at c d none damaged,
)
