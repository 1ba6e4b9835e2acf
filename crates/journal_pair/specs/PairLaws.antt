-- That two images are read in one way.
use Rattle.std.specs.Prelude.{◌≡◌, ℕ, List}
use Rattle.journal_log.specs.declared.fault.Side.{Side}
use Rattle.journal_pair.specs.Stores.{StoreStands, IsStoreEmpty, IsStoreDamaged}

-- a store stands for one list of records at most, of one side, format and epoch
abbrev pub StoreStandsOnce : Type 0
StoreStandsOnce = (side side_2 : Side) (format format_2 epoch epoch_2 : ℕ)
    (ones twos : List (List ℕ)) (first second : List ℕ)
    → StoreStands side format epoch ones first second
    → StoreStands side_2 format_2 epoch_2 twos first second
    → (side ≡ side_2) × (format ≡ format_2) × (epoch ≡ epoch_2) × (ones ≡ twos)

-- it is damaged at one place at most
abbrev pub StoreDamagedOnce : Type 0
StoreDamagedOnce = (side side_2 : Side) (at at_2 : ℕ) (first second : List ℕ)
    → IsStoreDamaged side at first second → IsStoreDamaged side_2 at_2 first second
    → (side ≡ side_2) × (at ≡ at_2)

-- one that stands for records isn't damaged
abbrev pub StoreStandsOrDamaged : Type 0
StoreStandsOrDamaged = (side on : Side) (format epoch at : ℕ) (bodies : List (List ℕ))
    (first second : List ℕ) → StoreStands side format epoch bodies first second
    → IsStoreDamaged on at first second → ⊥

-- and an empty one does neither
abbrev pub StoreEmptyOnly : Type 0
StoreEmptyOnly = (side : Side) (format epoch at : ℕ) (bodies : List (List ℕ))
    (first second : List ℕ) → IsStoreEmpty first second
    → (StoreStands side format epoch bodies first second → ⊥)
    × (IsStoreDamaged side at first second → ⊥)
