-- What contracts see of a looker.
use Rattle.std.specs.Prelude.{ℕ, ◌≡◌, ◌≤◌, ◌+◌, ◌-◌, ◌^◌, List, Result, Ok, Err, min}
use Rattle.atomic_table.specs.Seated.{TableId}
use Rattle.published_view.specs.declared.fault.ViewFault.{ViewFault}
use Rattle.published_view.specs.declared.fault.ViewFault.TheVariants.{NoMemory, NoPlace}

-- what it has seen of the list, what it was told of it, how many looks it made, how many were
-- refused, the list that was published when it entered last, and the table through which it reads
pub record LookerState (I : Type 0) : Type 0 where
  pub seen : List I
  pub told : List I
  pub looks : ℕ
  pub refused : ℕ
  pub given : List I
  pub table : TableId

-- a looker that has seen the opening list and made no look
abbrev pub IsNewLooker : {I : Type 0} → List I → LookerState I → Type 0
IsNewLooker opening l = (l.seen ≡ opening) × (l.told ≡ opening) × (l.looks ≡ 0) × (l.refused ≡ 0)

-- one look was made, and none was refused
abbrev pub IsOneLook : {I : Type 0} → LookerState I → LookerState I → Type 0
IsOneLook old new = (new.looks ≡ old.looks + 1) × (new.refused ≡ old.refused)

-- a count of 64 bits increased by one, or keeps its last value; it never falls
abbrev pub CountIncreasedByOne : ℕ → ℕ → Type 0
CountIncreasedByOne old new = (old ≤ new) × (new ≡ min (old + 1) (2 ^ 64 - 1))

-- a look was refused, and nothing else changed
pub record IsRefusedLook {I : Type 0} (old new : LookerState I) : Type 0 where
  pub refused : CountIncreasedByOne old.refused new.refused
  pub seen : new.seen ≡ old.seen
  pub told : new.told ≡ old.told
  pub looks : new.looks ≡ old.looks
  pub given : new.given ≡ old.given

module _ {X : Type 0} where
  -- a fact for the answer `NoPlace`
  abbrev pub OnNoPlace : Result X ViewFault → Type 0 → Type 0
  OnNoPlace (Ok x) P = Unit {0}
  OnNoPlace (Err NoMemory) P = Unit {0}
  OnNoPlace (Err NoPlace) P = P

  -- a fact for every other answer
  abbrev pub NotNoPlace : Result X ViewFault → Type 0 → Type 0
  NotNoPlace (Ok x) P = P
  NotNoPlace (Err NoMemory) P = P
  NotNoPlace (Err NoPlace) P = Unit {0}
