-- What a crash leaves of a keeper's disks.
use Rattle.std.specs.Prelude.{◌≡◌, ◌⊎◌, ℕ, List, [], ◌∷◌, Contains}
use Rattle.journal_log.specs.Opening.{IsNormalizing}
use Rattle.journal_log.specs.declared.fault.Side.{Side}
use Rattle.journal_pair.specs.Stores.{StoreStands}
use Rattle.pod_command.specs.declared.entry.Entry.{Entry}
use Rattle.pod_core.specs.History.{History, longer}
use Rattle.pod_keeper.specs.Stored.{IsStored}

-- The two disks represent the history: the journal that is taken holds it from some place on.
pub record StandsFor (history : History) (first second : List ℕ) : Type 0 where
  pub side : Side
  pub format : ℕ
  pub epoch : ℕ
  pub bodies : List (List ℕ)
  pub place : ℕ
  pub stands : StoreStands side format epoch bodies first second
  pub stored : IsStored history format place bodies

-- they represent the history with this entry after its end
abbrev pub StandsForMore : History → Entry → List ℕ → List ℕ → Type 0
StandsForMore history entry = StandsFor (longer history (entry ∷ []))

-- they represent the history, or it with one of these entries after its end
abbrev pub StandsForOneOf : History → List Entry → List ℕ → List ℕ → Type 0
StandsForOneOf history entries first second = StandsFor history first second
    ⊎ ((entry : Entry) × Contains entries entry × StandsForMore history entry first second)

-- These images have P, and so they have while a torn last gate of one of them is written.
pub record ThoughMended (P : List ℕ → List ℕ → Type 0) (first second : List ℕ) : Type 0 where
  pub now : P first second
  pub mended_first : (c : List ℕ) → IsNormalizing (λ image. image ≡ first) c → P c second
  pub mended_second : (d : List ℕ) → IsNormalizing (λ image. image ≡ second) d → P first d
