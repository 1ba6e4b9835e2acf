-- That an image is read in one way.
use Rattle.std.specs.Prelude.{◌≡◌, ◌⊎◌, ◌<◌, ◌≤◌, ◌^◌, ℕ, List, [], ◌∷◌, length}
use Rattle.journal_log.specs.Classes.{HasClass}
use Rattle.journal_log.specs.Opening.{IsWhileOpened}
use Rattle.journal_log.specs.Renewing.{IsNewJournal}
use Rattle.journal_log.specs.declared.disk_class.DiskClass.{DiskClass}
use Rattle.journal_log.specs.declared.disk_class.DiskClass.TheVariants.{Closed, Open}
use Rattle.journal_log.specs.Images.{Stands, IsDamaged}

-- an image stands for one list of records at most, of one format and epoch
abbrev pub StandsOnce : Type 0
StandsOnce = (format format_2 epoch epoch_2 : ℕ) (ones twos : List (List ℕ)) (image : List ℕ)
    → Stands format epoch ones image → Stands format_2 epoch_2 twos image
    → (format ≡ format_2) × (epoch ≡ epoch_2) × (ones ≡ twos)

-- it is damaged at one place at most
abbrev pub DamagedOnce : Type 0
DamagedOnce = (at at_2 : ℕ) (image : List ℕ) → IsDamaged at image → IsDamaged at_2 image → at ≡ at_2

-- and one that stands for records isn't damaged
abbrev pub StandsOrDamaged : Type 0
StandsOrDamaged = (format epoch at : ℕ) (bodies : List (List ℕ)) (image : List ℕ)
    → Stands format epoch bodies image → IsDamaged at image → ⊥

-- an image has one class at most
abbrev pub OneClass : Type 0
OneClass = (a b : DiskClass) (image : List ℕ) → HasClass a image → HasClass b image → a ≡ b

-- and one at least
abbrev pub HasSomeClass : Type 0
HasSomeClass = (image : List ℕ) → (class : DiskClass) × HasClass class image

-- what a crash leaves while an image is opened that one left while another was: a crash while that
-- other one was opened may leave it
abbrev pub OpenedAgain : Type 0
OpenedAgain = (first next last : List ℕ) → IsWhileOpened (λ image. image ≡ first) next
    → IsWhileOpened (λ image. image ≡ next) last → IsWhileOpened (λ image. image ≡ first) last

-- A new head and the new record after any first gate: the disk is closed, or open with that epoch,
-- and stands for that record alone.
abbrev pub NewIsClosedOrOpen : Type 0
NewIsClosedOrOpen = (epoch : ℕ) (body image : List ℕ) → epoch ≤ 2 ^ 63 → length body < 2 ^ 64
    → IsNewJournal epoch body image
    → HasClass Closed image ⊎ (HasClass (Open epoch) image × Stands 2 epoch (body ∷ []) image)
