-- What a crash at any moment leaves of two disks.
use Rattle.std.specs.Prelude.{◌≡◌, ◌⊎◌, ◌+◌, ◌≤◌, ℕ, List, length}
use Rattle.journal_log.specs.Opening.{IsWhileOpened}
use Rattle.journal_log.specs.Renewing.{IsNewJournal}
use Rattle.journal_log.specs.declared.fault.Side.{Side}
use Rattle.journal_pair.specs.Sides.{active_of, other_of}
use Rattle.journal_pair.specs.Stores.{IsPassedOver}

-- Whatever a crash since then left of the first disk, with whatever one left of the second, has P.
-- The two need not be of one moment.
abbrev pub LeavesPairs : {D : Type 0} → (D → ℕ) → (D → ℕ → List ℕ → Type 0) → D → D → D → D
    → (List ℕ → List ℕ → Type 0) → Type 0
LeavesPairs moment left_since first second first_new second_new P = (c d : List ℕ)
    → left_since first_new (moment first) c → left_since second_new (moment second) d → P c d

-- each pair of crash images now has P
abbrev pub EachPair : (List ℕ → Type 0) → (List ℕ → Type 0) → (List ℕ → List ℕ → Type 0) → Type 0
EachPair first second P = (c d : List ℕ) → first c → second d → P c d

-- The disk beside a journal of this side and epoch while a checkpoint is made on it: it is passed
-- over and has the place of a first gate, or it holds the journal of the next epoch, with this
-- snapshot alone, and any first gate.
abbrev pub IsWhileCheckpointed : Side → ℕ → List ℕ → List ℕ → Type 0
IsWhileCheckpointed side epoch snapshot image =
    (IsPassedOver side epoch image × (17 ≤ length image)) ⊎ IsNewJournal (epoch + 1) snapshot image

-- While a store is opened: of one disk an image from before, of the other one from before or one
-- whose last gate is being mended.
abbrev pub IsWhileStoreOpened : {D : Type 0} → (D → List ℕ → Type 0) → D → D → List ℕ → List ℕ
    → Type 0
IsWhileStoreOpened image first second c d = (side : Side)
    × IsWhileOpened (image (active_of side first second)) (active_of side c d)
    × image (other_of side first second) (other_of side c d)

-- The image has P, and so has whatever a crash leaves of it while its journal is opened. Openings
-- that are cut short one after the other leave no more than one of them (`opened_again`).
abbrev pub ThroughMending : (List ℕ → Type 0) → List ℕ → Type 0
ThroughMending P image = (c : List ℕ) → IsWhileOpened (λ from. from ≡ image) c → P c

-- Two images have P, and so have those that crashes leave of them while they are opened, however
-- often.
abbrev pub ThroughOpenings : (List ℕ → List ℕ → Type 0) → List ℕ → List ℕ → Type 0
ThroughOpenings P first second = (c d : List ℕ) → IsWhileOpened (λ from. from ≡ first) c
    → IsWhileOpened (λ from. from ≡ second) d → P c d
