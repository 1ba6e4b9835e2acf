-- The classes of a store's disk, by its length, its head and its first gate.
use Rattle.std.specs.Prelude.{◌≡◌, ◌≢◌, ◌<◌, ◌≤◌, ℕ, List, [], ◌∷◌, ◌++◌, length}
use Rattle.journal_log.specs.Heads.{encoded_head, IsKnownHead, NoHead}
use Rattle.journal_log.specs.Gates.{IsClosed, IsFirstGateClosed}
use Rattle.journal_log.specs.declared.disk_class.DiskClass.{DiskClass}
use Rattle.journal_log.specs.declared.disk_class.DiskClass.TheVariants.{Empty, Short, Torn, Closed}
use Rattle.journal_log.specs.declared.disk_class.DiskClass.TheVariants.{Wrong, Open}

-- a right head with this epoch, and a first gate that isn't 0
pub record IsOpenImage (epoch : ℕ) (image : List ℕ) : Type 0 where
  pub format : ℕ
  pub known : IsKnownHead format epoch
  pub gate : ℕ
  pub rest : List ℕ
  pub is_open : gate ≢ 0
  pub spells : image ≡ encoded_head format epoch ++ (gate ∷ rest)

-- a right head, and a first gate 0
pub record IsClosedImage (image : List ℕ) : Type 0 where
  pub format : ℕ
  pub epoch : ℕ
  pub known : IsKnownHead format epoch
  pub closed : IsClosed (encoded_head format epoch) image

-- no right head, and a first gate that isn't 0
pub record IsWrongImage (image : List ℕ) : Type 0 where
  pub wrong : NoHead image
  pub long : 17 ≤ length image
  pub is_open : IsFirstGateClosed image → ⊥

abbrev pub HasClass : DiskClass → List ℕ → Type 0
HasClass Empty image = image ≡ []
HasClass Short image = (image ≢ []) × (length image < 17)
HasClass Torn image = NoHead image × IsFirstGateClosed image
HasClass Closed image = IsClosedImage image
HasClass Wrong image = IsWrongImage image
HasClass (Open epoch) image = IsOpenImage epoch image
