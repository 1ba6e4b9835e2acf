use Rattle.std.specs.Prelude.{ℕ, ◌⊎◌, ◌≡◌, ◌<◌, ◌^◌, List, Option}
use Rattle.journal_pair.specs.PairState.{PairState, IsDue}
use Rattle.pod_base.specs.declared.moment.Moment.{Moment}
use Rattle.pod_pages.specs.State.{VersionState}
use Rattle.pod_pages.specs.declared.entry_effects.Effect.{Effect}
use Rattle.pod_rows.specs.Pod.{Pod}

-- A keeper as contracts see it: its two disks and their pair, its version, and the moment of the
-- last change. The version is its pod, the number of the next change, and the effects that it keeps
-- with the number of the oldest entry among them.
pub record KeeperState (D : Type 0) : Type 0 where
  pub first : D
  pub second : D
  pub pair : PairState
  pub pod : Pod
  pub next : ℕ
  pub effects : List Effect
  pub oldest : ℕ
  pub last : Option Moment

-- its version
abbrev pub version_in : {D : Type 0} → KeeperState D → VersionState
version_in keeper = record {
  pod = keeper.pod;
  next = keeper.next;
  effects = keeper.effects;
  oldest = keeper.oldest;
}

-- A checkpoint is due before the next entry: the active journal has format 1, or it is long enough
-- by the size rule. At epoch 2^63 there is none.
pub record IsCheckpointDue (pair : PairState) : Type 0 where
  pub below : pair.journal.epoch < 2 ^ 63
  pub rule : (pair.journal.format ≡ 1) ⊎ IsDue pair
