-- A new store, and its history.
use Rattle.std.specs.Prelude.{ℕ, List, [], ◌∷◌}
use Rattle.pod_rows.specs.FirstPods.{first_pod}
use Rattle.journal_log.specs.Heads.{IsClosedHead}
use Rattle.journal_log.specs.declared.fault.Side.TheVariants.{First}
use Rattle.journal_pair.specs.Stores.{StoreStands}
use Rattle.pod_base.specs.declared.moment.Moment.{Moment}
use Rattle.pod_core.specs.History.{History}
use Rattle.pod_records.specs.Records.{IsSnapshotText}

-- the first pod of a base and an owner, whose rows have that moment, and no entry
abbrev pub new_history : List ℕ → List ℕ → Moment → History
new_history base owner modified =
    record { first = first_pod base owner modified; start = 0; entries = [] }

-- By a crash image of each disk: the first has the journal that is taken, of format 2 and epoch 1,
-- whose one record is a snapshot of that pod. The second has a closed head of epoch 0 alone.
pub record IsNewStore (base owner : List ℕ) (modified : Moment) (first second : List ℕ)
    : Type 0 where
  pub text : List ℕ
  pub snapshot : IsSnapshotText (first_pod base owner modified) 0 text
  pub stands : StoreStands First 2 1 (text ∷ []) first second
  pub beside : IsClosedHead 0 second
