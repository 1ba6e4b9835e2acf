-- What a keeper keeps, and what opening a gate adds to it.
use Rattle.std.specs.Prelude.{◌≡◌, ℕ, ◌+◌, List, length, slice_get, Some, None, [], ◌∷◌}
use Rattle.pod_command.specs.declared.entry.Entry.{Entry}
use Rattle.pod_command.specs.declared.snapshot.Snapshot.{Snapshot}
use Rattle.pod_core.specs.History.{History, end_of, longer, pod_at}
use Rattle.pod_core.specs.KeeperSteps as keeper
use Rattle.pod_core.specs.KeeperSteps.{Holder, KeeperView}
use Rattle.pod_core.specs.WorldImages.{journal_of}
use Rattle.pod_pages.specs.State.{VersionState}
use Rattle.pod_rows.specs.Apply.{Applies}
use Rattle.pod_rows.specs.WellFormed.{pod_of}
use Rattle.request_history.specs.declared.world_keeper.Opening.{Opening}

-- the history that begins with this version
abbrev pub history_of : VersionState → List Entry → History
history_of first entries = record { first = first.pod; start = first.next; entries = entries }

-- the history of a pod without entries
abbrev pub first_history : Snapshot → History
first_history first = record { first = pod_of first; start = first.seq; entries = [] }

abbrev pub first_view : Snapshot → KeeperView
first_view first =
    record { history = first_history first; doubt = None; phase = keeper.free }

-- ---- what it keeps

-- The version is that of the place.
pub record IsVersionAt (history : History) (place : ℕ) (version : VersionState) : Type 0 where
  pub pod : version.pod ≡ pod_at history place
  pub next : version.next ≡ place

-- These are the versions of all places after the first.
pub record AreLater (history : History) (later : List VersionState) : Type 0 where
  pub count : length later ≡ length history.entries
  pub each : (i : ℕ) (version : VersionState) → slice_get later i ≡ Some version
      → IsVersionAt history (history.start + (i + 1)) version

-- The entry of a holder applies at the end of the history until the history has it.
abbrev pub AppliesAtEnd : History → Holder → Type 0
AppliesAtEnd history holder =
    Applies (pod_at history (end_of history)) (end_of history) holder.entry

abbrev pub IsPending : History → keeper.Phase → Type 0
IsPending history keeper.free = Unit {0}
IsPending history (keeper.taken holder) = AppliesAtEnd history holder
IsPending history (keeper.written holder) = AppliesAtEnd history holder
IsPending history (keeper.opened holder) = Unit {0}

pub record IsKeeper (history : History) (later : List VersionState) (journal : List ℕ)
    (phase : keeper.Phase) : Type 0 where
  pub versions : AreLater history later
  pub journal_is : journal ≡ journal_of history
  pub pending : IsPending history phase

-- ---- what opening a gate adds

-- What opening the gate of the holder's record adds.
pub record Opens (view : KeeperView) (opening : Opening) : Type 0 where
  pub holder : Holder
  pub is_written : view.phase ≡ keeper.written holder
  pub entry_is : opening.entry ≡ holder.entry
  pub version_is : IsVersionAt (longer view.history (holder.entry ∷ [])) (end_of view.history + 1)
      opening.version
  pub journal_is : opening.journal ≡ journal_of (longer view.history (holder.entry ∷ []))
