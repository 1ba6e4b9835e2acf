-- What a crash may leave of a world: the image of one journal.
use Rattle.std.specs.Prelude.{◌≡◌, ◌⊎◌, ℕ, List, ◌∷◌, ◌++◌, map, Some}
use Rattle.journal_log.specs.Frames.{framed_of, opened}
use Rattle.journal_log.specs.Gates.{IsClosed, IsOpening}
use Rattle.journal_log.specs.Heads.{encoded_head}
use Rattle.pod_base.specs.Listed.{listed}
use Rattle.stored_forms.specs.StoredForms.{entry_bytes, snapshot_bytes}
use Rattle.pod_command.specs.declared.entry.Entry.{Entry}
use Rattle.pod_command.specs.declared.snapshot.Snapshot.{Snapshot}
use Rattle.pod_core.specs.History.{History}
use Rattle.pod_core.specs.KeeperSteps as keeper
use Rattle.pod_core.specs.KeeperSteps.{Holder, KeeperView}

-- the snapshot of a history's first pod
abbrev pub start_snapshot : History → Snapshot
start_snapshot history = record {
  seq = history.start;
  base = history.first.base;
  owner = history.first.owner;
  rows = listed (history.first.rows) 0;
}

-- the records of a history in format 2: its first pod and its entries
abbrev pub journal_records : History → List (List ℕ)
journal_records history = snapshot_bytes (start_snapshot history) ∷ map entry_bytes history.entries

-- its journal in format 2 with epoch 1, up to the last gate
abbrev pub journal_of : History → List ℕ
journal_of history = encoded_head 2 1 ++ opened (journal_records history)

-- The entry may be after the last gate: it is in doubt, or its record is written and its gate is
-- not yet open.
abbrev pub MayFollow : KeeperView → Entry → Type 0
MayFollow view entry = (view.doubt ≡ Some entry)
    ⊎ ((holder : Holder) × (view.phase ≡ keeper.written holder) × (holder.entry ≡ entry))

-- The journal of the history. Its last gate is 0, whatever follows; or it is any byte, and such an
-- entry's whole record follows with a gate 0, and then whatever.
abbrev pub IsAllowedImage : KeeperView → List ℕ → Type 0
IsAllowedImage view image = IsClosed (journal_of view.history) image
    ⊎ ((entry : Entry) × MayFollow view entry
    × IsOpening (journal_of view.history) (framed_of (entry_bytes entry)) image)
