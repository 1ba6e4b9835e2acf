use Rattle.std.specs.Prelude.{◌<◌, ◌+◌, ◌*◌, ℕ, Bool}
use Rattle.journal_log.specs.JournalState.{JournalState}
use Rattle.journal_log.specs.declared.fault.Side.{Side}
use Rattle.journal_pair.specs.declared.pair.TheConstants.{SIZE_LIMIT}

-- A pair as contracts see it: the side of the active journal, that journal, how many bytes the
-- record of its snapshot has, and whether the first gate of a checkpoint is in doubt.
pub record PairState : Type 0 where
  pub active : Side
  pub journal : JournalState
  pub snapshot : ℕ
  pub checkpoint : Bool

-- how many bytes the active journal has, from its first byte to its last gate
abbrev pub len_of : PairState → ℕ
len_of pair = pair.journal.end + 1

-- The size rule: the active journal is longer than 67,108,864 bytes and than twice the record of
-- its snapshot.
abbrev pub IsDue : PairState → Type 0
IsDue pair = (SIZE_LIMIT < len_of pair) × (2 * pair.snapshot < len_of pair)
