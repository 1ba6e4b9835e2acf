-- A journal on a disk with these images.
use Rattle.std.specs.Prelude.{◌≡◌, ◌⊎◌, ◌<◌, ◌-◌, ◌^◌, ℕ, List, ◌++◌, length, take, drop, All, true}
use Rattle.std.specs.Prelude.{false}
use Rattle.pod_disk.specs.Disk.{EachImage}
use Rattle.journal_log.specs.Frames.{framed_of, opened}
use Rattle.journal_log.specs.Heads.{encoded_head, IsKnownHead}
use Rattle.journal_log.specs.Gates.{IsClosed, IsOpening}
use Rattle.journal_log.specs.JournalState.{JournalState}

-- the record whose written bytes these are
abbrev pub body_of : List ℕ → List ℕ
body_of framed = take (length framed - 9) (drop 8 framed)

-- a record's length fits eight bytes
abbrev pub IsShort : List ℕ → Type 0
IsShort body = length body < 2 ^ 64

-- a journal's bytes before its last gate, which is at this offset: the head, and the records after
-- open gates
pub record IsJournalPrefix (journal : JournalState) (bodies : List (List ℕ))
    (prefix : List ℕ) : Type 0 where
  pub known : IsKnownHead journal.format journal.epoch
  pub spells : prefix ≡ encoded_head journal.format journal.epoch ++ opened bodies
  pub ends : length prefix ≡ journal.end
  pub short : All IsShort bodies

-- The journal is clean with these records: in each crash image they stand before its last gate,
-- which is closed.
pub record IsClean (images : List ℕ
    → Type 0) (journal : JournalState) (bodies : List (List ℕ)) : Type 0 where
  pub prefix : List ℕ
  pub is_prefix : IsJournalPrefix journal bodies prefix
  pub closed : EachImage images (IsClosed prefix)
  pub certain : journal.doubt ≡ false

-- Its last gate is in doubt: it may hold any byte, and after it stands this record with a closed
-- gate.
pub record IsInDoubt (images : List ℕ
    → Type 0) (journal : JournalState) (bodies : List (List ℕ)) (body : List ℕ) : Type 0 where
  pub prefix : List ℕ
  pub is_prefix : IsJournalPrefix journal bodies prefix
  pub opening : EachImage images (IsOpening prefix (framed_of body))
  pub short : IsShort body
  pub doubtful : journal.doubt ≡ true

-- While a record is added: these records stand before a closed gate, or before any gate that the
-- new record follows, whole and with a closed gate after it.
abbrev pub IsWhileAppended : ℕ → ℕ → List (List ℕ) → List ℕ → List ℕ → Type 0
IsWhileAppended format epoch bodies body image =
    IsClosed (encoded_head format epoch ++ opened bodies) image
    ⊎ IsOpening (encoded_head format epoch ++ opened bodies) (framed_of body) image

-- it is clean with these records, or its last gate is in doubt before this one
abbrev pub IsCleanOrInDoubt : (List ℕ → Type 0) → JournalState → List (List ℕ) → List ℕ → Type 0
IsCleanOrInDoubt images journal bodies body = IsClean images journal bodies
    ⊎ IsInDoubt images journal bodies body
