-- What an image stands for at each moment of an append and of a repair.
use Rattle.std.proofs.Common.{◌≤◌, ◌+◌, ◌++◌, length, arith, ◌≡◌, inl, inr, subst, List, ℕ}
use Rattle.pod_disk.specs.Disk.{EachImage, LeavesOnly}
use Rattle.pod_disk.proofs.Moments.{both, weaker}
use Rattle.journal_log.specs.Frames.{framed_of, opened}
use Rattle.journal_log.specs.Gates.{IsClosed, IsOpening}
use Rattle.journal_log.specs.Writes.{IsTornFrom}
use Rattle.journal_log.specs.Images.{IsEither}
use Rattle.journal_log.specs.JournalState.{JournalState}
use Rattle.journal_log.specs.CleanJournal.{IsShort, IsJournalPrefix, IsWhileAppended}
use Rattle.journal_log.specs.Heads.{encoded_head}
use Rattle.journal_log.proofs.GateWrites.{closed_behind, torn_opening}
use Rattle.journal_log.proofs.WriteRuns.{torn_run}
use Rattle.journal_log.proofs.Records.{stands_closed, stands_opening}

module _ {D : Type 0} (image : D → List ℕ → Type 0) (moment : D → ℕ) (left_since : D → ℕ → List ℕ → Type 0) where
  -- bytes written behind a closed gate leave it closed
  pub closed_run : (old new : D) (prefix : List ℕ) (end count : ℕ) → ((t : ℕ) (c : List ℕ) → t ≤ moment new → image new c → left_since new t c) → length prefix ≡ end
      → LeavesOnly moment left_since old new (IsTornFrom (image old) (end + 1) count) → EachImage (image old) (IsClosed prefix)
      → LeavesOnly moment left_since old new (IsClosed prefix) × EachImage (image new) (IsClosed prefix)
  closed_run old new prefix end count counts_now ends torn was =
      torn_run image moment left_since old new (end + 1) count (IsClosed prefix) counts_now torn (λ d c step closed. closed_behind prefix d c (end + 1) count (omega (arith, ends)) step closed) was

  -- a gate that is written leaves what is before and behind it
  pub opening_run : (old new : D) (prefix behind : List ℕ) (end : ℕ) → ((t : ℕ) (c : List ℕ) → t ≤ moment new → image new c → left_since new t c) → length prefix ≡ end
      → LeavesOnly moment left_since old new (IsTornFrom (image old) end 1) → EachImage (image old) (IsOpening prefix behind)
      → LeavesOnly moment left_since old new (IsOpening prefix behind) × EachImage (image new) (IsOpening prefix behind)
  opening_run old new prefix behind end counts_now ends torn was =
      torn_run image moment left_since old new end 1 (IsOpening prefix behind) counts_now torn (λ d c step opening. torn_opening prefix behind d c end ends step opening) was

module _ {D : Type 0} (moment : D → ℕ) (image : D → List ℕ → Type 0) (left_since : D → ℕ → List ℕ → Type 0) (journal : JournalState) (bodies : List (List ℕ)) (body prefix : List ℕ) (is : IsJournalPrefix journal bodies prefix) where
  -- the record lies behind the closed gate, or doesn't
  pub placed_run : (old mid : D) → LeavesOnly moment left_since old mid (IsClosed prefix) → LeavesOnly moment left_since old mid (IsEither journal.format journal.epoch bodies body)
  placed_run old mid first =
      weaker image moment left_since old mid (IsClosed prefix) _ (λ c closed. inl (stands_closed journal bodies prefix is c closed)) first

  -- and then the gate is opened
  pub opened_run : (old mid new : D) → IsShort body → LeavesOnly moment left_since old mid (IsClosed prefix) → LeavesOnly moment left_since mid new (IsOpening prefix (framed_of body))
      → LeavesOnly moment left_since old new (IsEither journal.format journal.epoch bodies body)
  opened_run old mid new short first second =
      both image moment left_since old mid new (IsClosed prefix) (IsOpening prefix (framed_of body)) _
      (λ c closed. inl (stands_closed journal bodies prefix is c closed))
      (λ c opening. stands_opening journal bodies prefix is body c short opening)
      first second

  -- The same by the bytes before that gate.
  placed_gates_at : (c : List ℕ) → IsClosed prefix c → IsWhileAppended journal.format journal.epoch bodies body c
  placed_gates_at c closed = inl (subst (λ (p : List ℕ). IsClosed p c) is.spells closed)

  opened_gate_at : (c : List ℕ) → IsOpening prefix (framed_of body) c → IsOpening (encoded_head journal.format journal.epoch ++ opened bodies) (framed_of body) c
  opened_gate_at c opening = subst (λ (p : List ℕ). IsOpening p (framed_of body) c) is.spells opening

  pub placed_gates : (old mid : D) → LeavesOnly moment left_since old mid (IsClosed prefix) → LeavesOnly moment left_since old mid (IsWhileAppended journal.format journal.epoch bodies body)
  placed_gates old mid first = weaker image moment left_since old mid (IsClosed prefix) _ placed_gates_at first

  pub opened_gates : (old mid new : D) → LeavesOnly moment left_since old mid (IsClosed prefix) → LeavesOnly moment left_since mid new (IsOpening prefix (framed_of body))
      → LeavesOnly moment left_since old new (IsWhileAppended journal.format journal.epoch bodies body)
  opened_gates old mid new first second =
      both image moment left_since old mid new (IsClosed prefix) (IsOpening prefix (framed_of body)) _ placed_gates_at (λ c opening. inr (opened_gate_at c opening)) first second

  pub doubtful_gates : (old new : D) → LeavesOnly moment left_since old new (IsOpening prefix (framed_of body))
      → LeavesOnly moment left_since old new (IsOpening (encoded_head journal.format journal.epoch ++ opened bodies) (framed_of body))
  doubtful_gates old new run = weaker image moment left_since old new (IsOpening prefix (framed_of body)) _ opened_gate_at run

  -- while the gate is in doubt
  pub gate_run : (old new : D) → IsShort body → LeavesOnly moment left_since old new (IsOpening prefix (framed_of body)) → LeavesOnly moment left_since old new (IsEither journal.format journal.epoch bodies body)
  gate_run old new short run =
      weaker image moment left_since old new (IsOpening prefix (framed_of body)) _ (λ c opening. stands_opening journal bodies prefix is body c short opening) run
