-- What an opening finds, and what it leaves.
use Rattle.std.proofs.Common.{◌≡◌, inl, inr, ⊎_elim, ℕ, List, Option, Some, None, refl, sym, subst, arith}
use Rattle.std.specs.Option.{MatchOption, IfSome, IfNone}
use Rattle.pod_io.specs.Visible.{IfVisible}
use Rattle.pod_disk.specs.Disk.{EachImage, LeavesOnly}
use Rattle.pod_disk.proofs.Moments.{both, weaker}
use Rattle.journal_log.specs.Frames.{framed_of}
use Rattle.journal_log.specs.Gates.{IsGated}
use Rattle.journal_log.specs.Writes.{IsTornFrom}
use Rattle.journal_log.specs.Images.{Stands}
use Rattle.journal_log.specs.Opening.{IsWhileOpened}
use Rattle.journal_log.specs.Reading.{OnlyReads}
use Rattle.journal_log.specs.CleanJournal.{IsClean}
use Rattle.journal_log.specs.Walking.{state_at, prefix_of, IsReadToEnd, HasTornGate, IsFound}
use Rattle.journal_log.specs.declared.head.Head.{Head}
use Rattle.journal_log.specs.declared.record_walk.Found.{Found}
use Rattle.journal_log.proofs.GateWrites.{torn_gate, torn_opening}
use Rattle.journal_log.proofs.Records.{stands_closed, stands_gated, stands_opening, clean_behind}

-- what follows from what holds of a value
pub if_some : {X : Type 0} (o : Option X) (P Q : X → Type 0) → ((x : X) → P x → Q x) → IfSome o P → IfSome o Q
if_some None P Q leads has = tt
if_some (Some x) P Q leads has = leads x has

pub if_none : {X : Type 0} (o : Option X) (P Q : Type 0) → (P → Q) → IfNone o P → IfNone o Q
if_none None P Q leads has = leads has
if_none (Some x) P Q leads has = tt

-- what holds of the content holds of each image, where all of it is on the disk
pub of_each : (images : List ℕ → Type 0) (content : Option (List ℕ)) (P : List ℕ → Type 0) → EachImage images (λ c. content ≡ Some c) → IfVisible content P → EachImage images P
of_each images content P durable visible c now = visible c (durable c now)

module _ (content : Option (List ℕ)) (head : Head) (bodies : List (List ℕ)) (end : ℕ) where
  whole_stands : IsReadToEnd content head bodies end → IfVisible content (Stands head.format head.epoch bodies)
  whole_stands whole b visible = stands_closed (state_at head end) bodies (prefix_of head bodies) whole.is_prefix b (whole.visible b visible)

  torn_gate_stands : (at : ℕ) → HasTornGate content head bodies end at → IfVisible content (Stands head.format head.epoch bodies)
  torn_gate_stands at found b visible = subst (λ (l : List (List ℕ)). Stands head.format head.epoch l b) (sym found.are)
      (stands_gated (state_at head at) found.before (prefix_of head found.before) found.is_prefix found.last b found.gate found.short found.other (found.visible b visible))

  gates_stand : (torn_gate : Option ℕ) → MatchOption torn_gate (IsReadToEnd content head bodies end) (HasTornGate content head bodies end) → IfVisible content (Stands head.format head.epoch bodies)
  gates_stand None whole = whole_stands whole
  gates_stand (Some at) found = torn_gate_stands at found

-- what was found is what the disk stands for
pub found_stands : (content : Option (List ℕ)) (found : Found) → IsFound content found → IfVisible content (Stands found.head.format found.head.epoch found.records.items)
found_stands content found is = gates_stand content found.head found.records.items found.end found.torn_gate is.gates

module _ {D : Type 0} (image : D → List ℕ → Type 0) (moment : D → ℕ) (left_since : D → ℕ → List ℕ → Type 0) (content : Option (List ℕ)) (head : Head) (bodies : List (List ℕ)) (end at : ℕ) (old new : D)
    (durable : EachImage (image old) (λ c. content ≡ Some c)) (found : HasTornGate content head bodies end at) where
  pub gated : EachImage (image old) (IsGated (prefix_of head found.before) found.gate (framed_of found.last))
  gated = of_each (image old) content _ durable found.visible

  -- with the gate written the journal is at rest
  pub clean_normalized : EachImage (image new) (IsGated (prefix_of head found.before) 1 (framed_of found.last)) → IsClean (image new) (state_at head end) bodies
  clean_normalized set = subst (IsClean (image new) (state_at head end)) (sym found.are)
      (clean_behind (state_at head at) found.before (prefix_of head found.before) found.is_prefix (image new) (state_at head end) found.last found.short set refl refl found.ends refl)

  -- and while it is written an image stands for the records, with the last or without
  pub normalizing : LeavesOnly moment left_since old new (IsTornFrom (image old) at 1) → LeavesOnly moment left_since old new (IsWhileOpened (image old))
  normalizing torn = weaker image moment left_since old new (IsTornFrom (image old) at 1) _ (λ c (from, was, step).
      let here = gated from was in
      inr (record {
        from = from;
        was = was;
        format = head.format;
        epoch = head.epoch;
        bodies = found.before;
        body = found.last;
        gate = found.gate;
        torn = (found.other, found.not_1);
        gated = here;
        stood = stands_gated (state_at head at) found.before (prefix_of head found.before) found.is_prefix found.last from found.gate found.short found.other here;
        changed = torn_gate (prefix_of head found.before) (framed_of found.last) from c at found.gate found.is_prefix.ends step here;
        stands = stands_opening (state_at head at) found.before (prefix_of head found.before) found.is_prefix found.last c found.short
            (torn_opening (prefix_of head found.before) (framed_of found.last) from c at found.is_prefix.ends step (found.gate, here));
      })) torn

module _ {D : Type 0} (image : D → List ℕ → Type 0) (moment : D → ℕ) (left_since : D → ℕ → List ℕ → Type 0) where
  -- a run that changes nothing leaves the images from before
  pub reads_run : (old new : D) → ((c : List ℕ) → left_since old (moment old) c → image old c) → OnlyReads image moment left_since old new → LeavesOnly moment left_since old new (image old)
  reads_run old new only_now only_reads = record {
    later = only_reads.later;
    each = λ c left. only_now c (only_reads.nothing_else (moment old) c (omega arith) left);
    before = λ t c le left. inl (only_reads.nothing_else t c le left);
  }

  -- reads, and then the gate
  pub opened_run : (old mid new : D) → ((c : List ℕ) → left_since old (moment old) c → image old c) → OnlyReads image moment left_since old mid
      → LeavesOnly moment left_since mid new (IsWhileOpened (image mid)) → LeavesOnly moment left_since old new (IsWhileOpened (image old))
  opened_run old mid new only_now only_reads run =
      both image moment left_since old mid new (image old) (IsWhileOpened (image mid)) (IsWhileOpened (image old))
      (λ c was. inl was)
      (λ c either. ⊎_elim (λ was. inl (only_reads.images c was)) (λ found. inr (record {
        from = found.from;
        was = only_reads.images found.from found.was;
        format = found.format;
        epoch = found.epoch;
        bodies = found.bodies;
        body = found.body;
        gate = found.gate;
        torn = found.torn;
        gated = found.gated;
        stood = found.stood;
        changed = found.changed;
        stands = found.stands;
      })) either)
      (reads_run old mid only_now only_reads) run
