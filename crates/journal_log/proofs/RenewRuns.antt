-- What the parts of a renewal leave.
use Rattle.std.proofs.Common.{◌≡◌, ◌≢◌, inl, inr, ⊎_elim, ℕ, ◌+◌, ◌≤◌, ◌^◌, List, Option, [], ◌∷◌, ◌++◌, length, take, drop, get_or, min, ◌-◌, false, refl, sym, ◌∙◌, ap, subst, arith, append_assoc, length-append, take-append-drop}
use Rattle.std.proofs.lemmas.List.{drop_all, drop_at, drop_more, drop-drop, append-nil, length-take-le}
use Rattle.pod_io.specs.Visible.{IfVisible}
use Rattle.pod_disk.specs.Disk.{EachImage, Torn, LeavesOnly, overwritten}
use Rattle.pod_disk.proofs.Moments.{both, weaker, joined, holds_now}
use Rattle.pod_disk.proofs.TornWrites.{torn_inside}
use Rattle.journal_log.specs.Frames.{framed_of}
use Rattle.journal_log.specs.Heads.{encoded_head, IsClosedHead, IsKnownHead}
use Rattle.journal_log.specs.Gates.{IsFirstGateClosed, IsGated}
use Rattle.journal_log.specs.Classes.{IsClosedImage}
use Rattle.journal_log.specs.JournalState.{JournalState}
use Rattle.journal_log.specs.Reading.{OnlyReads}
use Rattle.journal_log.specs.Renewing.{IsGateChanged, IsBeforeOpening}
use Rattle.journal_log.specs.FirstGates.{IsFirstGate}
use Rattle.journal_log.specs.declared.new_journal.FirstGate.TheVariants.{Open}
use Rattle.journal_log.specs.CleanJournal.{IsShort, IsJournalPrefix, IsClean}
use Rattle.journal_log.specs.Writes.{IsTornFrom, IsOverwritten}
use Rattle.journal_log.proofs.Splits.{length_head}
use Rattle.journal_log.proofs.GateWrites.{one, torn_head, first_closed_behind, torn_self}
use Rattle.journal_log.proofs.Records.{length_closed, clean_behind}
use Rattle.journal_log.proofs.WriteRuns.{torn_run}
use Rattle.journal_log.proofs.OpenRuns.{reads_run}

-- the first gate, as it was read
pub closed_of : (into b : List ℕ) → into ≡ take 1 (drop 16 b) → 17 ≤ length b → get_or into 0 0 ≡ 0 → IsFirstGateClosed b
closed_of into b read long zero_gate =
    let apart : drop 16 b ≡ get_or b 16 0 ∷ drop 17 b = drop_more b 16 0 (omega (arith, long)) in
    let gate : get_or b 16 0 ≡ 0 = ap (λ (l : List ℕ). get_or (take 1 l) 0 0) (sym apart) ∙ ap (λ (l : List ℕ). get_or l 0 0) (sym read) ∙ zero_gate in (
      take 16 b,
      length-take-le 16 b (omega (arith, long)),
      (drop 17 b, sym (take-append-drop 16 b) ∙ ap (λ (l : List ℕ). take 16 b ++ l) (apart ∙ ap (λ (n : ℕ). n ∷ drop 17 b) gate)),
    )

pub not_closed_of : (into b : List ℕ) → into ≡ take 1 (drop 16 b) → get_or into 0 0 ≢ 0 → IsFirstGateClosed b → ⊥
not_closed_of into b read other (head, whole, closed) =
    other (ap (λ (l : List ℕ). get_or l 0 0) read ∙ ap (λ (l : List ℕ). get_or (take 1 (drop 16 l)) 0 0) closed.1 ∙ ap (λ (l : List ℕ). get_or (take 1 l) 0 0) (drop_at head (0 ∷ closed.0) 16 whole))

pub length_first_closed : (b : List ℕ) → IsFirstGateClosed b → 17 ≤ length b
length_first_closed b (head, whole, closed) = omega (arith, whole, length_closed head b closed)

-- a 0 written over the first gate
pub closed_over : (b : List ℕ) → 17 ≤ length b → IsFirstGateClosed (overwritten 16 (0 ∷ []) b)
closed_over b long = (take 16 b, length-take-le 16 b (omega (arith, long)), (drop 17 b, append_assoc (take 16 b) (0 ∷ []) (drop 17 b)))

-- what a write that is on the disk makes of what the disk held
pub over_visible : (images : List ℕ → Type 0) (content : Option (List ℕ)) (at : ℕ) (bytes : List ℕ) (P Q : List ℕ → Type 0) → IfVisible content P → ((b : List ℕ) → P b → Q (overwritten at bytes b))
    → EachImage images (IsOverwritten content at bytes) → EachImage images Q
over_visible images content at bytes P Q visible makes over c now =
    let from = over c now in
    subst Q (sym from.2) (makes from.0 (visible from.0 from.1))

-- a longer write may leave what a shorter one and then another leave
drop_same : (k n : ℕ) (x y : List ℕ) → k ≤ n → drop k x ≡ drop k y → drop n x ≡ drop n y
drop_same k n x y le same =
    let sum : k + (n - k) ≡ n = omega (arith, le) in
    ap (λ (m : ℕ). drop m x) (sym sum) ∙ sym (drop-drop (n - k) k x) ∙ ap (λ (l : List ℕ). drop (n - k) l) same
    ∙ drop-drop (n - k) k y ∙ ap (λ (m : ℕ). drop m y) sum

pub torn_then : (d m c : List ℕ) (first at count all : ℕ) → first ≤ all → at + count ≤ all → Torn 0 first d m → Torn at count m c → Torn 0 all d c
torn_then d m c first at count all le within step then_step = record {
  before = ap (λ (n : ℕ). take n c) {x = min 0 (length d)} {y = 0} (omega arith);
  behind =
      ap (λ (n : ℕ). drop n c) {x = 0 + all} {y = all} (omega arith)
      ∙ drop_same (at + count) all c m within then_step.behind ∙ drop_same (0 + first) all m d (omega (arith, le)) step.behind
      ∙ ap (λ (n : ℕ). drop n d) {x = all} {y = 0 + all} (omega arith);
  no_shorter = omega (arith, step.no_shorter, then_step.no_shorter);
  no_longer = omega (arith, step.no_longer, then_step.no_longer, le, within);
}

-- a write at the first gate changes that byte alone
pub gate_changed : (d c : List ℕ) → 17 ≤ length d → Torn 16 1 d c → IsGateChanged d c
gate_changed d c long torn =
    let head = take 16 d in
    let rest = drop 17 d in
    let whole : length head ≡ 16 = length-take-le 16 d (omega (arith, long)) in
    let spells : d ≡ head ++ (get_or d 16 0 ∷ rest) = sym (take-append-drop 16 d) ∙ ap (λ (l : List ℕ). head ++ l) (drop_more d 16 0 (omega (arith, long))) in
    let there : Torn (length head) 1 (head ++ ((get_or d 16 0 ∷ []) ++ rest)) c =
    subst (λ (n : ℕ). Torn n 1 (head ++ ((get_or d 16 0 ∷ []) ++ rest)) c) (sym whole) (subst (λ (l : List ℕ). Torn 16 1 l c) spells torn) in
    let inside = torn_inside head (get_or d 16 0 ∷ []) rest c there in
    let gate = one inside.0 inside.1 in record {
      head = head;
      rest = rest;
      before = get_or d 16 0;
      after = gate.0;
      whole = whole;
      was = spells;
      is = inside.2 ∙ ap (λ (l : List ℕ). head ++ (l ++ rest)) gate.1;
    }

-- a head and a gate, written to the beginning of a disk
pub begins : (head prefix b : List ℕ) (gate : ℕ) → prefix ≡ head ++ gate ∷ [] → (rest : List ℕ) × (overwritten 0 prefix b ≡ head ++ (gate ∷ rest))
begins head prefix b gate is =
    let rest = drop (0 + length prefix) b in
    (rest, ap (λ (l : List ℕ). l ++ rest) is ∙ append_assoc head (gate ∷ []) rest)

pub length_begun : (head prefix : List ℕ) (gate : ℕ) → length head ≡ 16 → prefix ≡ head ++ gate ∷ [] → length prefix ≡ 17
length_begun head prefix gate whole is = omega (arith, whole, ap length is, length-append head (gate ∷ []))

pub begun_long : (head prefix b : List ℕ) (gate : ℕ) → length head ≡ 16 → prefix ≡ head ++ gate ∷ [] → 17 ≤ length (overwritten 0 prefix b)
begun_long head prefix b gate whole is =
    let begun = begins head prefix b gate is in
    omega (arith, whole, ap length begun.1, length-append head (gate ∷ begun.0))

module _ {D : Type 0} (image : D → List ℕ → Type 0) (moment : D → ℕ) (left_since : D → ℕ → List ℕ → Type 0) where
  -- a head written before a closed first gate
  pub head_run : (old new : D) (count : ℕ) → ((t : ℕ) (c : List ℕ) → t ≤ moment new → image new c → left_since new t c) → count ≡ 16
      → LeavesOnly moment left_since old new (IsTornFrom (image old) 0 count) → EachImage (image old) IsFirstGateClosed → LeavesOnly moment left_since old new IsFirstGateClosed × EachImage (image new) IsFirstGateClosed
  head_run old new count counts_now whole torn was =
      torn_run image moment left_since old new 0 count IsFirstGateClosed counts_now torn (λ d c step shut. torn_head d c (subst (λ (n : ℕ). Torn 0 n d c) whole step) shut) was

  -- a record written behind it
  pub behind_run : (old new : D) (count : ℕ) → ((t : ℕ) (c : List ℕ) → t ≤ moment new → image new c → left_since new t c)
      → LeavesOnly moment left_since old new (IsTornFrom (image old) 17 count) → EachImage (image old) IsFirstGateClosed → LeavesOnly moment left_since old new IsFirstGateClosed × EachImage (image new) IsFirstGateClosed
  behind_run old new count counts_now torn was = torn_run image moment left_since old new 17 count IsFirstGateClosed counts_now torn (λ d c step shut. first_closed_behind count d c step shut) was

  -- the first gate is being closed
  pub closing_run : (old new : D) → EachImage (image old) (IsFirstGate Open) → LeavesOnly moment left_since old new (IsTornFrom (image old) 16 1) → LeavesOnly moment left_since old new (IsBeforeOpening (image old))
  closing_run old new is_open torn = weaker image moment left_since old new (IsTornFrom (image old) 16 1) _
      (λ c (from, was, step). inr (inl (from, was, (is_open from was).1, gate_changed from c (is_open from was).0 step))) torn

  -- and then head and record are written
  pub closed_and_written : (old mid new : D) → LeavesOnly moment left_since old mid (IsBeforeOpening (image old)) → LeavesOnly moment left_since mid new IsFirstGateClosed → LeavesOnly moment left_since old new (IsBeforeOpening (image old))
  closed_and_written old mid new first second = both image moment left_since old mid new (IsBeforeOpening (image old)) IsFirstGateClosed _ (λ c has. has) (λ c shut. inr (inr shut)) first second

  module _ (old mid new : D) (only_now : (c : List ℕ) → left_since old (moment old) c → image old c) (only_reads : OnlyReads image moment left_since old mid) where
    -- the first part alone
    pub first_part : LeavesOnly moment left_since old mid (IsBeforeOpening (image old))
    first_part = weaker image moment left_since old mid (image old) _ (λ c was. inl was) (reads_run image moment left_since old mid only_now only_reads)

    -- and what follows it
    pub parts_then : LeavesOnly moment left_since mid new (IsBeforeOpening (image mid)) → LeavesOnly moment left_since old new (IsBeforeOpening (image old))
    parts_then second = joined image moment left_since old mid new _ first_part
        (weaker image moment left_since mid new (IsBeforeOpening (image mid)) (IsBeforeOpening (image old)) (λ c before. ⊎_elim
        (λ was. inl (only_reads.images c was))
        (λ later. inr (⊎_elim (λ (from, was, open_gate, step). inl (from, only_reads.images from was, open_gate, step)) (λ shut. inr shut) later))
        before) second)

    pub closed_then : LeavesOnly moment left_since mid new IsFirstGateClosed → LeavesOnly moment left_since old new (IsBeforeOpening (image old))
    closed_then second = joined image moment left_since old mid new _ first_part (weaker image moment left_since mid new IsFirstGateClosed _ (λ c shut. inr (inr shut)) second)

  -- a disk that is begun: head and gate
  pub begun_torn : (old new : D) (first all : ℕ) → first ≤ all → LeavesOnly moment left_since old new (IsTornFrom (image old) 0 first) → LeavesOnly moment left_since old new (IsTornFrom (image old) 0 all)
  begun_torn old new first all le run =
      weaker image moment left_since old new (IsTornFrom (image old) 0 first) _ (λ c (from, was, step). (from, was, torn_then from c c first 0 0 all le (omega arith) step (torn_self c 0 0))) run

  -- a run that leaves at most torn bytes at the beginning, and then another write there
  pub torn_more : (old mid new : D) (at count all : ℕ) → ((t : ℕ) (c : List ℕ) → t ≤ moment mid → image mid c → left_since mid t c) → at + count ≤ all
      → LeavesOnly moment left_since old mid (IsTornFrom (image old) 0 all) → LeavesOnly moment left_since mid new (IsTornFrom (image mid) at count)
      → LeavesOnly moment left_since old new (IsTornFrom (image old) 0 all)
  torn_more old mid new at count all counts_now le first second =
      let now = holds_now image moment left_since old mid _ counts_now first in
      joined image moment left_since old mid new (IsTornFrom (image old) 0 all) first
      (weaker image moment left_since mid new (IsTornFrom (image mid) at count) _
      (λ c (m, here, step). let before = now m here in (before.0, before.1, torn_then before.0 m c all at count all (omega arith) le before.2 step)) second)

  -- and then the record
  pub anew_run : (old mid new : D) (first count all : ℕ) → ((t : ℕ) (c : List ℕ) → t ≤ moment mid → image mid c → left_since mid t c) → first ≤ all → 17 + count ≤ all
      → LeavesOnly moment left_since old mid (IsTornFrom (image old) 0 first) → LeavesOnly moment left_since mid new (IsTornFrom (image mid) 17 count)
      → LeavesOnly moment left_since old new (IsTornFrom (image old) 0 all)
  anew_run old mid new first count all counts_now le within one_run two_run =
      torn_more old mid new 17 count all counts_now within (begun_torn old mid first all le one_run) two_run

  -- the same from a disk that can't leave anything: nothing is left at any moment of the torn write
  pub nothing_visible : (old mid new : D) (all : ℕ) → ((c : List ℕ) → left_since old (moment old) c → image old c) → OnlyReads image moment left_since old mid
      → EachImage (image mid) (λ _. ⊥) → LeavesOnly moment left_since mid new (IsTornFrom (image mid) 0 all)
      → LeavesOnly moment left_since old new (IsBeforeOpening (image old))
  nothing_visible old mid new all only_now reads none second =
      both image moment left_since old mid new (image old) (IsTornFrom (image mid) 0 all) (IsBeforeOpening (image old))
      (λ c was. inl was) (λ c (m, here, step). absurd (none m here))
      (reads_run image moment left_since old mid only_now reads) second

  -- calls that only read, and then such a run
  pub reads_then_torn : (old mid new : D) (all : ℕ) → ((c : List ℕ) → left_since old (moment old) c → image old c) → OnlyReads image moment left_since old mid
      → LeavesOnly moment left_since mid new (IsTornFrom (image mid) 0 all) → LeavesOnly moment left_since old new (IsTornFrom (image old) 0 all)
  reads_then_torn old mid new all only_now reads second =
      both image moment left_since old mid new (image old) (IsTornFrom (image mid) 0 all) (IsTornFrom (image old) 0 all)
      (λ c was. (c, was, torn_self c 0 all)) (λ c (m, here, step). (m, reads.images m here, step))
      (reads_run image moment left_since old mid only_now reads) second

  pub reads_torn : (old mid : D) (all : ℕ) → ((c : List ℕ) → left_since old (moment old) c → image old c) → OnlyReads image moment left_since old mid
      → LeavesOnly moment left_since old mid (IsTornFrom (image old) 0 all)
  reads_torn old mid all only_now reads =
      weaker image moment left_since old mid (image old) _ (λ c was. (c, was, torn_self c 0 all)) (reads_run image moment left_since old mid only_now reads)

-- a head alone is the prefix of a journal without records
pub head_is_prefix : (journal : JournalState) → IsKnownHead journal.format journal.epoch → journal.end ≡ 16 → IsJournalPrefix journal [] (encoded_head journal.format journal.epoch)
head_is_prefix journal known ends = record {
  known = known;
  spells = sym (append-nil (encoded_head journal.format journal.epoch));
  ends = length_head journal.format journal.epoch ∙ sym ends;
  short = λ k d lt. absurd (omega (arith, lt));
}

pub known_2 : (epoch : ℕ) → epoch ≤ 2 ^ 63 → IsKnownHead 2 epoch
known_2 epoch most = record { either = inr refl; most = most; old = λ is. absurd (omega (arith, is)) }

-- with its gate open the journal clean behind the first record
pub clean_first : (images : List ℕ → Type 0) (next : JournalState) (epoch : ℕ) (body : List ℕ) → epoch ≤ 2 ^ 63 → IsShort body → EachImage images (IsGated (encoded_head 2 epoch) 1 (framed_of body))
    → next.format ≡ 2 → next.epoch ≡ epoch → next.end ≡ 16 + length (framed_of body) → next.doubt ≡ false → IsClean images next (body ∷ [])
clean_first images next epoch body most short gated format is_epoch ends certain =
    let before : JournalState = record { end = 16; doubt = false; format = 2; epoch = epoch } in
    clean_behind before [] (encoded_head 2 epoch) (head_is_prefix before (known_2 epoch most) refl) images next body short gated format is_epoch ends certain

-- a head and a closed gate, written to the beginning of a disk
pub closed_from : (content : Option (List ℕ)) (epoch : ℕ) (bytes c : List ℕ) → epoch ≤ 2 ^ 63 → bytes ≡ encoded_head 2 epoch ++ 0 ∷ [] → IsOverwritten content 0 bytes c → IsClosedImage c
closed_from content epoch bytes c most is over =
    let begun = begins (encoded_head 2 epoch) bytes over.0 0 is in record {
      format = 2;
      epoch = epoch;
      known = known_2 epoch most;
      closed = (begun.0, over.2 ∙ begun.1);
    }

-- on an empty disk there is nothing else
pub closed_alone : (content : Option (List ℕ)) (epoch : ℕ) (bytes c : List ℕ) → IfVisible content (λ b. b ≡ []) → bytes ≡ encoded_head 2 epoch ++ 0 ∷ [] → IsOverwritten content 0 bytes c → IsClosedHead epoch c
closed_alone content epoch bytes c empty is (was, held, over) =
    over ∙ ap (λ (l : List ℕ). overwritten 0 bytes l) (empty was held)
    ∙ ap (λ (l : List ℕ). bytes ++ l) (drop_all (0 + length bytes) [] (omega arith)) ∙ append-nil bytes ∙ is
