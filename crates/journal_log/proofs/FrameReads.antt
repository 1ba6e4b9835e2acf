-- What the bytes from a gate on say of its frame.
use Rattle.std.proofs.Common.{◌≡◌, ◌≢◌, inl, inr, ⊎_elim, ℕ, ◌+◌, ◌<◌, ◌≤◌, ◌^◌, List, ◌∷◌, ◌++◌, length, take, drop, get_or, refl, sym, ◌∙◌, ap, arith, append_assoc, length-append, take-append-drop}
use Rattle.std.proofs.lemmas.List.{take_at, drop-drop, drop_more, length-drop}
use Rattle.std.specs.Int.{to_be_bytes, w64}
use Rattle.journal_log.specs.Frames.{sized, BeginsWithClosedGate, IsFrame, IsBroken}
use Rattle.journal_log.specs.Scanning.{IsByteAt, IsRecord}
use Rattle.journal_log.proofs.Splits.{first_is, rest_is, length_be, length_sized, number_is, sized_are}

-- an open gate isn't the end
pub open_is_no_end : (bytes rest : List ℕ) (gate : ℕ) → bytes ≡ gate ∷ rest → gate ≢ 0 → BeginsWithClosedGate bytes → ⊥
open_is_no_end bytes rest gate is other (more, end) = other (first_is gate 0 _ _ (sym is ∙ end))

-- ten bytes are the least that an open gate and its record have
pub short_is_broken : (bytes rest : List ℕ) (gate : ℕ) → bytes ≡ gate ∷ rest → gate ≢ 0 → length bytes < 10 → IsBroken bytes
short_is_broken bytes rest gate is other few = (
  open_is_no_end bytes rest gate is other,
  λ body frame. omega (arith, few, ap length frame.spells, length-append (sized body) (frame.next ∷ frame.rest), length_sized body),
)

length_is : (body bytes : List ℕ) (P : List ℕ → Type 0) (frame : IsFrame body P bytes) → take 8 (drop 1 bytes) ≡ to_be_bytes w64 (length body)
unfolding sized
length_is body bytes P frame =
    ap (λ (l : List ℕ). take 8 (drop 1 l)) frame.spells
    ∙ ap (λ (l : List ℕ). take 8 l) (append_assoc (to_be_bytes w64 (length body)) body (frame.next ∷ frame.rest))
    ∙ take_at (to_be_bytes w64 (length body)) (body ++ (frame.next ∷ frame.rest)) 8 (length_be (length body))

-- the length says that there are more
pub long_is_broken : (bytes rest : List ℕ) (gate len : ℕ) → bytes ≡ gate ∷ rest → gate ≢ 0 → len < 2 ^ 64 → to_be_bytes w64 len ≡ take 8 (drop 1 bytes) → length bytes < len + 10 → IsBroken bytes
long_is_broken bytes rest gate len is other small number few = (
  open_is_no_end bytes rest gate is other,
  λ body frame.
      let same : len ≡ length body = number_is len (length body) small frame.short (number ∙ length_is body bytes (λ _. Unit {0}) frame) in
      omega (arith, few, same, ap length frame.spells, length-append (sized body) (frame.next ∷ frame.rest), length_sized body),
)

-- the next gate, behind a gate that is neither 0 nor 1, isn't 0
pub next_is_broken : (bytes body rest : List ℕ) (gate next : ℕ) → bytes ≡ gate ∷ (sized body ++ (next ∷ rest)) → gate ≢ 0 → gate ≢ 1 → next ≢ 0 → length body < 2 ^ 64 → IsBroken bytes
next_is_broken bytes body rest gate next is other not_1 not_0 short = (
  open_is_no_end bytes (sized body ++ (next ∷ rest)) gate is other,
  λ body_2 frame.
      let both = sized_are body body_2 (next ∷ rest) (frame.next ∷ frame.rest) short frame.short (rest_is gate frame.gate _ _ (sym is ∙ frame.spells)) in
      let gates : gate ≡ frame.gate = first_is gate frame.gate _ _ (sym is ∙ frame.spells) in
      ⊎_elim (λ one. not_1 (gates ∙ one)) (λ none. not_0 (first_is next frame.next _ _ both.1 ∙ none)) frame.last,
)

-- the gate, the length and the body, and what is behind them
pub record_spells : (bytes body : List ℕ) (gate len : ℕ) → bytes ≡ gate ∷ (to_be_bytes w64 len ++ drop 9 bytes) → body ≡ take len (drop 9 bytes) → length body ≡ len
    → bytes ≡ gate ∷ (sized body ++ drop (9 + len) bytes)
unfolding sized
record_spells bytes body gate len is taken size =
    is ∙ ap (λ (l : List ℕ). gate ∷ l) (
    ap (λ (l : List ℕ). to_be_bytes w64 len ++ l) (sym (take-append-drop len (drop 9 bytes)) ∙ ap (λ (l : List ℕ). l ++ drop len (drop 9 bytes)) (sym taken) ∙ ap (λ (l : List ℕ). body ++ l) (drop-drop len 9 bytes))
    ∙ sym (append_assoc (to_be_bytes w64 len) body (drop (9 + len) bytes))
    ∙ ap (λ (n : ℕ). to_be_bytes w64 n ++ body ++ drop (9 + len) bytes) (sym size))

module _ (disk body : List ℕ) (at gate len : ℕ) (is : drop at disk ≡ gate ∷ (to_be_bytes w64 len ++ drop 9 (drop at disk))) (taken : body ≡ take len (drop (at + 9) disk)) (size : length body ≡ len) where
  spells : drop at disk ≡ gate ∷ (sized body ++ drop (9 + len) (drop at disk))
  spells = record_spells (drop at disk) body gate len is (taken ∙ ap (λ (l : List ℕ). take len l) (sym (drop-drop 9 at disk))) size

  -- behind a gate 1, whatever gate is next
  pub is_record : gate ≡ 1 → at + len + 10 ≤ length disk → IsRecord gate body (drop at disk)
  is_record one within =
      let enough : 9 + len < length (drop at disk) = omega (arith, within, length-drop at disk) in
      record {
        next = get_or (drop at disk) (9 + len) 0;
        rest = drop (9 + len + 1) (drop at disk);
        spells = spells ∙ ap (λ (l : List ℕ). gate ∷ (sized body ++ l)) (drop_more (drop at disk) (9 + len) 0 enough);
        last = inl one;
      }

  at_next : (next : ℕ) → IsByteAt (at + 9 + len) disk next → drop at disk ≡ gate ∷ (sized body ++ (next ∷ drop (at + 9 + len + 1) disk))
  at_next next byte = spells ∙ ap (λ (l : List ℕ). gate ∷ (sized body ++ l)) (drop-drop (9 + len) at disk ∙ ap (λ (n : ℕ). drop n disk) (omega arith) ∙ byte)

  -- behind another one, with a next gate 0
  pub is_last_record : IsByteAt (at + 9 + len) disk 0 → IsRecord gate body (drop at disk)
  is_last_record byte = record { next = 0; rest = drop (at + 9 + len + 1) disk; spells = at_next 0 byte; last = inr refl }

  -- and with another
  pub is_no_record : (next : ℕ) → gate ≢ 0 → gate ≢ 1 → next ≢ 0 → length body < 2 ^ 64 → IsByteAt (at + 9 + len) disk next → IsBroken (drop at disk)
  is_no_record next other not_1 not_0 short byte = next_is_broken (drop at disk) body (drop (at + 9 + len + 1) disk) gate next (at_next next byte) other not_1 not_0 short
