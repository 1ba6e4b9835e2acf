-- What the two writes of an append make of an image.
use Rattle.std.proofs.Common.{◌≡◌, inl, inr, take, ℕ, ◌+◌, List, [], ◌∷◌, ◌++◌, length, drop, refl, sym, ◌∙◌, ap, subst, arith, append_assoc, length-append}
use Rattle.std.proofs.lemmas.List.{drop_at, take_all}
use Rattle.std.proofs.lemmas.Bool.{cases_lt}
use Rattle.pod_disk.specs.Disk.{Torn, overwritten}
use Rattle.journal_log.specs.Gates.{IsFirstGateClosed, IsClosed, IsGated, IsOpening}
use Rattle.pod_disk.proofs.TornWrites.{torn_before, torn_inside, overwritten_at}

length-gate : (prefix : List ℕ) → length (prefix ++ 0 ∷ []) ≡ length prefix + 1
length-gate prefix = length-append prefix (0 ∷ [])

-- a write behind a closed gate leaves it closed
pub closed_behind : (prefix d c : List ℕ) (at n : ℕ) → length prefix + 1 ≡ at → Torn at n d c → IsClosed prefix d → IsClosed prefix c
closed_behind prefix d c at n is torn closed =
    let apart : d ≡ (prefix ++ 0 ∷ []) ++ closed.0 = closed.1 ∙ sym (append_assoc prefix (0 ∷ []) closed.0) in
    let rest = drop (length (prefix ++ 0 ∷ [])) c in (
      rest,
      torn_before (prefix ++ 0 ∷ []) closed.0 c at n (omega (arith, length-gate prefix)) (subst (λ (l : List ℕ). Torn at n l c) apart torn)
          ∙ append_assoc prefix (0 ∷ []) rest,
    )

-- behind a gate, the bytes stand there where they are written
pub written_after : (prefix framed d rest : List ℕ) (at gate : ℕ) → length prefix + 1 ≡ at → d ≡ prefix ++ (gate ∷ rest) → IsGated prefix gate framed (overwritten at framed d)
written_after prefix framed d rest at gate is stands =
    let apart : d ≡ (prefix ++ gate ∷ []) ++ rest = stands ∙ sym (append_assoc prefix (gate ∷ []) rest) in
    let size : length (prefix ++ gate ∷ []) ≡ at = length-append prefix (gate ∷ []) ∙ is in
    let more = drop (length framed) rest in (
      more,
      ap (λ (n : ℕ). overwritten n framed d) (sym size)
          ∙ ap (λ (l : List ℕ). overwritten (length (prefix ++ gate ∷ [])) framed l) apart
          ∙ overwritten_at (prefix ++ gate ∷ []) rest framed
          ∙ append_assoc prefix (gate ∷ []) (framed ++ more),
    )

-- behind a closed gate too
pub written_behind : (prefix framed d : List ℕ) (at : ℕ) → length prefix + 1 ≡ at → IsClosed prefix d → IsGated prefix 0 framed (overwritten at framed d)
written_behind prefix framed d at is closed = written_after prefix framed d closed.0 at 0 is closed.1

-- one byte, whatever it is
pub one : (any : List ℕ) → length any ≡ 1 → (gate : ℕ) × (any ≡ gate ∷ [])
one [] is = absurd (omega arith)
one (gate ∷ []) is = (gate, refl)
one (gate ∷ a ∷ any) is = absurd (omega arith)

-- a write of the gate leaves any byte before the same bytes
pub torn_gate : (prefix framed d c : List ℕ) (at old : ℕ) → length prefix ≡ at → Torn at 1 d c → (gated : IsGated prefix old framed d) → (byte : ℕ) × (c ≡ prefix ++ (byte ∷ framed ++ gated.0))
torn_gate prefix framed d c at old is torn gated =
    let there : Torn (length prefix) 1 (prefix ++ ((old ∷ []) ++ (framed ++ gated.0))) c = subst (λ (n : ℕ). Torn n 1 (prefix ++ ((old ∷ []) ++ (framed ++ gated.0))) c) (sym is) (subst (λ (l : List ℕ). Torn at 1 l c) gated.1 torn) in
    let inside = torn_inside prefix (old ∷ []) (framed ++ gated.0) c there in
    let gate = one inside.0 inside.1 in
    (gate.0, inside.2 ∙ ap (λ (l : List ℕ). prefix ++ (l ++ (framed ++ gated.0))) gate.1)

pub torn_opening : (prefix framed d c : List ℕ) (at : ℕ) → length prefix ≡ at → Torn at 1 d c → IsOpening prefix framed d → IsOpening prefix framed c
torn_opening prefix framed d c at is torn (old, gated) =
    let gate = torn_gate prefix framed d c at old is torn gated in
    (gate.0, (gated.0, gate.1))

-- and that gate where it is done
pub written_gate : (prefix framed d : List ℕ) (at gate : ℕ) → length prefix ≡ at → IsOpening prefix framed d → IsGated prefix gate framed (overwritten at (gate ∷ []) d)
written_gate prefix framed d at gate is (old, gated) = (
  gated.0,
  ap (λ (n : ℕ). overwritten n (gate ∷ []) d) (sym is)
      ∙ ap (λ (l : List ℕ). overwritten (length prefix) (gate ∷ []) l) gated.1
      ∙ overwritten_at prefix (old ∷ (framed ++ gated.0)) (gate ∷ []),
)

-- a write of the head leaves the first gate closed
pub torn_head : (d c : List ℕ) → Torn 0 16 d c → IsFirstGateClosed d → IsFirstGateClosed c
torn_head d c torn (head, whole, closed) =
    let there : Torn 0 (length head) (head ++ (0 ∷ closed.0)) c = subst (λ (n : ℕ). Torn 0 n (head ++ (0 ∷ closed.0)) c) (sym whole) (subst (λ (l : List ℕ). Torn 0 16 l c) closed.1 torn) in
    let inside = torn_inside [] head (0 ∷ closed.0) c there in
    (inside.0, inside.1 ∙ whole, (closed.0, inside.2))

pub written_head : (head d : List ℕ) → length head ≡ 16 → IsFirstGateClosed d → IsClosed head (overwritten 0 head d)
written_head head d whole (old, was, closed) = (
  closed.0,
  ap (λ (l : List ℕ). overwritten 0 head l) closed.1
      ∙ overwritten_at [] (old ++ (0 ∷ closed.0)) head
      ∙ ap (λ (l : List ℕ). head ++ l) (drop_at old (0 ∷ closed.0) (length head) (was ∙ sym whole)),
)

pub first_closed_behind : (n : ℕ) (d c : List ℕ) → Torn 17 n d c → IsFirstGateClosed d → IsFirstGateClosed c
first_closed_behind n d c torn (head, whole, closed) = (head, whole, closed_behind head d c 17 n (omega (arith, whole)) torn closed)

-- a write that changed nothing
pub torn_self : (d : List ℕ) (at n : ℕ) → Torn at n d d
torn_self d at n = record {
  before = elim (cases_lt at (length d)) [
    | inl le ↦ ap (λ (m : ℕ). take m d) (omega (arith, le))
    | inr lt ↦ ap (λ (m : ℕ). take m d) (omega (arith, lt)) ∙ take_all (length d) d (omega arith) ∙ sym (take_all at d (omega (arith, lt)))
  ];
  behind = refl;
  no_shorter = omega arith;
  no_longer = omega arith;
}
