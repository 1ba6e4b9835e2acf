-- What a torn write leaves of bytes that stand before and behind its range.
use Rattle.std.proofs.Common.{◌≡◌, ℕ, ◌+◌, ◌≤◌, min, List, ◌++◌, length, take, drop, refl, sym, ◌∙◌, ap, arith, append_assoc, length-append, take-append-drop}
use Rattle.std.proofs.lemmas.List.{take_at, drop_at, take-take, length-take-le, length-drop, drop-drop}
use Rattle.pod_disk.specs.Disk.{Torn, overwritten}

-- what stands before the offset stays
pub torn_before : (front rest c : List ℕ) (at n : ℕ) → length front ≤ at → Torn at n (front ++ rest) c → c ≡ front ++ drop (length front) c
torn_before front rest c at n le torn =
    let size : length front ≤ min at (length (front ++ rest)) = omega (arith, le, length-append front rest) in
    let same : take (length front) c ≡ front =
    sym (take-take (length front) (min at (length (front ++ rest))) c size)
    ∙ ap (λ (l : List ℕ). take (length front) l) torn.before
    ∙ take-take (length front) at (front ++ rest) le
    ∙ take_at front rest (length front) refl in
    sym (take-append-drop (length front) c) ∙ ap (λ (l : List ℕ). l ++ drop (length front) c) same

-- of a range inside the file, only the range may change
pub torn_inside : (front middle behind c : List ℕ) → Torn (length front) (length middle) (front ++ (middle ++ behind)) c
    → (any : List ℕ) × (length any ≡ length middle) × (c ≡ front ++ (any ++ behind))
torn_inside front middle behind c torn =
    let whole : length (front ++ (middle ++ behind)) ≡ length front + (length middle + length behind) = omega (arith, length-append front (middle ++ behind), length-append middle behind) in
    let size : length c ≡ length front + (length middle + length behind) = omega (arith, whole, torn.no_shorter, torn.no_longer) in
    let after = drop (length front) c in
    let rest : drop (length middle) after ≡ behind =
    drop-drop (length middle) (length front) c ∙ torn.behind ∙ sym (drop-drop (length middle) (length front) (front ++ (middle ++ behind)))
    ∙ ap (λ (l : List ℕ). drop (length middle) l) (drop_at front (middle ++ behind) (length front) refl)
    ∙ drop_at middle behind (length middle) refl in
    let split : after ≡ take (length middle) after ++ behind = sym (take-append-drop (length middle) after) ∙ ap (λ (l : List ℕ). take (length middle) after ++ l) rest in (
      take (length middle) after,
      length-take-le (length middle) after (omega (arith, size, length-drop (length front) c)),
      torn_before front (middle ++ behind) c (length front) (length middle) (omega arith) torn ∙ ap (λ (l : List ℕ). front ++ l) split,
    )

-- what a whole write makes of them
pub overwritten_at : (front rest bytes : List ℕ) → overwritten (length front) bytes (front ++ rest) ≡ front ++ (bytes ++ drop (length bytes) rest)
overwritten_at front rest bytes =
    ap (λ (l : List ℕ). l ++ bytes ++ drop (length front + length bytes) (front ++ rest)) (take_at front rest (length front) refl)
    ∙ ap (λ (l : List ℕ). front ++ bytes ++ l) (sym (drop-drop (length bytes) (length front) (front ++ rest)) ∙ ap (λ (l : List ℕ). drop (length bytes) l) (drop_at front rest (length front) refl))
    ∙ append_assoc front bytes (drop (length bytes) rest)
