-- The sixteen bytes of a head.
use Rattle.std.proofs.Common.{◌≡◌, ◌≢◌, ⊎_elim, ℕ, ◌+◌, ◌<◌, ◌^◌, List, [], ◌∷◌, ◌++◌, length, take, drop, refl, sym, ◌∙◌, ap, subst, arith, append_assoc, length-append, take-append-drop}
use Rattle.std.proofs.lemmas.List.{take_at, drop_at, drop-drop, take-take, append-nil}
use Rattle.std.specs.Int.{to_be_bytes, w64}
use Rattle.journal_log.specs.Heads.{mark_of, encoded_head, IsKnownHead, NoHead}
use Rattle.journal_log.proofs.Splits.{length_be, length_head, number_is}

pub head_parts : (bytes rest : List ℕ) (format epoch : ℕ) → bytes ≡ encoded_head format epoch ++ rest
    → (take 8 bytes ≡ mark_of format) × (take 8 (drop 8 bytes) ≡ to_be_bytes w64 epoch)
unfolding encoded_head
head_parts bytes rest format epoch is =
    let whole : bytes ≡ mark_of format ++ (to_be_bytes w64 epoch ++ rest) = is ∙ append_assoc (mark_of format) (to_be_bytes w64 epoch) rest in (
      ap (λ (l : List ℕ). take 8 l) whole ∙ take_at (mark_of format) (to_be_bytes w64 epoch ++ rest) 8 refl,
      ap (λ (l : List ℕ). take 8 (drop 8 l)) whole ∙ ap (λ (l : List ℕ). take 8 l) (drop_at (mark_of format) (to_be_bytes w64 epoch ++ rest) 8 refl)
          ∙ take_at (to_be_bytes w64 epoch) rest 8 (length_be epoch),
    )

pub head_whole : (bytes : List ℕ) (format epoch : ℕ) → take 8 bytes ≡ mark_of format → to_be_bytes w64 epoch ≡ take 8 (drop 8 bytes)
    → bytes ≡ encoded_head format epoch ++ drop 16 bytes
unfolding encoded_head
head_whole bytes format epoch mark spelled =
    sym (take-append-drop 8 bytes)
    ∙ ap (λ (l : List ℕ). l ++ drop 8 bytes) mark
    ∙ ap (λ (l : List ℕ). mark_of format ++ l) (sym (take-append-drop 8 (drop 8 bytes)) ∙ ap (λ (l : List ℕ). l ++ drop 8 (drop 8 bytes)) (sym spelled) ∙ ap (λ (l : List ℕ). to_be_bytes w64 epoch ++ l) (drop-drop 8 8 bytes))
    ∙ sym (append_assoc (mark_of format) (to_be_bytes w64 epoch) (drop 16 bytes))

pub no_head_short : (bytes : List ℕ) → length bytes < 16 → NoHead bytes
no_head_short bytes few format epoch rest known is = omega (arith, few, ap length is, length-append (encoded_head format epoch) rest, length_head format epoch)

pub no_head_mark : (bytes : List ℕ) → take 8 bytes ≢ mark_of 1 → take 8 bytes ≢ mark_of 2 → NoHead bytes
no_head_mark bytes not_1 not_2 format epoch rest known is =
    let mark = (head_parts bytes rest format epoch is).0 in
    ⊎_elim (λ one. not_1 (mark ∙ ap mark_of one)) (λ two. not_2 (mark ∙ ap mark_of two)) known.either

last_digit : List ℕ → ℕ
last_digit (a ∷ b ∷ c ∷ d ∷ e ∷ f ∷ g ∷ h ∷ rest) = h
last_digit other = 0

pub no_head_epoch : (bytes : List ℕ) (format epoch : ℕ) → take 8 bytes ≡ mark_of format → epoch < 2 ^ 64 → to_be_bytes w64 epoch ≡ take 8 (drop 8 bytes)
    → (IsKnownHead format epoch → ⊥) → NoHead bytes
unfolding last_digit
no_head_epoch bytes format epoch mark small spelled unknown format_2 epoch_2 rest known is =
    let parts = head_parts bytes rest format_2 epoch_2 is in
    let digit : 48 + format ≡ 48 + format_2 = ap last_digit (sym mark ∙ parts.0) in
    let same : format_2 ≡ format = omega (arith, digit) in
    let numbers : epoch_2 ≡ epoch = number_is epoch_2 epoch (omega (arith, known.most)) small (sym parts.1 ∙ sym spelled) in
    unknown (subst (λ (n : ℕ). IsKnownHead n epoch) same (subst (λ (n : ℕ). IsKnownHead format_2 n) numbers known))

-- what sixteen bytes say, said of all
pub no_head_prefix : (bytes : List ℕ) → NoHead (take 16 bytes) → NoHead bytes
no_head_prefix bytes none format epoch rest known is =
    none format epoch [] known (ap (λ (l : List ℕ). take 16 l) is ∙ take_at (encoded_head format epoch) rest 16 (length_head format epoch) ∙ sym (append-nil (encoded_head format epoch)))

pub head_prefix : (bytes all rest : List ℕ) (format epoch : ℕ) → bytes ≡ take 16 all → bytes ≡ encoded_head format epoch ++ rest → all ≡ encoded_head format epoch ++ drop 16 all
head_prefix bytes all rest format epoch taken is =
    let head : take 16 all ≡ encoded_head format epoch =
    sym (take-take 16 16 all (omega arith)) ∙ ap (λ (l : List ℕ). take 16 l) (sym taken ∙ is) ∙ take_at (encoded_head format epoch) rest 16 (length_head format epoch) in
    sym (take-append-drop 16 all) ∙ ap (λ (l : List ℕ). l ++ drop 16 all) head
