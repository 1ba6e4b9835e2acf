-- Lists of bytes that are equal have equal parts.
use Rattle.std.proofs.Common.{◌≡◌, ℕ, ◌+◌, ◌<◌, ◌^◌, List, [], ◌∷◌, ◌++◌, length, take, drop, refl, sym, ◌∙◌, ap, rules, arith, append_assoc, length-append}
use Rattle.std.proofs.lemmas.List.{take_at, drop_at}
use Rattle.std.proofs.lemmas.Nat.{from_be_bytes-to_be_bytes_8}
use Rattle.std.specs.Int.{to_be_bytes, from_be_bytes, w64}
use Rattle.journal_log.specs.Frames.{sized}
use Rattle.journal_log.specs.Heads.{encoded_head, IsKnownHead}

pub first_is : (a b : ℕ) (xs ys : List ℕ) → a ∷ xs ≡ b ∷ ys → a ≡ b
first_is a b xs ys is = search rules

pub rest_is : (a b : ℕ) (xs ys : List ℕ) → a ∷ xs ≡ b ∷ ys → xs ≡ ys
rest_is a b xs ys is = search rules

pub parts_are : (a b xs ys : List ℕ) → length a ≡ length b → a ++ xs ≡ b ++ ys → (a ≡ b) × (xs ≡ ys)
parts_are a b xs ys same is = (
  sym (take_at a xs (length a) refl) ∙ ap (λ (l : List ℕ). take (length a) l) is ∙ take_at b ys (length a) (sym same),
  sym (drop_at a xs (length a) refl) ∙ ap (λ (l : List ℕ). drop (length a) l) is ∙ drop_at b ys (length a) (sym same),
)

pub length_be : (n : ℕ) → length (to_be_bytes w64 n) ≡ 8
length_be n = search rules

-- eight bytes are those of one number
pub number_is : (m n : ℕ) → m < 2 ^ 64 → n < 2 ^ 64 → to_be_bytes w64 m ≡ to_be_bytes w64 n → m ≡ n
number_is m n small_m small_n is = sym (from_be_bytes-to_be_bytes_8 m small_m) ∙ ap (from_be_bytes w64) is ∙ from_be_bytes-to_be_bytes_8 n small_n

pub length_sized : (body : List ℕ) → length (sized body) ≡ 8 + length body
unfolding sized
length_sized body = omega (arith, length-append (to_be_bytes w64 (length body)) body, length_be (length body))

-- the length before a record says where it ends
pub sized_are : (a b xs ys : List ℕ) → length a < 2 ^ 64 → length b < 2 ^ 64 → sized a ++ xs ≡ sized b ++ ys → (a ≡ b) × (xs ≡ ys)
unfolding sized
sized_are a b xs ys short_a short_b is =
    let apart : to_be_bytes w64 (length a) ++ (a ++ xs) ≡ to_be_bytes w64 (length b) ++ (b ++ ys) = sym (append_assoc (to_be_bytes w64 (length a)) a xs) ∙ is ∙ append_assoc (to_be_bytes w64 (length b)) b ys in
    let both = parts_are (to_be_bytes w64 (length a)) (to_be_bytes w64 (length b)) (a ++ xs) (b ++ ys) (length_be (length a) ∙ sym (length_be (length b))) apart in
    parts_are a b xs ys (number_is (length a) (length b) short_a short_b both.0) both.1

pub length_head : (format epoch : ℕ) → length (encoded_head format epoch) ≡ 16
unfolding encoded_head
length_head format epoch = omega (arith, length-append (80 ∷ 79 ∷ 68 ∷ 74 ∷ 82 ∷ 78 ∷ 76 ∷ (48 + format) ∷ []) (to_be_bytes w64 epoch), length_be epoch)

-- a head says its format and its epoch
pub heads_are : (format format_2 epoch epoch_2 : ℕ) (xs ys : List ℕ) → IsKnownHead format epoch → IsKnownHead format_2 epoch_2
    → encoded_head format epoch ++ xs ≡ encoded_head format_2 epoch_2 ++ ys → (format ≡ format_2) × (epoch ≡ epoch_2) × (xs ≡ ys)
unfolding encoded_head
heads_are format format_2 epoch epoch_2 xs ys known known_2 is =
    let whole = parts_are (encoded_head format epoch) (encoded_head format_2 epoch_2) xs ys (length_head format epoch ∙ sym (length_head format_2 epoch_2)) is in
    let both = parts_are (80 ∷ 79 ∷ 68 ∷ 74 ∷ 82 ∷ 78 ∷ 76 ∷ (48 + format) ∷ []) (80 ∷ 79 ∷ 68 ∷ 74 ∷ 82 ∷ 78 ∷ 76 ∷ (48 + format_2) ∷ []) (to_be_bytes w64 epoch) (to_be_bytes w64 epoch_2) refl whole.0 in
    let digit : 48 + format ≡ 48 + format_2 = ap last_digit both.0 in
    (omega (arith, digit), number_is epoch epoch_2 (omega (arith, known.most)) (omega (arith, known_2.most)) both.1, whole.1)
  where
    last_digit : List ℕ → ℕ
    last_digit (a ∷ b ∷ c ∷ d ∷ e ∷ f ∷ g ∷ h ∷ rest) = h
    last_digit other = 0
