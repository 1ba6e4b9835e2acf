-- A language tag in lower case is a language tag.
use Rattle.std.proofs.Common.{◌≡◌, ℕ, zero, suc, ◌<◌, Bool, true, false, not, ltb, List, [], ◌∷◌, ◌++◌, codes, drop, map, refl, sym, ap, subst, ◌∙◌, arith, inl, inr}
use Rattle.std.specs.Char.{IsScalar, to_ascii_lowercase, is_ascii_alphabetic, is_ascii_alphanumeric}
use Rattle.std.proofs.Math.Utf8.{low_scalar}
use Rattle.std.proofs.lemmas.Bool.{ltb-true}
use Rattle.std.proofs.lemmas.Bool.Decides.{nat_tests}
use Rattle.std.proofs.lemmas.List.{map-append}
use Rattle.std.proofs.lemmas.Str.{encode_ascii}
use Rattle.std.proofs.lemmas.Str.Ascii.{lowercase_ascii, lowercase-lowercase}
use Rattle.turtle_lex.specs.Laws.{IsTextOf}
use Rattle.turtle_lex.specs.Pattern.{Pattern, word, any_case, one, number, many, ◌∘◌, ◌∣◌, Matches, Times}
use Rattle.turtle_lex.specs.Terminals.{lang_tag}
use Rattle.turtle_lex.proofs.FirstBytes.{below, none_below}

abbrev lower : List ℕ → List ℕ
lower text = map to_ascii_lowercase text

-- In lower case, what the pattern matches is of the pattern.
abbrev IsKeptByLower : Pattern → Type 0
IsKeptByLower (word w) = lower w ≡ w
IsKeptByLower (any_case w) = ⊥
IsKeptByLower (one test) = (c : ℕ) → test c ≡ true → (c < 128) × (test (to_ascii_lowercase c) ≡ true)
IsKeptByLower (number n) = ⊥
IsKeptByLower (p ∘ q) = IsKeptByLower p × IsKeptByLower q
IsKeptByLower (p ∣ q) = IsKeptByLower p × IsKeptByLower q
IsKeptByLower (many p) = IsKeptByLower p

abbrev Lowers : (List ℕ → List ℕ → Type 0) → Type 0
Lowers R = (s r : List ℕ) → R s r → R (lower s) (lower r)

times_lower : (R : List ℕ → List ℕ → Type 0) → Lowers R → (n : ℕ) → Lowers (Times R n)
times_lower R h zero s r e = ap lower e
times_lower R h (suc n) s r (m, x, y) = (lower m, h s m x, times_lower R h n m r y)

scalar_ascii : (c : ℕ) → c < 128 → IsScalar c
scalar_ascii c small = low_scalar c (omega (arith, small))

one_lower : (test : ℕ → Bool) → IsKeptByLower (one test) → Lowers (Matches (one test))
one_lower test kept s r (c, scalar, passes, whole) =
    let (small, lowered) = kept c passes in
    let d : ℕ = to_ascii_lowercase c in
    let low = lowercase_ascii c small in (
      d,
      scalar_ascii d low,
      lowered,
      ap lower (whole ∙ ap (λ (x : List ℕ). x ++ r) (encode_ascii c small)) ∙ ap (λ (x : List ℕ). x ++ lower r) (sym (encode_ascii d low)),
    )

matches_lower : (p : Pattern) → IsKeptByLower p → Lowers (Matches p)
matches_lower (word w) kept s r e = ap lower e ∙ map-append to_ascii_lowercase w r ∙ ap (λ (x : List ℕ). x ++ lower r) kept
matches_lower (any_case w) kept s r x = absurd kept
matches_lower (one test) kept s r x = one_lower test kept s r x
matches_lower (number n) kept s r x = absurd kept
matches_lower (p ∘ q) kept s r (m, x, y) = (lower m, matches_lower p kept.0 s m x, matches_lower q kept.1 m r y)
matches_lower (p ∣ q) kept s r (inl x) = inl (matches_lower p kept.0 s r x)
matches_lower (p ∣ q) kept s r (inr x) = inr (matches_lower q kept.1 s r x)
matches_lower (many p) kept s r (n, x) = (n, times_lower (Matches p) (matches_lower p kept) n s r x)

-- ---- tags

-- a test that the ASCII characters alone pass, each in lower case too
kept_one : (test : ℕ → Bool) → ((c : ℕ) → test c ≡ true → ltb c 128 ≡ true) → none_below test (λ c. not (test (to_ascii_lowercase c))) 128 ≡ true → IsKeptByLower (one test)
kept_one test low all c passes = (small, by (test (to_ascii_lowercase c)) refl)
  where
    small : c < 128
    small = ltb-true c 128 (low c passes)

    by : (b : Bool) → test (to_ascii_lowercase c) ≡ b → test (to_ascii_lowercase c) ≡ true
    by true is = is
    by false is = absurd (below test (λ c. not (test (to_ascii_lowercase c))) 128 c all small passes (ap not is))

alphabetic_low : (c : ℕ) → is_ascii_alphabetic c ≡ true → ltb c 128 ≡ true
alphabetic_low c h = grind (arith, nat_tests)

alphanumeric_low : (c : ℕ) → is_ascii_alphanumeric c ≡ true → ltb c 128 ≡ true
alphanumeric_low c h = grind (arith, nat_tests)

alphabetic_kept : IsKeptByLower (one is_ascii_alphabetic)
alphabetic_kept = kept_one is_ascii_alphabetic alphabetic_low refl

alphanumeric_kept : IsKeptByLower (one is_ascii_alphanumeric)
alphanumeric_kept = kept_one is_ascii_alphanumeric alphanumeric_low refl

tag_kept : IsKeptByLower lang_tag
unfolding lang_tag
tag_kept = (refl, ((alphabetic_kept, alphabetic_kept), (refl, (alphanumeric_kept, alphanumeric_kept))))

pub tag_in_lower_case : (text : List ℕ) → IsTextOf lang_tag text → IsTextOf lang_tag (codes "@" ++ lower (drop 1 text))
unfolding lang_tag
tag_in_lower_case text x =
    let lowered : Matches lang_tag (lower text) [] = matches_lower lang_tag tag_kept text [] x in
    let begun : text ≡ 64 ∷ x.0 = x.1 in
    let same : lower text ≡ codes "@" ++ lower (drop 1 text) = ap lower begun ∙ ap (λ (t : List ℕ). 64 ∷ lower (drop 1 t)) (sym begun) in
    subst (λ (t : List ℕ). Matches lang_tag t []) same lowered

pub stays_lower : (text : List ℕ) → lower (lower text) ≡ lower text
stays_lower [] = refl
stays_lower (c ∷ cs) = ap (λ (d : ℕ). d ∷ lower (lower cs)) (lowercase-lowercase c) ∙ ap (λ (ds : List ℕ). to_ascii_lowercase c ∷ ds) (stays_lower cs)
