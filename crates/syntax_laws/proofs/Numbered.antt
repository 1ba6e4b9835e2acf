-- The label of an unnamed node is a label of Turtle, whatever its number.
use Rattle.std.proofs.Common.{◌≡◌, ℕ, zero, suc, ◌+◌, ◌/◌, ◌%◌, ◌<◌, Bool, true, false, ◌&&◌, cond, eqb, List, [], ◌∷◌, codes, length, refl, ap, ◌∙◌, arith}
use Rattle.std.specs.Prelude.{decimal}
use Rattle.std.proofs.lemmas.Bool.Decides.{nat_tests, Decides-ltb}
use Rattle.std.specs.Char.{is_ascii_digit}
use Rattle.std.specs.Fmt.{digits, digits_onto, digit_glyph}
use Rattle.std.specs.Str.{all_ascii_digits}
use Rattle.turtle_lex.specs.Laws.{IsTextOf}
use Rattle.turtle_lex.specs.Terminals.{label as label_text}
use Rattle.syntax_laws.proofs.Generated.{name_of_digits}
use Rattle.jsonld_expanded.specs.Nodes.{unnamed_label}

glyph_is : (d : ℕ) → d < 10 → digit_glyph false d ≡ 48 + d
glyph_is d lt = ap (λ (b : Bool). cond b (48 + d) (87 + d)) ((Decides-ltb d 10).1 lt)

is_digit : (d : ℕ) → d < 10 → is_ascii_digit (48 + d) ≡ true
is_digit d lt = grind (arith, nat_tests)

one_more : (c : ℕ) (cs : List ℕ) → is_ascii_digit c ≡ true → all_ascii_digits cs ≡ true → all_ascii_digits (c ∷ cs) ≡ true
one_more c cs h k = ap (λ (b : Bool). b && all_ascii_digits cs) h ∙ k

-- digits before digits
onto_digits : (k n : ℕ) (acc : List ℕ) → all_ascii_digits acc ≡ true → all_ascii_digits (digits_onto k 10 false n acc) ≡ true
onto_digits zero n acc h = h
onto_digits (suc k) n acc h = by_test (eqb (n / 10) 0) more (onto_digits k (n / 10) (digit_glyph false (n % 10) ∷ acc) more)
  where
    more : all_ascii_digits (digit_glyph false (n % 10) ∷ acc) ≡ true
    more = one_more (digit_glyph false (n % 10)) acc (ap is_ascii_digit (glyph_is (n % 10) (omega arith)) ∙ is_digit (n % 10) (omega arith)) h

    by_test : (b : Bool) → all_ascii_digits (digit_glyph false (n % 10) ∷ acc) ≡ true → all_ascii_digits (digits_onto k 10 false (n / 10) (digit_glyph false (n % 10) ∷ acc)) ≡ true
        → all_ascii_digits (cond b (digit_glyph false (n % 10) ∷ acc) (digits_onto k 10 false (n / 10) (digit_glyph false (n % 10) ∷ acc))) ≡ true
    by_test true one later = one
    by_test false one later = later

decimal_digits : (n : ℕ) → all_ascii_digits (decimal n) ≡ true
unfolding digits
decimal_digits n = onto_digits 64 n [] refl

-- what is before no text isn't empty
onto_some : (k n c : ℕ) (acc : List ℕ) → 0 < length (digits_onto k 10 false n (c ∷ acc))
onto_some zero n c acc = omega arith
onto_some (suc k) n c acc = by_test (eqb (n / 10) 0) (onto_some k (n / 10) (digit_glyph false (n % 10)) (c ∷ acc))
  where
    by_test : (b : Bool) → 0 < length (digits_onto k 10 false (n / 10) (digit_glyph false (n % 10) ∷ c ∷ acc))
        → 0 < length (cond b (digit_glyph false (n % 10) ∷ c ∷ acc) (digits_onto k 10 false (n / 10) (digit_glyph false (n % 10) ∷ c ∷ acc)))
    by_test true later = omega arith
    by_test false later = later

decimal_some : (n : ℕ) → 0 < length (decimal n)
unfolding digits
decimal_some n = by_test (eqb (n / 10) 0)
  where
    by_test : (b : Bool) → 0 < length (cond b (digit_glyph false (n % 10) ∷ []) (digits_onto 63 10 false (n / 10) (digit_glyph false (n % 10) ∷ [])))
    by_test true = omega arith
    by_test false = onto_some 63 (n / 10) (digit_glyph false (n % 10)) []

pub unnamed_is_label : (n : ℕ) → IsTextOf label_text (unnamed_label n)
unnamed_is_label n = name_of_digits (decimal n) (decimal_some n) (decimal_digits n)
