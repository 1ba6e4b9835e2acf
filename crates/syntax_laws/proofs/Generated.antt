-- The labels of unnamed nodes are labels of Turtle.
use Rattle.std.proofs.Common.{◌≡◌, ℕ, suc, ◌<◌, true, List, [], ◌∷◌, ◌++◌, codes, decimal, length, refl, sym, ap, subst, arith, inl}
use Rattle.std.specs.Char.{is_ascii_digit}
use Rattle.std.specs.Str.{all_ascii_digits}
use Rattle.std.proofs.Math.Utf8.{low_scalar}
use Rattle.std.proofs.lemmas.Bool.Decides.{nat_tests}
use Rattle.std.proofs.lemmas.Fmt.{digits_decimal, decimal_nonempty}
use Rattle.std.proofs.lemmas.Str.{encode_ascii}
use Rattle.std.proofs.lemmas.Str.Parse.{numerals_by_value, tells_all_ascii_digits}
use Rattle.turtle_lex.specs.Classes.{is_pn_chars, is_pn_chars_u, is_pn_chars_base}
use Rattle.turtle_lex.specs.Laws.{IsTextOf}
use Rattle.turtle_lex.specs.Pattern.{Pattern, word, one, many, ◌∘◌, ◌∣◌, Matches}
use Rattle.turtle_lex.specs.Terminals.{label as label_text, dotted}
use Rattle.turtle_lex.proofs.FirstBytes.{and_left, and_right}
use Rattle.turtle_reader.specs.Unnamed.{IsUnnamed}

digit_char : (c : ℕ) → is_ascii_digit c ≡ true → is_pn_chars c ≡ true
unfolding is_pn_chars is_pn_chars_u is_pn_chars_base
digit_char c h = grind (arith, nat_tests)

one_digit : (c : ℕ) (r : List ℕ) → is_ascii_digit c ≡ true → Matches (one is_pn_chars) (c ∷ r) r
one_digit c r h =
    let small : c < 128 = grind (arith, nat_tests) in
    (c, low_scalar c (omega (arith, small)), digit_char c h, ap (λ (x : List ℕ). x ++ r) (sym (encode_ascii c small)))

-- what ends a name
abbrev rest_of_name : Pattern
rest_of_name = many (one is_pn_chars ∣ word (codes ".")) ∘ one is_pn_chars

digits_end : (c : ℕ) (ds : List ℕ) → is_ascii_digit c ≡ true → all_ascii_digits ds ≡ true → IsTextOf rest_of_name (c ∷ ds)
digits_end c [] h k = (c ∷ [], (0, refl), one_digit c [] h)
digits_end c (d ∷ ds) h k =
    let (m, (n, times), last) = digits_end d ds (and_left (is_ascii_digit d) (all_ascii_digits ds) k) (and_right (is_ascii_digit d) (all_ascii_digits ds) k) in
    (m, (suc n, (d ∷ ds, inl (one_digit c (d ∷ ds) h), times)), last)

pub name_of_digits : (ds : List ℕ) → 0 < length ds → all_ascii_digits ds ≡ true → IsTextOf label_text (codes "g" ++ ds)
unfolding label_text dotted is_pn_chars_u is_pn_chars_base
name_of_digits [] some h = absurd (omega (arith, some))
name_of_digits (c ∷ ds) some h = (
  c ∷ ds,
  inl (103, refl, refl, ap (λ (x : List ℕ). x ++ (c ∷ ds)) (sym (encode_ascii 103 (omega arith)))),
  inl (digits_end c ds (and_left (is_ascii_digit c) (all_ascii_digits ds) h) (and_right (is_ascii_digit c) (all_ascii_digits ds) h)),
)

pub unnamed_is_label : (written : List (List ℕ)) (k : ℕ) (label : List ℕ) → IsUnnamed written k label → IsTextOf label_text label
unnamed_is_label written k label h =
    subst (λ (l : List ℕ). IsTextOf label_text l) (sym h.label_is)
    (name_of_digits (decimal h.number) (decimal_nonempty h.number h.small) (digits_decimal (numerals_by_value _ tells_all_ascii_digits) h.number h.small))
