-- What `parse` gives of digits.
use Rattle.std.proofs.Common.{◌≡◌, ◌<◌, ◌≤◌, ◌^◌, ℕ, Bool, true, false, ◌&&◌, nat_le, nat_lt, if◌then◌else◌, List, length, Some, None, Result, refl, sym, ap, ◌∙◌, arith, rules}
use Rattle.std.proofs.lemmas.Bool.Decides.{nat_tests}
use Rattle.std.proofs.lemmas.Str.Parse.{IsNumeralModel, numerals_by_fold, parse_digits}
use Rattle.std.specs.Char.{is_ascii_digit}
use Rattle.std.specs.List.{list_all}
use Rattle.std.specs.Result.{OkIff}
use Rattle.std.specs.Str.Parse.{ParsesUnsigned}
use Rattle.program_words.specs.Readings.{is_number, number_after}
use Rattle.program_words.specs.declared.numeric_word.TheConstants.{DIGITS_LIMIT}

pub own : IsNumeralModel (λ ds. list_all is_ascii_digit ds ≡ true) (number_after 0)
own = numerals_by_fold _ (search rules) number_after (search rules)

pub and_left : (a b : Bool) → (a && b) ≡ true → a ≡ true
and_left true b e = refl
and_left false b e = e

pub and_right : (a b : Bool) → (a && b) ≡ true → b ≡ true
and_right true b e = e
and_right false b e = cc

pub parsed : {E : Type 0} (word : List ℕ) (r : Result ℕ E) → ParsesUnsigned 16 10 word r → is_number word ≡ true → OkIff r ((0 < length word) × (number_after 0 word < 2 ^ 16)) (number_after 0 word)
parsed word r h number =
    parse_digits own 16 word r h (and_right (nat_le (length word) DIGITS_LIMIT) _ (and_right _ _ number))

pub some_digit : (word : List ℕ) → is_number word ≡ true → 0 < length word
some_digit word number =
    let t : nat_lt 0 (length word) ≡ true = and_left _ _ number in grind (arith, nat_tests, t)

-- at most the limit, over it, or over 16 bits
pub kept : (most v n : ℕ) → n ≡ v → n ≤ most → Some n ≡ (if nat_le v most then Some v else None)
kept most v n is few =
    let t : nat_le v most ≡ true = grind (arith, nat_tests, is, few) in
    ap (λ m. Some m) is ∙ sym (ap (λ t. if t then Some v else None) t)

pub past : (most v n : ℕ) → n ≡ v → most < n → None ≡ (if nat_le v most then Some v else None)
past most v n is many =
    let t : nat_le v most ≡ false = grind (arith, nat_tests, is, many) in
    sym (ap (λ t. if t then Some v else None) t)

pub long : (most v l : ℕ) → most < 2 ^ 16 → ((0 < l) × (v < 2 ^ 16) → ⊥) → 0 < l → None ≡ (if nat_le v most then Some v else None)
long most v l fits over some =
    elim (nat_le v most) as (λ t. nat_le v most ≡ t → None ≡ (if t then Some v else None)) [
      | true ↦ λ e. absurd (over (some, grind (arith, nat_tests, e, fits)))
      | false ↦ λ e. refl
    ] refl
