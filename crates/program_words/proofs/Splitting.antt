-- What `split_once` at an equals sign gives.
use Rattle.std.proofs.Common.{◌≡◌, ◌<◌, ℕ, ◌+◌, Bool, true, false, not, ◌||◌, nat_lt, if◌then◌else◌, cond, List, [], ◌∷◌, length, Some, None, Option, refl, sym, ap, ◌∙◌, arith, Bor, ap₂}
use Rattle.std.proofs.lemmas.Bool.Decides.{nat_tests}
use Rattle.std.specs.List.{list_any, position_or_len, before_first, after_first}
use Rattle.std.specs.Option.{option_map, MatchOption}
use Rattle.program_words.specs.Given.{is_equals, split_value}

pub has_any : (p : ℕ → Bool) (xs : List ℕ) → list_any p xs ≡ nat_lt (position_or_len p xs) (length xs)
has_any p [] = refl
has_any p (x ∷ xs) =
    elim (p x) as (λ b. (b || list_any p xs) ≡ nat_lt (cond (not b) (1 + position_or_len p xs) 0) (length (x ∷ xs))) [
      | true ↦ sym (grind (arith, nat_tests))
      | false ↦ has_any p xs ∙ grind (arith, nat_tests)
    ]

pub split_is : (word : List ℕ) (r : Option (Bor (List ℕ) × Bor (List ℕ))) → MatchOption r (position_or_len is_equals word ≡ length word) (λ x. (position_or_len is_equals word < length word) × (x.0.now ≡ before_first is_equals word) × (x.1.now ≡ after_first is_equals word)) → option_map (λ p. (p.0.now, p.1.now)) r ≡ split_value word
split_is word None none =
    let lacks : list_any is_equals word ≡ false = has_any is_equals word ∙ grind (arith, nat_tests, none) in
    sym (ap (λ b. if b then Some (before_first is_equals word, after_first is_equals word) else None) lacks)
split_is word (Some x) some =
    let has : list_any is_equals word ≡ true = has_any is_equals word ∙ grind (arith, nat_tests, some.0) in
    ap (λ p. Some p) (ap₂ (λ a b. (a, b)) some.1 some.2) ∙ sym (ap (λ b. if b then Some (before_first is_equals word, after_first is_equals word) else None) has)
