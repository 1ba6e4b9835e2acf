-- The numbers that a text begins with are those whose decimal digits are first in it.
use Rattle.std.proofs.Common.{◌≡◌, ℕ, ◌+◌, ◌-◌, ◌*◌, ◌/◌, ◌%◌, ◌^◌, ◌<◌, ◌≤◌, Bool, true, false, cond, ◌||◌, eqb, inl, inr, List, [], ◌∷◌, ◌++◌, refl, sym, ap, subst, ◌∙◌, arith, append_assoc, eq-eqb}
use Rattle.std.specs.Prelude.{decimal, ◌≢◌}
use Rattle.std.specs.Char.{is_ascii_digit}
use Rattle.std.proofs.lemmas.Bool.{ne_eqb, cases_lt}
use Rattle.std.proofs.lemmas.Bool.Decides.{eqb_tells, nat_tests}
use Rattle.std.proofs.lemmas.Fmt.{decimal_digit, decimal_step, decimal_by_steps}
use Rattle.std.proofs.lemmas.List.Folds.{list_any-append}
use Rattle.range_req.specs.Boundaries.{longer_numbers, first_numbers, has_number}
use Rattle.range_req.proofs.NoteLemmas.{longer_past}

-- the text begins with these digits
pub record Begins (text digits : List ℕ) : Type 0 where
  pub rest : List ℕ
  pub whole : text ≡ digits ++ rest

pub digit_low : (c : ℕ) → is_ascii_digit c ≡ true → 48 ≤ c
digit_low c h = grind (arith, nat_tests)

pub digit_high : (c : ℕ) → is_ascii_digit c ≡ true → c ≤ 57
digit_high c h = grind (arith, nat_tests)

digit_true : (n : ℕ) → n < 10 → is_ascii_digit (48 + n) ≡ true
digit_true n lt = grind (arith, nat_tests)

-- the number of one more digit
longer_digits : (n c : ℕ) → 1 ≤ n → is_ascii_digit c ≡ true → n * 10 + (c - 48) < 2 ^ 64 → decimal (n * 10 + (c - 48)) ≡ decimal n ++ c ∷ []
longer_digits n c some e fits =
    let low = digit_low c e in
    let high = digit_high c e in
    let front : (n * 10 + (c - 48)) / 10 ≡ n = omega (arith, low, high) in
    let last : 48 + (n * 10 + (c - 48)) % 10 ≡ c = omega (arith, low, high) in
    decimal_step (n * 10 + (c - 48)) (omega (arith, some)) fits ∙ ap (λ (m : ℕ). decimal m ++ (48 + (n * 10 + (c - 48)) % 10) ∷ []) front ∙ ap (λ (d : ℕ). decimal n ++ d ∷ []) last

longer_sound : (text : List ℕ) (n k : ℕ) → 1 ≤ n → k < 2 ^ 64 → has_number (longer_numbers n text) k ≡ true → Begins (decimal n ++ text) (decimal k)
longer_sound [] n k some fits h = absurd cc
longer_sound (c ∷ cs) n k some fits h = by_test (is_ascii_digit c) refl h (longer_sound cs (n * 10 + (c - 48)) k (omega (arith, some)) fits)
  where
    by_test : (b : Bool) → is_ascii_digit c ≡ b → has_number (cond b ((n * 10 + (c - 48)) ∷ longer_numbers (n * 10 + (c - 48)) cs) []) k ≡ true
        → (has_number (longer_numbers (n * 10 + (c - 48)) cs) k ≡ true → Begins (decimal (n * 10 + (c - 48)) ++ cs) (decimal k)) → Begins (decimal n ++ c ∷ cs) (decimal k)
    by_test false e k below = absurd cc
    by_test true e found below =
        elim (eqb_tells k (n * 10 + (c - 48))) as (λ _. Begins (decimal n ++ c ∷ cs) (decimal k)) [
          | inl w ↦ record {
            rest = cs;
            whole = sym (ap (λ (d : List ℕ). d ++ cs) (ap decimal w.1 ∙ longer_digits n c some e (subst (λ (m : ℕ). m < 2 ^ 64) w.1 fits)) ∙ append_assoc (decimal n) (c ∷ []) cs);
          }
          | inr w ↦ (let later : has_number (longer_numbers (n * 10 + (c - 48)) cs) k ≡ true = sym (ap (λ (b : Bool). b || has_number (longer_numbers (n * 10 + (c - 48)) cs) k) w.0) ∙ found in
              let inside = below later in
              let small : n * 10 + (c - 48) < 2 ^ 64 = elim (cases_lt k ((n * 10 + (c - 48)) * 10)) as (λ _. n * 10 + (c - 48) < 2 ^ 64) [
                | inl lt ↦ absurd (let wrong : true ≡ false = sym later ∙ longer_past cs (n * 10 + (c - 48)) k lt in cc)
                | inr le ↦ omega (arith, le, fits)
              ] in
              record {
                rest = inside.rest;
                whole = sym (append_assoc (decimal n) (c ∷ []) cs) ∙ ap (λ (d : List ℕ). d ++ cs) (sym (longer_digits n c some e small)) ∙ inside.whole;
              })
        ]

pub first_sound : (text : List ℕ) (k : ℕ) → k < 2 ^ 64 → has_number (first_numbers text) k ≡ true → Begins text (decimal k)
first_sound [] k fits h = absurd cc
first_sound (c ∷ cs) k fits h = by_test (is_ascii_digit c) refl h
  where
    alone : is_ascii_digit c ≡ true → decimal (c - 48) ≡ c ∷ []
    alone e =
        let same : 48 + (c - 48) ≡ c = omega (arith, digit_low c e) in
        decimal_digit (c - 48) (omega (arith, digit_high c e)) ∙ ap (λ (d : ℕ). d ∷ []) same

    by_zero : is_ascii_digit c ≡ true → (b : Bool) → eqb c 48 ≡ b → has_number (cond b [] (longer_numbers (c - 48) cs)) k ≡ true → Begins (c ∷ cs) (decimal k)
    by_zero e true z found = absurd cc
    by_zero e false z found =
        let low = digit_low c e in
        let some : 1 ≤ c - 48 = grind (arith, nat_tests) in
        let inside = longer_sound cs (c - 48) k some fits found in
        record { rest = inside.rest; whole = ap (λ (d : List ℕ). d ++ cs) (sym (alone e)) ∙ inside.whole }

    by_test : (b : Bool) → is_ascii_digit c ≡ b → has_number (cond b ((c - 48) ∷ cond (eqb c 48) [] (longer_numbers (c - 48) cs)) []) k ≡ true → Begins (c ∷ cs) (decimal k)
    by_test false e found = absurd cc
    by_test true e found =
        elim (eqb_tells k (c - 48)) as (λ _. Begins (c ∷ cs) (decimal k)) [
          | inl w ↦ record { rest = cs; whole = ap (λ (d : List ℕ). d ++ cs) (sym (ap decimal w.1 ∙ alone e)) }
          | inr w ↦ by_zero e (eqb c 48) refl (sym (ap (λ (b : Bool). b || has_number (cond (eqb c 48) [] (longer_numbers (c - 48) cs)) k) w.0) ∙ found)
        ]

-- ---- each number whose digits are first is found

abbrev more : ℕ → List ℕ → List ℕ
more n rest = cond (eqb n 0) [] (longer_numbers n rest)

record IsRead (n : ℕ) (digits : List ℕ) : Type 0 where
  goes_on : (rest : List ℕ) → first_numbers (digits ++ rest) ≡ first_numbers digits ++ more n rest
  found : has_number (first_numbers digits) n ≡ true

first_digit : (n : ℕ) → n < 10 → (rest : List ℕ) → first_numbers ((48 + n) ∷ rest) ≡ n ∷ more n rest
first_digit n lt rest =
    let same : (48 + n) - 48 ≡ n = omega arith in
    ap (λ (b : Bool). cond b (((48 + n) - 48) ∷ cond (eqb (48 + n) 48) [] (longer_numbers ((48 + n) - 48) rest)) []) (digit_true n lt)
    ∙ ap (λ (m : ℕ). m ∷ cond (eqb (48 + n) 48) [] (longer_numbers m rest)) same
    ∙ ap (λ (b : Bool). n ∷ cond b [] (longer_numbers n rest)) zero_is
  where
    zero_is : eqb (48 + n) 48 ≡ eqb n 0
    zero_is = elim (eqb_tells n 0) as (λ _. eqb (48 + n) 48 ≡ eqb n 0) [
      | inl w ↦ eq-eqb (48 + n) 48 (let e : n ≡ 0 = w.1 in omega (arith, e)) ∙ sym w.0
      | inr w ↦ ne_eqb (48 + n) 48 (λ e. absurd (let ne : n ≢ 0 = w.1 in omega (arith, e))) ∙ sym w.0
    ]

none_more : (n : ℕ) → more n [] ≡ []
none_more n = by_test (eqb n 0)
  where
    by_test : (b : Bool) → cond {A = List ℕ} b [] [] ≡ []
    by_test true = refl
    by_test false = refl

or_left : (a b : Bool) → a ≡ true → (a || b) ≡ true
or_left true b h = refl
or_left false b h = absurd cc

or_right : (a b : Bool) → b ≡ true → (a || b) ≡ true
or_right true b h = refl
or_right false b h = h

read_one : (n : ℕ) → n < 10 → IsRead n ((48 + n) ∷ [])
read_one n lt = record {
  goes_on = λ rest. first_digit n lt rest ∙ sym (ap (λ (xs : List ℕ). xs ++ more n rest) (first_digit n lt [] ∙ ap (λ (xs : List ℕ). n ∷ xs) (none_more n)));
  found = ap (λ (xs : List ℕ). has_number xs n) (first_digit n lt []) ∙ or_left (eqb n n) _ (eq-eqb n n refl);
}

read_more : (n : ℕ) (ds : List ℕ) → 10 ≤ n → IsRead (n / 10) ds → IsRead n (ds ++ (48 + n % 10) ∷ [])
read_more n ds le h = record {
  goes_on = λ rest.
      ap first_numbers (append_assoc ds ((48 + n % 10) ∷ []) rest) ∙ h.goes_on ((48 + n % 10) ∷ rest) ∙ ap (λ (xs : List ℕ). first_numbers ds ++ xs) (step rest)
      ∙ sym (append_assoc (first_numbers ds) (n ∷ []) (longer_numbers n rest))
      ∙ ap (λ (xs : List ℕ). xs ++ longer_numbers n rest) (sym whole)
      ∙ ap (λ (b : Bool). first_numbers (ds ++ (48 + n % 10) ∷ []) ++ cond b [] (longer_numbers n rest)) (sym (ne_eqb n 0 (λ e. absurd (omega (arith, e, le)))));
  found = ap (λ (xs : List ℕ). has_number xs n) whole ∙ list_any-append (λ m. eqb n m) (first_numbers ds) (n ∷ []) ∙ or_right _ _ (or_left (eqb n n) _ (eq-eqb n n refl));
}
  where
    small : n % 10 < 10
    small = omega arith

    next : (n / 10) * 10 + ((48 + n % 10) - 48) ≡ n
    next = omega arith

    step : (rest : List ℕ) → more (n / 10) ((48 + n % 10) ∷ rest) ≡ n ∷ longer_numbers n rest
    step rest =
        ap (λ (b : Bool). cond b [] (longer_numbers (n / 10) ((48 + n % 10) ∷ rest))) (ne_eqb (n / 10) 0 (λ e. absurd (omega (arith, e, le))))
        ∙ ap (λ (b : Bool). cond b (((n / 10) * 10 + ((48 + n % 10) - 48)) ∷ longer_numbers ((n / 10) * 10 + ((48 + n % 10) - 48)) rest) []) (digit_true (n % 10) small)
        ∙ ap (λ (m : ℕ). m ∷ longer_numbers m rest) next

    whole : first_numbers (ds ++ (48 + n % 10) ∷ []) ≡ first_numbers ds ++ n ∷ []
    whole = h.goes_on ((48 + n % 10) ∷ []) ∙ ap (λ (xs : List ℕ). first_numbers ds ++ xs) (step [])

pub first_complete : (text : List ℕ) (k : ℕ) → k < 2 ^ 64 → Begins text (decimal k) → has_number (first_numbers text) k ≡ true
first_complete text k fits b =
    let r = decimal_by_steps IsRead read_one read_more k fits in
    ap (λ (t : List ℕ). has_number (first_numbers t) k) b.whole ∙ ap (λ (xs : List ℕ). has_number xs k) (r.goes_on b.rest)
    ∙ list_any-append (λ m. eqb k m) (first_numbers (decimal k)) (more k b.rest) ∙ or_left _ _ r.found
