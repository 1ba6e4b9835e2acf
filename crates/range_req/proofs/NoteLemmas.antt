-- Notes of numbers, one after another.
use Rattle.std.proofs.Common.{◌≡◌, ℕ, ◌+◌, ◌-◌, ◌*◌, ◌/◌, ◌<◌, ◌≤◌, Bool, true, false, cond, ◌||◌, eqb, inl, inr, List, [], ◌∷◌, ◌++◌, length, get_or, set, refl, sym, ap, subst, ◌∙◌, arith, eq-eqb}
use Rattle.std.specs.Char.{is_ascii_digit}
use Rattle.std.proofs.lemmas.Bool.{ne_eqb}
use Rattle.std.proofs.lemmas.Bool.Decides.{eqb_tells}
use Rattle.std.proofs.lemmas.List.{get_or-set_same, get_or-set_other, length-set}
use Rattle.std.proofs.lemmas.List.Folds.{list_any-append}
use Rattle.range_req.specs.Boundaries.{longer_numbers, first_numbers, delimiter_numbers, body_numbers, has_number, AreNoted}

or_nothing : (a : Bool) → a ≡ (a || false)
or_nothing true = refl
or_nothing false = refl

or_assoc : (a b c : Bool) → ((a || b) || c) ≡ (a || (b || c))
or_assoc true b c = refl
or_assoc false b c = refl

pub noted_none : (notes : List Bool) → AreNoted notes notes []
noted_none notes = record { same = refl; noted = λ k lt. or_nothing (get_or notes k false) }

-- none of the numbers has a place
pub noted_past : (notes : List Bool) (numbers : List ℕ) → ((k : ℕ) → k < length notes → has_number numbers k ≡ false) → AreNoted notes notes numbers
noted_past notes numbers h = record { same = refl; noted = λ k lt. or_nothing (get_or notes k false) ∙ ap (λ (b : Bool). get_or notes k false || b) (sym (h k lt)) }

pub noted_both : (a b c : List Bool) (xs ys : List ℕ) → AreNoted a b xs → AreNoted b c ys → AreNoted a c (xs ++ ys)
noted_both a b c xs ys first second = record {
  same = second.same ∙ first.same;
  noted = λ k lt. second.noted k (subst (λ (n : ℕ). k < n) (sym first.same) lt)
      ∙ ap (λ (t : Bool). t || has_number ys k) (first.noted k lt)
      ∙ or_assoc (get_or a k false) (has_number xs k) (has_number ys k)
      ∙ ap (λ (t : Bool). get_or a k false || t) (sym (list_any-append (λ n. eqb k n) xs ys));
}

or_true : (a : Bool) → true ≡ (a || true)
or_true true = refl
or_true false = refl

pub noted_one : (notes : List Bool) (n : ℕ) → n < length notes → AreNoted notes (set notes n true) (n ∷ [])
noted_one notes n lt = record { same = length-set notes n true; noted = by_number }
  where
    by_number : (k : ℕ) → k < length notes → get_or (set notes n true) k false ≡ (get_or notes k false || (eqb k n || false))
    by_number k small = elim (eqb_tells k n) as (λ _. get_or (set notes n true) k false ≡ (get_or notes k false || (eqb k n || false))) [
      | inl w ↦ ap (λ (j : ℕ). get_or (set notes n true) j false) w.1 ∙ get_or-set_same notes n true false lt ∙ or_true (get_or notes k false) ∙ ap (λ (b : Bool). get_or notes k false || (b || false)) (sym (eq-eqb k n w.1))
      | inr w ↦ get_or-set_other notes n k true false w.1 ∙ or_nothing (get_or notes k false) ∙ ap (λ (b : Bool). get_or notes k false || (b || false)) (sym w.0)
    ]

-- longer numbers are greater
pub longer_past : (text : List ℕ) (n k : ℕ) → k < n * 10 → has_number (longer_numbers n text) k ≡ false
longer_past [] n k lt = refl
longer_past (c ∷ text) n k lt = by_test (is_ascii_digit c) (longer_past text (n * 10 + (c - 48)) k (omega (arith, lt)))
  where
    by_test : (b : Bool) → has_number (longer_numbers (n * 10 + (c - 48)) text) k ≡ false → has_number (cond b ((n * 10 + (c - 48)) ∷ longer_numbers (n * 10 + (c - 48)) text) []) k ≡ false
    by_test true h = ap (λ (b : Bool). b || has_number (longer_numbers (n * 10 + (c - 48)) text) k) (ne_eqb k (n * 10 + (c - 48)) (λ e. absurd (omega (arith, e, lt)))) ∙ h
    by_test false h = refl

-- ---- one digit more

few_tens : (size n : ℕ) → size / 10 < n → size < n * 10
few_tens size n lt = omega (arith, lt)

pub noted_tens : (notes : List Bool) (text : List ℕ) (n : ℕ) → length notes / 10 < n → AreNoted notes notes (longer_numbers n text)
noted_tens notes text n lt = noted_past notes (longer_numbers n text) (λ k small. longer_past text n k (omega (arith, small, few_tens (length notes) n lt)))

longer_more : (rest more : List ℕ) (n c m : ℕ) → rest ≡ c ∷ more → is_ascii_digit c ≡ true → m ≡ c - 48 → longer_numbers n rest ≡ (n * 10 + m) ∷ longer_numbers (n * 10 + m) more
longer_more rest more n c m whole e is =
    ap (longer_numbers n) whole ∙ ap (λ (b : Bool). cond b ((n * 10 + (c - 48)) ∷ longer_numbers (n * 10 + (c - 48)) more) []) e
    ∙ ap (λ (d : ℕ). (n * 10 + d) ∷ longer_numbers (n * 10 + d) more) (sym is)

pub digit_past : (notes : List Bool) (rest more : List ℕ) (n c m : ℕ) → 1 ≤ n → rest ≡ c ∷ more → is_ascii_digit c ≡ true → m ≡ c - 48 → length notes ≤ n * 10 + m → AreNoted notes notes (longer_numbers n rest)
digit_past notes rest more n c m some whole e is far =
    subst (AreNoted notes notes) (sym (longer_more rest more n c m whole e is)) (noted_past notes ((n * 10 + m) ∷ longer_numbers (n * 10 + m) more) past)
  where
    past : (k : ℕ) → k < length notes → (eqb k (n * 10 + m) || has_number (longer_numbers (n * 10 + m) more) k) ≡ false
    past k small =
        ap (λ (b : Bool). b || has_number (longer_numbers (n * 10 + m) more) k) (ne_eqb k (n * 10 + m) (λ same. absurd (omega (arith, same, small, far))))
        ∙ longer_past more (n * 10 + m) k (omega (arith, small, far))

pub digit_adds : (notes new : List Bool) (rest more : List ℕ) (n c m : ℕ) → rest ≡ c ∷ more → is_ascii_digit c ≡ true → m ≡ c - 48 → n * 10 + m < length notes
    → AreNoted (set notes (n * 10 + m) true) new (longer_numbers (n * 10 + m) more) → AreNoted notes new (longer_numbers n rest)
digit_adds notes new rest more n c m whole e is near h =
    subst (AreNoted notes new) (sym (longer_more rest more n c m whole e is))
    (noted_both notes (set notes (n * 10 + m) true) new ((n * 10 + m) ∷ []) (longer_numbers (n * 10 + m) more) (noted_one notes (n * 10 + m) near) h)

pub longer_none : (notes : List Bool) (rest : List ℕ) (n : ℕ) → length rest ≡ 0 → AreNoted notes notes (longer_numbers n rest)
longer_none notes [] n e = noted_none notes
longer_none notes (c ∷ cs) n e = absurd (omega (arith, e))

-- ---- the first digit

first_more : (text more : List ℕ) (c m : ℕ) → text ≡ c ∷ more → is_ascii_digit c ≡ true → m ≡ c - 48 → first_numbers text ≡ m ∷ cond (eqb c 48) [] (longer_numbers m more)
first_more text more c m whole e is =
    ap first_numbers whole ∙ ap (λ (b : Bool). cond b ((c - 48) ∷ cond (eqb c 48) [] (longer_numbers (c - 48) more)) []) e
    ∙ ap (λ (d : ℕ). d ∷ cond (eqb c 48) [] (longer_numbers d more)) (sym is)

pub first_past : (notes : List Bool) (text more : List ℕ) (c m : ℕ) → text ≡ c ∷ more → is_ascii_digit c ≡ true → 48 ≤ c → m ≡ c - 48 → length notes ≤ m → AreNoted notes notes (first_numbers text)
first_past notes text more c m whole e low is far =
    subst (AreNoted notes notes) (sym (first_more text more c m whole e is)) (noted_past notes (m ∷ cond (eqb c 48) [] (longer_numbers m more)) past)
  where
    later : (b : Bool) (k : ℕ) → k < length notes → has_number (cond b [] (longer_numbers m more)) k ≡ false
    later true k small = refl
    later false k small = longer_past more m k (omega (arith, small, far))

    past : (k : ℕ) → k < length notes → (eqb k m || has_number (cond (eqb c 48) [] (longer_numbers m more)) k) ≡ false
    past k small =
        ap (λ (b : Bool). b || has_number (cond (eqb c 48) [] (longer_numbers m more)) k) (ne_eqb k m (λ same. absurd (omega (arith, same, small, far))))
        ∙ later (eqb c 48) k small

pub first_zero : (notes : List Bool) (text more : List ℕ) (c m : ℕ) → text ≡ c ∷ more → is_ascii_digit c ≡ true → 48 ≤ c → m ≡ c - 48 → m < length notes → m ≡ 0 → AreNoted notes (set notes m true) (first_numbers text)
first_zero notes text more c m whole e low is near none =
    let zero_is : c ≡ 48 = omega (arith, low, is, none) in
    subst (AreNoted notes (set notes m true)) (sym (first_more text more c m whole e is ∙ ap (λ (b : Bool). m ∷ cond b [] (longer_numbers m more)) (eq-eqb c 48 zero_is))) (noted_one notes m near)

pub first_adds : (notes new : List Bool) (text more : List ℕ) (c m : ℕ) → text ≡ c ∷ more → is_ascii_digit c ≡ true → 48 ≤ c → m ≡ c - 48 → m < length notes → (m ≡ 0 → ⊥)
    → AreNoted (set notes m true) new (longer_numbers m more) → AreNoted notes new (first_numbers text)
first_adds notes new text more c m whole e low is near some h =
    let other : eqb c 48 ≡ false = ne_eqb c 48 (λ same. some (omega (arith, is, same))) in
    subst (AreNoted notes new) (sym (first_more text more c m whole e is ∙ ap (λ (b : Bool). m ∷ cond b [] (longer_numbers m more)) other))
    (noted_both notes (set notes m true) new (m ∷ []) (longer_numbers m more) (noted_one notes m near) h)

-- ---- bodies

pub body_adds : (notes next new : List Bool) (rest more : List ℕ) (b : ℕ) → rest ≡ b ∷ more → AreNoted notes next (delimiter_numbers rest) → AreNoted next new (body_numbers more) → AreNoted notes new (body_numbers rest)
body_adds notes next new rest more b whole one h =
    subst (λ (t : List ℕ). AreNoted notes new (body_numbers t)) (sym whole)
    (noted_both notes next new (delimiter_numbers (b ∷ more)) (body_numbers more) (subst (λ (t : List ℕ). AreNoted notes next (delimiter_numbers t)) whole one) h)

pub body_none : (notes : List Bool) (rest : List ℕ) → length rest ≡ 0 → AreNoted notes notes (body_numbers rest)
body_none notes [] e = noted_none notes
body_none notes (c ∷ cs) e = absurd (omega (arith, e))
