-- Delimiters in a body, and how many there can be.
use Rattle.std.proofs.Common.{◌≡◌, ℕ, zero, suc, ◌+◌, ◌-◌, ◌*◌, ◌^◌, ◌<◌, ◌≤◌, Bool, true, false, not, cond, ◌||◌, ◌&&◌, eqb, List, [], ◌∷◌, ◌++◌, length, get_or, replicate, take, drop, Some, None, refl, sym, ap, subst, ◌∙◌, arith, length-append, length-drop}
use Rattle.std.specs.Prelude.{bytes_eq, codes, decimal, nat_lt}
use Rattle.std.specs.List.{list_any, position, position_or_len}
use Rattle.std.specs.Char.{is_ascii_digit}
use Rattle.std.proofs.lemmas.Bool.{ne_eqb, ltb-false, ltb-true}
use Rattle.std.proofs.Math.Seq.{take-append_seam}
use Rattle.std.proofs.lemmas.List.{take-append-drop}
use Rattle.std.proofs.lemmas.Fmt.{decimal_digit}
use Rattle.std.proofs.lemmas.List.Folds.{list_any-append}
use Rattle.std.proofs.lemmas.List.Prefix.{at_from_reads, at_reads}
use Rattle.std.proofs.lemmas.List.Quantifiers.{position-Some}
use Rattle.std.proofs.lemmas.List.Sums.{fails_before_first}
use Rattle.std.proofs.lemmas.Map.Steps.{le-length_from_below}
use Rattle.std.proofs.lemmas.Slice.Eq.{bytes_eq-Decides}
use Rattle.range_req.specs.Boundaries.{longer_numbers, first_numbers, delimiter_numbers, body_numbers, has_number, AreNoted}
use Rattle.range_req.specs.Multipart.{Occurs, IsFirstFree, delimiter, boundary, occurs, least_from, free_number}
use Rattle.range_req.proofs.NumberDigits.{Begins, first_sound, first_complete, digit_low}

-- ---- places of a delimiter

-- the text stands in the body
record Stands (body text : List ℕ) : Type 0 where
  at : ℕ
  rest : List ℕ
  here : drop at body ≡ text ++ rest

occurs_from : (body text : List ℕ) → 0 < length text → Stands body text → Occurs body text
occurs_from body text some s = (
  s.at,
  record {
    fits = omega (arith, ap length s.here, length-append text s.rest, length-drop s.at body, some);
    reads = at_reads 0 body text s.at s.rest s.here;
  },
)

stands_from : (body text : List ℕ) → Occurs body text → Stands body text
stands_from body text o = record {
  at = o.0;
  rest = drop (o.0 + length text) body;
  here = at_from_reads 0 body text o.0 o.1.fits o.1.reads;
}

-- ---- numbers of a body

delimiter_sound : (text : List ℕ) (k : ℕ) → k < 2 ^ 64 → has_number (delimiter_numbers text) k ≡ true → Begins text (delimiter (boundary k))
delimiter_sound text k fits h = by_test (bytes_eq (take 6 text) (codes "--pod-")) refl h
  where
    by_test : (b : Bool) → bytes_eq (take 6 text) (codes "--pod-") ≡ b → has_number (cond b (first_numbers (drop 6 text)) []) k ≡ true → Begins text (delimiter (boundary k))
    by_test false e found = absurd cc
    by_test true e found =
        let inside = first_sound (drop 6 text) k fits found in
        record {
          rest = inside.rest;
          whole = sym (take-append-drop 6 text) ∙ ap (λ (t : List ℕ). t ++ drop 6 text) ((bytes_eq-Decides (take 6 text) (codes "--pod-")).0 e) ∙ ap (λ (t : List ℕ). codes "--pod-" ++ t) inside.whole;
        }

delimiter_complete : (text : List ℕ) (k : ℕ) → k < 2 ^ 64 → Begins text (delimiter (boundary k)) → has_number (delimiter_numbers text) k ≡ true
delimiter_complete text k fits b =
    ap (λ (t : List ℕ). has_number (delimiter_numbers t) k) b.whole ∙ first_complete (decimal k ++ b.rest) k fits (record { rest = b.rest; whole = refl })

in_either : (P : Type 0) (a b : Bool) → (a || b) ≡ true → (a ≡ true → P) → (b ≡ true → P) → P
in_either P true b h f g = f refl
in_either P false b h f g = g h

or_left : (a b : Bool) → a ≡ true → (a || b) ≡ true
or_left true b h = refl
or_left false b h = absurd cc

or_right : (a b : Bool) → b ≡ true → (a || b) ≡ true
or_right true b h = refl
or_right false b h = h

body_sound : (body : List ℕ) (k : ℕ) → k < 2 ^ 64 → has_number (body_numbers body) k ≡ true → Stands body (delimiter (boundary k))
body_sound [] k fits h = absurd cc
body_sound (b ∷ body) k fits h =
    in_either (Stands (b ∷ body) (delimiter (boundary k))) (has_number (delimiter_numbers (b ∷ body)) k) (has_number (body_numbers body) k)
    (sym (list_any-append (λ m. eqb k m) (delimiter_numbers (b ∷ body)) (body_numbers body)) ∙ h)
    (λ e. (let here = delimiter_sound (b ∷ body) k fits e in record { at = 0; rest = here.rest; here = here.whole }))
    (λ e. (let there = body_sound body k fits e in record { at = suc there.at; rest = there.rest; here = there.here }))

body_complete : (body : List ℕ) (k at : ℕ) (rest : List ℕ) → k < 2 ^ 64 → drop at body ≡ delimiter (boundary k) ++ rest → has_number (body_numbers body) k ≡ true
body_complete [] k zero rest fits e = absurd (omega (arith, ap length e))
body_complete [] k (suc at) rest fits e = absurd (omega (arith, ap length e))
body_complete (b ∷ body) k zero rest fits e =
    list_any-append (λ m. eqb k m) (delimiter_numbers (b ∷ body)) (body_numbers body) ∙ or_left _ _ (delimiter_complete (b ∷ body) k fits (record { rest = rest; whole = e }))
body_complete (b ∷ body) k (suc at) rest fits e =
    list_any-append (λ m. eqb k m) (delimiter_numbers (b ∷ body)) (body_numbers body) ∙ or_right (has_number (delimiter_numbers (b ∷ body)) k) _ (body_complete body k at rest fits e)

-- ---- how many numbers a body has

abbrev leading : List ℕ → ℕ
leading [] = 0
leading (c ∷ cs) = cond (is_ascii_digit c) (suc (leading cs)) 0

longer_count : (text : List ℕ) (n : ℕ) → length (longer_numbers n text) ≤ leading text
longer_count [] n = omega arith
longer_count (c ∷ cs) n = by_test (is_ascii_digit c) (longer_count cs (n * 10 + (c - 48)))
  where
    by_test : (b : Bool) → length (longer_numbers (n * 10 + (c - 48)) cs) ≤ leading cs → length (cond b ((n * 10 + (c - 48)) ∷ longer_numbers (n * 10 + (c - 48)) cs) []) ≤ cond b (suc (leading cs)) 0
    by_test true h = omega (arith, h)
    by_test false h = omega arith

first_count : (text : List ℕ) → length (first_numbers text) ≤ leading text
first_count [] = omega arith
first_count (c ∷ cs) = by_test (is_ascii_digit c) (eqb c 48)
  where
    by_test : (b z : Bool) → length (cond b ((c - 48) ∷ cond z [] (longer_numbers (c - 48) cs)) []) ≤ cond b (suc (leading cs)) 0
    by_test true true = omega arith
    by_test true false = omega (arith, longer_count cs (c - 48))
    by_test false z = omega arith

-- the head of a delimiter is no digit
digit_head : (c : ℕ) → is_ascii_digit c ≡ true → eqb c 45 ≡ false
digit_head c e = ne_eqb c 45 (λ same. absurd (omega (arith, same, digit_low c e)))

no_numbers : (text : List ℕ) → bytes_eq (take 6 text) (codes "--pod-") ≡ false → delimiter_numbers text ≡ []
no_numbers text e = ap (λ (b : Bool). cond b (first_numbers (drop 6 text)) []) e

-- between a delimiter and its digits no other one begins
inside_delimiter : (c : ℕ) (cs : List ℕ) → is_ascii_digit c ≡ true → body_numbers (45 ∷ 112 ∷ 111 ∷ 100 ∷ 45 ∷ c ∷ cs) ≡ body_numbers (c ∷ cs)
inside_delimiter c cs e =
    ap (λ (xs : List ℕ). xs ++ body_numbers (c ∷ cs)) (no_numbers (45 ∷ c ∷ cs) (ap (λ (b : Bool). b && bytes_eq (take 4 cs) (codes "pod-")) (digit_head c e)))

pub few_numbers : (n : ℕ) (body : List ℕ) → length body ≤ n → length (body_numbers body) + leading body ≤ length body
few_numbers n [] le = omega arith
few_numbers zero (b ∷ bs) le = absurd (omega (arith, le))
few_numbers (suc n) (b ∷ bs) le = by_test (is_ascii_digit b) refl (few_numbers n bs (omega (arith, le))) (λ y le. few_numbers n y le)
  where
    short : length (body_numbers bs) + leading bs ≤ length bs → delimiter_numbers (b ∷ bs) ≡ [] → length (body_numbers (b ∷ bs)) ≤ length bs
    short below none = omega (arith, below, ap (λ (xs : List ℕ). length (xs ++ body_numbers bs)) none)

    -- the digits that follow a delimiter are no longer than what is left
    by_digits : (y : List ℕ) → b ∷ bs ≡ codes "--pod-" ++ y → length (body_numbers bs) + leading bs ≤ length bs → ((z : List ℕ) → length z ≤ n → length (body_numbers z) + leading z ≤ length z)
        → length (first_numbers y) + length (body_numbers bs) ≤ suc (length bs)
    by_digits [] e below any = omega (arith, below)
    by_digits (c ∷ cs) e below any = by_digit (is_ascii_digit c) refl
      where
        tail : bs ≡ 45 ∷ 112 ∷ 111 ∷ 100 ∷ 45 ∷ c ∷ cs
        tail = ap (drop 1) e

        by_digit : (t : Bool) → is_ascii_digit c ≡ t → length (first_numbers (c ∷ cs)) + length (body_numbers bs) ≤ suc (length bs)
        by_digit false d = omega (arith, below, ap (λ (x : Bool). length (cond x ((c - 48) ∷ cond (eqb c 48) [] (longer_numbers (c - 48) cs)) [])) d)
        by_digit true d =
            omega (arith, first_count (c ∷ cs), any (c ∷ cs) (omega (arith, le, ap length tail)), ap length tail, ap length (ap body_numbers tail ∙ inside_delimiter c cs d))

    by_mark : (t : Bool) → bytes_eq (take 6 (b ∷ bs)) (codes "--pod-") ≡ t → length (body_numbers bs) + leading bs ≤ length bs → ((z : List ℕ) → length z ≤ n → length (body_numbers z) + leading z ≤ length z)
        → length (body_numbers (b ∷ bs)) ≤ suc (length bs)
    by_mark false e below any = omega (arith, short below (no_numbers (b ∷ bs) e))
    by_mark true e below any =
        let whole : b ∷ bs ≡ codes "--pod-" ++ drop 6 (b ∷ bs) = sym (take-append-drop 6 (b ∷ bs)) ∙ ap (λ (t : List ℕ). t ++ drop 6 (b ∷ bs)) ((bytes_eq-Decides (take 6 (b ∷ bs)) (codes "--pod-")).0 e) in
        let are : body_numbers (b ∷ bs) ≡ first_numbers (drop 6 (b ∷ bs)) ++ body_numbers bs = ap (λ (t : Bool). cond t (first_numbers (drop 6 (b ∷ bs))) [] ++ body_numbers bs) e in
        omega (arith, by_digits (drop 6 (b ∷ bs)) whole below any, ap length are, length-append (first_numbers (drop 6 (b ∷ bs))) (body_numbers bs))

    by_test : (t : Bool) → is_ascii_digit b ≡ t → length (body_numbers bs) + leading bs ≤ length bs → ((z : List ℕ) → length z ≤ n → length (body_numbers z) + leading z ≤ length z)
        → length (body_numbers (b ∷ bs)) + cond t (suc (leading bs)) 0 ≤ suc (length bs)
    by_test true e below any =
        let none = no_numbers (b ∷ bs) (ap (λ (t : Bool). t && bytes_eq (take 5 bs) (codes "-pod-")) (digit_head b e)) in
        omega (arith, below, ap (λ (xs : List ℕ). length (xs ++ body_numbers bs)) none)
    by_test false e below any = omega (arith, by_mark (bytes_eq (take 6 (b ∷ bs)) (codes "--pod-")) refl below any)

-- ---- the first number without a note

-- notes of all numbers of a body, from none
pub first_is : (body : List ℕ) (old new : List Bool) (n : ℕ) → length old < 2 ^ 64 → ((k : ℕ) → get_or old k false ≡ false) → AreNoted old new (body_numbers body) → position (λ b. not b) new ≡ Some n → IsFirstFree body n
first_is body old new n fits empty a e =
    let at = position-Some (λ b. not b) new n false e in
    let within : n < length old = subst (λ (m : ℕ). n < m) a.same at.0 in
    let noted : (k : ℕ) → k < length old → get_or new k false ≡ has_number (body_numbers body) k = λ k lt. a.noted k lt ∙ ap (λ (b : Bool). b || has_number (body_numbers body) k) (empty k) in
    record {
      free = λ o. (let s = stands_from body (delimiter (boundary n)) o in
          let found : get_or new n false ≡ true = noted n within ∙ body_complete body n s.at s.rest (omega (arith, within, fits)) s.here in
          let wrong : true ≡ false = sym at.1 ∙ ap not found in
          absurd cc);
      first = λ k lt. occurs_from body (delimiter (boundary k)) (omega arith) (body_sound body k (omega (arith, lt, within, fits)) (sym (noted k (omega (arith, lt, within))) ∙ taken (get_or new k false) (at.2 k lt)));
    }
  where
    taken : (b : Bool) → not b ≡ false → b ≡ true
    taken true h = refl
    taken false h = absurd cc

-- a body has fewer numbers than it has bytes and one
pub one_is_free : (body : List ℕ) (old new : List Bool) → length old ≡ length body + 1 → ((k : ℕ) → get_or old k false ≡ false) → AreNoted old new (body_numbers body) → position (λ b. not b) new ≡ None → ⊥
one_is_free body old new size empty a e =
    let all : (q : ℕ) → q < length body + 1 → list_any (eqb q) (body_numbers body) ≡ true = λ q lt.
    sym (a.noted q (omega (arith, lt, size)) ∙ ap (λ (b : Bool). b || has_number (body_numbers body) q) (empty q)) ∙ taken q (omega (arith, lt, size, a.same)) in
    absurd (omega (arith, le-length_from_below (body_numbers body) (length body + 1) all, few_numbers (length body) body (omega arith)))
  where
    past : length new ≤ position_or_len (λ b. not b) new
    past = by_test (nat_lt (position_or_len (λ b. not b) new) (length new)) refl e
      where
        by_test : (t : Bool) → nat_lt (position_or_len (λ b. not b) new) (length new) ≡ t → cond t (Some (position_or_len (λ b. not b) new)) None ≡ None → length new ≤ position_or_len (λ b. not b) new
        by_test true h k = absurd cc
        by_test false h k = ltb-false _ _ h

    not_false : (b : Bool) → not b ≡ false → b ≡ true
    not_false true h = refl
    not_false false h = absurd cc

    taken : (q : ℕ) → q < length new → get_or new q false ≡ true
    taken q lt = not_false (get_or new q false) (fails_before_first (λ b. not b) new q false (omega (arith, lt, past)))

-- ---- notes as they are made

pub all_false : (n k : ℕ) → get_or (replicate n false) k false ≡ false
all_false zero k = refl
all_false (suc n) zero = refl
all_false (suc n) (suc k) = all_false n k

-- the first boundary is free
pub first_free : (body needle : List ℕ) → needle ≡ codes "--pod-0" → (Occurs body needle → ⊥) → IsFirstFree body 0
first_free body needle is h = record {
  free = λ o. h (subst (Occurs body) (ap (λ (t : List ℕ). codes "--pod-" ++ t) (decimal_digit 0 (omega arith)) ∙ sym is) o);
  first = λ k lt. absurd (omega (arith, lt));
}

-- ---- the boundary as a function of the body

occurs_sound : (body needle : List ℕ) → occurs body needle ≡ true → Stands body needle
occurs_sound [] needle h = absurd cc
occurs_sound (b ∷ body) needle h =
    in_either (Stands (b ∷ body) needle) (bytes_eq (take (length needle) (b ∷ body)) needle) (occurs body needle) h
    (λ e. record {
      at = 0;
      rest = drop (length needle) (b ∷ body);
      here = sym (take-append-drop (length needle) (b ∷ body)) ∙ ap (λ (t : List ℕ). t ++ drop (length needle) (b ∷ body)) ((bytes_eq-Decides (take (length needle) (b ∷ body)) needle).0 e);
    })
    (λ e. (let there = occurs_sound body needle e in record { at = suc there.at; rest = there.rest; here = there.here }))

occurs_complete : (body needle : List ℕ) (at : ℕ) (rest : List ℕ) → 0 < length needle → drop at body ≡ needle ++ rest → occurs body needle ≡ true
occurs_complete [] needle zero rest some e = absurd (omega (arith, some, ap length e, length-append needle rest))
occurs_complete [] needle (suc at) rest some e = absurd (omega (arith, some, ap length e, length-append needle rest))
occurs_complete (b ∷ body) needle zero rest some e =
    or_left (bytes_eq (take (length needle) (b ∷ body)) needle) (occurs body needle)
    ((bytes_eq-Decides (take (length needle) (b ∷ body)) needle).1 (ap (take (length needle)) e ∙ take-append_seam needle rest))
occurs_complete (b ∷ body) needle (suc at) rest some e =
    or_right (bytes_eq (take (length needle) (b ∷ body)) needle) (occurs body needle) (occurs_complete body needle at rest some e)

least_is : (test : ℕ → Bool) (n k tries : ℕ) → test n ≡ true → ((j : ℕ) → j < n → test j ≡ false) → k ≤ n → n ≤ k + tries → least_from test k tries ≡ n
least_is test n k zero here before low high = omega (arith, low, high)
least_is test n k (suc tries) here before low high = by_order (λ l h. least_is test n (suc k) tries here before l h) (nat_lt k n) refl
  where
    by_order : (suc k ≤ n → n ≤ suc k + tries → least_from test (suc k) tries ≡ n) → (b : Bool) → nat_lt k n ≡ b → cond (test k) k (least_from test (suc k) tries) ≡ n
    by_order more true e =
        let below : k < n = ltb-true k n e in
        ap (λ (t : Bool). cond t k (least_from test (suc k) tries)) (before k below) ∙ more (omega (arith, below)) (omega (arith, high))
    by_order more false e =
        let same : k ≡ n = omega (arith, ltb-false k n e, low) in
        ap (λ (t : Bool). cond t k (least_from test (suc k) tries)) (ap test same ∙ here) ∙ same

pub free_is : (body : List ℕ) (n : ℕ) → n ≤ length body → IsFirstFree body n → n ≡ free_number body
unfolding free_number
free_is body n most f = sym (least_is (λ k. not (occurs body (delimiter (boundary k)))) n 0 (length body) here before (omega arith) (omega (arith, most)))
  where
    by_test : (b : Bool) → occurs body (delimiter (boundary n)) ≡ b → not b ≡ true
    by_test true e = absurd (f.free (occurs_from body (delimiter (boundary n)) (omega arith) (occurs_sound body (delimiter (boundary n)) e)))
    by_test false e = refl

    here : not (occurs body (delimiter (boundary n))) ≡ true
    here = by_test (occurs body (delimiter (boundary n))) refl

    before : (j : ℕ) → j < n → not (occurs body (delimiter (boundary j))) ≡ false
    before j lt = let s = stands_from body (delimiter (boundary j)) (f.first j lt) in ap not (occurs_complete body (delimiter (boundary j)) s.at s.rest (omega arith) s.here)
