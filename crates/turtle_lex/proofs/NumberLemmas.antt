-- INTEGER, DECIMAL and DOUBLE.
use Rattle.std.proofs.Common.{◌≡◌, ℕ, ◌<◌, ◌≤◌, true, ◌⊎◌, inl, inr, ⊎_elim, List, length, Some, None, refl, sym, ap, subst, arith}
use Rattle.std.proofs.lemmas.Bool.Decides.{nat_tests}
use lib.Chars.{codes}
use Rattle.std.specs.Char.{is_ascii_digit}
use Rattle.turtle_lex.specs.declared.numbers.Number.{Number}
use Rattle.turtle_lex.specs.declared.numbers.Number.TheVariants.{Integer, Decimal, Double}
use Rattle.turtle_lex.specs.Classes.{is_sign, is_exponent_mark}
use Rattle.turtle_lex.specs.Pattern.{Pattern, word, one, many, some, Matches, MatchesOnly, MatchesLongest}
use Rattle.turtle_lex.specs.Terminals.{digit, exponent, sign}
use Rattle.turtle_lex.specs.Runs.{IsRun, IsSomeRun}
use Rattle.turtle_lex.specs.Numbers.{body, signed, IsLongestNumber, HasNoNumber, IsSigned}
use Rattle.turtle_lex.proofs.Matching.{no_longer, not_matched, matched_rest, one_shorter}
use Rattle.turtle_lex.proofs.FirstBytes.{StartsWith, low, excluded, excluded_low, one_low}
use Rattle.turtle_lex.proofs.RunLemmas.{run_ends, run_longest, some_longest, some_is_many, many_is_some}

abbrev point : Pattern
point = word (codes ".")

pub signed_of : (s m : List ℕ) → MatchesOnly (one is_sign) s (Some m) → IsSigned s m
unfolding sign
signed_of s m h = record {
  found = inl h.found;
  others = λ r x. elim x [ inl a ↦ inl (matched_rest (one is_sign) s m r h a) | inr same ↦ inr (m, subst (λ (u : List ℕ). Matches (one is_sign) u m) same h.found) ];
}

pub unsigned_of : (s : List ℕ) → MatchesOnly (one is_sign) s None → IsSigned s s
unfolding sign
unsigned_of s h = record {
  found = inr refl;
  others = λ r x. elim x [ inl a ↦ absurd (not_matched (one is_sign) s r h a) | inr same ↦ inl (sym same) ];
}

-- after a sign matches what the sign is followed by
after_sign_matches : (p : Pattern) (s t m r : List ℕ) → ((u w v : List ℕ) → Matches (one is_sign) u w → Matches p u v → ⊥) → IsSigned s t → Matches sign s m → Matches p m r → Matches p t r
after_sign_matches p s t m r apart h x y = ⊎_elim
    (λ (same : m ≡ t). subst (λ (u : List ℕ). Matches p u r) same y)
    (λ (other : (w : List ℕ) × Matches (one is_sign) m w). absurd (apart m other.0 r other.1 y))
    (h.others m x)

digit_small : (c : ℕ) → is_ascii_digit c ≡ true → c < 128
digit_small c h = grind (arith, nat_tests)

sign_small : (c : ℕ) → is_sign c ≡ true → c < 128
unfolding is_sign
sign_small c h = grind (arith, nat_tests)

sign_no_digits : (u w v : List ℕ) → Matches (one is_sign) u w → Matches (some digit) u v → ⊥
unfolding is_sign
sign_no_digits u w v x y = not_matched (some digit) u v (excluded_low (one is_sign) (some digit) u w refl (one_low is_sign sign_small u w x) x) y

pub exponent_longest : (s m t e : List ℕ) → MatchesOnly (one is_exponent_mark) s (Some m) → IsSigned m t → IsSomeRun is_ascii_digit t e → MatchesLongest exponent s (Some e)
unfolding exponent
exponent_longest s m t e h signs run = record {
  found = (m, h.found, (t, signs.found, run.found));
  longest = λ r x.
      let after_mark : Matches sign m x.2.0 = subst (λ (u : List ℕ). Matches sign u x.2.0) (matched_rest (one is_exponent_mark) s m x.0 h x.1) x.2.1 in
      some_longest is_ascii_digit t e r run (after_sign_matches (some digit) m t x.2.0 r sign_no_digits signs after_mark x.2.2);
}

pub no_exponent_digits : (s m t : List ℕ) → MatchesOnly (one is_exponent_mark) s (Some m) → IsSigned m t → MatchesOnly digit t None → MatchesLongest exponent s None
unfolding exponent
no_exponent_digits s m t h signs none = record {
  found = tt;
  longest = λ r x.
      let after_mark : Matches sign m x.2.0 = subst (λ (u : List ℕ). Matches sign u x.2.0) (matched_rest (one is_exponent_mark) s m x.0 h x.1) x.2.1 in
      let digits = after_sign_matches (some digit) m t x.2.0 r sign_no_digits signs after_mark x.2.2 in
      absurd (not_matched digit t digits.0 none digits.1);
}

pub no_exponent_mark : (s : List ℕ) → MatchesOnly (one is_exponent_mark) s None → MatchesLongest exponent s None
unfolding exponent
no_exponent_mark s h = record { found = tt; longest = λ r x. absurd (not_matched (one is_exponent_mark) s x.0 h x.1) }

-- what an exponent can't begin with
digit_no_exponent : (v m w : List ℕ) → Matches digit v m → Matches exponent v w → ⊥
unfolding exponent sign is_exponent_mark
digit_no_exponent v m w x y = not_matched exponent v w (excluded_low digit exponent v m refl (one_low is_ascii_digit digit_small v m x) x) y

point_no_exponent : (v m w : List ℕ) → Matches point v m → Matches exponent v w → ⊥
unfolding exponent sign is_exponent_mark
point_no_exponent v m w x y = not_matched exponent v w (excluded point exponent v m refl x) y

digit_no_point : (v m w : List ℕ) → Matches digit v m → Matches point v w → ⊥
digit_no_point v m w x y = not_matched point v w (excluded digit point v m refl x) y

-- the digits end where a point or an exponent matches
digits_end : (q : Pattern) (s d v w : List ℕ) → ((u m r : List ℕ) → Matches digit u m → Matches q u r → ⊥) → IsRun is_ascii_digit s d → Matches (many digit) s v → Matches q v w → Matches q d w
digits_end q s d v w apart run x y = ⊎_elim
    (λ (same : v ≡ d). subst (λ (u : List ℕ). Matches q u w) same y)
    (λ (other : (m : List ℕ) × Matches digit v m). absurd (apart v other.0 w other.1 y))
    (run_ends is_ascii_digit s d v run x)

-- where a digit matches, the digits don't end
digits_some : (s d r : List ℕ) → IsRun is_ascii_digit s d → Matches (some digit) s r → length d < length s
digits_some s d r run x = ⊎_elim
    (λ (same : s ≡ d). absurd (not_matched digit d x.0 run.stops (subst (λ (u : List ℕ). Matches digit u x.0) same x.1)))
    (λ (y : Matches (some digit) s d). some_shorter y)
    (many_is_some digit s d run.found)
  where
    some_shorter : Matches (some digit) s d → length d < length s
    some_shorter (m, first, rest) = omega (arith, one_shorter is_ascii_digit s m first, no_longer (many digit) m d rest)

some_digits : (s d : List ℕ) → IsRun is_ascii_digit s d → length d < length s → Matches (some digit) s d
some_digits s d run less = ⊎_elim
    (λ (same : s ≡ d). absurd (omega (arith, ap length same)))
    (λ (y : Matches (some digit) s d). y)
    (many_is_some digit s d run.found)

-- a point first, and no digit
point_first : (s d w : List ℕ) → IsRun is_ascii_digit s d → Matches point s w → Matches point d w
point_first s d w run x = digits_end point s d s w digit_no_point run (0, refl) x

-- the readings of each kind, where a point follows the digits
integer_is : (s d r : List ℕ) → IsRun is_ascii_digit s d → Matches (some digit) s r → (length d ≤ length r) × (length d < length s)
integer_is s d r run x = (run_longest is_ascii_digit s d r run (some_is_many digit s r x), digits_some s d r run x)

decimal_is : (s d f r : List ℕ) → IsRun is_ascii_digit s d → MatchesOnly point d (Some f) → Matches (body Decimal) s r → Matches (some digit) f r
decimal_is s d f r run h x =
    let at : Matches point d x.2.0 = digits_end point s d x.0 x.2.0 digit_no_point run x.1 x.2.1 in
    subst (λ (u : List ℕ). Matches (some digit) u r) (matched_rest point d f x.2.0 h at) x.2.2

no_decimal : (s d r : List ℕ) → IsRun is_ascii_digit s d → MatchesOnly point d None → Matches (body Decimal) s r → ⊥
no_decimal s d r run h x = not_matched point d x.2.0 h (digits_end point s d x.0 x.2.0 digit_no_point run x.1 x.2.1)

double_is : (s d f g r : List ℕ) → IsRun is_ascii_digit s d → MatchesOnly point d (Some f) → IsRun is_ascii_digit f g → Matches (body Double) s r
    → Matches exponent g r × ((length d < length s) ⊎ (length g < length f))
double_is s d f g r run h more x = elim x [
  | inl a ↦
      let at : Matches point d a.2.0 = digits_end point s d a.0 a.2.0 digit_no_point run (some_is_many digit s a.0 a.1) a.2.1 in
      let from : Matches (many digit) f a.2.2.0 = subst (λ (u : List ℕ). Matches (many digit) u a.2.2.0) (matched_rest point d f a.2.0 h at) a.2.2.1 in
      (digits_end exponent f g a.2.2.0 r digit_no_exponent more from a.2.2.2, inl (digits_some s d a.0 run a.1))
  | inr b ↦ elim b [
    | inl c ↦
        let at : Matches point d c.0 = point_first s d c.0 run c.1 in
        let from : Matches (some digit) f c.2.0 = subst (λ (u : List ℕ). Matches (some digit) u c.2.0) (matched_rest point d f c.0 h at) c.2.1 in
        (digits_end exponent f g c.2.0 r digit_no_exponent more (some_is_many digit f c.2.0 from) c.2.2, inr (digits_some f g c.2.0 more from))
    | inr e ↦ absurd (point_no_exponent d f r h.found (digits_end exponent s d e.0 r digit_no_exponent run (some_is_many digit s e.0 e.1) e.2))
  ]
]

double_whole : (s d r : List ℕ) → IsRun is_ascii_digit s d → MatchesOnly point d None → Matches (body Double) s r → Matches exponent d r × (length d < length s)
double_whole s d r run h x = elim x [
  | inl a ↦ absurd (not_matched point d a.2.0 h (digits_end point s d a.0 a.2.0 digit_no_point run (some_is_many digit s a.0 a.1) a.2.1))
  | inr b ↦ elim b [
    | inl c ↦ absurd (not_matched point d c.0 h (point_first s d c.0 run c.1))
    | inr e ↦ (digits_end exponent s d e.0 r digit_no_exponent run (some_is_many digit s e.0 e.1) e.2, digits_some s d e.0 run e.1)
  ]
]

point_shorter : (d f : List ℕ) → Matches point d f → length f < length d
point_shorter d f e = omega (arith, ap length e)

not_longest : (s : List ℕ) (r : List ℕ) → MatchesLongest exponent s None → Matches exponent s r → ⊥
not_longest s r h x = h.longest r x

-- a number without a point
pub whole_double : (s d e : List ℕ) → IsRun is_ascii_digit s d → MatchesOnly point d None → length d < length s → MatchesLongest exponent d (Some e) → length e < length d → IsLongestNumber body Double s e
whole_double s d e run h less exp shorter = record { found = inr (inr (d, some_digits s d run less, exp.found)); longest = all }
  where
    all : (j : Number) (r : List ℕ) → Matches (body j) s r → (length e < length r) ⊎ ((j ≡ Double) × (length e ≤ length r))
    all Integer r x = inl (omega (arith, (integer_is s d r run x).0))
    all Decimal r x = absurd (no_decimal s d r run h x)
    all Double r x = inr (refl, exp.longest r (double_whole s d r run h x).0)

pub whole_integer : (s d : List ℕ) → IsRun is_ascii_digit s d → MatchesOnly point d None → length d < length s → MatchesLongest exponent d None → IsLongestNumber body Integer s d
whole_integer s d run h less exp = record { found = some_digits s d run less; longest = all }
  where
    all : (j : Number) (r : List ℕ) → Matches (body j) s r → (length d < length r) ⊎ ((j ≡ Integer) × (length d ≤ length r))
    all Integer r x = inr (refl, (integer_is s d r run x).0)
    all Decimal r x = absurd (no_decimal s d r run h x)
    all Double r x = absurd (not_longest d r exp (double_whole s d r run h x).0)

pub no_whole : (s d : List ℕ) → IsRun is_ascii_digit s d → MatchesOnly point d None → length d ≡ length s → HasNoNumber body s
no_whole s d run h same Integer r x = absurd (omega (arith, (integer_is s d r run x).1))
no_whole s d run h same Decimal r x = no_decimal s d r run h x
no_whole s d run h same Double r x = absurd (omega (arith, (double_whole s d r run h x).1))

-- a number with a point
pub pointed_double : (s d f g e : List ℕ) → IsRun is_ascii_digit s d → MatchesOnly point d (Some f) → IsRun is_ascii_digit f g → (length d < length s) ⊎ (length g < length f)
    → MatchesLongest exponent g (Some e) → length e < length g → IsLongestNumber body Double s e
pointed_double s d f g e run h more some_one exp shorter = record { found = whole some_one; longest = all }
  where
    whole : (length d < length s) ⊎ (length g < length f) → Matches (body Double) s e
    whole (inl less) = inl (d, some_digits s d run less, (f, h.found, (g, more.found, exp.found)))
    whole (inr less) = by_digits (many_is_some digit s d run.found)
      where
        by_digits : (s ≡ d) ⊎ Matches (some digit) s d → Matches (body Double) s e
        by_digits (inl same) = inr (inl (f, subst (λ (u : List ℕ). Matches point u f) (sym same) h.found, (g, some_digits f g more less, exp.found)))
        by_digits (inr digits) = inl (d, digits, (f, h.found, (g, more.found, exp.found)))

    all : (j : Number) (r : List ℕ) → Matches (body j) s r → (length e < length r) ⊎ ((j ≡ Double) × (length e ≤ length r))
    all Integer r x = inl (omega (arith, (integer_is s d r run x).0, point_shorter d f h.found, no_longer (many digit) f g more.found))
    all Decimal r x = inl (omega (arith, (integer_is f g r more (decimal_is s d f r run h x)).0))
    all Double r x = inr (refl, exp.longest r (double_is s d f g r run h more x).0)

pub pointed_decimal : (s d f g : List ℕ) → IsRun is_ascii_digit s d → MatchesOnly point d (Some f) → IsRun is_ascii_digit f g → length g < length f → MatchesLongest exponent g None → IsLongestNumber body Decimal s g
pointed_decimal s d f g run h more less exp = record { found = (d, run.found, (f, h.found, some_digits f g more less)); longest = all }
  where
    all : (j : Number) (r : List ℕ) → Matches (body j) s r → (length g < length r) ⊎ ((j ≡ Decimal) × (length g ≤ length r))
    all Integer r x = inl (omega (arith, (integer_is s d r run x).0, point_shorter d f h.found))
    all Decimal r x = inr (refl, (integer_is f g r more (decimal_is s d f r run h x)).0)
    all Double r x = absurd (not_longest g r exp (double_is s d f g r run h more x).0)

pub pointed_integer : (s d f g : List ℕ) → IsRun is_ascii_digit s d → MatchesOnly point d (Some f) → IsRun is_ascii_digit f g → length d < length s → length f ≤ length g → MatchesLongest exponent g None → IsLongestNumber body Integer s d
pointed_integer s d f g run h more less none exp = record { found = some_digits s d run less; longest = all }
  where
    all : (j : Number) (r : List ℕ) → Matches (body j) s r → (length d < length r) ⊎ ((j ≡ Integer) × (length d ≤ length r))
    all Integer r x = inr (refl, (integer_is s d r run x).0)
    all Decimal r x = absurd (omega (arith, (integer_is f g r more (decimal_is s d f r run h x)).1))
    all Double r x = absurd (not_longest g r exp (double_is s d f g r run h more x).0)

pub no_pointed : (s d f g : List ℕ) → IsRun is_ascii_digit s d → MatchesOnly point d (Some f) → IsRun is_ascii_digit f g → length s ≤ length d → length f ≤ length g → HasNoNumber body s
no_pointed s d f g run h more no_digits no_fraction Integer r x = absurd (omega (arith, (integer_is s d r run x).1))
no_pointed s d f g run h more no_digits no_fraction Decimal r x = absurd (omega (arith, (integer_is f g r more (decimal_is s d f r run h x)).1))
no_pointed s d f g run h more no_digits no_fraction Double r x =
    elim ((double_is s d f g r run h more x).1) [ inl a ↦ absurd (omega arith) | inr b ↦ absurd (omega arith) ]

-- a number after its sign
sign_no_body : (j : Number) (u w v : List ℕ) → Matches (one is_sign) u w → Matches (body j) u v → ⊥
unfolding is_sign exponent sign is_exponent_mark
sign_no_body Integer u w v x y = not_matched (body Integer) u v (excluded_low (one is_sign) (body Integer) u w refl (one_low is_sign sign_small u w x) x) y
sign_no_body Decimal u w v x y = not_matched (body Decimal) u v (excluded_low (one is_sign) (body Decimal) u w refl (one_low is_sign sign_small u w x) x) y
sign_no_body Double u w v x y = not_matched (body Double) u v (excluded_low (one is_sign) (body Double) u w refl (one_low is_sign sign_small u w x) x) y

pub signed_longest : (s t e : List ℕ) (kind : Number) → IsSigned s t → IsLongestNumber body kind t e → IsLongestNumber signed kind s e
signed_longest s t e kind signs n = record {
  found = (t, signs.found, n.found);
  longest = λ j r x. n.longest j r (after_sign_matches (body j) s t x.0 r (sign_no_body j) signs x.1 x.2);
}

pub no_signed : (s t : List ℕ) → IsSigned s t → HasNoNumber body t → HasNoNumber signed s
no_signed s t signs none j r x = none j r (after_sign_matches (body j) s t x.0 r (sign_no_body j) signs x.1 x.2)

-- every number begins with an ASCII byte
some_low : (s r : List ℕ) → Matches (some digit) s r → StartsWith low s
some_low s r x = one_low is_ascii_digit digit_small s x.0 x.1

point_low : (s r : List ℕ) → Matches point s r → StartsWith low s
point_low s r x = subst (StartsWith low) (sym x) refl

body_low : (j : Number) (s r : List ℕ) → Matches (body j) s r → StartsWith low s
body_low Integer s r x = some_low s r x
body_low Decimal s r (m, digits, (f, at, more)) = elim (many_is_some digit s m digits) [
  | inl same ↦ subst (StartsWith low) (sym same) (point_low m f at)
  | inr x ↦ some_low s m x
]
body_low Double s r x = elim x [
  | inl a ↦ some_low s a.0 a.1
  | inr b ↦ elim b [ inl c ↦ point_low s c.0 c.1 | inr e ↦ some_low s e.0 e.1 ]
]

pub signed_low : (j : Number) (s r : List ℕ) → Matches (signed j) s r → StartsWith low s
unfolding sign
signed_low j s r (m, signs, x) = elim signs [
  | inl a ↦ one_low is_sign sign_small s m a
  | inr same ↦ subst (StartsWith low) (sym same) (body_low j m r x)
]
