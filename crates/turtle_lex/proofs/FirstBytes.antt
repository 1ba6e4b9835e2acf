-- The byte that a text of a pattern begins with, which excludes most pairs of patterns.
use Rattle.std.proofs.Common.{◌≡◌, ℕ, zero, suc, ◌+◌, ◌<◌, ◌≤◌, Bool, true, false, cond, not, ◌&&◌, ◌||◌, ◌==◌, ltb, ◌⊎◌, inl, inr, ⊎_elim, List, [], ◌∷◌, ◌++◌, length, map, None, refl, sym, ap, ◌∙◌, subst, arith, min, eq-eqb, length-append}
use Rattle.std.specs.Char.{encode_utf8, is_ascii_hexdigit, to_ascii_lowercase}
use Rattle.std.specs.List.{list_all}
use Rattle.std.proofs.lemmas.Str.{encode_ascii, length-encode, len_utf8_bounds}
use Rattle.std.proofs.lemmas.Bool.{false≢true, ltb-true, lt-ltb, cases_lt}
use Rattle.std.proofs.lemmas.List.{length-map}
use Rattle.std.proofs.lemmas.Bool.Decides.{nat_tests}
use Rattle.turtle_lex.specs.Pattern.{Pattern, word, any_case, one, number, ◌∘◌, ◌∣◌, many, Matches, Times, MatchesOnly}
use Rattle.turtle_lex.proofs.Matching.{refused, ascii_one, heads, one_shorter, no_longer}

-- an ASCII byte, or 128 for all others
abbrev pub lead : ℕ → ℕ
lead b = cond (ltb b 128) b 128

-- the empty text is one of the pattern
abbrev pub nullable : Pattern → Bool
nullable (word []) = true
nullable (word (a ∷ w)) = false
nullable (any_case []) = true
nullable (any_case (a ∷ w)) = false
nullable (one p) = false
nullable (number n) = n == 0
nullable (p ∘ q) = nullable p && nullable q
nullable (p ∣ q) = nullable p || nullable q
nullable (many p) = true

-- a text of the pattern may begin so
abbrev pub first : Pattern → ℕ → Bool
first (word []) x = false
first (word (a ∷ w)) x = lead a == x
first (any_case []) x = false
first (any_case (a ∷ w)) x = lead (to_ascii_lowercase a) == lead (to_ascii_lowercase x)
first (one p) x = cond (ltb x 128) (p x) true
first (number n) x = is_ascii_hexdigit x
first (p ∘ q) x = first p x || (nullable p && first q x)
first (p ∣ q) x = first p x || first q x
first (many p) x = first p x

-- the text begins so
abbrev pub StartsWith : (ℕ → Bool) → List ℕ → Type 0
StartsWith f [] = ⊥
StartsWith f (b ∷ s) = f (lead b) ≡ true

or_left_true : (a b : Bool) → a ≡ true → (a || b) ≡ true
or_left_true true b h = refl
or_left_true false b h = absurd (false≢true h)

or_right_true : (a b : Bool) → b ≡ true → (a || b) ≡ true
or_right_true true b h = refl
or_right_true false b h = h

and_true : (a b : Bool) → a ≡ true → b ≡ true → (a && b) ≡ true
and_true true b h k = k
and_true false b h k = absurd (false≢true h)

pub and_left : (a b : Bool) → (a && b) ≡ true → a ≡ true
and_left true b h = refl
and_left false b h = h

pub and_right : (a b : Bool) → (a && b) ≡ true → b ≡ true
and_right true b h = h
and_right false b h = absurd (false≢true h)

-- a hexadecimal digit is ASCII
pub hex_low : (d : ℕ) → is_ascii_hexdigit d ≡ true → ltb d 128 ≡ true
hex_low d h = grind (arith, nat_tests)

begins_wider : (f g : ℕ → Bool) → ((x : ℕ) → f x ≡ true → g x ≡ true) → (s : List ℕ) → StartsWith f s → StartsWith g s
begins_wider f g h [] x = x
begins_wider f g h (b ∷ s) x = h (lead b) x

pub lead_low : (b : ℕ) → ltb b 128 ≡ true → lead b ≡ b
lead_low b h = ap (λ (t : Bool). cond t b 128) h

pub lead_high : (b : ℕ) → ltb b 128 ≡ false → lead b ≡ 128
lead_high b h = ap (λ (t : Bool). cond t b 128) h

pub not_empty : (c : ℕ) (r : List ℕ) → [] ≡ encode_utf8 c ++ r → ⊥
not_empty c r e = absurd (omega (arith, ap length e, length-append (encode_utf8 c) r, length-encode c, (len_utf8_bounds c).0))

-- the first byte of a character
lead_char : (p : ℕ → Bool) (s r : List ℕ) → Matches (one p) s r → StartsWith (first (one p)) s
lead_char p [] r x = not_empty x.0 r x.3
lead_char p (b ∷ s) r x = by_width (ltb b 128) refl
  where
    by_width : (t : Bool) → ltb b 128 ≡ t → first (one p) (lead b) ≡ true
    by_width true is =
        subst (λ (y : ℕ). cond (ltb y 128) (p y) true ≡ true) (sym (lead_low b is))
        (ap (λ (t : Bool). cond t (p b) true) is ∙ (ascii_one p b s r (ltb-true b 128 is) x).0)
    by_width false is = ap (λ (y : ℕ). cond (ltb y 128) (p y) true) (lead_high b is)

-- nothing was read, and may be; or the first byte is one that the pattern may begin with
abbrev pub Starts : Pattern → List ℕ → List ℕ → Type 0
Starts p s r = ((s ≡ r) × (nullable p ≡ true)) ⊎ StartsWith (first p) s

first_hex : (s : List ℕ) (n : ℕ) (ds r : List ℕ) → length ds ≡ n → list_all is_ascii_hexdigit ds ≡ true → s ≡ ds ++ r → Starts (number n) s r
first_hex s n [] r len hex e = inl (e, eq-eqb n 0 (sym len))
first_hex s n (d ∷ ds) r len hex e = inr (subst (StartsWith (first (number n))) (sym e)
    (subst (λ (x : ℕ). is_ascii_hexdigit x ≡ true) (sym (lead_low d (hex_low d (and_left (is_ascii_hexdigit d) (list_all is_ascii_hexdigit ds) hex)))) (and_left (is_ascii_hexdigit d) (list_all is_ascii_hexdigit ds) hex)))

-- a letter in another case
lead_case : (b : ℕ) → lead (to_ascii_lowercase (lead b)) ≡ lead (to_ascii_lowercase b)
lead_case b = grind (arith, nat_tests)

first_any : (w s t r : List ℕ) → map to_ascii_lowercase t ≡ map to_ascii_lowercase w → s ≡ t ++ r → Starts (any_case w) s r
first_any [] s [] r same e = inl (e, refl)
first_any [] s (b ∷ t) r same e = absurd (omega (arith, ap length same))
first_any (a ∷ w) s [] r same e = absurd (omega (arith, ap length same))
first_any (a ∷ w) s (b ∷ t) r same e =
    let letters : to_ascii_lowercase b ≡ to_ascii_lowercase a = (heads (to_ascii_lowercase b) (to_ascii_lowercase a) (map to_ascii_lowercase t) (map to_ascii_lowercase w) same).0 in
    inr (subst (StartsWith (first (any_case (a ∷ w)))) (sym e) (eq-eqb (lead (to_ascii_lowercase a)) (lead (to_ascii_lowercase (lead b))) (ap lead (sym letters) ∙ sym (lead_case b))))

starts_then : (p q : Pattern) (s m r : List ℕ) → Starts p s m → Starts q m r → Starts (p ∘ q) s r
starts_then p q s m r (inr h) k = inr (begins_wider (first p) (first (p ∘ q)) (λ x t. or_left_true (first p x) _ t) s h)
starts_then p q s m r (inl (same, empty)) (inl (last, none)) = inl (same ∙ last, and_true (nullable p) (nullable q) empty none)
starts_then p q s m r (inl (same, empty)) (inr k) =
    inr (begins_wider (first q) (first (p ∘ q)) (λ x t. or_right_true (first p x) _ (and_true (nullable p) (first q x) empty t)) s (subst (StartsWith (first q)) (sym same) k))

starts_either : (p q : Pattern) (s r : List ℕ) → Starts p s r ⊎ Starts q s r → Starts (p ∣ q) s r
starts_either p q s r (inl (inl (same, empty))) = inl (same, or_left_true (nullable p) (nullable q) empty)
starts_either p q s r (inl (inr h)) = inr (begins_wider (first p) (first (p ∣ q)) (λ x t. or_left_true (first p x) (first q x) t) s h)
starts_either p q s r (inr (inl (same, empty))) = inl (same, or_right_true (nullable p) (nullable q) empty)
starts_either p q s r (inr (inr h)) = inr (begins_wider (first q) (first (p ∣ q)) (λ x t. or_right_true (first p x) (first q x) t) s h)

starts_times : (p : Pattern) → ((s r : List ℕ) → Matches p s r → Starts p s r) → (n : ℕ) (s r : List ℕ) → Times (Matches p) n s r → Starts (many p) s r
starts_times p h zero s r e = inl (e, refl)
starts_times p h (suc n) s r (m, x, more) =
    ⊎_elim (λ (a : (s ≡ m) × (nullable p ≡ true)). subst (λ (t : List ℕ). Starts (many p) t r) (sym a.0) (starts_times p h n m r more)) (λ (a : StartsWith (first p) s). inr a) (h s m x)

pub starts : (p : Pattern) (s r : List ℕ) → Matches p s r → Starts p s r
starts (word []) s r x = inl (x, refl)
starts (word (a ∷ w)) s r x = inr (subst (StartsWith (first (word (a ∷ w)))) (sym x) (eq-eqb (lead a) (lead a) refl))
starts (any_case w) s r x = first_any w s x.0 r x.1 x.2
starts (one p) s r x = inr (lead_char p s r x)
starts (number n) s r x = first_hex s n x.0 r x.1 x.2 x.4
starts (p ∘ q) s r x = starts_then p q s x.0 r (starts p s x.0 x.1) (starts q x.0 r x.2)
starts (p ∣ q) s r x = starts_either p q s r (⊎_elim (λ (a : Matches p s r). inl (starts p s r a)) (λ (a : Matches q s r). inr (starts q s r a)) x)
starts (many p) s r x = starts_times p (starts p) x.0 s r x.1

-- what isn't empty begins with one of its first bytes
pub begins : (p : Pattern) (s r : List ℕ) → nullable p ≡ false → Matches p s r → StartsWith (first p) s
begins p s r full x = elim (starts p s r x) [ inl a ↦ absurd (false≢true (sym full ∙ a.1)) | inr b ↦ b ]

-- no byte below n begins both
abbrev pub none_below : (ℕ → Bool) → (ℕ → Bool) → ℕ → Bool
none_below f g zero = true
none_below f g (suc n) = not (f n && g n) && none_below f g n

-- the two begin with different bytes, and neither is empty
abbrev pub apart : Pattern → Pattern → Bool
apart p q = not (nullable p) && (not (nullable q) && none_below (first p) (first q) 129)

not_both : (a b : Bool) → not (a && b) ≡ true → a ≡ true → b ≡ true → ⊥
not_both true true h j k = false≢true h
not_both true false h j k = false≢true k
not_both false b h j k = false≢true j

not_true : (a : Bool) → not a ≡ true → a ≡ false
not_true true h = absurd (false≢true h)
not_true false h = refl

pub lt_or_same : (n x : ℕ) → x < suc n → (x ≡ n) ⊎ (x < n)
lt_or_same n x lt = elim (cases_lt x n) [ inl h ↦ inr h | inr h ↦ inl (omega arith) ]

pub below : (f g : ℕ → Bool) (n x : ℕ) → none_below f g n ≡ true → x < n → f x ≡ true → g x ≡ true → ⊥
below f g zero x h lt j k = absurd (omega arith)
below f g (suc n) x h lt j k =
    ⊎_elim
    (λ (same : x ≡ n). not_both (f n) (g n) (and_left (not (f n && g n)) (none_below f g n) h) (subst (λ (y : ℕ). f y ≡ true) same j) (subst (λ (y : ℕ). g y ≡ true) same k))
    (λ (less : x < n). below f g n x (and_right (not (f n && g n)) (none_below f g n) h) less j k)
    (lt_or_same n x lt)

lead_small : (b : ℕ) → lead b < 129
lead_small b = grind (arith, nat_tests)

pub both_begin : (f g : ℕ → Bool) (s : List ℕ) → none_below f g 129 ≡ true → StartsWith f s → StartsWith g s → ⊥
both_begin f g [] h j k = j
both_begin f g (b ∷ s) h j k = below f g 129 (lead b) h (lead_small b) j k

-- where the one matches, the other doesn't
pub excluded : (p q : Pattern) (s m : List ℕ) → apart p q ≡ true → Matches p s m → MatchesOnly q s None
excluded p q s m h x = refused q s (λ r y.
    let rest = and_right (not (nullable p)) (not (nullable q) && none_below (first p) (first q) 129) h in
    both_begin (first p) (first q) s
    (and_right (not (nullable q)) (none_below (first p) (first q) 129) rest)
    (begins p s m (not_true (nullable p) (and_left (not (nullable p)) (not (nullable q) && none_below (first p) (first q) 129) h)) x)
    (begins q s r (not_true (nullable q) (and_left (not (nullable q)) (none_below (first p) (first q) 129) rest)) y))

-- the same where an ASCII byte matches
abbrev pub low : ℕ → Bool
low x = ltb x 128

abbrev pub apart_low : Pattern → Pattern → Bool
apart_low p q = not (nullable p) && (not (nullable q) && none_below (first p) (first q) 128)

pub low_both : (f g : ℕ → Bool) (s : List ℕ) → none_below f g 128 ≡ true → StartsWith low s → StartsWith f s → StartsWith g s → ⊥
low_both f g [] h l j k = j
low_both f g (b ∷ s) h l j k = below f g 128 (lead b) h (ltb-true (lead b) 128 l) j k

pub excluded_low : (p q : Pattern) (s m : List ℕ) → apart_low p q ≡ true → StartsWith low s → Matches p s m → MatchesOnly q s None
excluded_low p q s m h l x = refused q s (λ r y.
    let rest = and_right (not (nullable p)) (not (nullable q) && none_below (first p) (first q) 128) h in
    low_both (first p) (first q) s
    (and_right (not (nullable q)) (none_below (first p) (first q) 128) rest) l
    (begins p s m (not_true (nullable p) (and_left (not (nullable p)) (not (nullable q) && none_below (first p) (first q) 128) h)) x)
    (begins q s r (not_true (nullable q) (and_left (not (nullable q)) (none_below (first p) (first q) 128) rest)) y))

pub one_low : (p : ℕ → Bool) → ((c : ℕ) → p c ≡ true → c < 128) → (s m : List ℕ) → Matches (one p) s m → StartsWith low s
one_low p small s m x =
    let c = x.0 in
    let is_low : ltb c 128 ≡ true = lt-ltb c 128 (small c x.2) in
    let here : s ≡ c ∷ m = x.3 ∙ ap (λ (t : List ℕ). t ++ m) (encode_ascii c (small c x.2)) in
    subst (StartsWith low) (sym here) (ap (λ (y : ℕ). ltb y 128) (lead_low c is_low) ∙ is_low)

-- how long a text of the pattern is at least
abbrev pub least : Pattern → ℕ
least (word w) = length w
least (any_case w) = length w
least (one p) = 1
least (number n) = n
least (p ∘ q) = least p + least q
least (p ∣ q) = min (least p) (least q)
least (many p) = 0

least_left : (a b n m : ℕ) → n + a ≤ m → n + min a b ≤ m
least_left a b n m h = omega arith

least_right : (a b n m : ℕ) → n + b ≤ m → n + min a b ≤ m
least_right a b n m h = omega arith

pub at_least : (p : Pattern) (s r : List ℕ) → Matches p s r → length r + least p ≤ length s
at_least (word w) s r x = omega (arith, ap length x, length-append w r)
at_least (any_case w) s r (t, same, e) =
    let len : length t ≡ length w = sym (length-map t to_ascii_lowercase) ∙ ap length same ∙ length-map w to_ascii_lowercase in
    omega (arith, ap length e, length-append t r, len)
at_least (one p) s r x = omega (arith, one_shorter p s r x)
at_least (number n) s r (ds, len, hex, scalar, e) = omega (arith, ap length e, length-append ds r, len)
at_least (p ∘ q) s r (m, x, y) = let h = at_least p s m x in let k = at_least q m r y in omega (arith, h, k)
at_least (p ∣ q) s r x = elim x [ inl a ↦ least_left (least p) (least q) (length r) (length s) (at_least p s r a) | inr b ↦ least_right (least p) (least q) (length r) (length s) (at_least q s r b) ]
at_least (many p) s r x = omega (arith, no_longer (many p) s r x)
