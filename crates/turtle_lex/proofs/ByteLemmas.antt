-- Which bytes the texts of a pattern have.
use Rattle.std.proofs.Common.{◌≡◌, ℕ, zero, suc, ◌<◌, ◌≤◌, Bool, true, false, not, ◌&&◌, ⊎_elim, inl, inr, List, [], ◌∷◌, ◌++◌}
use Rattle.std.proofs.Common.{length, map, get_or, refl, sym, ap, ◌∙◌, arith, append_assoc, length-append}
use Rattle.std.specs.List.{list_all}
use Rattle.std.specs.Char.{encode_utf8, is_ascii_hexdigit, to_ascii_lowercase}
use Rattle.std.proofs.lemmas.Bool.{false≢true, ltb-true, cases_lt}
use Rattle.std.proofs.lemmas.List.{append-nil}
use Rattle.std.proofs.lemmas.Str.{inside_one}
use Rattle.turtle_lex.specs.Pattern.{Pattern, word, any_case, one, number, ◌∘◌, ◌∣◌, many, Matches, Times}
use Rattle.turtle_lex.proofs.FirstBytes.{and_left, and_right, below, none_below, hex_low}
use Rattle.turtle_lex.proofs.Matching.{heads}

-- All bytes of the pattern's texts pass the test, if all bytes above 127 do.
abbrev pub keeps : (ℕ → Bool) → Pattern → Bool
keeps f (word w) = list_all f w
keeps f (any_case w) = list_all f (map to_ascii_lowercase w)
keeps f (one p) = none_below p (λ b. not (f b)) 128
keeps f (number n) = none_below is_ascii_hexdigit (λ b. not (f b)) 128
keeps f (p ∘ q) = keeps f p && keeps f q
keeps f (p ∣ q) = keeps f p && keeps f q
keeps f (many p) = keeps f p

-- All bytes above 127 pass the test, and so does a letter where its lower case does.
pub record ByteTest (f : ℕ → Bool) : Type 0 where
  pub high : (b : ℕ) → 128 ≤ b → f b ≡ true
  pub case : (b : ℕ) → f (to_ascii_lowercase b) ≡ true → f b ≡ true

-- a prefix of s whose bytes pass, and r is left
abbrev pub Kept : (ℕ → Bool) → List ℕ → List ℕ → Type 0
Kept f s r = (t : List ℕ) × (list_all f t ≡ true) × (s ≡ t ++ r)

both_true : (x y : Bool) → x ≡ true → y ≡ true → (x && y) ≡ true
both_true true y p q = q
both_true false y p q = absurd (false≢true p)

all_append : (f : ℕ → Bool) (t u : List ℕ) → list_all f t ≡ true → list_all f u ≡ true → list_all f (t ++ u) ≡ true
all_append f [] u h k = k
all_append f (b ∷ t) u h k = both_true (f b) (list_all f (t ++ u)) (and_left (f b) (list_all f t) h)
    (all_append f t u (and_right (f b) (list_all f t) h) k)

pub all_from : (f : ℕ → Bool) (t : List ℕ) → ((i : ℕ) → i < length t → f (get_or t i 0) ≡ true) → list_all f t ≡ true
all_from f [] h = refl
all_from f (b ∷ t) h = both_true (f b) (list_all f t) (h 0 (omega arith)) (all_from f t (λ i less. h (suc i) (omega arith)))

kept_trans : (f : ℕ → Bool) (s m r : List ℕ) → Kept f s m → Kept f m r → Kept f s r
kept_trans f s m r (t, h, e) (u, k, e') =
    (t ++ u, all_append f t u h k, e ∙ ap (λ (x : List ℕ). t ++ x) e' ∙ sym (append_assoc t u r))

-- a byte below 128 that passes p passes f
passes_low : (f p : ℕ → Bool) (x : ℕ) → none_below p (λ b. not (f b)) 128 ≡ true → x < 128 → p x ≡ true → f x ≡ true
passes_low f p x h less k = by (f x) refl
  where
    by : (t : Bool) → f x ≡ t → f x ≡ true
    by true is = is
    by false is = absurd (below p (λ b. not (f b)) 128 x h less k (ap not is))

char_kept : (f p : ℕ → Bool) (c : ℕ) → ByteTest f → none_below p (λ b. not (f b)) 128 ≡ true → p c ≡ true
    → list_all f (encode_utf8 c) ≡ true
char_kept f p c test h passes = all_from f (encode_utf8 c) at
  where
    at : (i : ℕ) → i < length (encode_utf8 c) → f (get_or (encode_utf8 c) i 0) ≡ true
    at i within = ⊎_elim
        (λ (small : get_or (encode_utf8 c) i 0 < 128).
        let same : c ≡ get_or (encode_utf8 c) i 0 = inside_one c [] (encode_utf8 c) i (sym (append-nil (encode_utf8 c))) within small in
        passes_low f p (get_or (encode_utf8 c) i 0) h small (sym (ap p same) ∙ passes))
        (λ (large : 128 ≤ get_or (encode_utf8 c) i 0). test.high (get_or (encode_utf8 c) i 0) large)
        (cases_lt (get_or (encode_utf8 c) i 0) 128)

case_kept : (f : ℕ → Bool) (t : List ℕ) → ByteTest f → list_all f (map to_ascii_lowercase t) ≡ true → list_all f t ≡ true
case_kept f [] test h = refl
case_kept f (b ∷ t) test h = both_true (f b) (list_all f t)
    (test.case b (and_left (f (to_ascii_lowercase b)) (list_all f (map to_ascii_lowercase t)) h))
    (case_kept f t test (and_right (f (to_ascii_lowercase b)) (list_all f (map to_ascii_lowercase t)) h))

hex_kept : (f : ℕ → Bool) (ds : List ℕ) → none_below is_ascii_hexdigit (λ b. not (f b)) 128 ≡ true
    → list_all is_ascii_hexdigit ds ≡ true → list_all f ds ≡ true
hex_kept f [] h k = refl
hex_kept f (d ∷ ds) h k =
    let digit = and_left (is_ascii_hexdigit d) (list_all is_ascii_hexdigit ds) k in
    both_true (f d) (list_all f ds) (passes_low f is_ascii_hexdigit d h (ltb-true d 128 (hex_low d digit)) digit)
    (hex_kept f ds h (and_right (is_ascii_hexdigit d) (list_all is_ascii_hexdigit ds) k))

times_kept : (f : ℕ → Bool) (R : List ℕ → List ℕ → Type 0) → ((s r : List ℕ) → R s r → Kept f s r)
    → (n : ℕ) (s r : List ℕ) → Times R n s r → Kept f s r
times_kept f R h zero s r e = ([], refl, e)
times_kept f R h (suc n) s r (m, x, xs) = kept_trans f s m r (h s m x) (times_kept f R h n m r xs)

-- the bytes of a pattern's text
pub kept : (f : ℕ → Bool) → ByteTest f → (p : Pattern) (s r : List ℕ) → keeps f p ≡ true → Matches p s r → Kept f s r
kept f test (word w) s r h e = (w, h, e)
kept f test (any_case w) s r h (t, same, e) = (t, case_kept f t test (ap (list_all f) same ∙ h), e)
kept f test (one p) s r h (c, scalar, passes, e) = (encode_utf8 c, char_kept f p c test h passes, e)
kept f test (number n) s r h (ds, len, hex, scalar, e) = (ds, hex_kept f ds h hex, e)
kept f test (p ∘ q) s r h (m, x, y) = kept_trans f s m r (kept f test p s m (and_left (keeps f p) (keeps f q) h) x)
    (kept f test q m r (and_right (keeps f p) (keeps f q) h) y)
kept f test (p ∣ q) s r h x = elim x [
  | inl a ↦ kept f test p s r (and_left (keeps f p) (keeps f q) h) a
  | inr b ↦ kept f test q s r (and_right (keeps f p) (keeps f q) h) b
]
kept f test (many p) s r h (n, x) = times_kept f (Matches p) (λ a b y. kept f test p a b h y) n s r x

-- bytes that pass end before one that doesn't
pub kept_ends : (f : ℕ → Bool) (t w q m : List ℕ) (b : ℕ) → list_all f t ≡ true → f b ≡ false → t ++ q ≡ w ++ b ∷ m
    → length m < length q
kept_ends f [] w q m b h fails e = omega (arith, ap length e, length-append w (b ∷ m))
kept_ends f (a ∷ t) [] q m b h fails e =
    let same = heads a b (t ++ q) m e in
    absurd (false≢true (sym fails ∙ sym (ap f same.0) ∙ and_left (f a) (list_all f t) h))
kept_ends f (a ∷ t) (c ∷ w) q m b h fails e =
    kept_ends f t w q m b (and_right (f a) (list_all f t) h) fails (heads a c (t ++ q) (w ++ b ∷ m) e).1

-- two texts up to the first byte that doesn't pass are the same
pub first_same : (f : ℕ → Bool) (t u m n : List ℕ) (b : ℕ) → list_all f t ≡ true → list_all f u ≡ true → f b ≡ false
    → t ++ b ∷ m ≡ u ++ b ∷ n → (t ≡ u) × (m ≡ n)
first_same f [] [] m n b h k fails e = (refl, (heads b b m n e).1)
first_same f [] (c ∷ u) m n b h k fails e =
    absurd (false≢true (sym fails ∙ ap f (heads b c m (u ++ b ∷ n) e).0 ∙ and_left (f c) (list_all f u) k))
first_same f (a ∷ t) [] m n b h k fails e =
    absurd (false≢true (sym fails ∙ sym (ap f (heads a b (t ++ b ∷ m) n e).0) ∙ and_left (f a) (list_all f t) h))
first_same f (a ∷ t) (c ∷ u) m n b h k fails e =
    let same = heads a c (t ++ b ∷ m) (u ++ b ∷ n) e in
    let rest = first_same f t u m n b (and_right (f a) (list_all f t) h) (and_right (f c) (list_all f u) k) fails same.1 in
    (ap (λ (x : ℕ). x ∷ t) same.0 ∙ ap (λ (x : List ℕ). c ∷ x) rest.0, rest.1)
