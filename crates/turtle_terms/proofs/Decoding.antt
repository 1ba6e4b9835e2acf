-- Texts with escapes, and what is decoded of them.
use Rattle.std.proofs.Common.{◌≡◌, ℕ, zero, suc, ◌+◌, ◌*◌, ◌-◌, ◌<◌, Bool, true, false, cond, not, ◌&&◌, ◌||◌, ◌==◌, inl, inr, List, [], ◌∷◌, ◌++◌, length, refl, sym, ap, ◌∙◌, subst, arith, append_assoc, get_or, lit<, IsTrue}
use Rattle.std.specs.List.{list_all, list_any, filter}
use Rattle.std.proofs.lemmas.List.{append-nil}
use Rattle.std.specs.Char.{IsScalar, encode_utf8, digit_value}
use Rattle.std.specs.Str.{IsUtf8, all_scalars, encode_utf8_all}
use lib.Utf8.{scalar}
use Rattle.std.proofs.lemmas.Bool.{false≢true}
use Rattle.std.proofs.lemmas.Bool.Decides.{nat_tests}
use Rattle.std.proofs.lemmas.Str.{IsUtf8-nil, IsUtf8-append, IsUtf8-encode, IsUtf8-from_ascii, encode_ascii, inside_one}
use Rattle.iri_ref.specs.Characters.{Lacks}
use Rattle.turtle_lex.specs.Classes.{is_escaped}
use Rattle.turtle_lex.specs.Pattern.{Pattern, word, one, many, Matches, Times, hex_value}
use Rattle.turtle_lex.specs.Terminals.{uchar, echar}
use Rattle.turtle_terms.specs.declared.escapes.Escape.{Escape}
use Rattle.turtle_terms.specs.declared.escapes.Escape.TheVariants.{Outside, Opened, Number}
use Rattle.turtle_terms.specs.Escapes.{echar_value, char_bytes, next_escape, completed, decoded_from, decoded}
use Rattle.turtle_terms.specs.Laws.{PlainIsItself, NumbersAreDecoded}
use Rattle.turtle_terms.specs.Values.{is_backslash}

-- a text without a backslash is its own value
pub plain_byte : (b : ℕ) (t v : List ℕ) (test : Bool) → test ≡ false → decoded_from Outside t ≡ v
    → cond test [] (b ∷ []) ++ decoded_from (cond test Opened Outside) t ≡ b ∷ v
plain_byte b t v false h e = ap (λ (x : List ℕ). b ∷ x) e
plain_byte b t v true h e = absurd (false≢true (sym h))

pub is_false : (b : Bool) → IsTrue (not b) → b ≡ false
is_false false h = refl
is_false true h = absurd (false≢true h)

pub and_first : (a b : Bool) → IsTrue (a && b) → IsTrue a
and_first true b h = refl
and_first false b h = h

pub and_second : (a b : Bool) → IsTrue (a && b) → IsTrue b
and_second true b h = h
and_second false b h = absurd (false≢true h)

pub plain_is_itself : PlainIsItself
unfolding decoded_from
plain_is_itself [] rest h = refl
plain_is_itself (b ∷ text) rest h =
    plain_byte b (text ++ rest) (text ++ decoded rest) (b == 92)
    (is_false (b == 92) (and_first (not (is_backslash b)) (list_all (λ c. not (is_backslash c)) text) h))
    (plain_is_itself text rest (and_second (not (is_backslash b)) (list_all (λ c. not (is_backslash c)) text) h))

pub decoded_nothing : decoded [] ≡ []
unfolding decoded_from
decoded_nothing = refl

pub plain_value : (text : List ℕ) → Lacks is_backslash text → decoded text ≡ text
plain_value text h =
    ap decoded (sym (append-nil text)) ∙ plain_is_itself text [] h ∙ ap (λ (t : List ℕ). text ++ t) decoded_nothing ∙ append-nil text

pub kept_value : (text : List ℕ) → Lacks is_backslash text → filter (λ b. not (is_backslash b)) text ≡ text
kept_value [] h = refl
kept_value (b ∷ text) h = by (not (is_backslash b)) (and_first (not (is_backslash b)) (list_all (λ c. not (is_backslash c)) text) h)
    (kept_value text (and_second (not (is_backslash b)) (list_all (λ c. not (is_backslash c)) text) h))
  where
    by : (t : Bool) → IsTrue t → filter (λ c. not (is_backslash c)) text ≡ text → cond t (b ∷ filter (λ c. not (is_backslash c)) text) (filter (λ c. not (is_backslash c)) text) ≡ b ∷ text
    by true h e = ap (λ (x : List ℕ). b ∷ x) e
    by false h e = absurd (false≢true h)

-- a text in which none is found
pub lacks_found : (text : List ℕ) → list_any (λ b. b == 92) text ≡ false → Lacks is_backslash text
lacks_found [] h = refl
lacks_found (b ∷ text) h = by (b == 92) (list_any (λ c. c == 92) text) h (lacks_found text)
  where
    by : (x y : Bool) → (x || y) ≡ false → (y ≡ false → Lacks is_backslash text) → IsTrue (not x && list_all (λ c. not (is_backslash c)) text)
    by false y h more = more h
    by true y h more = absurd (false≢true (sym h))

-- the digits of a number, from the first on
more_digits : (k v d : ℕ) (t : List ℕ) (test : Bool) → test ≡ false
    → cond test (char_bytes (v * 16 + digit_value d)) [] ++ decoded_from (cond test Outside (Number k (v * 16 + digit_value d))) t
    ≡ decoded_from (Number k (v * 16 + digit_value d)) t
more_digits k v d t false h = refl
more_digits k v d t true h = absurd (false≢true (sym h))

not_zero : (n : ℕ) → 0 < n → (n == 0) ≡ false
not_zero n h = grind (arith, nat_tests)

digits_decoded : (d : ℕ) (ds : List ℕ) (k v : ℕ) (rest : List ℕ) → length ds ≡ k
    → decoded_from (Number k v) (d ∷ (ds ++ rest)) ≡ char_bytes (hex_value v (d ∷ ds)) ++ decoded rest
unfolding decoded_from
digits_decoded d [] k v rest e =
    subst (λ (n : ℕ). decoded_from (Number n v) (d ∷ rest) ≡ char_bytes (v * 16 + digit_value d) ++ decoded rest) e refl
digits_decoded d (e ∷ es) k v rest same =
    let positive : 0 < k = omega arith in
    let fewer : length es ≡ k - 1 = omega arith in
    more_digits (k - 1) v d (e ∷ (es ++ rest)) (k == 0) (not_zero k positive)
    ∙ digits_decoded e es (k - 1) (v * 16 + digit_value d) rest fewer

char_of_scalar : (n : ℕ) → IsScalar n → char_bytes n ≡ encode_utf8 n
char_of_scalar n h = ap (λ (t : Bool). cond t (encode_utf8 n) []) h

four_decoded : (ds rest : List ℕ) → length ds ≡ 4 → decoded (92 ∷ 117 ∷ (ds ++ rest)) ≡ char_bytes (hex_value 0 ds) ++ decoded rest
unfolding decoded_from
four_decoded [] rest e = absurd (omega arith)
four_decoded (d ∷ ds) rest e = let three : length ds ≡ 3 = omega arith in digits_decoded d ds 3 0 rest three

eight_decoded : (ds rest : List ℕ) → length ds ≡ 8 → decoded (92 ∷ 85 ∷ (ds ++ rest)) ≡ char_bytes (hex_value 0 ds) ++ decoded rest
unfolding decoded_from
eight_decoded [] rest e = absurd (omega arith)
eight_decoded (d ∷ ds) rest e = let seven : length ds ≡ 7 = omega arith in digits_decoded d ds 7 0 rest seven

pub numbers_are_decoded : NumbersAreDecoded
numbers_are_decoded ds rest scalar = (
  λ e. four_decoded ds rest e ∙ ap (λ (v : List ℕ). v ++ decoded rest) (char_of_scalar (hex_value 0 ds) scalar),
  λ e. eight_decoded ds rest e ∙ ap (λ (v : List ℕ). v ++ decoded rest) (char_of_scalar (hex_value 0 ds) scalar),
)

-- What is decoded of the text up to r is UTF-8.
abbrev pub Decodes : List ℕ → List ℕ → Type 0
Decodes s r = (v : List ℕ) × IsUtf8 v × (decoded s ≡ v ++ decoded r)

pub decodes_trans : (s m r : List ℕ) → Decodes s m → Decodes m r → Decodes s r
decodes_trans s m r (v, u, e) (v', u', e') = (
  v ++ v',
  IsUtf8-append v v' u u',
  e ∙ ap (λ (x : List ℕ). v ++ x) e' ∙ sym (append_assoc v v' (decoded r)),
)

plain_decodes : (t r : List ℕ) → Lacks is_backslash t → IsUtf8 t → Decodes (t ++ r) r
plain_decodes t r h u = (t, u, plain_is_itself t r h)

-- no byte of a character is a backslash, but of the backslash
lacks_by_index : (t : List ℕ) → ((k : ℕ) → k < length t → get_or t k 0 ≡ 92 → ⊥) → Lacks is_backslash t
lacks_by_index [] h = refl
lacks_by_index (b ∷ t) h = both (b == 92) (list_all (λ c. not (is_backslash c)) t) (other b (λ e. h 0 (omega arith) e))
    (lacks_by_index t (λ k less e. h (suc k) (omega arith) e))
  where
    other : (b : ℕ) → (b ≡ 92 → ⊥) → (b == 92) ≡ false
    other b h = grind (arith, nat_tests)

    both : (x y : Bool) → x ≡ false → IsTrue y → IsTrue (not x && y)
    both false y p q = q
    both true y p q = absurd (false≢true (sym p))

pub char_lacks : (c : ℕ) → (c ≡ 92 → ⊥) → Lacks is_backslash (encode_utf8 c)
char_lacks c h = lacks_by_index (encode_utf8 c) (λ k less e.
    h (inside_one c [] (encode_utf8 c) k (whole (encode_utf8 c)) less (omega (arith, e)) ∙ e))
  where
    whole : (t : List ℕ) → t ≡ t ++ []
    whole [] = refl
    whole (b ∷ t) = ap (λ (x : List ℕ). b ∷ x) (whole t)

pub one_decodes : (p : ℕ → Bool) (s r : List ℕ) → p 92 ≡ false → Matches (one p) s r → Decodes s r
one_decodes p s r fails (c, scalar, passes, e) =
    subst (λ (t : List ℕ). Decodes t r) (sym e)
    (plain_decodes (encode_utf8 c) r (char_lacks c (λ same. false≢true (sym fails ∙ ap p (sym same) ∙ passes))) (IsUtf8-encode c scalar))

pub word_decodes : (w s r : List ℕ) → Lacks is_backslash w → IsUtf8 w → Matches (word w) s r → Decodes s r
word_decodes w s r h u e = subst (λ (t : List ℕ). Decodes t r) (sym e) (plain_decodes w r h u)

number_decodes : (n : ℕ) (s r : List ℕ) → IsScalar n → decoded s ≡ char_bytes n ++ decoded r → Decodes s r
number_decodes n s r scalar e = (
  encode_utf8 n,
  IsUtf8-encode n scalar,
  e ∙ ap (λ (v : List ℕ). v ++ decoded r) (char_of_scalar n scalar),
)

pub uchar_decodes : (s r : List ℕ) → Matches uchar s r → Decodes s r
unfolding uchar
uchar_decodes s r (inl (m, first, (ds, len, hex, scalar, e))) =
    number_decodes (hex_value 0 ds) s r scalar
    (ap decoded (first ∙ ap (λ (t : List ℕ). 92 ∷ 117 ∷ t) e) ∙ four_decoded ds r len)
uchar_decodes s r (inr (m, first, (ds, len, hex, scalar, e))) =
    number_decodes (hex_value 0 ds) s r scalar
    (ap decoded (first ∙ ap (λ (t : List ℕ). 92 ∷ 85 ∷ t) e) ∙ eight_decoded ds r len)

-- an ECHAR is one ASCII character
echar_decoded : (c : ℕ) (r : List ℕ) → is_escaped c ≡ true → decoded (92 ∷ c ∷ r) ≡ echar_value c ∷ decoded r
unfolding decoded_from is_escaped
echar_decoded c r h = by (c == 117) (c == 85) (no_u c h) (no_big_u c h)
  where
    no_u : (c : ℕ) → is_escaped c ≡ true → (c == 117) ≡ false
    no_u c h = grind (arith, nat_tests)

    no_big_u : (c : ℕ) → is_escaped c ≡ true → (c == 85) ≡ false
    no_big_u c h = grind (arith, nat_tests)

    by : (a b : Bool) → a ≡ false → b ≡ false
        → cond (a || b) [] (echar_value c ∷ []) ++ decoded_from (cond a (Number 3 0) (cond b (Number 7 0) Outside)) r ≡ echar_value c ∷ decoded r
    by false false p q = refl
    by false true p q = absurd (false≢true (sym q))
    by true b p q = absurd (false≢true (sym p))

escaped_low : (c : ℕ) → is_escaped c ≡ true → (c < 128) × (echar_value c < 128)
unfolding is_escaped
escaped_low c h = (grind (arith, nat_tests), grind (arith, nat_tests))

ascii_utf8 : (b : ℕ) → b < 128 → IsUtf8 (b ∷ [])
ascii_utf8 b h = IsUtf8-from_ascii (b ∷ []) (one_byte b h)
  where
    one_byte : (b : ℕ) → b < 128 → (i : ℕ) → get_or (b ∷ []) i 0 < 128
    one_byte b h zero = h
    one_byte b h (suc i) = omega arith

pub echar_decodes : (s r : List ℕ) → Matches echar s r → Decodes s r
unfolding echar
echar_decodes s r (m, first, (c, scalar, passes, e)) =
    let low = escaped_low c passes in (
      echar_value c ∷ [],
      ascii_utf8 (echar_value c) low.1,
      ap decoded (first ∙ ap (λ (t : List ℕ). 92 ∷ t) (e ∙ ap (λ (t : List ℕ). t ++ r) (encode_ascii c low.0))) ∙ echar_decoded c r passes,
    )

times_decodes : (R : List ℕ → List ℕ → Type 0) → ((s r : List ℕ) → R s r → Decodes s r) → (n : ℕ) (s r : List ℕ) → Times R n s r → Decodes s r
times_decodes R h zero s r e = ([], IsUtf8-nil, ap decoded e)
times_decodes R h (suc n) s r (m, x, xs) = decodes_trans s m r (h s m x) (times_decodes R h n m r xs)

pub many_decodes : (p : Pattern) → ((s r : List ℕ) → Matches p s r → Decodes s r) → (s r : List ℕ) → Matches (many p) s r → Decodes s r
many_decodes p h s r (n, x) = times_decodes (Matches p) h n s r x

pub decodes_utf8 : (s : List ℕ) → Decodes s [] → IsUtf8 (decoded s)
decodes_utf8 s (v, u, e) = subst IsUtf8 (sym (e ∙ nothing v)) u
  where
    nothing : (v : List ℕ) → v ++ decoded [] ≡ v
    nothing [] = decoded_nothing
    nothing (b ∷ v) = ap (λ (x : List ℕ). b ∷ x) (nothing v)

-- UTF-8 without its backslashes is UTF-8
abbrev pub without : List ℕ → List ℕ
without text = filter (λ b. not (is_backslash b)) text

without_append : (s t : List ℕ) → without (s ++ t) ≡ without s ++ without t
without_append [] t = refl
without_append (b ∷ s) t = by (not (is_backslash b)) (without_append s t)
  where
    by : (x : Bool) → without (s ++ t) ≡ without s ++ without t
        → cond x (b ∷ without (s ++ t)) (without (s ++ t)) ≡ cond x (b ∷ without s) (without s) ++ without t
    by true e = ap (λ (x : List ℕ). b ∷ x) e
    by false e = e

char_without : (c : ℕ) → IsScalar c → IsUtf8 (without (encode_utf8 c))
char_without c scalar = by (c == 92) refl
  where
    by : (x : Bool) → (c == 92) ≡ x → IsUtf8 (without (encode_utf8 c))
    by true e = subst (λ (t : List ℕ). IsUtf8 (without t)) (sym (ap encode_utf8 (same c e) ∙ encode_ascii 92 (lit< tt))) IsUtf8-nil
      where
        same : (c : ℕ) → (c == 92) ≡ true → c ≡ 92
        same c e = grind (arith, nat_tests)
    by false e = subst IsUtf8 (sym (kept_value (encode_utf8 c) (char_lacks c (other c e)))) (IsUtf8-encode c scalar)
      where
        other : (c : ℕ) → (c == 92) ≡ false → c ≡ 92 → ⊥
        other c e same = grind (arith, nat_tests)

chars_without : (cs : List ℕ) → all_scalars cs ≡ true → IsUtf8 (without (encode_utf8_all cs))
chars_without [] h = IsUtf8-nil
chars_without (c ∷ cs) h = subst IsUtf8 (sym (without_append (encode_utf8 c) (encode_utf8_all cs)))
    (IsUtf8-append (without (encode_utf8 c)) (without (encode_utf8_all cs)) (char_without c (and_first (scalar c) (all_scalars cs) h))
    (chars_without cs (and_second (scalar c) (all_scalars cs) h)))

pub without_utf8 : (text : List ℕ) → IsUtf8 text → IsUtf8 (without text)
without_utf8 text (cs, (scalars, e)) = subst (λ (t : List ℕ). IsUtf8 (without t)) e (chars_without cs scalars)

-- one byte more of a pass
pub step_decoded : (v v' start rest rest' : List ℕ) (e e' : Escape) (b : ℕ) → v ++ decoded_from e rest ≡ start → rest ≡ b ∷ rest'
    → e' ≡ next_escape e b → v' ≡ v ++ completed e b → v' ++ decoded_from e' rest' ≡ start
unfolding decoded_from
step_decoded v v' start rest rest' e e' b h split next longer =
    ap (λ (x : List ℕ). x ++ decoded_from e' rest') longer ∙ append_assoc v (completed e b) (decoded_from e' rest')
    ∙ ap (λ (x : Escape). v ++ (completed e b ++ decoded_from x rest')) next ∙ ap (λ (t : List ℕ). v ++ decoded_from e t) (sym split) ∙ h

-- the end of a pass
pub end_decoded : (v start rest : List ℕ) (e : Escape) → v ++ decoded_from e rest ≡ start → length rest ≡ 0 → v ≡ start
unfolding decoded_from
end_decoded v start [] e h none = sym (append-nil v) ∙ h
end_decoded v start (b ∷ rest) e h none = absurd (omega arith)
