-- What tokens and gaps are made of is UTF-8.
use Rattle.std.proofs.Common.{◌≡◌, ℕ, zero, suc, ◌<◌, ◌≤◌, Bool, true, false, ◌&&◌, inl, inr, List, [], ◌∷◌, ◌++◌, length, take, drop, map, refl, sym, ap, ◌∙◌, subst, arith, append_assoc, length-append, length-drop}
use Rattle.std.specs.Str.{IsUtf8, IsAscii, IsValidUpTo, all_scalars, encode_utf8_all}
use Rattle.std.proofs.Math.Utf8.{scalar}
use Rattle.std.specs.List.{list_all}
use Rattle.std.specs.Char.{encode_utf8, is_ascii, is_ascii_hexdigit, to_ascii_lowercase}
use Rattle.std.proofs.lemmas.Bool.{false≢true, ltb-true}
use Rattle.std.proofs.lemmas.Bool.Decides.{nat_tests}
use Rattle.std.proofs.lemmas.List.{take_at, take-take, length-take, take-append-drop, drop-append-le}
use Rattle.std.proofs.lemmas.Str.{IsUtf8-nil, IsUtf8-append, IsUtf8-from_ascii, IsUtf8-encode, IsUtf8-drop, IsCharBoundary-from_take}
use Rattle.turtle_lex.specs.declared.token.TokenKind.{TokenKind}
use Rattle.turtle_lex.specs.declared.token.TokenKind.TheVariants.{IriRef, PnameNs, PnameLn, BlankLabel, LangTag, Integer, Decimal, Double, Quoted, Anon, AtPrefix, AtBase, Prefix, Base, A, True, False, Dot, Semicolon, Comma, Carets, OpenSquare, CloseSquare, OpenRound, CloseRound, OpenBrace, CloseBrace, Variable}
use Rattle.turtle_lex.specs.declared.token.Token.{Token}
use Rattle.turtle_lex.specs.Classes.{is_iri_char, is_line_char, is_long_char, is_sign, is_exponent_mark, is_blank, is_pn_chars, is_pn_chars_u, is_pn_chars_base, is_escaped, is_local_escaped}
use Rattle.turtle_lex.specs.Pattern.{Pattern, word, any_case, one, number, ◌∘◌, ◌∣◌, many, Matches, Times, HasNoFirstChar}
use Rattle.turtle_lex.specs.Terminals.{uchar, echar, plx, iri_ref, short_string, long_string, dotted, label, blank_label, variable, pn_prefix, pname_ns, pn_local, pname_ln, lang_tag, sign, exponent, integer, decimal, double, anon, comment, gap, last_gap}
use Rattle.turtle_lex.specs.Tokens.{terminal, is_string, AreTokensTo}
use Rattle.turtle_lex.specs.Laws.{NotTextIsFirst}
use Rattle.turtle_lex.proofs.Matching.{heads}
use Rattle.turtle_lex.proofs.FirstBytes.{and_left, and_right, hex_low}
use Rattle.turtle_lex.proofs.GroupLemmas.{kind_matches}

-- all words of the pattern are ASCII
abbrev pub has_ascii_words : Pattern → Bool
has_ascii_words (word w) = list_all is_ascii w
has_ascii_words (any_case w) = list_all is_ascii w
has_ascii_words (one p) = true
has_ascii_words (number n) = true
has_ascii_words (p ∘ q) = has_ascii_words p && has_ascii_words q
has_ascii_words (p ∣ q) = has_ascii_words p && has_ascii_words q
has_ascii_words (many p) = has_ascii_words p

-- the text begins with UTF-8, and r is left
abbrev pub Utf8Prefix : List ℕ → List ℕ → Type 0
Utf8Prefix s r = (t : List ℕ) × IsUtf8 t × (s ≡ t ++ r)

pub utf8_trans : (s m r : List ℕ) → Utf8Prefix s m → Utf8Prefix m r → Utf8Prefix s r
utf8_trans s m r (t, u, e) (t', u', e') = (t ++ t', IsUtf8-append t t' u u', e ∙ ap (λ (x : List ℕ). t ++ x) e' ∙ sym (append_assoc t t' r))

ascii_list : (w : List ℕ) → list_all is_ascii w ≡ true → IsAscii w
ascii_list [] h i = omega arith
ascii_list (a ∷ w) h zero = ltb-true a 128 (and_left (is_ascii a) (list_all is_ascii w) h)
ascii_list (a ∷ w) h (suc i) = ascii_list w (and_right (is_ascii a) (list_all is_ascii w) h) i

both : (x y : Bool) → x ≡ true → y ≡ true → (x && y) ≡ true
both true y p q = q
both false y p q = absurd (false≢true p)

case_ascii : (a b : ℕ) → is_ascii a ≡ true → to_ascii_lowercase b ≡ to_ascii_lowercase a → is_ascii b ≡ true
case_ascii a b h e = grind (arith, nat_tests)

case_list : (w t : List ℕ) → list_all is_ascii w ≡ true → map to_ascii_lowercase t ≡ map to_ascii_lowercase w → list_all is_ascii t ≡ true
case_list w [] h e = refl
case_list [] (b ∷ t) h e = absurd (omega (arith, ap length e))
case_list (a ∷ w) (b ∷ t) h e =
    let same = heads (to_ascii_lowercase b) (to_ascii_lowercase a) (map to_ascii_lowercase t) (map to_ascii_lowercase w) e in
    both (is_ascii b) (list_all is_ascii t) (case_ascii a b (and_left (is_ascii a) (list_all is_ascii w) h) same.0)
    (case_list w t (and_right (is_ascii a) (list_all is_ascii w) h) same.1)

hex_list : (ds : List ℕ) → list_all is_ascii_hexdigit ds ≡ true → list_all is_ascii ds ≡ true
hex_list [] h = refl
hex_list (d ∷ ds) h = both (is_ascii d) (list_all is_ascii ds) (hex_low d (and_left (is_ascii_hexdigit d) (list_all is_ascii_hexdigit ds) h))
    (hex_list ds (and_right (is_ascii_hexdigit d) (list_all is_ascii_hexdigit ds) h))

times_utf8 : (R : List ℕ → List ℕ → Type 0) → ((s r : List ℕ) → R s r → Utf8Prefix s r) → (n : ℕ) (s r : List ℕ) → Times R n s r → Utf8Prefix s r
times_utf8 R h zero s r e = ([], IsUtf8-nil, e)
times_utf8 R h (suc n) s r (m, x, xs) = utf8_trans s m r (h s m x) (times_utf8 R h n m r xs)

pub matches_utf8 : (p : Pattern) (s r : List ℕ) → has_ascii_words p ≡ true → Matches p s r → Utf8Prefix s r
matches_utf8 (word w) s r h e = (w, IsUtf8-from_ascii w (ascii_list w h), e)
matches_utf8 (any_case w) s r h (t, same, e) = (t, IsUtf8-from_ascii t (ascii_list t (case_list w t h same)), e)
matches_utf8 (one p) s r h (c, scalar, passes, e) = (encode_utf8 c, IsUtf8-encode c scalar, e)
matches_utf8 (number n) s r h (ds, len, hex, scalar, e) = (ds, IsUtf8-from_ascii ds (ascii_list ds (hex_list ds hex)), e)
matches_utf8 (p ∘ q) s r h (m, x, y) =
    utf8_trans s m r (matches_utf8 p s m (and_left (has_ascii_words p) (has_ascii_words q) h) x) (matches_utf8 q m r (and_right (has_ascii_words p) (has_ascii_words q) h) y)
matches_utf8 (p ∣ q) s r h x = elim x [
  | inl a ↦ matches_utf8 p s r (and_left (has_ascii_words p) (has_ascii_words q) h) a
  | inr b ↦ matches_utf8 q s r (and_right (has_ascii_words p) (has_ascii_words q) h) b
]
matches_utf8 (many p) s r h (n, x) = times_utf8 (Matches p) (λ a b y. matches_utf8 p a b h y) n s r x

pub terminal_ascii : (kind : TokenKind) → has_ascii_words (terminal kind) ≡ true
unfolding is_iri_char is_line_char is_long_char is_sign is_exponent_mark is_blank is_pn_chars is_pn_chars_u is_pn_chars_base is_escaped is_local_escaped uchar echar plx iri_ref short_string long_string dotted label blank_label variable pn_prefix pname_ns pn_local pname_ln lang_tag sign exponent integer decimal double anon
terminal_ascii IriRef = refl
terminal_ascii PnameNs = refl
terminal_ascii PnameLn = refl
terminal_ascii BlankLabel = refl
terminal_ascii LangTag = refl
terminal_ascii Integer = refl
terminal_ascii Decimal = refl
terminal_ascii Double = refl
terminal_ascii Quoted = refl
terminal_ascii Anon = refl
terminal_ascii AtPrefix = refl
terminal_ascii AtBase = refl
terminal_ascii Prefix = refl
terminal_ascii Base = refl
terminal_ascii A = refl
terminal_ascii True = refl
terminal_ascii False = refl
terminal_ascii Dot = refl
terminal_ascii Semicolon = refl
terminal_ascii Comma = refl
terminal_ascii Carets = refl
terminal_ascii OpenSquare = refl
terminal_ascii CloseSquare = refl
terminal_ascii OpenRound = refl
terminal_ascii CloseRound = refl
terminal_ascii OpenBrace = refl
terminal_ascii CloseBrace = refl
terminal_ascii Variable = refl

pub gap_ascii : has_ascii_words gap ≡ true
unfolding gap comment
gap_ascii = refl

pub last_gap_ascii : has_ascii_words last_gap ≡ true
unfolding last_gap gap comment
last_gap_ascii = refl

pub tokens_utf8 : (bytes : List ℕ) (ts : List Token) (from : ℕ) (after_string : Bool) (e : ℕ) (s : Bool) → AreTokensTo bytes from after_string ts e s → Utf8Prefix (drop from bytes) (drop e bytes)
tokens_utf8 bytes [] from after_string e s (at, string) = ([], IsUtf8-nil, ap (λ (n : ℕ). drop n bytes) at)
tokens_utf8 bytes (t ∷ ts) from after_string e s (next, is_next, listed, rest) =
    utf8_trans (drop from bytes) (drop next.from bytes) (drop e bytes) (matches_utf8 gap (drop from bytes) (drop next.from bytes) gap_ascii is_next.gap_before)
    (utf8_trans (drop next.from bytes) (drop next.to bytes) (drop e bytes)
    (matches_utf8 (terminal next.kind) (drop next.from bytes) (drop next.to bytes) (terminal_ascii next.kind) (kind_matches next.kind (drop next.from bytes) (drop next.to bytes) is_next.matches.matches))
    (tokens_utf8 bytes ts next.to (is_string next.kind) e s rest))

-- UTF-8 that isn't empty begins with a character
first_character : (x y : List ℕ) → IsUtf8 x → 0 < length x → HasNoFirstChar (x ++ y) → ⊥
first_character x y ([], (scalars, e)) less none = absurd (omega (arith, ap length e))
first_character x y (c ∷ cs, (scalars, e)) less none =
    none c (encode_utf8_all cs ++ y) (and_left (scalar c) (all_scalars cs) scalars) (ap (λ (t : List ℕ). t ++ y) (sym e) ∙ append_assoc (encode_utf8 c) (encode_utf8_all cs) y)

valid_up_to : (bytes : List ℕ) (at : ℕ) → at < length bytes → Utf8Prefix bytes (drop at bytes) → HasNoFirstChar (drop at bytes) → IsValidUpTo bytes at
valid_up_to bytes at less (t, utf8, e) none = record { short = less; front = front_is; longest = longest }
  where
    len : length t ≡ at
    len = omega (arith, ap length e, length-append t (drop at bytes), length-drop at bytes)

    taken : t ≡ take at bytes
    taken = sym (ap (take at) e ∙ take_at t (drop at bytes) at len)

    front_is : IsUtf8 (take at bytes)
    front_is = subst IsUtf8 taken utf8

    longest : (m : ℕ) → at < m → IsUtf8 (take m bytes) → ⊥
    longest m more whole =
        let x = drop at (take m bytes) in
        let split : bytes ≡ take m bytes ++ drop m bytes = sym (take-append-drop m bytes) in
        let front_of : take at (take m bytes) ≡ take at bytes = take-take at m bytes (omega arith) in
        let low : at ≤ length (take m bytes) = omega (arith, length-take m bytes) in
        let boundary = IsCharBoundary-from_take (take m bytes) at whole low (subst IsUtf8 (sym front_of) front_is) in
        let rest : IsUtf8 x = IsUtf8-drop (take m bytes) at whole boundary in
        let full : 0 < length x = omega (arith, length-drop at (take m bytes), length-take m bytes) in
        let here : drop at bytes ≡ x ++ drop m bytes = ap (drop at) split ∙ drop-append-le at (take m bytes) (drop m bytes) low in
        first_character x (drop m bytes) rest full (subst HasNoFirstChar here none)

pub not_text_is_first : NotTextIsFirst
not_text_is_first bytes at (ts, e, s, x, h) =
    valid_up_to bytes at h.within
    (utf8_trans bytes (drop e bytes) (drop at bytes) (tokens_utf8 bytes ts 0 false e s x) (matches_utf8 last_gap (drop e bytes) (drop at bytes) last_gap_ascii h.gap_before))
    h.no_character
