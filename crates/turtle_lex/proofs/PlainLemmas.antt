-- Runs of plain characters in an IRIREF or a String.
use Rattle.std.proofs.Common.{◌≡◌, ℕ, zero, suc, ◌<◌, ◌≤◌, Bool, true, false, not, ◌&&◌, ⊎_elim, List, [], ◌∷◌, ◌++◌}
use Rattle.std.proofs.Common.{length, take, drop, Some, None, refl, sym, ap, ◌∙◌, subst, arith, append_assoc}
use Rattle.std.specs.List.{list_all}
use Rattle.std.specs.Str.{IsUtf8, all_scalars, encode_utf8_all}
use Rattle.std.specs.Char.{encode_utf8}
use Rattle.std.proofs.Math.Utf8.{scalar}
use Rattle.std.proofs.lemmas.Bool.{false≢true, cases_lt}
use Rattle.std.proofs.lemmas.Bool.Decides.{nat_tests}
use Rattle.std.proofs.lemmas.List.{take-take, take-append-drop, length-take}
use Rattle.std.proofs.lemmas.Str.{encode_ascii}
use Rattle.memchr.specs.Find.{Passes}
use Rattle.turtle_lex.specs.declared.classes.Quote.{Quote}
use Rattle.turtle_lex.specs.declared.classes.Quote.TheVariants.{Double, Single}
use Rattle.turtle_lex.specs.declared.delimited.Content.{Content}
use Rattle.turtle_lex.specs.declared.delimited.Content.TheVariants.{Iri, Line, Long}
use Rattle.turtle_lex.specs.Classes.{is_iri_char, is_line_char, is_long_char, quote_char}
use Rattle.turtle_lex.specs.ClassOf.{in_class}
use Rattle.turtle_lex.specs.Pattern.{word, one, ◌∘◌, ◌∣◌, many, Matches, Times, MatchesOnly}
use Rattle.turtle_lex.specs.Terminals.{uchar, echar}
use Rattle.turtle_lex.specs.Delimited.{part, close, plain_class, is_neither}
use Rattle.turtle_lex.proofs.Matching.{refused, not_matched, one_found, or_left, ascii_one, SameEnds, same_step}
use Rattle.turtle_lex.proofs.FirstBytes.{and_left, and_right}
use Rattle.turtle_lex.proofs.EscapeLemmas.{uchar_head, escape_head, char_no_escape}
use Rattle.turtle_lex.proofs.DelimitedLemmas.{iri_no_backslash, line_no_backslash, long_no_backslash, long_no_quote, quote_low, no_quote, close_apart}

abbrev pub plain : Content → ℕ → Bool
plain content = in_class (plain_class content)

-- every number above 127 is plain
plain_high : (content : Content) (c : ℕ) → 128 ≤ c → plain content c ≡ true
unfolding is_iri_char is_line_char is_long_char
plain_high Iri c h = grind (arith, nat_tests)
plain_high (Line Double) c h = grind (arith, nat_tests)
plain_high (Line Single) c h = grind (arith, nat_tests)
plain_high (Long Double) c h = grind (arith, nat_tests)
plain_high (Long Single) c h = grind (arith, nat_tests)

both : (x y : Bool) → x ≡ true → y ≡ true → (x && y) ≡ true
both true y p q = q
both false y p q = absurd (false≢true p)

all_left : (f : ℕ → Bool) (t u : List ℕ) → list_all f (t ++ u) ≡ true → list_all f t ≡ true
all_left f [] u h = refl
all_left f (b ∷ t) u h = both (f b) (list_all f t) (and_left (f b) (list_all f (t ++ u)) h) (all_left f t u (and_right (f b) (list_all f (t ++ u)) h))

all_right : (f : ℕ → Bool) (t u : List ℕ) → list_all f (t ++ u) ≡ true → list_all f u ≡ true
all_right f [] u h = h
all_right f (b ∷ t) u h = all_right f t u (and_right (f b) (list_all f (t ++ u)) h)

-- the bytes before the first that passes
not_passed : (x y : Bool) → (x ≡ true → ⊥) → y ≡ true → (not x && y) ≡ true
not_passed true y h e = absurd (h refl)
not_passed false y h e = e

pub all_before : (test : ℕ → Bool) (text : List ℕ) (n : ℕ) → ((k : ℕ) → k < n → Passes test text k → ⊥) → list_all (λ b. not (test b)) (take n text) ≡ true
all_before test text zero h = refl
all_before test [] (suc n) h = refl
all_before test (b ∷ text) (suc n) h =
    not_passed (test b) (list_all (λ b. not (test b)) (take n text)) (λ e. h 0 (omega arith) e) (all_before test text n (λ k lt e. h (suc k) (omega (arith, lt)) e))

-- what holds of each byte where two tests do
all_by : (f g h : ℕ → Bool) → ((b : ℕ) → f b ≡ true → g b ≡ true → h b ≡ true) → (s : List ℕ) → list_all f s ≡ true → list_all g s ≡ true → list_all h s ≡ true
all_by f g h by [] p q = refl
all_by f g h by (b ∷ s) p q = both (h b) (list_all h s)
    (by b (and_left (f b) (list_all f s) p) (and_left (g b) (list_all g s) q))
    (all_by f g h by s (and_right (f b) (list_all f s) p) (and_right (g b) (list_all g s) q))

neither_long : (quote : Quote) (b : ℕ) → is_neither (quote_char quote) 0x5C b ≡ true → is_long_char quote b ≡ true
unfolding is_long_char
neither_long Double b h = grind (arith, nat_tests)
neither_long Single b h = grind (arith, nat_tests)

pub all_long : (quote : Quote) (s : List ℕ) → list_all (is_neither (quote_char quote) 0x5C) s ≡ true → list_all (is_long_char quote) s ≡ true
all_long quote s h = all_by (is_neither (quote_char quote) 0x5C) (is_neither (quote_char quote) 0x5C) (is_long_char quote) (λ b e f. neither_long quote b e) s h h

long_line : (quote : Quote) (b : ℕ) → is_long_char quote b ≡ true → is_neither 0xA 0xD b ≡ true → is_line_char quote b ≡ true
unfolding is_long_char is_line_char
long_line Double b h k = grind (arith, nat_tests)
long_line Single b h k = grind (arith, nat_tests)

-- of the bytes of a run in a long String those before the end of a line
pub all_line : (quote : Quote) (text : List ℕ) (n m : ℕ) → m ≤ length (take n text) → list_all (is_long_char quote) (take n text) ≡ true
    → list_all (is_neither 0xA 0xD) (take m (take n text)) ≡ true → list_all (is_line_char quote) (take m text) ≡ true
all_line quote text n m le h k =
    let near : take m (take n text) ≡ take m text = take-take m n text (omega (arith, le, length-take n text)) in
    let long : list_all (is_long_char quote) (take m (take n text)) ≡ true = all_left (is_long_char quote) (take m (take n text)) (drop m (take n text))
    (ap (list_all (is_long_char quote)) (take-append-drop m (take n text)) ∙ h) in
    ap (list_all (is_line_char quote)) (sym near)
    ∙ all_by (is_long_char quote) (is_neither 0xA 0xD) (is_line_char quote) (long_line quote) (take m (take n text)) long k

-- a character whose bytes are plain is plain
plain_char : (content : Content) (c : ℕ) (rest : List ℕ) → list_all (plain content) (encode_utf8 c ++ rest) ≡ true → plain content c ≡ true
plain_char content c rest h = ⊎_elim
    (λ (small : c < 128). and_left (plain content c) (list_all (plain content) rest)
    (sym (ap (λ (t : List ℕ). list_all (plain content) (t ++ rest)) (encode_ascii c small)) ∙ h))
    (λ (large : 128 ≤ c). plain_high content c large)
    (cases_lt c 128)

chars_run : (content : Content) (cs rest : List ℕ) → all_scalars cs ≡ true → list_all (plain content) (encode_utf8_all cs) ≡ true
    → Matches (many (one (plain content))) (encode_utf8_all cs ++ rest) rest
chars_run content [] rest scalars h = (0, refl)
chars_run content (c ∷ cs) rest scalars h =
    let more = chars_run content cs rest (and_right (scalar c) (all_scalars cs) scalars) (all_right (plain content) (encode_utf8 c) (encode_utf8_all cs) h) in (
      suc more.0,
      (
        encode_utf8_all cs ++ rest,
        (c, and_left (scalar c) (all_scalars cs) scalars, plain_char content c (encode_utf8_all cs) h, append_assoc (encode_utf8 c) (encode_utf8_all cs) rest),
        more.1,
      ),
    )

-- plain bytes are a run of plain characters as far as they are UTF-8
pub plain_run : (content : Content) (text : List ℕ) (n k : ℕ) → k ≤ n → list_all (plain content) (take n text) ≡ true → IsUtf8 (take k text)
    → Matches (many (one (plain content))) text (drop k text)
plain_run content text n k le h (cs, (scalars, e)) =
    let near : take k (take n text) ≡ take k text = take-take k n text le in
    let all : list_all (plain content) (take k text) ≡ true =
    ap (list_all (plain content)) (sym near) ∙ all_left (plain content) (take k (take n text)) (drop k (take n text))
    (ap (list_all (plain content)) (take-append-drop k (take n text)) ∙ h) in
    let whole : encode_utf8_all cs ++ drop k text ≡ text = ap (λ (t : List ℕ). t ++ drop k text) e ∙ take-append-drop k text in
    subst (λ (t : List ℕ). Matches (many (one (plain content))) t (drop k text)) whole
    (chars_run content cs (drop k text) scalars (ap (list_all (plain content)) e ∙ all))

-- a plain character is a part, and no other is
no_quote_at : (quote : Quote) (w s m : List ℕ) → Matches (one (is_long_char quote)) s m → MatchesOnly (word (quote_char quote ∷ w)) s None
no_quote_at quote w s m x = refused (word (quote_char quote ∷ w)) s (λ r e.
    false≢true (sym (long_no_quote quote) ∙ (ascii_one (is_long_char quote) (quote_char quote) (w ++ r) m (quote_low quote) (subst (λ (u : List ℕ). Matches (one (is_long_char quote)) u m) e x)).0))

plain_part : (content : Content) (s m : List ℕ) → Matches (one (plain content)) s m → MatchesOnly (part content) s (Some m)
plain_part Iri s m x = or_left (one is_iri_char) uchar s (Some m) (one_found is_iri_char s x.0 m x.1 x.3 x.2)
    (char_no_escape is_iri_char uchar s m iri_no_backslash (λ r. uchar_head s r) x)
plain_part (Line quote) s m x = or_left (one (is_line_char quote)) (echar ∣ uchar) s (Some m) (one_found (is_line_char quote) s x.0 m x.1 x.3 x.2)
    (char_no_escape (is_line_char quote) (echar ∣ uchar) s m (line_no_backslash quote) (λ r. escape_head s r) x)
plain_part (Long quote) s m x = no_quote quote s (Some m) (no_quote_at quote (quote_char quote ∷ []) s m x) (no_quote_at quote [] s m x)
    (or_left (one (is_long_char quote)) (echar ∣ uchar) s (Some m) (one_found (is_long_char quote) s x.0 m x.1 x.3 x.2)
    (char_no_escape (is_long_char quote) (echar ∣ uchar) s m (long_no_backslash quote) (λ r. escape_head s r) x))

no_close : (content : Content) (s m : List ℕ) → Matches (one (plain content)) s m → MatchesOnly (close content) s None
no_close content s m x = refused (close content) s (λ r y. not_matched (part content) s m (close_apart content s r y) (plain_part content s m x).found)

times_same : (content : Content) (text s r : List ℕ) (n : ℕ) → SameEnds (many (part content) ∘ close content) text s → Times (Matches (one (plain content))) n s r
    → SameEnds (many (part content) ∘ close content) text r
times_same content text s r zero same e = subst (λ (u : List ℕ). SameEnds (many (part content) ∘ close content) text u) e same
times_same content text s r (suc n) same (m, x, xs) =
    times_same content text m r n (same_step (part content) (close content) text s m same (plain_part content s m x) (no_close content s m x)) xs

-- after a run of plain characters the content continues as before it
pub run_same : (content : Content) (text s r : List ℕ) → SameEnds (many (part content) ∘ close content) text s → Matches (many (one (plain content))) s r
    → SameEnds (many (part content) ∘ close content) text r
run_same content text s r same x = times_same content text s r x.0 same x.1
