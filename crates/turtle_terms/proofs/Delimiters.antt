-- What stands between the delimiters of a token.
use Rattle.std.proofs.Common.{◌≡◌, ℕ, ◌+◌, ◌-◌, ◌≤◌, Bool, true, false, cond, ◌&&◌, ◌==◌, inl, inr, List, [], ◌∷◌, ◌++◌, length, zero, suc, ◌<◌, get_or, take, drop, refl, sym, ap, ◌∙◌, subst, arith, append_assoc, length-append, lit<}
use Rattle.std.specs.Str.{IsUtf8, IsCharBoundary}
use Rattle.std.proofs.lemmas.Bool.Decides.{nat_tests}
use Rattle.std.proofs.lemmas.List.{append-nil, drop_at, take_at}
use Rattle.std.proofs.lemmas.Str.{IsUtf8-nil, IsUtf8-append, IsUtf8-from_ascii, IsCharBoundary-at_seam, IsCharBoundary-after_ascii}
use Rattle.turtle_lex.specs.declared.classes.Quote.{Quote}
use Rattle.turtle_lex.specs.declared.classes.Quote.TheVariants.{Double, Single}
use Rattle.turtle_lex.specs.Classes.{quote_char, is_iri_char, is_line_char, is_long_char}
use Rattle.turtle_lex.specs.Pattern.{Pattern, one, ◌∘◌, ◌∣◌, many, maybe, Matches}
use Rattle.turtle_lex.specs.Terminals.{uchar, echar, iri_ref, blank_label, lang_tag, variable, quotes, short_string, long_string}
use Rattle.turtle_lex.specs.declared.token.TokenKind.TheVariants.{Quoted}
use Rattle.turtle_lex.specs.Tokens.{IsString, MatchesKind}
use Rattle.turtle_lex.proofs.LawLemmas.{matches_its_texts}
use Rattle.turtle_lex.proofs.Utf8Lemmas.{has_ascii_words, matches_utf8}
use Rattle.turtle_terms.specs.Escapes.{decoded}
use Rattle.turtle_terms.specs.Values.{without_ends, quote_count}
use Rattle.turtle_terms.proofs.Decoding.{Decodes, decodes_trans, decodes_utf8, one_decodes, word_decodes, uchar_decodes, echar_decodes, many_decodes}

-- The text has n bytes at either end, and between them text whose escapes are decoded to text.
pub record IsDelimited (n : ℕ) (text : List ℕ) : Type 0 where
  pub start : List ℕ
  pub content : List ℕ
  pub end : List ℕ
  pub whole : text ≡ start ++ (content ++ end)
  pub start_length : length start ≡ n
  pub end_length : length end ≡ n
  pub content_utf8 : IsUtf8 content
  pub end_utf8 : IsUtf8 end
  pub decodes : IsUtf8 (decoded content)

all_utf8 : (p : Pattern) (s : List ℕ) → has_ascii_words p ≡ true → Matches p s [] → IsUtf8 s
all_utf8 p s h x = let f = matches_utf8 p s [] h x in subst IsUtf8 (sym (f.2 ∙ append-nil f.0)) f.1

-- delimiters around any number of parts
delimited : (n : ℕ) (p : Pattern) (w v text m k : List ℕ) → has_ascii_words p ≡ true → ((s r : List ℕ) → Matches p s r → Decodes s r)
    → length w ≡ n → length v ≡ n → IsUtf8 v → text ≡ w ++ m → Matches (many p) m k → k ≡ v ++ [] → IsDelimited n text
delimited n p w v text m k ascii h start_length end_length v_utf8 first inside last =
    let f = matches_its_texts (many p) m k inside in record {
      start = w;
      content = f.0;
      end = v;
      whole = first ∙ ap (λ (t : List ℕ). w ++ t) (f.2 ∙ ap (λ (t : List ℕ). f.0 ++ t) (last ∙ append-nil v));
      start_length = start_length;
      end_length = end_length;
      content_utf8 = all_utf8 (many p) f.0 ascii f.1;
      end_utf8 = v_utf8;
      decodes = decodes_utf8 f.0 (many_decodes p h f.0 [] f.1);
    }

-- an IRIREF
iri_part_decodes : (s r : List ℕ) → Matches (one is_iri_char ∣ uchar) s r → Decodes s r
unfolding is_iri_char
iri_part_decodes s r (inl x) = one_decodes is_iri_char s r refl x
iri_part_decodes s r (inr x) = uchar_decodes s r x

iri_ascii : has_ascii_words (one is_iri_char ∣ uchar) ≡ true
unfolding uchar
iri_ascii = refl

one_byte_utf8 : (b : ℕ) → b < 128 → IsUtf8 (b ∷ [])
one_byte_utf8 b h = IsUtf8-from_ascii (b ∷ []) (λ i. one i)
  where
    one : (i : ℕ) → get_or (b ∷ []) i 0 < 128
    one zero = h
    one (suc i) = omega arith

pub iri_delimited : (text : List ℕ) → Matches iri_ref text [] → IsDelimited 1 text
unfolding iri_ref
iri_delimited text (m, first, (k, inside, last)) =
    delimited 1 (one is_iri_char ∣ uchar) (60 ∷ []) (62 ∷ []) text m k iri_ascii iri_part_decodes refl refl
    (one_byte_utf8 62 (lit< tt)) first inside last

-- Strings
quote_low : (quote : Quote) → quote_char quote < 128
quote_low Double = lit< tt
quote_low Single = lit< tt

two_utf8 : (b : ℕ) → b < 128 → IsUtf8 (b ∷ b ∷ [])
two_utf8 b h = IsUtf8-append (b ∷ []) (b ∷ []) (one_byte_utf8 b h) (one_byte_utf8 b h)

quotes_utf8 : (quote : Quote) → IsUtf8 (quote_char quote ∷ quote_char quote ∷ quote_char quote ∷ [])
quotes_utf8 quote =
    IsUtf8-append (quote_char quote ∷ []) (quote_char quote ∷ quote_char quote ∷ [])
    (one_byte_utf8 (quote_char quote) (quote_low quote)) (two_utf8 (quote_char quote) (quote_low quote))

line_no_backslash : (quote : Quote) → is_line_char quote 92 ≡ false
unfolding is_line_char
line_no_backslash Double = refl
line_no_backslash Single = refl

long_no_backslash : (quote : Quote) → is_long_char quote 92 ≡ false
unfolding is_long_char
long_no_backslash Double = refl
long_no_backslash Single = refl

escaped_decodes : (p : ℕ → Bool) (s r : List ℕ) → p 92 ≡ false → Matches (one p ∣ echar ∣ uchar) s r → Decodes s r
escaped_decodes p s r h (inl x) = one_decodes p s r h x
escaped_decodes p s r h (inr (inl x)) = echar_decodes s r x
escaped_decodes p s r h (inr (inr x)) = uchar_decodes s r x

line_ascii : (quote : Quote) → has_ascii_words (one (is_line_char quote) ∣ echar ∣ uchar) ≡ true
unfolding echar uchar
line_ascii quote = refl

short_delimited : (quote : Quote) (text : List ℕ) → Matches (short_string quote) text [] → IsDelimited 1 text
unfolding short_string
short_delimited quote text (m, first, (k, inside, last)) =
    delimited 1 (one (is_line_char quote) ∣ echar ∣ uchar) (quote_char quote ∷ []) (quote_char quote ∷ []) text m k (line_ascii quote)
    (λ s r x. escaped_decodes (is_line_char quote) s r (line_no_backslash quote) x) refl refl
    (one_byte_utf8 (quote_char quote) (quote_low quote)) first inside last

-- the quotes that a long String may have between its parts
few_quotes_decode : (quote : Quote) (s r : List ℕ) → Matches (maybe (quotes quote 1 ∣ quotes quote 2)) s r → Decodes s r
few_quotes_decode Double s r (inl (inl e)) = word_decodes (34 ∷ []) s r refl (one_byte_utf8 34 (lit< tt)) e
few_quotes_decode Double s r (inl (inr e)) = word_decodes (34 ∷ 34 ∷ []) s r refl (two_utf8 34 (lit< tt)) e
few_quotes_decode Single s r (inl (inl e)) = word_decodes (39 ∷ []) s r refl (one_byte_utf8 39 (lit< tt)) e
few_quotes_decode Single s r (inl (inr e)) = word_decodes (39 ∷ 39 ∷ []) s r refl (two_utf8 39 (lit< tt)) e
few_quotes_decode quote s r (inr e) = word_decodes [] s r refl IsUtf8-nil e

long_part_decodes : (quote : Quote) (s r : List ℕ) → Matches (maybe (quotes quote 1 ∣ quotes quote 2) ∘ (one (is_long_char quote) ∣ echar ∣ uchar)) s r → Decodes s r
long_part_decodes quote s r (m, x, y) =
    decodes_trans s m r (few_quotes_decode quote s m x) (escaped_decodes (is_long_char quote) m r (long_no_backslash quote) y)

long_ascii : (quote : Quote) → has_ascii_words (maybe (quotes quote 1 ∣ quotes quote 2) ∘ (one (is_long_char quote) ∣ echar ∣ uchar)) ≡ true
unfolding echar uchar
long_ascii Double = refl
long_ascii Single = refl

long_delimited : (quote : Quote) (text : List ℕ) → Matches (long_string quote) text [] → IsDelimited 3 text
unfolding long_string
long_delimited quote text (m, first, (k, inside, last)) =
    let q = quote_char quote in
    delimited 3 (maybe (quotes quote 1 ∣ quotes quote 2) ∘ (one (is_long_char quote) ∣ echar ∣ uchar)) (q ∷ q ∷ q ∷ []) (q ∷ q ∷ q ∷ []) text m k (long_ascii quote)
    (long_part_decodes quote) refl refl (quotes_utf8 quote) first inside last

-- three equal bytes begin a String exactly where it is long
same_byte : (b : ℕ) → (b == b) ≡ true
same_byte b = grind (arith, nat_tests)

three_counted : (q : ℕ) (t : List ℕ) → quote_count (q ∷ q ∷ q ∷ t) ≡ 3
three_counted q t = ap (λ (test : Bool). cond (test && test) 3 1) (same_byte q)

abbrev quote_number : Bool → ℕ
quote_number test = cond test 3 1

pub one_counted : (q : ℕ) (t : List ℕ) → ((m : List ℕ) → q ∷ t ≡ q ∷ q ∷ q ∷ m → ⊥) → quote_count (q ∷ t) ≡ 1
one_counted q [] none = refl
one_counted q (b ∷ []) none = refl
one_counted q (b ∷ c ∷ t) none = by (q == b) (b == c) refl refl
  where
    by : (x y : Bool) → (q == b) ≡ x → (b == c) ≡ y → quote_number (x && y) ≡ 1
    by true true p r =
        let qb : q ≡ b = equal q b p in
        let bc : b ≡ c = equal b c r in
        absurd (none t (ap (λ (u : ℕ). q ∷ u ∷ c ∷ t) (sym qb) ∙ ap (λ (u : ℕ). q ∷ q ∷ u ∷ t) (sym (qb ∙ bc))))
      where
        equal : (m n : ℕ) → (m == n) ≡ true → m ≡ n
        equal m n h = grind (arith, nat_tests)
    by true false p r = refl
    by false y p r = refl

pub string_delimited : (quote : Quote) (text : List ℕ) → IsString quote text [] → IsDelimited (quote_count text) text
unfolding long_string short_string
string_delimited quote text (inl long) =
    let q = quote_char quote in
    subst (λ (n : ℕ). IsDelimited n text) (sym (ap quote_count long.1 ∙ three_counted q long.0)) (long_delimited quote text long)
string_delimited quote text (inr (short, none)) =
    let q = quote_char quote in
    subst (λ (n : ℕ). IsDelimited n text)
    (sym (ap quote_count short.1 ∙ one_counted q short.0 (λ m e. none m (short.1 ∙ e))))
    (short_delimited quote text short)

-- where such a text is cut
pub record IsCut (n : ℕ) (text : List ℕ) : Type 0 where
  pub room : n ≤ length text
  pub order : n ≤ length text - n
  pub first : IsCharBoundary text n
  pub last : IsCharBoundary text (length text - n)
  pub content_decodes : IsUtf8 (decoded (without_ends n text))

lengths : (n a b c t : ℕ) → a ≡ n → b ≡ n → t ≡ a + (c + b) → (n ≤ t) × (n ≤ t - n) × (t - (n + n) ≡ c) × (t - n ≡ a + c)
lengths n a b c t p q r = (omega arith, omega arith, omega arith, omega arith)

pub cut_of : (n : ℕ) (text : List ℕ) → IsDelimited n text → IsCut n text
cut_of n text d =
    let len : length text ≡ length d.start + (length d.content + length d.end) =
    ap length d.whole ∙ length-append d.start (d.content ++ d.end) ∙ ap (λ (m : ℕ). length d.start + m) (length-append d.content d.end) in
    let numbers = lengths n (length d.start) (length d.end) (length d.content) (length text) d.start_length d.end_length len in
    let after : drop n text ≡ d.content ++ d.end =
    ap (drop n) d.whole ∙ drop_at d.start (d.content ++ d.end) n d.start_length in
    let content : without_ends n text ≡ d.content =
    ap (λ (t : List ℕ). take (length text - (n + n)) t) after ∙ take_at d.content d.end (length text - (n + n)) (sym numbers.2) in
    let split : text ≡ (d.start ++ d.content) ++ d.end = d.whole ∙ sym (append_assoc d.start d.content d.end) in
    let last_at : length (d.start ++ d.content) ≡ length text - n = length-append d.start d.content ∙ sym numbers.3 in
    record {
      room = numbers.0;
      order = numbers.1;
      first = subst (IsCharBoundary text) d.start_length
          (IsCharBoundary-at_seam text d.start (d.content ++ d.end) d.whole (IsUtf8-append d.content d.end d.content_utf8 d.end_utf8));
      last = subst (IsCharBoundary text) last_at (IsCharBoundary-at_seam text (d.start ++ d.content) d.end split d.end_utf8);
      content_decodes = subst (λ (t : List ℕ). IsUtf8 (decoded t)) (sym content) d.decodes;
    }

pub iri_cut : (text : List ℕ) → Matches iri_ref text [] → IsCut 1 text
iri_cut text x = cut_of 1 text (iri_delimited text x)

pub string_cut : (text : List ℕ) → MatchesKind Quoted text [] → IsCut (quote_count text) text
string_cut text (quote, x) = cut_of (quote_count text) text (string_delimited quote text x)

-- a label begins with two ASCII bytes, and a tag and a variable with one
pub label_cut : (text : List ℕ) → IsUtf8 text → Matches blank_label text [] → (2 ≤ length text) × IsCharBoundary text 2
unfolding blank_label
label_cut text utf8 (m, first, x) =
    let len : length text ≡ 2 + length m = ap length first ∙ length-append (95 ∷ 58 ∷ []) m in
    let colon : get_or text 1 0 ≡ 58 = ap (λ (t : List ℕ). get_or t 1 0) first in
    (omega arith, IsCharBoundary-after_ascii text 1 utf8 (omega arith) (omega (arith, colon)))

pub tag_cut : (text : List ℕ) → IsUtf8 text → Matches lang_tag text [] → (1 ≤ length text) × IsCharBoundary text 1
unfolding lang_tag
tag_cut text utf8 (m, first, x) =
    let len : length text ≡ 1 + length m = ap length first ∙ length-append (64 ∷ []) m in
    let at : get_or text 0 0 ≡ 64 = ap (λ (t : List ℕ). get_or t 0 0) first in
    (omega arith, IsCharBoundary-after_ascii text 0 utf8 (omega arith) (omega (arith, at)))

pub variable_cut : (text : List ℕ) → IsUtf8 text → Matches variable text [] → (1 ≤ length text) × IsCharBoundary text 1
unfolding variable
variable_cut text utf8 (m, first, x) =
    let len : length text ≡ 1 + length m = ap length first ∙ length-append (63 ∷ []) m in
    let at : get_or text 0 0 ≡ 63 = ap (λ (t : List ℕ). get_or t 0 0) first in
    (omega arith, IsCharBoundary-after_ascii text 0 utf8 (omega arith) (omega (arith, at)))
