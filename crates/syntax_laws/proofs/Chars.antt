-- What is written of an IRI is an IRIREF, and of a lexical form a String.
use Rattle.std.proofs.Common.{◌≡◌, ◌≢◌, ℕ, suc, ◌<◌, ◌≤◌, Bool, true, false, ◌&&◌, ⊎_elim, inl, inr, List, [], ◌∷◌, ◌++◌, length, get_or, refl, sym, ap, ◌∙◌, subst, arith, append_assoc}
use Rattle.std.proofs.lemmas.Bool.{false≢true, cases_eq, cases_lt, ne_eqb}
use Rattle.std.proofs.lemmas.Bool.Decides.{nat_tests}
use Rattle.std.proofs.lemmas.List.{append-nil}
use Rattle.std.proofs.lemmas.Str.{encode_ascii, inside_one}
use Rattle.std.specs.Char.{IsScalar, encode_utf8}
use Rattle.std.specs.List.{list_all}
use Rattle.std.specs.Str.{IsUtf8, all_scalars, encode_utf8_all}
use lib.Chars.{codes}
use Rattle.iri_ref.specs.Characters.{AllAllowed, is_allowed}
use Rattle.rdf_graph.specs.Term.{escaped, escaped_byte}
use Rattle.turtle_lex.specs.Classes.{is_iri_char, is_line_char, is_escaped}
use Rattle.turtle_lex.specs.Laws.{IsTextOf}
use Rattle.turtle_lex.specs.Pattern.{Pattern, one, ◌∣◌, many, Matches}
use Rattle.turtle_lex.specs.Terminals.{echar, uchar, iri_ref, short_string}
use Rattle.turtle_lex.specs.declared.classes.Quote.TheVariants.{Double as DoubleQuote}

and_first : (x y : Bool) → (x && y) ≡ true → x ≡ true
and_first true y h = refl
and_first false y h = h

and_second : (x y : Bool) → (x && y) ≡ true → y ≡ true
and_second true y h = h
and_second false y h = absurd (false≢true h)

-- ---- characters above ASCII

high_bytes : (c i : ℕ) → 128 ≤ c → i < length (encode_utf8 c) → 128 ≤ get_or (encode_utf8 c) i 0
high_bytes c i high within = ⊎_elim
    (λ (small : get_or (encode_utf8 c) i 0 < 128).
    let same : c ≡ get_or (encode_utf8 c) i 0 = inside_one c [] (encode_utf8 c) i (sym (append-nil (encode_utf8 c))) within small in
    absurd (omega (arith, same, small, high)))
    (λ (large : 128 ≤ get_or (encode_utf8 c) i 0). large)
    (cases_lt (get_or (encode_utf8 c) i 0) 128)

plain_byte : (b : ℕ) → b ≢ 92 → b ≢ 34 → b ≢ 10 → b ≢ 13 → escaped_byte b ≡ b ∷ []
plain_byte b p q r s = rw (ne_eqb b 92 p, ne_eqb b 34 q, ne_eqb b 10 r, ne_eqb b 13 s)

high_byte : (b : ℕ) → 128 ≤ b → escaped_byte b ≡ b ∷ []
high_byte b high = plain_byte b (λ e. omega (arith, e, high)) (λ e. omega (arith, e, high)) (λ e. omega (arith, e, high)) (λ e. omega (arith, e, high))

high_escaped : (xs : List ℕ) → ((i : ℕ) → i < length xs → 128 ≤ get_or xs i 0) → escaped xs ≡ xs
high_escaped [] h = refl
high_escaped (b ∷ xs) h =
    ap (λ (t : List ℕ). t ++ escaped xs) (high_byte b (h 0 (omega arith)))
    ∙ ap (λ (t : List ℕ). b ∷ t) (high_escaped xs (λ i less. h (suc i) (omega arith)))

escaped_both : (xs ys : List ℕ) → escaped (xs ++ ys) ≡ escaped xs ++ escaped ys
escaped_both [] ys = refl
escaped_both (b ∷ xs) ys =
    ap (λ (t : List ℕ). escaped_byte b ++ t) (escaped_both xs ys) ∙ sym (append_assoc (escaped_byte b) (escaped xs) (escaped ys))

-- ---- lexical forms

abbrev string_part : Pattern
string_part = one (is_line_char DoubleQuote) ∣ echar ∣ uchar

line_char : (c : ℕ) → c ≢ 92 → c ≢ 34 → c ≢ 10 → c ≢ 13 → is_line_char DoubleQuote c ≡ true
unfolding is_line_char
line_char c p q r s = rw (ne_eqb c 34 q, ne_eqb c 92 p, ne_eqb c 10 r, ne_eqb c 13 s)

-- a character that is written as it is
unescaped : (c : ℕ) → c ≢ 92 → c ≢ 34 → c ≢ 10 → c ≢ 13 → escaped (encode_utf8 c) ≡ encode_utf8 c
unescaped c p q r s = ⊎_elim
    (λ (small : c < 128). ap escaped (encode_ascii c small) ∙ ap (λ (t : List ℕ). t ++ []) (plain_byte c p q r s) ∙ sym (encode_ascii c small))
    (λ (high : 128 ≤ c). high_escaped (encode_utf8 c) (λ i within. high_bytes c i high within))
    (cases_lt c 128)

char_part : (c : ℕ) (r : List ℕ) → IsScalar c → Matches string_part (escaped (encode_utf8 c) ++ r) r
unfolding echar is_escaped encode_utf8
char_part c r scalar =
    let P : ℕ → Type 0 = λ (d : ℕ). Matches string_part (escaped (encode_utf8 d) ++ r) r in
    let backslash : P 92 = inr (inl (92 ∷ r, refl, (92, refl, refl, refl))) in
    let quote : P 34 = inr (inl (34 ∷ r, refl, (34, refl, refl, refl))) in
    let line_feed : P 10 = inr (inl (110 ∷ r, refl, (110, refl, refl, refl))) in
    let return : P 13 = inr (inl (114 ∷ r, refl, (114, refl, refl, refl))) in
    ⊎_elim (λ e. subst P (sym e) backslash) (λ p.
    ⊎_elim (λ e. subst P (sym e) quote) (λ q.
    ⊎_elim (λ e. subst P (sym e) line_feed) (λ l.
    ⊎_elim (λ e. subst P (sym e) return) (λ s.
    inl (c, scalar, line_char c p q l s, ap (λ (t : List ℕ). t ++ r) (unescaped c p q l s)))
    (cases_eq c 13)) (cases_eq c 10)) (cases_eq c 34)) (cases_eq c 92)

string_parts : (cs r : List ℕ) → all_scalars cs ≡ true → Matches (many string_part) (escaped (encode_utf8_all cs) ++ r) r
string_parts [] r h = (0, refl)
string_parts (c ∷ cs) r h =
    let rest = escaped (encode_utf8_all cs) ++ r in
    let more = string_parts cs r (and_second _ (all_scalars cs) h) in
    let whole : escaped (encode_utf8_all (c ∷ cs)) ++ r ≡ escaped (encode_utf8 c) ++ rest =
    ap (λ (t : List ℕ). t ++ r) (escaped_both (encode_utf8 c) (encode_utf8_all cs)) ∙ append_assoc (escaped (encode_utf8 c)) (escaped (encode_utf8_all cs)) r in
    let first : Matches string_part (escaped (encode_utf8_all (c ∷ cs)) ++ r) rest =
    subst (λ (t : List ℕ). Matches string_part t rest) (sym whole) (char_part c rest (and_first _ (all_scalars cs) h)) in
    (suc more.0, (rest, first, more.1))

pub string_text : (lexical : List ℕ) → IsUtf8 lexical → IsTextOf (short_string DoubleQuote) (codes "\"" ++ (escaped lexical ++ codes "\""))
unfolding short_string
string_text lexical (cs, (scalars, e)) =
    let close : List ℕ = codes "\"" in
    let inside : Matches (many string_part) (escaped lexical ++ close) close =
    subst (λ (t : List ℕ). Matches (many string_part) (escaped t ++ close) close) e (string_parts cs close scalars) in
    (escaped lexical ++ close, refl, (close, inside, refl))

-- ---- IRIs

abbrev iri_part : Pattern
iri_part = one is_iri_char ∣ uchar

all_first : (xs ys : List ℕ) → AllAllowed (xs ++ ys) → AllAllowed xs
all_first [] ys h = refl
all_first (b ∷ xs) ys h = both (is_allowed b) (list_all is_allowed xs) (and_first (is_allowed b) (list_all is_allowed (xs ++ ys)) h)
    (all_first xs ys (and_second (is_allowed b) (list_all is_allowed (xs ++ ys)) h))
  where
    both : (x y : Bool) → x ≡ true → y ≡ true → (x && y) ≡ true
    both true y p q = q
    both false y p q = absurd (false≢true p)

all_second : (xs ys : List ℕ) → AllAllowed (xs ++ ys) → AllAllowed ys
all_second [] ys h = h
all_second (b ∷ xs) ys h = all_second xs ys (and_second (is_allowed b) (list_all is_allowed (xs ++ ys)) h)

allowed_iri_char : (c : ℕ) → is_allowed c ≡ true → is_iri_char c ≡ true
unfolding is_iri_char
allowed_iri_char c h = grind (arith, nat_tests)

high_iri_char : (c : ℕ) → 128 ≤ c → is_iri_char c ≡ true
unfolding is_iri_char
high_iri_char c h = grind (arith, nat_tests)

iri_char : (c : ℕ) → AllAllowed (encode_utf8 c) → is_iri_char c ≡ true
iri_char c h = ⊎_elim
    (λ (small : c < 128). allowed_iri_char c (and_first (is_allowed c) true (subst AllAllowed (encode_ascii c small) h)))
    (λ (high : 128 ≤ c). high_iri_char c high)
    (cases_lt c 128)

iri_parts : (cs r : List ℕ) → all_scalars cs ≡ true → AllAllowed (encode_utf8_all cs) → Matches (many iri_part) (encode_utf8_all cs ++ r) r
iri_parts [] r h allowed = (0, refl)
iri_parts (c ∷ cs) r h allowed =
    let rest = encode_utf8_all cs ++ r in
    let more = iri_parts cs r (and_second _ (all_scalars cs) h) (all_second (encode_utf8 c) (encode_utf8_all cs) allowed) in
    let char = iri_char c (all_first (encode_utf8 c) (encode_utf8_all cs) allowed) in
    (suc more.0, (rest, inl (c, and_first _ (all_scalars cs) h, char, append_assoc (encode_utf8 c) (encode_utf8_all cs) r), more.1))

pub iri_text : (iri : List ℕ) → IsUtf8 iri → AllAllowed iri → IsTextOf iri_ref (codes "<" ++ (iri ++ codes ">"))
unfolding iri_ref
iri_text iri (cs, (scalars, e)) allowed =
    let close : List ℕ = codes ">" in
    let inside : Matches (many iri_part) (iri ++ close) close =
    subst (λ (t : List ℕ). Matches (many iri_part) (t ++ close) close) e (iri_parts cs close scalars (subst AllAllowed (sym e) allowed)) in
    (iri ++ close, refl, (close, inside, refl))
