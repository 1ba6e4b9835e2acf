-- What is written as a term is read as its token.
use mathlib.Core.List.{IsPrefix}
use Rattle.std.proofs.Common.{◌≡◌, ◌≢◌, ℕ, ◌+◌, ◌<◌, ◌≤◌, Bool, true, false, not, ◌⊎◌, inl, inr, List, [], ◌∷◌, ◌++◌, length, drop, eq-eqb, ◌==◌, zero, suc}
use Rattle.std.proofs.lemmas.Bool.{eqb-true}
use Rattle.std.proofs.Common.{Some, refl, sym, ap, ◌∙◌, subst, arith, append_assoc, length-append}
use Rattle.std.proofs.lemmas.Bool.{false≢true}
use Rattle.std.proofs.lemmas.Bool.Decides.{nat_tests}
use Rattle.std.proofs.lemmas.List.{append_cancel_right, drop_at}
use Rattle.std.proofs.lemmas.Str.{encode_ascii}
use Rattle.std.specs.Char.{to_ascii_lowercase}
use lib.Chars.{codes}
use Rattle.turtle_lex.specs.declared.classes.Quote.{Quote}
use Rattle.turtle_lex.specs.declared.classes.Quote.TheVariants.{Double as DoubleQuote, Single as SingleQuote}
use Rattle.turtle_lex.specs.declared.delimited.Content.TheVariants.{Line}
use Rattle.turtle_lex.specs.declared.numbers.Number.{Number}
use Rattle.turtle_lex.specs.declared.token.TokenKind.{TokenKind}
use Rattle.turtle_lex.specs.declared.token.TokenKind.TheVariants.{IriRef, BlankLabel, LangTag, AtPrefix, AtBase, Quoted, Carets, Dot}
use Rattle.turtle_lex.specs.declared.token_groups.Group.TheVariants as Group
use Rattle.turtle_lex.specs.declared.token_groups.Mark.TheVariants as Mark
use Rattle.turtle_lex.specs.Classes.{is_blank, is_pn_chars, is_pn_chars_u, is_pn_chars_base, is_sign, is_exponent_mark, quote_char, is_line_char}
use Rattle.turtle_lex.specs.Pattern.{Pattern, Matches, MatchesLongest, Times}
use Rattle.turtle_lex.specs.Terminals.{iri_ref, quotes, short_string, long_string, dotted, label, blank_label, lang_tag, sign, exponent, gap}
use Rattle.turtle_lex.specs.Numbers.{signed}
use Rattle.turtle_lex.specs.Tokens.{IsString, MatchesKind, IsToken}
use Rattle.turtle_lex.specs.Groups.{in_group, group_of, IsTokenOfGroup}
use Rattle.turtle_lex.specs.Delimited.{part}
use Rattle.turtle_lex.specs.Laws.{IsTextOf, EndsTerm, WrittenIri, WrittenString, WrittenLabel, WrittenTag, WrittenWords, WrittenTagAfterString, WrittenCarets, WrittenDot, NextIsToken}
use Rattle.turtle_lex.proofs.Matching.{heads, word_found}
use Rattle.turtle_lex.proofs.ByteLemmas.{keeps, ByteTest, kept, kept_ends}
use Rattle.turtle_lex.proofs.GroupLemmas.{whole_token, token_shorter, blank_small}
use Rattle.turtle_lex.proofs.LawLemmas.{free, matches_all_its_texts}
use Rattle.turtle_lex.proofs.OneWayLemmas.{iri_one, short_string_one}
use Rattle.turtle_lex.proofs.DelimitedLemmas.{no_char_at_quote, line_no_quote}
use Rattle.turtle_lex.proofs.TokenLemmas.{alone, only_Strings, only_Labels, strings_apart, dot_token, mark_token, beyond_point}
use Rattle.turtle_lex.proofs.WordLemmas.{plain_tag, at_prefix_tag, at_base_tag}

-- bytes that are no blanks
abbrev is_no_blank : ℕ → Bool
is_no_blank b = not (is_blank b)

no_blank_high : (b : ℕ) → 128 ≤ b → is_no_blank b ≡ true
unfolding is_blank
no_blank_high b h = grind (arith, nat_tests)

no_blank_case : (b : ℕ) → is_no_blank (to_ascii_lowercase b) ≡ true → is_no_blank b ≡ true
unfolding is_blank
no_blank_case b h = grind (arith, nat_tests)

no_blank_test : ByteTest is_no_blank
no_blank_test = record { high = no_blank_high; case = no_blank_case }

-- a text without blanks ends before a blank
pub before_blank : (p : Pattern) (text r q : List ℕ) → keeps is_no_blank p ≡ true → EndsTerm r → Matches p (text ++ r) q → length r ≤ length q
before_blank p text r q h (inl e) x = omega (arith, ap length e)
before_blank p text r q h (inr (m, (c, scalar, passes, e))) x =
    let small = blank_small c passes in
    let here : r ≡ c ∷ m = e ∙ ap (λ (t : List ℕ). t ++ m) (encode_ascii c small) in
    let k = kept is_no_blank no_blank_test p (text ++ r) q h x in
    let less : length m < length q = kept_ends is_no_blank k.0 text q m c k.1 (ap not passes) (sym k.2 ∙ ap (λ (t : List ℕ). text ++ t) here) in
    omega (arith, ap length here)

-- the token of a group whose first byte is known
from_group : (kind : TokenKind) (b : ℕ) (text r : List ℕ) → (t : List ℕ) × (text ≡ b ∷ t)
    → IsTokenOfGroup (in_group (group_of b)) kind (text ++ r) r → IsToken kind (text ++ r) r
from_group kind b text r (t, e) h =
    subst (λ (u : List ℕ). IsToken kind (u ++ r) r) (sym e)
    (whole_token kind b (t ++ r) r (subst (λ (u : List ℕ). IsTokenOfGroup (in_group (group_of b)) kind (u ++ r) r) e h))

only_Iris : (j : TokenKind) → in_group Group.Iris j ≡ true → j ≡ IriRef
only_Iris IriRef h = refl
only_Iris j h = absurd (false≢true h)

iri_head : (text : List ℕ) → IsTextOf iri_ref text → (t : List ℕ) × (text ≡ 60 ∷ t)
unfolding iri_ref
iri_head text x = (x.0, x.1)

pub written_iri : WrittenIri
written_iri text r x =
    let m : Matches iri_ref (text ++ r) r = matches_all_its_texts iri_ref text r x in
    from_group IriRef 60 text r (iri_head text x)
    (alone (in_group Group.Iris) IriRef (text ++ r) r only_Iris m (λ q y. omega (arith, ap length (iri_one (text ++ r) r q m y))))

-- Strings
extended : (p : Pattern) (s u r : List ℕ) → Matches p s u → Matches p (s ++ r) (u ++ r)
extended p s u r x =
    let f = free p s u x in
    subst (λ (t : List ℕ). Matches p t (u ++ r)) (sym (ap (λ (t : List ℕ). t ++ r) f.is ∙ append_assoc f.text u r)) (f.any (u ++ r))

short_head : (quote : Quote) (text : List ℕ) → IsTextOf (short_string quote) text → (t : List ℕ) × (text ≡ quote_char quote ∷ t)
unfolding short_string
short_head quote text x = (x.0, x.1)

no_three : (quote : Quote) (text r m : List ℕ) → IsTextOf (short_string quote) text → (IsPrefix (quote_char quote ∷ []) r → ⊥)
    → Matches (quotes quote 3) (text ++ r) m → ⊥
unfolding short_string
no_three quote text r m (u, first, (t, (n, xs), last)) none three = by n xs
  where
    q : ℕ
    q = quote_char quote

    -- after the first quote
    inside : u ++ r ≡ q ∷ q ∷ m
    inside = (heads q q (u ++ r) (q ∷ q ∷ m) (sym (ap (λ (v : List ℕ). v ++ r) first) ∙ three)).1

    by : (n : ℕ) → Times (Matches (part (Line quote))) n u t → ⊥
    by zero same =
        let all : q ∷ r ≡ q ∷ q ∷ m = sym (ap (λ (v : List ℕ). v ++ r) (same ∙ last)) ∙ inside in
        none (m, sym (heads q q r (q ∷ m) all).1)
    by (suc k) (v, x, more) =
        let here : Matches (part (Line quote)) (q ∷ q ∷ m) (v ++ r) =
        subst (λ (w : List ℕ). Matches (part (Line quote)) w (v ++ r)) inside (extended (part (Line quote)) u v r x) in
        no_char_at_quote (is_line_char quote) quote (q ∷ m) (v ++ r) (line_no_quote quote) here

same_string : (quote : Quote) (text r s : List ℕ) → IsTextOf (short_string quote) text → (IsPrefix (quote_char quote ∷ []) r → ⊥)
    → IsString quote (text ++ r) s → r ≡ s
unfolding long_string
same_string quote text r s x none (inl (m, three, rest)) = absurd (no_three quote text r m x none three)
same_string quote text r s x none (inr y) =
    short_string_one quote (text ++ r) r s (matches_all_its_texts (short_string quote) text r x) y.0

is_written : (quote : Quote) (text r : List ℕ) → IsTextOf (short_string quote) text → (IsPrefix (quote_char quote ∷ []) r → ⊥)
    → IsString quote (text ++ r) r
is_written quote text r x none = inr (matches_all_its_texts (short_string quote) text r x, λ m three. no_three quote text r m x none three)

pub written_string : WrittenString
written_string DoubleQuote text r x none =
    let m = is_written DoubleQuote text r x none in
    from_group Quoted 34 text r (short_head DoubleQuote text x)
    (alone (in_group Group.Strings) Quoted (text ++ r) r only_Strings (DoubleQuote, m) (λ q y. by q y.0 y.1))
  where
    by : (q : List ℕ) (quote : Quote) → IsString quote (text ++ r) q → length r ≤ length q
    by q DoubleQuote y = omega (arith, ap length (same_string DoubleQuote text r q x none y))
    by q SingleQuote y = absurd (strings_apart (text ++ r) r q (is_written DoubleQuote text r x none) y)
written_string SingleQuote text r x none =
    let m = is_written SingleQuote text r x none in
    from_group Quoted 39 text r (short_head SingleQuote text x)
    (alone (in_group Group.Strings) Quoted (text ++ r) r only_Strings (SingleQuote, m) (λ q y. by q y.0 y.1))
  where
    by : (q : List ℕ) (quote : Quote) → IsString quote (text ++ r) q → length r ≤ length q
    by q SingleQuote y = omega (arith, ap length (same_string SingleQuote text r q x none y))
    by q DoubleQuote y = absurd (strings_apart (text ++ r) q r y (is_written SingleQuote text r x none))

-- labels and tags
label_head : (text : List ℕ) → IsTextOf blank_label text → (t : List ℕ) × (text ≡ 95 ∷ t)
unfolding blank_label
label_head text x = (58 ∷ x.0, x.1)

label_no_blank : keeps is_no_blank blank_label ≡ true
unfolding blank_label label dotted is_blank is_pn_chars is_pn_chars_u is_pn_chars_base
label_no_blank = refl

pub written_label : WrittenLabel
written_label text r x ends =
    from_group BlankLabel 95 text r (label_head text x)
    (alone (in_group Group.Labels) BlankLabel (text ++ r) r only_Labels (matches_all_its_texts blank_label text r x)
    (λ q y. before_blank blank_label text r q label_no_blank ends y))

tag_head : (text : List ℕ) → IsTextOf lang_tag text → (t : List ℕ) × (text ≡ 64 ∷ t)
unfolding lang_tag
tag_head text x = (x.0, x.1)

tag_no_blank : keeps is_no_blank lang_tag ≡ true
unfolding lang_tag is_blank
tag_no_blank = refl

longest_tag : (text r : List ℕ) → IsTextOf lang_tag text → EndsTerm r → MatchesLongest lang_tag (text ++ r) (Some r)
longest_tag text r x ends = record {
  found = matches_all_its_texts lang_tag text r x;
  longest = λ q y. before_blank lang_tag text r q tag_no_blank ends y;
}

pub written_tag : WrittenTag
written_tag text r x no_prefix no_base ends =
    from_group LangTag 64 text r (tag_head text x)
    (plain_tag (text ++ r) r (longest_tag text r x ends)
    (λ e. no_prefix (append_cancel_right text (codes "@prefix") r e)) (λ e. no_base (append_cancel_right text (codes "@base") r e)))

prefix_is_tag : IsTextOf lang_tag (codes "@prefix")
prefix_is_tag = at_prefix_tag (codes "@prefix") [] refl

base_is_tag : IsTextOf lang_tag (codes "@base")
base_is_tag = at_base_tag (codes "@base") [] refl

prefix_word : (r : List ℕ) → EndsTerm r → IsToken AtPrefix (codes "@prefix" ++ r) r
prefix_word r ends = whole_token AtPrefix 64 (codes "prefix" ++ r) r (record { matches = refl; longest = longest; fixed = fixed })
  where
    s : List ℕ
    s = codes "@prefix" ++ r

    longest : (j : TokenKind) (q : List ℕ) → in_group Group.Tags j ≡ true → MatchesKind j s q → length r ≤ length q
    longest LangTag q g x = before_blank lang_tag (codes "@prefix") r q tag_no_blank ends x
    longest AtPrefix q g x = before_blank lang_tag (codes "@prefix") r q tag_no_blank ends (at_prefix_tag s q x)
    longest AtBase q g x = before_blank lang_tag (codes "@prefix") r q tag_no_blank ends (at_base_tag s q x)
    longest j q g x = absurd (false≢true g)

    fixed : (j : TokenKind) → in_group Group.Tags j ≡ true → MatchesKind j s r → (j ≡ AtPrefix) ⊎ (j ≡ LangTag)
    fixed LangTag g x = inr refl
    fixed AtPrefix g x = inl refl
    fixed AtBase g x = absurd (omega (arith, ap length x))
    fixed j g x = absurd (false≢true g)

base_word : (r : List ℕ) → EndsTerm r → IsToken AtBase (codes "@base" ++ r) r
base_word r ends = whole_token AtBase 64 (codes "base" ++ r) r (record { matches = refl; longest = longest; fixed = fixed })
  where
    s : List ℕ
    s = codes "@base" ++ r

    longest : (j : TokenKind) (q : List ℕ) → in_group Group.Tags j ≡ true → MatchesKind j s q → length r ≤ length q
    longest LangTag q g x = before_blank lang_tag (codes "@base") r q tag_no_blank ends x
    longest AtPrefix q g x = before_blank lang_tag (codes "@base") r q tag_no_blank ends (at_prefix_tag s q x)
    longest AtBase q g x = before_blank lang_tag (codes "@base") r q tag_no_blank ends (at_base_tag s q x)
    longest j q g x = absurd (false≢true g)

    fixed : (j : TokenKind) → in_group Group.Tags j ≡ true → MatchesKind j s r → (j ≡ AtBase) ⊎ (j ≡ LangTag)
    fixed LangTag g x = inr refl
    fixed AtPrefix g x = absurd (omega (arith, ap length x))
    fixed AtBase g x = inl refl
    fixed j g x = absurd (false≢true g)

pub written_words : WrittenWords
written_words r ends = (prefix_word r ends, base_word r ends)

cons_decided : (a b : ℕ) (s t : List ℕ) (u : Bool) → (a == b) ≡ u → (s ≡ t) ⊎ (s ≢ t) → (a ∷ s ≡ b ∷ t) ⊎ (a ∷ s ≢ b ∷ t)
cons_decided a b s t true is (inl e) = inl (ap (λ (x : ℕ). x ∷ s) (eqb-true a b is) ∙ ap (λ (x : List ℕ). b ∷ x) e)
cons_decided a b s t true is (inr other) = inr (λ e. other (heads a b s t e).1)
cons_decided a b s t false is h = inr (λ e. false≢true (sym is ∙ eq-eqb a b (heads a b s t e).0))

nat_list_decided : (s t : List ℕ) → (s ≡ t) ⊎ (s ≢ t)
nat_list_decided [] [] = inl refl
nat_list_decided [] (b ∷ t) = inr (λ e. absurd (omega (arith, ap length e)))
nat_list_decided (a ∷ s) [] = inr (λ e. absurd (omega (arith, ap length e)))
nat_list_decided (a ∷ s) (b ∷ t) = cons_decided a b s t (a == b) refl (nat_list_decided s t)

pub written_tag_after_string : WrittenTagAfterString
written_tag_after_string text r x ends = elim (nat_list_decided text (codes "@prefix")) [
  | inl e ↦ (AtPrefix, subst (λ (t : List ℕ). IsToken AtPrefix (t ++ r) r) (sym e) (prefix_word r ends), refl)
  | inr no_prefix ↦ elim (nat_list_decided text (codes "@base")) [
    | inl e ↦ (AtBase, subst (λ (t : List ℕ). IsToken AtBase (t ++ r) r) (sym e) (base_word r ends), refl)
    | inr no_base ↦ (LangTag, written_tag text r x no_prefix no_base ends, refl)
  ]
]

-- marks
pub written_carets : WrittenCarets
written_carets r = whole_token Carets 94 (94 ∷ r) r
    (mark_token Mark.Carets (codes "^^") (codes "^^" ++ r) r refl (word_found (codes "^^") (codes "^^" ++ r) r refl))

signed_no_blank : (n : Number) → keeps is_no_blank (signed n) ≡ true
unfolding is_blank sign exponent is_sign is_exponent_mark
signed_no_blank Number.Integer = refl
signed_no_blank Number.Decimal = refl
signed_no_blank Number.Double = refl

pub written_dot : WrittenDot
written_dot r ends = whole_token Dot 46 r r
    (dot_token (codes "." ++ r) r
    (λ n q x. let longer = beyond_point (codes "." ++ r) q r n x refl in
    let within = before_blank (signed n) (codes ".") r q (signed_no_blank n) ends x in omega arith)
    (word_found (codes ".") (codes "." ++ r) r refl))

-- the next token
pub next_is_token : NextIsToken
next_is_token before blanks text r kind x t =
    let rest : List ℕ = text ++ r in
    let bytes : List ℕ = before ++ (blanks ++ rest) in
    let to : ℕ = length before + length blanks + length text in
    let at_start : drop (length before) bytes ≡ blanks ++ rest = drop_at before (blanks ++ rest) (length before) refl in
    let at_token : drop (length before + length blanks) bytes ≡ rest =
    ap (drop (length before + length blanks)) (sym (append_assoc before blanks rest))
    ∙ drop_at (before ++ blanks) rest (length before + length blanks) (length-append before blanks) in
    let at_end : drop to bytes ≡ r =
    ap (drop to) (sym (append_assoc before blanks rest) ∙ sym (append_assoc (before ++ blanks) text r))
    ∙ drop_at ((before ++ blanks) ++ text) r to (length-append (before ++ blanks) text ∙ ap (λ (n : ℕ). n + length text) (length-append before blanks)) in
    let full : length r < length rest = token_shorter kind rest r t.matches in
    record {
      after = omega arith;
      in_order = omega (arith, full, length-append text r);
      within = omega (arith, length-append before (blanks ++ rest), length-append blanks rest, length-append text r);
      gap_before = subst (λ (u : List ℕ). Matches gap u (drop (length before + length blanks) bytes)) (sym at_start)
          (subst (λ (u : List ℕ). Matches gap (blanks ++ rest) u) (sym at_token) (matches_all_its_texts gap blanks rest x));
      matches = subst (λ (u : List ℕ). IsToken kind u (drop to bytes)) (sym at_token) (subst (λ (u : List ℕ). IsToken kind rest u) (sym at_end) t);
    }
