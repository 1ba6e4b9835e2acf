-- The words of updates: where one begins a text, no other does, and it leaves one rest.
use mathlib.Core.List.{IsSuffix}
use Rattle.std.proofs.Common.{◌≡◌, ℕ, ◌+◌, ◌-◌, ◌<◌, true, List, ◌++◌, length, drop, map, None, refl, sym, ap, ◌∙◌, subst, arith, length-append, length-drop}
use Rattle.std.proofs.lemmas.List.{drop_at, map-append, length-map}
use Rattle.std.specs.Char.{to_ascii_lowercase}
use lib.Chars.{codes}
use Rattle.turtle_lex.specs.Pattern.{any_case, Matches, MatchesOnly}
use Rattle.turtle_lex.proofs.Matching.{clash, words_apart, leaves_suffix, not_matched, suffix_trans}
use Rattle.turtle_lex.proofs.NextLemmas.{place_is, drop_is_suffix}
use Rattle.turtle_grammar.specs.declared.symbol.Symbol.{Symbol}
use Rattle.turtle_grammar.specs.declared.symbol.Symbol.TheVariants.{Token, Insert, Delete, Data}
use Rattle.turtle_reader.specs.declared.lexeme.Lexeme.{Lexeme}
use Rattle.turtle_reader.specs.Texts.{MatchesWord, HasNoWord, IsWordOf}

abbrev lower : List ℕ → List ℕ
lower t = map to_ascii_lowercase t

-- a text that begins with a word in any case
lowered : (w s r : List ℕ) → Matches (any_case w) s r → lower s ≡ lower w ++ lower r
lowered w s r (t, same, e) = ap lower e ∙ map-append to_ascii_lowercase t r ∙ ap (λ (x : List ℕ). x ++ lower r) same

-- doesn't begin with one that differs from it in lower case
cases_apart : (v w s m r : List ℕ) → clash (lower v) (lower w) ≡ true → Matches (any_case v) s m → Matches (any_case w) s r → ⊥
cases_apart v w s m r h x y = words_apart (lower v) (lower w) (lower s) (lower m) (lower r) h (lowered v s m x) (lowered w s r y)

size_of : (w t : List ℕ) → lower t ≡ lower w → length t ≡ length w
size_of w t same = sym (length-map t to_ascii_lowercase) ∙ ap length same ∙ length-map w to_ascii_lowercase

rest_is : (w s r : List ℕ) → Matches (any_case w) s r → drop (length w) s ≡ r
rest_is w s r (t, same, e) = ap (drop (length w)) e ∙ drop_at t r (length w) (size_of w t same)

shorter : (w s r : List ℕ) → Matches (any_case w) s r → length r + length w ≡ length s
shorter w s r (t, same, e) =
    let size = size_of w t same in omega (arith, ap length e, length-append t r, size)

one_rest : (w s m r : List ℕ) → Matches (any_case w) s m → Matches (any_case w) s r → m ≡ r
one_rest w s m r x y = sym (rest_is w s m x) ∙ rest_is w s r y

-- a text begins with one word
words_agree : (a b : Symbol) (s m r : List ℕ) → MatchesWord a s m → MatchesWord b s r → (a ≡ b) × (m ≡ r)
words_agree Insert Insert s m r x y = (refl, one_rest (codes "INSERT") s m r x y)
words_agree Insert Delete s m r x y = absurd (cases_apart (codes "INSERT") (codes "DELETE") s m r refl x y)
words_agree Insert Data s m r x y = absurd (cases_apart (codes "INSERT") (codes "DATA") s m r refl x y)
words_agree Insert (Token kind) s m r x y = absurd y
words_agree Delete Insert s m r x y = absurd (cases_apart (codes "DELETE") (codes "INSERT") s m r refl x y)
words_agree Delete Delete s m r x y = (refl, one_rest (codes "DELETE") s m r x y)
words_agree Delete Data s m r x y = absurd (cases_apart (codes "DELETE") (codes "DATA") s m r refl x y)
words_agree Delete (Token kind) s m r x y = absurd y
words_agree Data Insert s m r x y = absurd (cases_apart (codes "DATA") (codes "INSERT") s m r refl x y)
words_agree Data Delete s m r x y = absurd (cases_apart (codes "DATA") (codes "DELETE") s m r refl x y)
words_agree Data Data s m r x y = (refl, one_rest (codes "DATA") s m r x y)
words_agree Data (Token kind) s m r x y = absurd y
words_agree (Token kind) b s m r x y = absurd x

pub word_shorter : (a : Symbol) (s r : List ℕ) → MatchesWord a s r → length r < length s
word_shorter Insert s r x = let size : length (codes "INSERT") ≡ 6 = refl in omega (arith, shorter (codes "INSERT") s r x, size)
word_shorter Delete s r x = let size : length (codes "DELETE") ≡ 6 = refl in omega (arith, shorter (codes "DELETE") s r x, size)
word_shorter Data s r x = let size : length (codes "DATA") ≡ 4 = refl in omega (arith, shorter (codes "DATA") s r x, size)
word_shorter (Token kind) s r x = absurd x

pub word_suffix : (a : Symbol) (s r : List ℕ) → MatchesWord a s r → IsSuffix r s
word_suffix Insert s r x = leaves_suffix (any_case (codes "INSERT")) s r x
word_suffix Delete s r x = leaves_suffix (any_case (codes "DELETE")) s r x
word_suffix Data s r x = leaves_suffix (any_case (codes "DATA")) s r x
word_suffix (Token kind) s r x = absurd x

-- where none of them matches, there is no word
pub no_word : (s : List ℕ) → MatchesOnly (any_case (codes "INSERT")) s None → MatchesOnly (any_case (codes "DELETE")) s None
    → MatchesOnly (any_case (codes "DATA")) s None → HasNoWord s
no_word s a b c Insert r x = not_matched (any_case (codes "INSERT")) s r a x
no_word s a b c Delete r x = not_matched (any_case (codes "DELETE")) s r b x
no_word s a b c Data r x = not_matched (any_case (codes "DATA")) s r c x
no_word s a b c (Token kind) r x = x

abbrev lexeme_with : Symbol → ℕ → ℕ → Lexeme
lexeme_with symbol from to = record { symbol = symbol; from = from; to = to }

-- a word at a position, which leaves this rest
pub word_is : (bytes text : List ℕ) (at : ℕ) (symbol : Symbol) (rest : List ℕ) → at < length bytes → text ≡ drop at bytes → MatchesWord symbol text rest
    → IsWordOf bytes (lexeme_with symbol at (length bytes - length rest))
word_is bytes text at symbol rest lt back matches =
    let moved : MatchesWord symbol (drop at bytes) rest = subst (λ (t : List ℕ). MatchesWord symbol t rest) back matches in
    let whole : IsSuffix rest bytes = suffix_trans bytes (drop at bytes) rest (drop_is_suffix at bytes) (word_suffix symbol (drop at bytes) rest moved) in
    let less = word_shorter symbol (drop at bytes) rest moved in
    record {
      in_order = omega (arith, less, length-drop at bytes, lt);
      within = omega arith;
      matches = subst (MatchesWord symbol (drop at bytes)) (sym (place_is bytes rest whole)) moved;
    }

-- there is one word at a position
pub same_word : (bytes : List ℕ) (at : ℕ) (l m : Lexeme) → l.from ≡ at → m.from ≡ at → IsWordOf bytes l → IsWordOf bytes m → l ≡ m
same_word bytes at l m e f h k =
    let from : m.from ≡ l.from = f ∙ sym e in
    let moved : MatchesWord m.symbol (drop l.from bytes) (drop m.to bytes) =
    subst (λ (n : ℕ). MatchesWord m.symbol (drop n bytes) (drop m.to bytes)) from k.matches in
    let agree = words_agree l.symbol m.symbol (drop l.from bytes) (drop l.to bytes) (drop m.to bytes) h.matches moved in
    let a = h.within in let b = k.within in let rests = ap length agree.1 in
    let to : l.to ≡ m.to = omega (arith, rests, length-drop l.to bytes, length-drop m.to bytes, a, b) in
    ap (λ (s : Symbol). lexeme_with s l.from l.to) agree.0 ∙ ap (λ (n : ℕ). lexeme_with m.symbol n l.to) (sym from)
    ∙ ap (lexeme_with m.symbol m.from) to
