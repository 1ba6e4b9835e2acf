-- The token at the start of a text, as far as one group of kinds goes.
use Rattle.std.proofs.Common.{◌≡◌, ℕ, ◌<◌, ◌≤◌, Bool, true, ◌⊎◌, inl, inr, ⊎_elim, List, ◌∷◌, length, Some, None, refl, sym, ap, ◌∙◌, subst, arith}
use Rattle.std.proofs.lemmas.Bool.{false≢true}
use lib.Chars.{codes}
use Rattle.turtle_lex.specs.declared.classes.Quote.{Quote}
use Rattle.turtle_lex.specs.declared.classes.Quote.TheVariants.{Double as DoubleQuote, Single as SingleQuote}
use Rattle.turtle_lex.specs.declared.numbers.Number.{Number}
use Rattle.turtle_lex.specs.declared.token.TokenKind.{TokenKind}
use Rattle.turtle_lex.specs.declared.token.TokenKind.TheVariants.{BlankLabel, LangTag, Integer, Decimal, Double, Quoted, Anon, Dot, Semicolon, Comma, Carets, OpenSquare, CloseSquare, OpenRound, CloseRound, OpenBrace, CloseBrace, Variable}
use Rattle.turtle_lex.specs.declared.token_groups.Group.TheVariants as Group
use Rattle.turtle_lex.specs.declared.token_groups.Mark.{Mark}
use Rattle.turtle_lex.specs.Classes.{is_blank, is_sign, quote_char}
use Rattle.turtle_lex.specs.Pattern.{Pattern, word, one, ◌∘◌, many, Matches, MatchesOnly, MatchesLongest}
use Rattle.turtle_lex.specs.Terminals.{label, blank_label, variable, anon, integer, decimal, double, sign, exponent, short_string, long_string}
use Rattle.turtle_lex.specs.Delimited.{StringOnly}
use Rattle.turtle_lex.specs.Runs.{IsRun}
use Rattle.turtle_lex.specs.Numbers.{signed, IsLongestNumber, HasNoNumber}
use Rattle.turtle_lex.specs.Tokens.{IsString, terminal, MatchesKind}
use Rattle.turtle_lex.specs.Groups.{in_group, IsTokenOfGroup, HasNoTokenOf, kind_of, mark_kind}
use Rattle.turtle_lex.proofs.Matching.{no_longer, not_matched, matched_rest, heads, same_rest, none_is_no_rest}
use Rattle.turtle_lex.proofs.FirstBytes.{excluded, at_least}
use Rattle.turtle_lex.proofs.RunLemmas.{run_ends}

-- a group of one kind
pub alone : (group : TokenKind → Bool) (kind : TokenKind) (s m : List ℕ) → ((j : TokenKind) → group j ≡ true → j ≡ kind) → MatchesKind kind s m
    → ((r : List ℕ) → MatchesKind kind s r → length m ≤ length r) → IsTokenOfGroup group kind s m
alone group kind s m only found longest = record {
  matches = found;
  longest = λ j r g x. longest r (subst (λ (i : TokenKind). MatchesKind i s r) (only j g) x);
  fixed = λ j g x. inl (only j g);
}

pub none_alone : (group : TokenKind → Bool) (kind : TokenKind) (s : List ℕ) → ((j : TokenKind) → group j ≡ true → j ≡ kind)
    → ((r : List ℕ) → MatchesKind kind s r → ⊥) → HasNoTokenOf group s
none_alone group kind s only none j r g x = none r (subst (λ (i : TokenKind). MatchesKind i s r) (only j g) x)

pub only_Strings : (j : TokenKind) → in_group Group.Strings j ≡ true → j ≡ Quoted
only_Strings Quoted h = refl
only_Strings j h = absurd (false≢true h)

pub only_Labels : (j : TokenKind) → in_group Group.Labels j ≡ true → j ≡ BlankLabel
only_Labels BlankLabel h = refl
only_Labels j h = absurd (false≢true h)

pub only_Variables : (j : TokenKind) → in_group Group.Variables j ≡ true → j ≡ Variable
only_Variables Variable h = refl
only_Variables j h = absurd (false≢true h)

-- the longest text, or none
pub longest_matches : (p : Pattern) (s m r : List ℕ) → MatchesLongest p s (Some m) → Matches p s r → length m ≤ length r
longest_matches p s m r h x = h.longest r x

pub longest_none : (p : Pattern) (s r : List ℕ) → MatchesLongest p s None → Matches p s r → ⊥
longest_none p s r h x = h.longest r x

-- after a word at the start
pub word_then : (w : List ℕ) (p : Pattern) (s m : List ℕ) (e : List ℕ) → MatchesOnly (word w) s (Some m) → MatchesLongest p m (Some e) → MatchesLongest (word w ∘ p) s (Some e)
word_then w p s m e h k = record {
  found = (m, h.found, k.found);
  longest = λ r x. k.longest r (subst (λ (u : List ℕ). Matches p u r) (matched_rest (word w) s m x.0 h x.1) x.2);
}

pub word_then_none : (w : List ℕ) (p : Pattern) (s m : List ℕ) → MatchesOnly (word w) s (Some m) → MatchesLongest p m None → MatchesLongest (word w ∘ p) s None
word_then_none w p s m h k = record {
  found = tt;
  longest = λ r x. k.longest r (subst (λ (u : List ℕ). Matches p u r) (matched_rest (word w) s m x.0 h x.1) x.2);
}

pub no_word_then : (w : List ℕ) (p : Pattern) (s : List ℕ) → MatchesOnly (word w) s None → MatchesLongest (word w ∘ p) s None
no_word_then w p s h = record { found = tt; longest = λ r x. absurd (not_matched (word w) s x.0 h x.1) }

pub label_token : (s m e : List ℕ) → MatchesOnly (word (codes "_:")) s (Some m) → MatchesLongest label m (Some e) → IsTokenOfGroup (in_group Group.Labels) BlankLabel s e
unfolding blank_label
label_token s m e h k = let whole = word_then (codes "_:") label s m e h k in alone (in_group Group.Labels) BlankLabel s e only_Labels whole.found (λ r x. longest_matches blank_label s e r whole x)

pub no_label_after : (s m : List ℕ) → MatchesOnly (word (codes "_:")) s (Some m) → MatchesLongest label m None → HasNoTokenOf (in_group Group.Labels) s
unfolding blank_label
no_label_after s m h k = none_alone (in_group Group.Labels) BlankLabel s only_Labels (λ r x. longest_none blank_label s r (word_then_none (codes "_:") label s m h k) x)

pub no_label_token : (s : List ℕ) → MatchesOnly (word (codes "_:")) s None → HasNoTokenOf (in_group Group.Labels) s
unfolding blank_label
no_label_token s h = none_alone (in_group Group.Labels) BlankLabel s only_Labels (λ r x. longest_none blank_label s r (no_word_then (codes "_:") label s h) x)

pub variable_token : (s m e : List ℕ) → MatchesOnly (word (codes "?")) s (Some m) → MatchesLongest label m (Some e) → IsTokenOfGroup (in_group Group.Variables) Variable s e
unfolding variable
variable_token s m e h k = let whole = word_then (codes "?") label s m e h k in alone (in_group Group.Variables) Variable s e only_Variables whole.found (λ r x. longest_matches variable s e r whole x)

pub no_variable_after : (s m : List ℕ) → MatchesOnly (word (codes "?")) s (Some m) → MatchesLongest label m None → HasNoTokenOf (in_group Group.Variables) s
unfolding variable
no_variable_after s m h k = none_alone (in_group Group.Variables) Variable s only_Variables (λ r x. longest_none variable s r (word_then_none (codes "?") label s m h k) x)

pub no_variable_token : (s : List ℕ) → MatchesOnly (word (codes "?")) s None → HasNoTokenOf (in_group Group.Variables) s
unfolding variable
no_variable_token s h = none_alone (in_group Group.Variables) Variable s only_Variables (λ r x. longest_none variable s r (no_word_then (codes "?") label s h) x)

-- Strings
pub string_head : (quote : Quote) (s r : List ℕ) → IsString quote s r → (t : List ℕ) × (s ≡ quote_char quote ∷ t)
unfolding short_string long_string
string_head quote s r x = elim x [ inl a ↦ (quote_char quote ∷ quote_char quote ∷ a.0, a.1) | inr b ↦ (b.0.0, b.0.1) ]

pub strings_apart : (s m r : List ℕ) → IsString DoubleQuote s m → IsString SingleQuote s r → ⊥
strings_apart s m r x y =
    let h = string_head DoubleQuote s m x in let k = string_head SingleQuote s r y in
    absurd (omega (arith, (heads 34 39 h.0 k.0 (sym h.1 ∙ k.1)).0))

pub double_string : (s m : List ℕ) → StringOnly DoubleQuote s (Some m) → IsTokenOfGroup (in_group Group.Strings) Quoted s m
double_string s m h = alone (in_group Group.Strings) Quoted s m only_Strings (DoubleQuote, h.found) (λ r x. by r x.0 x.1)
  where
    by : (r : List ℕ) (quote : Quote) → IsString quote s r → length m ≤ length r
    by r DoubleQuote x = omega (arith, ap length (same_rest m r (h.only r x)))
    by r SingleQuote x = absurd (strings_apart s m r h.found x)

pub single_string : (s m : List ℕ) → StringOnly SingleQuote s (Some m) → IsTokenOfGroup (in_group Group.Strings) Quoted s m
single_string s m h = alone (in_group Group.Strings) Quoted s m only_Strings (SingleQuote, h.found) (λ r x. by r x.0 x.1)
  where
    by : (r : List ℕ) (quote : Quote) → IsString quote s r → length m ≤ length r
    by r SingleQuote x = omega (arith, ap length (same_rest m r (h.only r x)))
    by r DoubleQuote x = absurd (strings_apart s r m x h.found)

pub no_string_token : (s : List ℕ) → StringOnly DoubleQuote s None → StringOnly SingleQuote s None → HasNoTokenOf (in_group Group.Strings) s
no_string_token s h k = none_alone (in_group Group.Strings) Quoted s only_Strings (λ r x. by r x.0 x.1)
  where
    by : (r : List ℕ) (quote : Quote) → IsString quote s r → ⊥
    by r DoubleQuote x = none_is_no_rest r (h.only r x)
    by r SingleQuote x = none_is_no_rest r (k.only r x)

-- `[` and ANON
anon_is : (s m b r : List ℕ) → MatchesOnly (word (codes "[")) s (Some m) → IsRun is_blank m b → Matches anon s r → Matches (word (codes "]")) b r
unfolding anon is_blank
anon_is s m b r h run x =
    let blanks : Matches (many (one is_blank)) m x.2.0 = subst (λ (u : List ℕ). Matches (many (one is_blank)) u x.2.0) (matched_rest (word (codes "[")) s m x.0 h x.1) x.2.1 in
    ⊎_elim
    (λ (same : x.2.0 ≡ b). subst (λ (u : List ℕ). Matches (word (codes "]")) u r) same x.2.2)
    (λ (other : (w : List ℕ) × Matches (one is_blank) x.2.0 w). absurd (not_matched (word (codes "]")) x.2.0 r (excluded (one is_blank) (word (codes "]")) x.2.0 other.0 refl other.1) x.2.2))
    (run_ends is_blank m b x.2.0 run blanks)

pub anon_token : (s m b e : List ℕ) → MatchesOnly (word (codes "[")) s (Some m) → IsRun is_blank m b → MatchesOnly (word (codes "]")) b (Some e) → IsTokenOfGroup (in_group Group.Squares) Anon s e
unfolding anon
anon_token s m b e h run k = record { matches = (m, h.found, (b, run.found, k.found)); longest = longest; fixed = fixed }
  where
    inside : length e < length m
    inside = omega (arith, no_longer (many (one is_blank)) m b run.found, ap length k.found)

    longest : (j : TokenKind) (r : List ℕ) → in_group Group.Squares j ≡ true → MatchesKind j s r → length e ≤ length r
    longest Anon r g x = omega (arith, ap length (matched_rest (word (codes "]")) b e r k (anon_is s m b r h run x)))
    longest OpenSquare r g x = omega (arith, inside, ap length (matched_rest (word (codes "[")) s m r h x))
    longest j r g x = absurd (false≢true g)

    fixed : (j : TokenKind) → in_group Group.Squares j ≡ true → MatchesKind j s e → (j ≡ Anon) ⊎ (j ≡ LangTag)
    fixed Anon g x = inl refl
    fixed OpenSquare g x = absurd (omega (arith, inside, ap length (matched_rest (word (codes "[")) s m e h x)))
    fixed j g x = absurd (false≢true g)

pub open_square_token : (s m b : List ℕ) → MatchesOnly (word (codes "[")) s (Some m) → IsRun is_blank m b → MatchesOnly (word (codes "]")) b None → IsTokenOfGroup (in_group Group.Squares) OpenSquare s m
open_square_token s m b h run k = record { matches = h.found; longest = longest; fixed = fixed }
  where
    longest : (j : TokenKind) (r : List ℕ) → in_group Group.Squares j ≡ true → MatchesKind j s r → length m ≤ length r
    longest Anon r g x = absurd (not_matched (word (codes "]")) b r k (anon_is s m b r h run x))
    longest OpenSquare r g x = omega (arith, ap length (matched_rest (word (codes "[")) s m r h x))
    longest j r g x = absurd (false≢true g)

    fixed : (j : TokenKind) → in_group Group.Squares j ≡ true → MatchesKind j s m → (j ≡ OpenSquare) ⊎ (j ≡ LangTag)
    fixed Anon g x = absurd (not_matched (word (codes "]")) b m k (anon_is s m b m h run x))
    fixed OpenSquare g x = inl refl
    fixed j g x = absurd (false≢true g)

pub no_square_token : (s : List ℕ) → MatchesOnly (word (codes "[")) s None → HasNoTokenOf (in_group Group.Squares) s
unfolding anon
no_square_token s h Anon r g x = not_matched (word (codes "[")) s x.0 h x.1
no_square_token s h OpenSquare r g x = not_matched (word (codes "[")) s r h x
no_square_token s h j r g x = false≢true g

-- numbers
signed_terminal : (n : Number) (s r : List ℕ) → Matches (signed n) s r → MatchesKind (kind_of n) s r
unfolding integer decimal double
signed_terminal Number.Integer s r x = x
signed_terminal Number.Decimal s r x = x
signed_terminal Number.Double s r x = x

terminal_signed : (n : Number) (s r : List ℕ) → MatchesKind (kind_of n) s r → Matches (signed n) s r
unfolding integer decimal double
terminal_signed Number.Integer s r x = x
terminal_signed Number.Decimal s r x = x
terminal_signed Number.Double s r x = x

number_no_longer : (s e : List ℕ) (kind n : Number) (r : List ℕ) → IsLongestNumber signed kind s e → Matches (signed n) s r → length e ≤ length r
number_no_longer s e kind n r h x = elim (h.longest n r x) [ inl a ↦ omega arith | inr b ↦ b.1 ]

number_same : (s e : List ℕ) (kind n : Number) → IsLongestNumber signed kind s e → Matches (signed n) s e → (kind_of n ≡ kind_of kind) ⊎ (kind_of n ≡ LangTag)
number_same s e kind n h x = elim (h.longest n e x) [ inl a ↦ absurd (omega arith) | inr b ↦ inl (ap kind_of b.0) ]

pub number_token : (s e : List ℕ) (kind : Number) → IsLongestNumber signed kind s e → IsTokenOfGroup (in_group Group.Numbers) (kind_of kind) s e
number_token s e kind h = record { matches = signed_terminal kind s e h.found; longest = longest; fixed = fixed }
  where
    longest : (j : TokenKind) (r : List ℕ) → in_group Group.Numbers j ≡ true → MatchesKind j s r → length e ≤ length r
    longest Integer r g x = number_no_longer s e kind Number.Integer r h (terminal_signed Number.Integer s r x)
    longest Decimal r g x = number_no_longer s e kind Number.Decimal r h (terminal_signed Number.Decimal s r x)
    longest Double r g x = number_no_longer s e kind Number.Double r h (terminal_signed Number.Double s r x)
    longest j r g x = absurd (false≢true g)

    fixed : (j : TokenKind) → in_group Group.Numbers j ≡ true → MatchesKind j s e → (j ≡ kind_of kind) ⊎ (j ≡ LangTag)
    fixed Integer g x = number_same s e kind Number.Integer h (terminal_signed Number.Integer s e x)
    fixed Decimal g x = number_same s e kind Number.Decimal h (terminal_signed Number.Decimal s e x)
    fixed Double g x = number_same s e kind Number.Double h (terminal_signed Number.Double s e x)
    fixed j g x = absurd (false≢true g)

pub no_number_token : (s : List ℕ) → HasNoNumber signed s → HasNoTokenOf (in_group Group.Numbers) s
no_number_token s h Integer r g x = h Number.Integer r (terminal_signed Number.Integer s r x)
no_number_token s h Decimal r g x = h Number.Decimal r (terminal_signed Number.Decimal s r x)
no_number_token s h Double r g x = h Number.Double r (terminal_signed Number.Double s r x)
no_number_token s h j r g x = false≢true g

-- a number that begins with a point has a digit after it
pub beyond_point : (s e q : List ℕ) (n : Number) → Matches (signed n) s e → Matches (word (codes ".")) s q → length e < length q
unfolding sign exponent is_sign
beyond_point s e q Number.Integer x at = absurd (not_matched (signed Number.Integer) s e (excluded (word (codes ".")) (signed Number.Integer) s q refl at) x)
beyond_point s e q Number.Decimal x at = omega (arith, at_least (signed Number.Decimal) s e x, ap length at)
beyond_point s e q Number.Double x at = omega (arith, at_least (signed Number.Double) s e x, ap length at)

pub pointed_token : (s e : List ℕ) (kind : Number) → IsLongestNumber signed kind s e → IsTokenOfGroup (in_group Group.Dots) (kind_of kind) s e
pointed_token s e kind h = record { matches = signed_terminal kind s e h.found; longest = longest; fixed = fixed }
  where
    longest : (j : TokenKind) (r : List ℕ) → in_group Group.Dots j ≡ true → MatchesKind j s r → length e ≤ length r
    longest Integer r g x = number_no_longer s e kind Number.Integer r h (terminal_signed Number.Integer s r x)
    longest Decimal r g x = number_no_longer s e kind Number.Decimal r h (terminal_signed Number.Decimal s r x)
    longest Double r g x = number_no_longer s e kind Number.Double r h (terminal_signed Number.Double s r x)
    longest Dot r g x = let f = beyond_point s e r kind h.found x in omega arith
    longest j r g x = absurd (false≢true g)

    fixed : (j : TokenKind) → in_group Group.Dots j ≡ true → MatchesKind j s e → (j ≡ kind_of kind) ⊎ (j ≡ LangTag)
    fixed Integer g x = number_same s e kind Number.Integer h (terminal_signed Number.Integer s e x)
    fixed Decimal g x = number_same s e kind Number.Decimal h (terminal_signed Number.Decimal s e x)
    fixed Double g x = number_same s e kind Number.Double h (terminal_signed Number.Double s e x)
    fixed Dot g x = absurd (let f = beyond_point s e e kind h.found x in omega arith)
    fixed j g x = absurd (false≢true g)

pub dot_token : (s m : List ℕ) → HasNoNumber signed s → MatchesOnly (word (codes ".")) s (Some m) → IsTokenOfGroup (in_group Group.Dots) Dot s m
dot_token s m h k = record { matches = k.found; longest = longest; fixed = fixed }
  where
    longest : (j : TokenKind) (r : List ℕ) → in_group Group.Dots j ≡ true → MatchesKind j s r → length m ≤ length r
    longest Integer r g x = absurd (h Number.Integer r (terminal_signed Number.Integer s r x))
    longest Decimal r g x = absurd (h Number.Decimal r (terminal_signed Number.Decimal s r x))
    longest Double r g x = absurd (h Number.Double r (terminal_signed Number.Double s r x))
    longest Dot r g x = omega (arith, ap length (matched_rest (word (codes ".")) s m r k x))
    longest j r g x = absurd (false≢true g)

    fixed : (j : TokenKind) → in_group Group.Dots j ≡ true → MatchesKind j s m → (j ≡ Dot) ⊎ (j ≡ LangTag)
    fixed Integer g x = absurd (h Number.Integer m (terminal_signed Number.Integer s m x))
    fixed Decimal g x = absurd (h Number.Decimal m (terminal_signed Number.Decimal s m x))
    fixed Double g x = absurd (h Number.Double m (terminal_signed Number.Double s m x))
    fixed Dot g x = inl refl
    fixed j g x = absurd (false≢true g)

pub no_dot_token : (s : List ℕ) → HasNoNumber signed s → MatchesOnly (word (codes ".")) s None → HasNoTokenOf (in_group Group.Dots) s
no_dot_token s h k Integer r g x = h Number.Integer r (terminal_signed Number.Integer s r x)
no_dot_token s h k Decimal r g x = h Number.Decimal r (terminal_signed Number.Decimal s r x)
no_dot_token s h k Double r g x = h Number.Double r (terminal_signed Number.Double s r x)
no_dot_token s h k Dot r g x = not_matched (word (codes ".")) s r k x
no_dot_token s h k j r g x = false≢true g

-- marks
only_mark : (mark : Mark) (j : TokenKind) → in_group (Group.Marks mark) j ≡ true → j ≡ mark_kind mark
only_mark Mark.Carets Carets h = refl
only_mark Mark.Semicolon Semicolon h = refl
only_mark Mark.Comma Comma h = refl
only_mark Mark.CloseSquare CloseSquare h = refl
only_mark Mark.OpenRound OpenRound h = refl
only_mark Mark.CloseRound CloseRound h = refl
only_mark Mark.OpenBrace OpenBrace h = refl
only_mark Mark.CloseBrace CloseBrace h = refl
only_mark mark j h = absurd (false≢true h)

mark_matches_kind : (mark : Mark) (s r : List ℕ) → Matches (terminal (mark_kind mark)) s r → MatchesKind (mark_kind mark) s r
mark_matches_kind Mark.Carets s r x = x
mark_matches_kind Mark.Semicolon s r x = x
mark_matches_kind Mark.Comma s r x = x
mark_matches_kind Mark.CloseSquare s r x = x
mark_matches_kind Mark.OpenRound s r x = x
mark_matches_kind Mark.CloseRound s r x = x
mark_matches_kind Mark.OpenBrace s r x = x
mark_matches_kind Mark.CloseBrace s r x = x

mark_matches : (mark : Mark) (s r : List ℕ) → MatchesKind (mark_kind mark) s r → Matches (terminal (mark_kind mark)) s r
mark_matches Mark.Carets s r x = x
mark_matches Mark.Semicolon s r x = x
mark_matches Mark.Comma s r x = x
mark_matches Mark.CloseSquare s r x = x
mark_matches Mark.OpenRound s r x = x
mark_matches Mark.CloseRound s r x = x
mark_matches Mark.OpenBrace s r x = x
mark_matches Mark.CloseBrace s r x = x

pub mark_token : (mark : Mark) (w s m : List ℕ) → terminal (mark_kind mark) ≡ word w → MatchesOnly (word w) s (Some m) → IsTokenOfGroup (in_group (Group.Marks mark)) (mark_kind mark) s m
mark_token mark w s m is h = alone (in_group (Group.Marks mark)) (mark_kind mark) s m (only_mark mark)
    (mark_matches_kind mark s m (subst (λ (p : Pattern). Matches p s m) (sym is) h.found))
    (λ r x. omega (arith, ap length (matched_rest (word w) s m r h (subst (λ (p : Pattern). Matches p s r) is (mark_matches mark s r x)))))

pub no_mark_token : (mark : Mark) (w s : List ℕ) → terminal (mark_kind mark) ≡ word w → MatchesOnly (word w) s None → HasNoTokenOf (in_group (Group.Marks mark)) s
no_mark_token mark w s is h = none_alone (in_group (Group.Marks mark)) (mark_kind mark) s (only_mark mark)
    (λ r x. not_matched (word w) s r h (subst (λ (p : Pattern). Matches p s r) is (mark_matches mark s r x)))
