-- The texts of tokens, and what of a text is UTF-8.
use Rattle.std.proofs.Common.{◌≡◌, ◌≢◌, ℕ, zero, suc, ◌+◌, ◌-◌, ◌≤◌, Bool, true, false, not, ◌==◌, inl, inr, List, [], ◌∷◌, ◌++◌}
use Rattle.std.proofs.Common.{get_or, take, drop, Option, Some, None, Result, Ok, Err, IfOk, IfSome, refl, sym, ap, ◌∙◌, subst, arith}
use Rattle.std.proofs.lemmas.Bool.{false≢true}
use Rattle.std.proofs.lemmas.Bool.Decides.{nat_tests}
use Rattle.std.proofs.lemmas.List.{append-nil, append_cancel_right, take-append-drop, drop-drop}
use Rattle.std.specs.Prelude.{slice_range}
use Rattle.std.specs.Str.{IsUtf8}
use Rattle.std.specs.List.{All, list_all}
use Rattle.std.proofs.lemmas.List.Elements.{All-nil, All-cons}
use Rattle.std.specs.Char.{to_ascii_lowercase}
use Rattle.turtle_lex.specs.declared.classes.Quote.{Quote}
use Rattle.turtle_lex.specs.declared.token.TokenKind.{TokenKind}
use Rattle.turtle_lex.specs.declared.token.TokenKind.TheVariants.{Quoted, AtPrefix, AtBase}
use Rattle.turtle_lex.specs.declared.token.LexFault.{LexFault}
use Rattle.turtle_lex.specs.declared.token.Token.{Token}
use Rattle.turtle_lex.specs.Classes.{is_pn_chars, is_pn_chars_u, is_pn_chars_base}
use Rattle.turtle_lex.specs.Pattern.{Pattern, maybe, Matches}
use Rattle.turtle_lex.specs.Terminals.{quotes, short_string, long_string, dotted, pn_prefix, pname_ns, pn_local, pname_ln}
use Rattle.turtle_lex.specs.Tokens.{terminal, IsString, MatchesKind, IsTokenOf, IsNext, IsAnswer, kind_after, listed_token, is_string, AreTokensTo}
use Rattle.turtle_lex.specs.Laws.{IsTextOf, TokensAreText, TokensEndText, BadTokenEndsText, text_of, TokenTextIsOfKind, TokenTextIsUtf8}
use Rattle.turtle_lex.specs.Laws.{StartsWithThree, StringStartsWithQuote, ThreeQuotesAreLong, FewerQuotesAreShort}
use Rattle.turtle_lex.specs.Laws.{HasNoColon, FirstColonSplitsName, FirstColonEndsPrefix, NameHasColon}
use Rattle.turtle_lex.proofs.ByteLemmas.{keeps, ByteTest, kept, first_same, all_from}
use Rattle.turtle_lex.proofs.FirstBytes.{and_left, and_right}
use Rattle.turtle_lex.proofs.GroupLemmas.{kind_matches}
use Rattle.turtle_lex.proofs.LawLemmas.{matches_its_texts}
use Rattle.turtle_lex.proofs.TokenLemmas.{string_head}
use Rattle.turtle_lex.proofs.WordLemmas.{at_prefix_tag, at_base_tag}
use Rattle.turtle_lex.proofs.Utf8Lemmas.{Utf8Prefix, utf8_trans, matches_utf8, tokens_utf8, terminal_ascii, gap_ascii, last_gap_ascii}

-- UTF-8
prefix_taken : (bytes : List ℕ) (at : ℕ) → Utf8Prefix bytes (drop at bytes) → IsUtf8 (take at bytes)
prefix_taken bytes at (t, utf8, e) =
    subst IsUtf8 (append_cancel_right t (take at bytes) (drop at bytes) (sym e ∙ sym (take-append-drop at bytes))) utf8

pub tokens_end_text : TokensEndText
tokens_end_text bytes ts to s x = prefix_taken bytes to (tokens_utf8 bytes ts 0 false to s x)

pub bad_token_ends_text : BadTokenEndsText
bad_token_ends_text bytes at (ts, e, s, x, h) =
    prefix_taken bytes at (utf8_trans bytes (drop e bytes) (drop at bytes) (tokens_utf8 bytes ts 0 false e s x)
    (matches_utf8 _ (drop e bytes) (drop at bytes) gap_ascii h.gap_before))

pub tokens_are_text : TokensAreText
tokens_are_text bytes ts (e, s, x, h) =
    let whole = utf8_trans bytes (drop e bytes) [] (tokens_utf8 bytes ts 0 false e s x) (matches_utf8 _ (drop e bytes) [] last_gap_ascii h) in
    subst IsUtf8 (sym (whole.2 ∙ append-nil whole.0)) whole.1

-- texts of tokens
pub piece : (bytes : List ℕ) (i j : ℕ) → i ≤ j → slice_range bytes i j ++ drop j bytes ≡ drop i bytes
piece bytes i j le =
    let at : i + (j - i) ≡ j = omega arith in
    ap (λ (x : List ℕ). take (j - i) (drop i bytes) ++ x) (sym (drop-drop (j - i) i bytes ∙ ap (λ (n : ℕ). drop n bytes) at)) ∙ take-append-drop (j - i) (drop i bytes)

text_is : (bytes : List ℕ) (token : Token) (text : List ℕ) → token.from ≤ token.to → drop token.from bytes ≡ text ++ drop token.to bytes → text ≡ text_of bytes token
text_is bytes token text le e =
    append_cancel_right text (text_of bytes token) (drop token.to bytes) (sym e ∙ sym (piece bytes token.from token.to le))

pattern_text : (p : Pattern) (bytes : List ℕ) (token : Token) → token.from ≤ token.to → Matches p (drop token.from bytes) (drop token.to bytes) → IsTextOf p (text_of bytes token)
pattern_text p bytes token le x =
    let h = matches_its_texts p (drop token.from bytes) (drop token.to bytes) x in
    subst (IsTextOf p) (text_is bytes token h.0 le h.2) h.1

string_text : (quote : Quote) (bytes : List ℕ) (token : Token) → token.from ≤ token.to → IsString quote (drop token.from bytes) (drop token.to bytes) → IsString quote (text_of bytes token) []
string_text quote bytes token le (inl long) = inl (pattern_text (long_string quote) bytes token le long)
string_text quote bytes token le (inr (short, none)) = inr (
  pattern_text (short_string quote) bytes token le short,
  λ m three.
      none (m ++ drop token.to bytes) (sym (piece bytes token.from token.to le) ∙ ap (λ (t : List ℕ). t ++ drop token.to bytes) three),
)

of_kind : (kind : TokenKind) (bytes : List ℕ) (token : Token) → token.from ≤ token.to → MatchesKind kind (drop token.from bytes) (drop token.to bytes) → MatchesKind kind (text_of bytes token) []
of_kind Quoted bytes token le (quote, x) = (quote, string_text quote bytes token le x)
of_kind kind bytes token le x = pattern_text (terminal kind) bytes token le x

pub token_text_is_of_kind : TokenTextIsOfKind
token_text_is_of_kind bytes token h = let less = h.in_order in of_kind token.kind bytes token (omega arith) h.matches

pub token_text_is_utf8 : TokenTextIsUtf8
token_text_is_utf8 bytes token h =
    let less = h.in_order in
    let x = kind_matches token.kind (drop token.from bytes) (drop token.to bytes) h.matches in
    let f = matches_utf8 (terminal token.kind) (drop token.from bytes) (drop token.to bytes) (terminal_ascii token.kind) x in
    subst IsUtf8 (text_is bytes token f.0 (omega arith) f.2) f.1

-- the next token is one of the bytes, also as it is listed
pub next_is_of : (bytes : List ℕ) (from : ℕ) (token : Token) → IsNext bytes from token → IsTokenOf bytes token
next_is_of bytes from token h = record { in_order = h.in_order; within = h.within; matches = h.matches.matches; longest = h.matches.longest }

pub answer_of : (bytes : List ℕ) (from : ℕ) (r : Result (Option Token) LexFault) → IsAnswer bytes from r → IfOk r (λ o. IfSome o (IsTokenOf bytes))
answer_of bytes from (Ok (Some token)) h = next_is_of bytes from token h
answer_of bytes from (Ok None) h = tt
answer_of bytes from (Err fault) h = tt

matches_listed : (after_string : Bool) (kind : TokenKind) (s r : List ℕ) → MatchesKind kind s r → MatchesKind (kind_after after_string kind) s r
matches_listed true AtPrefix s r x = at_prefix_tag s r x
matches_listed true AtBase s r x = at_base_tag s r x
matches_listed after_string kind s r x = x

listed_is_of : (bytes : List ℕ) (from : ℕ) (after_string : Bool) (token : Token) → IsNext bytes from token → IsTokenOf bytes (listed_token after_string token)
listed_is_of bytes from after_string token h = record {
  in_order = h.in_order;
  within = h.within;
  matches = matches_listed after_string token.kind (drop token.from bytes) (drop token.to bytes) h.matches.matches;
  longest = h.matches.longest;
}

-- listed tokens are tokens of the bytes
pub tokens_of : (bytes : List ℕ) (ts : List Token) (from : ℕ) (after_string : Bool) (e : ℕ) (s : Bool)
    → AreTokensTo bytes from after_string ts e s → All (IsTokenOf bytes) ts
tokens_of bytes [] from after_string e s x = All-nil (IsTokenOf bytes)
tokens_of bytes (t ∷ ts) from after_string e s (next, is_next, listed, rest) =
    All-cons (IsTokenOf bytes) t ts (subst (IsTokenOf bytes) (sym listed) (listed_is_of bytes from after_string next is_next))
    (tokens_of bytes ts next.to (is_string next.kind) e s rest)

-- Strings
starts_three : (quote : Quote) (s m : List ℕ) → Matches (quotes quote 3) s m → StartsWithThree quote s
starts_three quote s m e = (m, sym e)

pub string_starts_with_quote : StringStartsWithQuote
string_starts_with_quote quote s r x = let h = string_head quote s r x in (h.0, sym h.1)

pub three_quotes_are_long : ThreeQuotesAreLong
three_quotes_are_long quote s r (inl long) three = long
three_quotes_are_long quote s r (inr (short, none)) three = absurd (none three.0 (sym three.1))

pub fewer_quotes_are_short : FewerQuotesAreShort
unfolding long_string
fewer_quotes_are_short quote s r (inl long) fewer = absurd (fewer (starts_three quote s long.0 long.1))
fewer_quotes_are_short quote s r (inr short) fewer = short.0

-- the first colon
abbrev is_no_colon : ℕ → Bool
is_no_colon b = not (b == 58)

no_colon_high : (b : ℕ) → 128 ≤ b → is_no_colon b ≡ true
no_colon_high b h = grind (arith, nat_tests)

no_colon_case : (b : ℕ) → is_no_colon (to_ascii_lowercase b) ≡ true → is_no_colon b ≡ true
no_colon_case b h = grind (arith, nat_tests)

no_colon_test : ByteTest is_no_colon
no_colon_test = record { high = no_colon_high; case = no_colon_case }

differs : (b : ℕ) → b ≢ 58 → is_no_colon b ≡ true
differs b h = grind (arith, nat_tests)

is_colon : (b : ℕ) → is_no_colon b ≡ true → b ≢ 58
is_colon b h e = false≢true (sym (ap is_no_colon e) ∙ h)

no_colons : (t : List ℕ) → HasNoColon t → list_all is_no_colon t ≡ true
no_colons t h = all_from is_no_colon t (λ i less. differs (get_or t i 0) (h i less))

each_no_colon : (t : List ℕ) → list_all is_no_colon t ≡ true → HasNoColon t
each_no_colon [] h i less = absurd (omega arith)
each_no_colon (b ∷ t) h zero less = is_colon b (and_left (is_no_colon b) (list_all is_no_colon t) h)
each_no_colon (b ∷ t) h (suc i) less = each_no_colon t (and_right (is_no_colon b) (list_all is_no_colon t) h) i (omega arith)

prefix_no_colon : keeps is_no_colon (maybe pn_prefix) ≡ true
unfolding pn_prefix dotted is_pn_chars is_pn_chars_u is_pn_chars_base
prefix_no_colon = refl

-- a PNAME_NS as its prefix and its colon
name_parts : (s r : List ℕ) → Matches pname_ns s r → (t : List ℕ) × (list_all is_no_colon t ≡ true) × IsTextOf (maybe pn_prefix) t × (s ≡ t ++ 58 ∷ r)
unfolding pname_ns
name_parts s r (u, x, colon) =
    let h = matches_its_texts (maybe pn_prefix) s u x in
    let k = kept is_no_colon no_colon_test (maybe pn_prefix) h.0 [] prefix_no_colon h.1 in
    (h.0, subst (λ (t : List ℕ). list_all is_no_colon t ≡ true) (sym (k.2 ∙ append-nil k.0)) k.1, h.1, h.2 ∙ ap (λ (v : List ℕ). h.0 ++ v) colon)

pub name_has_colon : NameHasColon
name_has_colon s r x = let h = name_parts s r x in (h.0, each_no_colon h.0 h.1, h.2, h.3)

split : (prefix rest r : List ℕ) → HasNoColon prefix → Matches pname_ns (prefix ++ 58 ∷ rest) r → IsTextOf (maybe pn_prefix) prefix × (rest ≡ r)
split prefix rest r h x =
    let parts = name_parts (prefix ++ 58 ∷ rest) r x in
    let same = first_same is_no_colon prefix parts.0 rest r 58 (no_colons prefix h) parts.1 refl parts.3 in
    (subst (IsTextOf (maybe pn_prefix)) (sym same.0) parts.2, same.1)

pub first_colon_ends_prefix : FirstColonEndsPrefix
first_colon_ends_prefix prefix rest h x = split prefix rest [] h x

pub first_colon_splits_name : FirstColonSplitsName
unfolding pname_ln
first_colon_splits_name prefix local h (m, ns, name) =
    let parts = split prefix local m h ns in
    (parts.0, subst (IsTextOf pn_local) (sym parts.1) name)
