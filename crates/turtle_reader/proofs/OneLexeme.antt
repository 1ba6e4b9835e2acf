-- A text has one lexeme, one end or one fault from a position on.
use Rattle.std.proofs.Common.{◌≡◌, ℕ, ◌<◌, ◌≤◌, Bool, List, [], ◌∷◌, ◌++◌, length, drop, true, false, Some, None, Ok, Err, refl, sym, ap, ◌∙◌, subst}
use Rattle.std.proofs.lemmas.List.Elements.{All-head}
use Rattle.turtle_lex.specs.declared.token.Token.{Token as LexToken}
use Rattle.turtle_lex.specs.declared.token.LexFault.{LexFault}
use Rattle.turtle_lex.specs.declared.token.LexFault.TheVariants as lex
use Rattle.turtle_lex.specs.Tokens.{IsNext, IsAnswer, IsBadToken, IsTokenOf, AreTokens, AreTokensTo, is_string, kind_after, listed_token}
use Rattle.turtle_lex.specs.declared.token.TokenKind.{TokenKind}
use Rattle.turtle_lex.specs.declared.token.TokenKind.TheVariants as Kind
use Rattle.turtle_lex.proofs.NextLemmas.{one_answer}
use Rattle.turtle_lex.proofs.TextLemmas.{tokens_of}
use Rattle.turtle_grammar.specs.declared.symbol.Start.{Start}
use Rattle.turtle_grammar.specs.declared.symbol.Start.TheVariants.{Document, Patch, Update}
use Rattle.turtle_grammar.specs.declared.symbol.Symbol.{Symbol}
use Rattle.turtle_grammar.specs.declared.symbol.Symbol.TheVariants.{Token, Insert, Delete, Data}
use Rattle.turtle_reader.specs.declared.lexeme.Lexeme.{Lexeme}
use Rattle.turtle_reader.specs.Faults.{Next}
use Rattle.turtle_reader.specs.Lexemes.{lexeme_of, lexemes_of, IsPlaceOf, IsLexemeOf}
use Rattle.turtle_reader.specs.Texts.{Answer, MatchesWord, IsWordAnswer, IsTokenlessAnswer, IsReadAs, IsLexed, AreLexemesTo, AreFirst, is_string_symbol}
use Rattle.turtle_reader.proofs.Words.{same_word}

not_both : (bytes : List ℕ) (at : ℕ) (l : Lexeme) (f : LexFault) → IsWordAnswer bytes at (Ok (Some l)) → IsWordAnswer bytes at (Err f) → ⊥
not_both bytes at l f (e, word) (is, none) =
    none l.symbol (drop l.to bytes) (subst (λ (n : ℕ). MatchesWord l.symbol (drop n bytes) (drop l.to bytes)) e word.matches)

one_word_answer : (bytes : List ℕ) (at : ℕ) (a b : Next) → IsWordAnswer bytes at a → IsWordAnswer bytes at b → a ≡ b
one_word_answer bytes at (Ok (Some l)) (Ok (Some m)) (e, h) (f, k) = let same = same_word bytes at l m e f h k in cc
one_word_answer bytes at (Ok (Some l)) (Ok None) h k = absurd k
one_word_answer bytes at (Ok (Some l)) (Err g) h k = absurd (not_both bytes at l g h k)
one_word_answer bytes at (Ok None) b h k = absurd h
one_word_answer bytes at (Err f) (Ok (Some m)) h k = absurd (not_both bytes at m f k h)
one_word_answer bytes at (Err f) (Ok None) h k = absurd k
one_word_answer bytes at (Err f) (Err g) (e, h) (e', k) = cc

one_tokenless : (start : Start) (bytes : List ℕ) (at : ℕ) (a b : Next) → IsTokenlessAnswer start bytes at a → IsTokenlessAnswer start bytes at b → a ≡ b
one_tokenless Document bytes at a b h k = h ∙ sym k
one_tokenless Patch bytes at a b h k = h ∙ sym k
one_tokenless Update bytes at a b h k = one_word_answer bytes at a b h k

one_read : (start : Start) (bytes : List ℕ) (s : Bool) (raw : Answer) (a b : Next) → IsReadAs start bytes s raw a → IsReadAs start bytes s raw b → a ≡ b
one_read start bytes s (Ok (Some t)) a b h k = h ∙ sym k
one_read start bytes s (Ok None) a b h k = h ∙ sym k
one_read start bytes s (Err (lex.NotText at)) a b h k = h ∙ sym k
one_read start bytes s (Err (lex.BadToken at)) a b h k = one_tokenless start bytes at a b h k
one_read start bytes s (Err lex.NoMemory) a b h k = absurd h

pub one_lexed : (start : Start) (bytes : List ℕ) (from : ℕ) (s : Bool) (a b : Next) → IsLexed start bytes from s a → IsLexed start bytes from s b → a ≡ b
one_lexed start bytes from s a b (raw, answers, reads) (raw', answers', reads') =
    let same : raw ≡ raw' = one_answer bytes from raw raw' answers answers' in
    one_read start bytes s raw' a b (subst (λ (z : Answer). IsReadAs start bytes s z a) same reads) reads'

-- Positions

pub record IsPlaced (bytes : List ℕ) (from : ℕ) (l : Lexeme) : Type 0 where
  pub after : from ≤ l.from
  pub in_order : l.from < l.to
  pub within : l.to ≤ length bytes
  pub of_bytes : IsLexemeOf bytes l

token_placed : (bytes : List ℕ) (from : ℕ) (s : Bool) (t : LexToken) → IsNext bytes from t → IsPlaced bytes from (lexeme_of (listed_token s t))
token_placed bytes from s t is_next =
    let all = tokens_of bytes (listed_token s t ∷ []) from s t.to (is_string t.kind) (t, is_next, refl, (refl, refl)) in
    record {
      after = is_next.after;
      in_order = is_next.in_order;
      within = is_next.within;
      of_bytes = All-head (IsTokenOf bytes) (listed_token s t) [] all;
    }

word_place : (bytes : List ℕ) (l : Lexeme) (a : Symbol) (u r : List ℕ) → MatchesWord a u r → IsPlaceOf a bytes l
word_place bytes l Insert u r x = tt
word_place bytes l Delete u r x = tt
word_place bytes l Data u r x = tt
word_place bytes l (Token kind) u r x = absurd x

tokenless_placed : (start : Start) (bytes : List ℕ) (from at : ℕ) (l : Lexeme) → IsBadToken bytes from at → IsTokenlessAnswer start bytes at (Ok (Some l))
    → IsPlaced bytes from l
tokenless_placed Document bytes from at l bad is = cc
tokenless_placed Patch bytes from at l bad is = cc
tokenless_placed Update bytes from at l bad (e, word) = record {
  after = subst (λ (n : ℕ). from ≤ n) (sym e) bad.after;
  in_order = word.in_order;
  within = word.within;
  of_bytes = word_place bytes l l.symbol (drop l.from bytes) (drop l.to bytes) word.matches;
}

pub placed : (start : Start) (bytes : List ℕ) (from : ℕ) (s : Bool) (l : Lexeme) → IsLexed start bytes from s (Ok (Some l)) → IsPlaced bytes from l
placed start bytes from s l (Ok (Some t), is_next, is) =
    let same : lexeme_of (listed_token s t) ≡ l = cc in subst (IsPlaced bytes from) same (token_placed bytes from s t is_next)
placed start bytes from s l (Ok None, answers, is) = cc
placed start bytes from s l (Err (lex.NotText at), answers, is) = cc
placed start bytes from s l (Err (lex.BadToken at), bad, is) = tokenless_placed start bytes from at l bad is
placed start bytes from s l (Err lex.NoMemory, answers, is) = absurd answers

abbrev pub lex_at : LexFault → ℕ
lex_at (lex.NotText at) = at
lex_at (lex.BadToken at) = at
lex_at lex.NoMemory = 0

tokenless_after : (start : Start) (bytes : List ℕ) (from at : ℕ) (f : LexFault) → from ≤ at → IsTokenlessAnswer start bytes at (Err f) → from ≤ lex_at f
tokenless_after Document bytes from at f low is = let same : lex.BadToken at ≡ f = cc in subst (λ (g : LexFault). from ≤ lex_at g) same low
tokenless_after Patch bytes from at f low is = let same : lex.BadToken at ≡ f = cc in subst (λ (g : LexFault). from ≤ lex_at g) same low
tokenless_after Update bytes from at f low (is, none) = subst (λ (g : LexFault). from ≤ lex_at g) (sym is) low

pub fault_after : (start : Start) (bytes : List ℕ) (from : ℕ) (s : Bool) (f : LexFault) → IsLexed start bytes from s (Err f) → from ≤ lex_at f
fault_after start bytes from s f (Ok (Some t), is_next, is) = cc
fault_after start bytes from s f (Ok None, answers, is) = cc
fault_after start bytes from s f (Err (lex.NotText at), answers, is) =
    let same : lex.NotText at ≡ f = cc in subst (λ (g : LexFault). from ≤ lex_at g) same answers.after
fault_after start bytes from s f (Err (lex.BadToken at), bad, is) = tokenless_after start bytes from at f bad.after is
fault_after start bytes from s f (Err lex.NoMemory, answers, is) = absurd answers

-- one lexeme more after a list
pub lexemes_on : (start : Start) (bytes : List ℕ) (ls : List Lexeme) (from : ℕ) (s : Bool) (to : ℕ) (u : Bool) (l : Lexeme) → AreLexemesTo start bytes from s ls to u
    → IsLexed start bytes to u (Ok (Some l)) → AreLexemesTo start bytes from s (ls ++ l ∷ []) l.to (is_string_symbol l.symbol)
lexemes_on start bytes [] from s to u l (at, string) h = (
  subst (λ (n : ℕ). IsLexed start bytes n s (Ok (Some l))) (sym at) (subst (λ (b : Bool). IsLexed start bytes to b (Ok (Some l))) (sym string) h),
  (refl, refl),
)
lexemes_on start bytes (x ∷ ls) from s to u l (is_next, rest) h = (is_next, lexemes_on start bytes ls x.to (is_string_symbol x.symbol) to u l rest h)

-- Tokens as lexemes

pub string_same : (s : Bool) (kind : TokenKind) → is_string kind ≡ is_string (kind_after s kind)
string_same true Kind.AtPrefix = refl
string_same true Kind.AtBase = refl
string_same true _ = refl
string_same false _ = refl

tokens_to : (start : Start) (bytes : List ℕ) (ts : List LexToken) (from : ℕ) (s : Bool) (to : ℕ) (u : Bool) → AreTokensTo bytes from s ts to u
    → AreLexemesTo start bytes from s (lexemes_of ts) to u
tokens_to start bytes [] from s to u h = h
tokens_to start bytes (t ∷ ts) from s to u (n, is_next, listed, rest) =
    let string : is_string n.kind ≡ is_string t.kind = string_same s n.kind ∙ ap (λ (z : LexToken). is_string z.kind) (sym listed) in
    let at : n.to ≡ t.to = ap (λ (z : LexToken). z.to) (sym listed) in
    let moved : AreTokensTo bytes t.to (is_string t.kind) ts to u =
    subst (λ (b : Bool). AreTokensTo bytes t.to b ts to u) string (subst (λ (k : ℕ). AreTokensTo bytes k (is_string n.kind) ts to u) at rest) in
    ((Ok (Some n), is_next, cc), tokens_to start bytes ts t.to (is_string t.kind) to u moved)

-- the tokens of a text without words are its lexemes
pub tokens_are_lexemes : (start : Start) (bytes : List ℕ) (ts : List LexToken) → AreTokens bytes ts → AreFirst start bytes (lexemes_of ts) (Ok None)
tokens_are_lexemes start bytes ts (end, string, tokens, answers) =
    record { to = end; string = string; lexemes_are = tokens_to start bytes ts 0 false end string tokens; lexed = (Ok None, answers, refl) }

-- the lexemes of a text without words are its tokens

token_of : (bytes : List ℕ) (from : ℕ) (s : Bool) (l : Lexeme) → IsLexed Document bytes from s (Ok (Some l))
    → (n : LexToken) × IsNext bytes from n × (l ≡ lexeme_of (listed_token s n))
token_of bytes from s l (Ok (Some n), is_next, is) = (n, is_next, cc)
token_of bytes from s l (Ok None, answers, is) = cc
token_of bytes from s l (Err (lex.NotText at), answers, is) = cc
token_of bytes from s l (Err (lex.BadToken at), answers, is) = cc
token_of bytes from s l (Err lex.NoMemory, answers, is) = absurd answers

ends_with : (bytes : List ℕ) (from : ℕ) (s : Bool) → IsLexed Document bytes from s (Ok None) → IsAnswer bytes from (Ok None)
ends_with bytes from s (Ok (Some n), is_next, is) = cc
ends_with bytes from s (Ok None, answers, is) = answers
ends_with bytes from s (Err (lex.NotText at), answers, is) = cc
ends_with bytes from s (Err (lex.BadToken at), answers, is) = cc
ends_with bytes from s (Err lex.NoMemory, answers, is) = absurd answers

tokens_from : (bytes : List ℕ) (ls : List Lexeme) (from : ℕ) (s : Bool) (to : ℕ) (u : Bool) → AreLexemesTo Document bytes from s ls to u
    → (ts : List LexToken) × (ls ≡ lexemes_of ts) × AreTokensTo bytes from s ts to u
tokens_from bytes [] from s to u h = ([], refl, h)
tokens_from bytes (l ∷ ls) from s to u (lexed, rest) =
    let (n, is_next, is) = token_of bytes from s l lexed in
    let at : l.to ≡ n.to = ap (λ (z : Lexeme). z.to) is in
    let string : is_string_symbol l.symbol ≡ is_string n.kind = ap (λ (z : Lexeme). is_string_symbol z.symbol) is ∙ sym (string_same s n.kind) in
    let moved : AreLexemesTo Document bytes n.to (is_string n.kind) ls to u =
    subst (λ (b : Bool). AreLexemesTo Document bytes n.to b ls to u) string (subst (λ (k : ℕ). AreLexemesTo Document bytes k (is_string_symbol l.symbol) ls to u) at rest) in
    let (ts, same, tokens) = tokens_from bytes ls n.to (is_string n.kind) to u moved in
    (listed_token s n ∷ ts, ap (λ (z : Lexeme). z ∷ ls) is ∙ ap (λ (z : List Lexeme). lexeme_of (listed_token s n) ∷ z) same, (n, is_next, refl, tokens))

pub lexemes_are_tokens : (bytes : List ℕ) (ls : List Lexeme) → AreFirst Document bytes ls (Ok None) → (ts : List LexToken) × (ls ≡ lexemes_of ts) × AreTokens bytes ts
lexemes_are_tokens bytes ls h =
    let (ts, same, tokens) = tokens_from bytes ls 0 false h.to h.string h.lexemes_are in
    (ts, same, (h.to, h.string, tokens, ends_with bytes h.to h.string h.lexed))
