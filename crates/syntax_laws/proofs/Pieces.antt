-- A text that is written token by token has these tokens.
use Rattle.std.proofs.Common.{◌≡◌, ℕ, ◌+◌, ◌-◌, Bool, List, [], ◌∷◌, ◌++◌, length, drop, take, refl, sym, ap, ◌∙◌, subst, arith, append_assoc, length-append}
use Rattle.std.proofs.lemmas.List.{drop_at, take_at}
use Rattle.turtle_lex.specs.declared.token.TokenKind.{TokenKind}
use Rattle.turtle_lex.specs.declared.token.Token.{Token}
use Rattle.turtle_lex.specs.Terminals.{gap}
use Rattle.turtle_lex.specs.Tokens.{IsToken, IsNext, is_string, kind_after, AreTokensTo}
use Rattle.turtle_lex.specs.Laws.{IsTextOf, text_of}
use Rattle.turtle_lex.proofs.WrittenLemmas.{next_is_token}
use Rattle.turtle_reader.specs.declared.meaning.Meaning.{Meaning}

-- One token that is written: the blanks before it, its text, its kind in the list of tokens, and
-- what it means.
pub record Piece : Type 0 where
  pub blanks : List ℕ
  pub text : List ℕ
  pub kind : TokenKind
  pub meaning : Meaning

-- what is written of the pieces, and then r
abbrev pub pieces_text : List Piece → List ℕ → List ℕ
pieces_text [] r = r
pieces_text (p ∷ ps) r = p.blanks ++ (p.text ++ pieces_text ps r)

-- The piece is a token before r, after a String or after another token.
pub record IsWritten (after_string : Bool) (p : Piece) (r : List ℕ) : Type 0 where
  pub kind : TokenKind
  pub gap : IsTextOf gap p.blanks
  pub token : IsToken kind (p.text ++ r) r
  pub listed : p.kind ≡ kind_after after_string kind

-- Each piece is a token before those after it and r.
abbrev pub AreWritten : Bool → List Piece → List ℕ → Type 0
AreWritten after_string [] r = Unit {0}
AreWritten after_string (p ∷ ps) r =
    (w : IsWritten after_string p (pieces_text ps r)) × AreWritten (is_string w.kind) ps r

-- where the token of a piece begins and ends, where the piece begins at n
abbrev pub token_of : ℕ → Piece → Token
token_of n p = record {
  kind = p.kind;
  from = n + length p.blanks;
  to = n + length p.blanks + length p.text;
}

abbrev pub tokens_of : ℕ → List Piece → List Token
tokens_of n [] = []
tokens_of n (p ∷ ps) = token_of n p ∷ tokens_of (n + length p.blanks + length p.text) ps

-- The text has n bytes before the piece, which is before r.
pub record IsAt (bytes : List ℕ) (n : ℕ) (r : List ℕ) : Type 0 where
  pub before : List ℕ
  pub bytes_are : bytes ≡ before ++ r
  pub len : n ≡ length before

pub after_piece : (bytes : List ℕ) (n : ℕ) (p : Piece) (r : List ℕ) → IsAt bytes n (p.blanks ++ (p.text ++ r))
    → IsAt bytes (n + length p.blanks + length p.text) r
after_piece bytes n p r at = record {
  before = (at.before ++ p.blanks) ++ p.text;
  bytes_are = at.bytes_are ∙ sym (append_assoc at.before p.blanks (p.text ++ r)) ∙ sym (append_assoc (at.before ++ p.blanks) p.text r);
  len = omega (arith, at.len, length-append (at.before ++ p.blanks) p.text, length-append at.before p.blanks);
}

-- what is left at a position
pub left_at : (bytes : List ℕ) (n : ℕ) (r : List ℕ) → IsAt bytes n r → drop n bytes ≡ r
left_at bytes n r at = ap (drop n) at.bytes_are ∙ drop_at at.before r n (sym at.len)

-- The tokens of the pieces, and their end.
pub record HasTokens (bytes : List ℕ) (n : ℕ) (after_string : Bool) (ps : List Piece) (r : List ℕ) : Type 0 where
  pub end : ℕ
  pub string : Bool
  pub tokens : AreTokensTo bytes n after_string (tokens_of n ps) end string
  pub left : drop end bytes ≡ r

next_at : (bytes : List ℕ) (n : ℕ) (p : Piece) (r : List ℕ) (kind : TokenKind) → IsAt bytes n (p.blanks ++ (p.text ++ r))
    → IsTextOf gap p.blanks → IsToken kind (p.text ++ r) r
    → IsNext bytes n (record { kind = kind; from = n + length p.blanks; to = n + length p.blanks + length p.text })
next_at bytes n p r kind at x t =
    let P : List ℕ → ℕ → Type 0 = λ (b : List ℕ) (m : ℕ). IsNext b m (record { kind = kind; from = m + length p.blanks; to = m + length p.blanks + length p.text }) in
    let whole : P (at.before ++ (p.blanks ++ (p.text ++ r))) (length at.before) = next_is_token at.before p.blanks p.text r kind x t in
    subst (λ (b : List ℕ). P b n) (sym at.bytes_are) (subst (λ (m : ℕ). P (at.before ++ (p.blanks ++ (p.text ++ r))) m) (sym at.len) whole)

pub has_tokens : (ps : List Piece) (bytes : List ℕ) (n : ℕ) (after_string : Bool) (r : List ℕ) → IsAt bytes n (pieces_text ps r)
    → AreWritten after_string ps r → HasTokens bytes n after_string ps r
has_tokens [] bytes n after_string r at w = record { end = n; string = after_string; tokens = (refl, refl); left = left_at bytes n r at }
has_tokens (p ∷ ps) bytes n after_string r at (w, more) =
    let to : ℕ = n + length p.blanks + length p.text in
    let next : Token = record { kind = w.kind; from = n + length p.blanks; to = to } in
    let rest = has_tokens ps bytes to (is_string w.kind) r (after_piece bytes n p (pieces_text ps r) at) more in
    record {
      end = rest.end;
      string = rest.string;
      tokens = (next, next_at bytes n p (pieces_text ps r) w.kind at w.gap w.token, ap (λ (k : TokenKind). record { kind = k; from = n + length p.blanks; to = to }) w.listed, rest.tokens);
      left = rest.left;
    }

-- the text of a piece's token
pub piece_text : (bytes : List ℕ) (n : ℕ) (p : Piece) (r : List ℕ) → IsAt bytes n (p.blanks ++ (p.text ++ r))
    → text_of bytes (token_of n p) ≡ p.text
piece_text bytes n p r at =
    let from : ℕ = n + length p.blanks in
    let to : ℕ = from + length p.text in
    let split : bytes ≡ (at.before ++ p.blanks) ++ (p.text ++ r) = at.bytes_are ∙ sym (append_assoc at.before p.blanks (p.text ++ r)) in
    let start : length (at.before ++ p.blanks) ≡ from = omega (arith, at.len, length-append at.before p.blanks) in
    let here : drop from bytes ≡ p.text ++ r = ap (drop from) split ∙ drop_at (at.before ++ p.blanks) (p.text ++ r) from start in
    let size : length p.text ≡ to - from = omega arith in
    ap (take (to - from)) here ∙ take_at p.text r (to - from) size
