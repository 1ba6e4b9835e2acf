-- The tokens that are written of a term.
use mathlib.Core.List.{IsPrefix}
use Rattle.std.proofs.Common.{◌≡◌, ℕ, ◌<◌, Bool, true, false, inl, inr, List, [], ◌∷◌, ◌++◌, length, refl, sym, ap, ◌∙◌, arith, append_assoc, nat_eq}
use Rattle.std.proofs.lemmas.Bool.{false≢true}
use Rattle.std.proofs.lemmas.Bool.Decides.{nat_tests}
use Rattle.std.proofs.lemmas.Str.{encode_ascii}
use Rattle.std.specs.Char.{encode_utf8}
use Rattle.std.specs.Str.{IsUtf8}
use lib.Chars.{codes}
use lib.Pointwise.{pointwise}
use Rattle.rdf_graph.specs.Term.{escaped, text, xsd_string, datatype_text}
use Rattle.rdf_graph.specs.declared.term.Term.{Term}
use Rattle.rdf_graph.specs.declared.term.Term.TheVariants.{Iri, Blank, Literal, Tagged}
use Rattle.turtle_lex.specs.Classes.{is_blank}
use Rattle.turtle_lex.specs.Laws.{IsTextOf, EndsTerm}
use Rattle.turtle_lex.specs.Terminals.{gap, label as label_text, blank_label, lang_tag}
use Rattle.turtle_lex.specs.Tokens.{is_string, kind_after}
use Rattle.turtle_lex.specs.declared.classes.Quote.TheVariants.{Double as DoubleQuote}
use Rattle.turtle_lex.specs.declared.token.TokenKind.TheVariants as Kind
use Rattle.turtle_lex.proofs.WrittenLemmas.{written_iri, written_string, written_label, written_tag_after_string, written_carets, written_dot}
use Rattle.turtle_reader.specs.declared.meaning.Meaning.TheVariants as meaning_of
use Rattle.syntax_laws.specs.ReadBack.{IsIriText, HasTexts, IsReadBack}
use Rattle.syntax_laws.proofs.Chars.{string_text, iri_text}
use Rattle.syntax_laws.proofs.Pieces.{Piece, pieces_text, IsWritten, AreWritten}

-- ---- the pieces of a term

abbrev pub iri_piece : List ℕ → List ℕ → Piece
iri_piece blanks iri = record {
  blanks = blanks;
  text = codes "<" ++ (iri ++ codes ">");
  kind = Kind.IriRef;
  meaning = meaning_of.Term (Iri iri);
}

abbrev pub label_piece : List ℕ → List ℕ → Piece
label_piece blanks label = record {
  blanks = blanks;
  text = codes "_:" ++ label;
  kind = Kind.BlankLabel;
  meaning = meaning_of.Term (Blank label);
}

abbrev pub string_piece : List ℕ → List ℕ → Piece
string_piece blanks lexical = record {
  blanks = blanks;
  text = codes "\"" ++ (escaped lexical ++ codes "\"");
  kind = Kind.Quoted;
  meaning = meaning_of.Term (Literal lexical xsd_string);
}

abbrev pub tag_piece : List ℕ → Piece
tag_piece lang = record {
  blanks = [];
  text = codes "@" ++ lang;
  kind = Kind.LangTag;
  meaning = meaning_of.Language lang;
}

abbrev pub carets_piece : Piece
carets_piece = record { blanks = []; text = codes "^^"; kind = Kind.Carets; meaning = meaning_of.Nothing }

abbrev pub dot_piece : Piece
dot_piece = record { blanks = codes " "; text = codes "."; kind = Kind.Dot; meaning = meaning_of.Nothing }

-- the pieces of a datatype, by whether it is that of plain strings, and then others
abbrev pub datatype_pieces : Bool → List ℕ → List Piece → List Piece
datatype_pieces true datatype ps = ps
datatype_pieces false datatype ps = carets_piece ∷ iri_piece [] datatype ∷ ps

-- the pieces of a term after blanks, and then others
abbrev pub term_pieces : List ℕ → Term → List Piece → List Piece
term_pieces blanks (Iri iri) ps = iri_piece blanks iri ∷ ps
term_pieces blanks (Blank label) ps = label_piece blanks label ∷ ps
term_pieces blanks (Literal lexical datatype) ps =
    string_piece blanks lexical ∷ datatype_pieces (pointwise nat_eq datatype xsd_string) datatype ps
term_pieces blanks (Tagged lexical lang) ps = string_piece blanks lexical ∷ tag_piece lang ∷ ps

-- ---- their text is that of the term

quoted : (lexical r : List ℕ) → (codes "\"" ++ (escaped lexical ++ codes "\"")) ++ r ≡ codes "\"" ++ (escaped lexical ++ (codes "\"" ++ r))
quoted lexical r = ap (λ (t : List ℕ). 34 ∷ t) (append_assoc (escaped lexical) (codes "\"") r)

abbrev datatype_by : Bool → List ℕ → List ℕ
datatype_by true datatype = []
datatype_by false datatype = codes "^^<" ++ (datatype ++ codes ">")

datatype_same : (b : Bool) (datatype : List ℕ) (ps : List Piece) (r : List ℕ)
    → pieces_text (datatype_pieces b datatype ps) r ≡ datatype_by b datatype ++ pieces_text ps r
datatype_same true datatype ps r = refl
datatype_same false datatype ps r = refl

by_cases : (b : Bool) (datatype : List ℕ) → pointwise nat_eq datatype xsd_string ≡ b → datatype_by b datatype ≡ datatype_text datatype
by_cases true datatype e = rw e
by_cases false datatype e = rw e

pub term_text : (blanks : List ℕ) (t : Term) (ps : List Piece) (r : List ℕ)
    → pieces_text (term_pieces blanks t ps) r ≡ blanks ++ (text t ++ pieces_text ps r)
unfolding text
term_text blanks (Iri iri) ps r = refl
term_text blanks (Blank label) ps r = refl
term_text blanks (Literal lexical datatype) ps r =
    let b : Bool = pointwise nat_eq datatype xsd_string in
    let rest : List ℕ = pieces_text ps r in
    ap (λ (t : List ℕ). blanks ++ t) (
    quoted lexical (pieces_text (datatype_pieces b datatype ps) r)
    ∙ ap (λ (t : List ℕ). 34 ∷ (escaped lexical ++ (34 ∷ t))) (datatype_same b datatype ps r ∙ ap (λ (t : List ℕ). t ++ rest) (by_cases b datatype refl))
    ∙ ap (λ (t : List ℕ). 34 ∷ t) (sym (append_assoc (escaped lexical) (34 ∷ datatype_text datatype) rest)))
term_text blanks (Tagged lexical lang) ps r =
    let rest : List ℕ = pieces_text ps r in
    ap (λ (t : List ℕ). blanks ++ t) (
    quoted lexical ((codes "@" ++ lang) ++ rest)
    ∙ ap (λ (t : List ℕ). 34 ∷ t) (sym (append_assoc (escaped lexical) (codes "\"@" ++ lang) rest)))

-- ---- each is a token

iri_listed : (a : Bool) → Kind.IriRef ≡ kind_after a Kind.IriRef
iri_listed true = refl
iri_listed false = refl

label_listed : (a : Bool) → Kind.BlankLabel ≡ kind_after a Kind.BlankLabel
label_listed true = refl
label_listed false = refl

string_listed : (a : Bool) → Kind.Quoted ≡ kind_after a Kind.Quoted
string_listed true = refl
string_listed false = refl

dot_listed : (a : Bool) → Kind.Dot ≡ kind_after a Kind.Dot
dot_listed true = refl
dot_listed false = refl

-- a text that begins with a space or a line feed ends a term
pub space_ends : (x m : List ℕ) → x ≡ 32 ∷ m → EndsTerm x
unfolding is_blank encode_utf8
space_ends x m e = inr (m, (32, refl, refl, e))

pub line_ends : (x m : List ℕ) → x ≡ 10 ∷ m → EndsTerm x
unfolding is_blank encode_utf8
line_ends x m e = inr (m, (10, refl, refl, e))

small_blank : (c : ℕ) → is_blank c ≡ true → c < 128
unfolding is_blank
small_blank c h = grind (arith, nat_tests)

quote_no_blank : is_blank 34 ≡ false
unfolding is_blank
quote_no_blank = refl

first_byte : (a b : ℕ) (s r : List ℕ) → a ∷ s ≡ b ∷ r → a ≡ b
first_byte a b s r e = cc

-- a quote doesn't end a term
ends_no_quote : (r : List ℕ) → EndsTerm r → IsPrefix (34 ∷ []) r → ⊥
ends_no_quote r (inl e) (m, starts) = absurd (omega (arith, ap length e, ap length starts))
ends_no_quote r (inr (n, (c, scalar, passes, e))) (m, starts) =
    let same : 34 ≡ c = first_byte 34 c m n (starts ∙ e ∙ ap (λ (t : List ℕ). t ++ n) (encode_ascii c (small_blank c passes))) in
    absurd (false≢true (sym quote_no_blank ∙ ap is_blank same ∙ passes))

other_no_quote : (b : ℕ) (r : List ℕ) → 34 < b → IsPrefix (34 ∷ []) (b ∷ r) → ⊥
other_no_quote b r more (m, starts) = let same = first_byte 34 b m r starts in omega arith

nothing_is_gap : IsTextOf gap []
unfolding gap
nothing_is_gap = (0, refl)

iri_written : (a : Bool) (blanks iri r : List ℕ) → IsTextOf gap blanks → IsIriText iri → IsWritten a (iri_piece blanks iri) r
iri_written a blanks iri r x h = record {
  kind = Kind.IriRef;
  gap = x;
  token = written_iri (codes "<" ++ (iri ++ codes ">")) r (iri_text iri h.utf8 h.absolute.allowed);
  listed = iri_listed a;
}

label_written : (a : Bool) (blanks label r : List ℕ) → IsTextOf gap blanks → IsTextOf label_text label → EndsTerm r → IsWritten a (label_piece blanks label) r
unfolding blank_label
label_written a blanks label r x h ends = record {
  kind = Kind.BlankLabel;
  gap = x;
  token = written_label (codes "_:" ++ label) r (label, refl, h) ends;
  listed = label_listed a;
}

abbrev string_written : (a : Bool) (blanks lexical r : List ℕ) → IsTextOf gap blanks → IsUtf8 lexical → (IsPrefix (34 ∷ []) r → ⊥)
    → IsWritten a (string_piece blanks lexical) r
string_written a blanks lexical r x h none = record {
  kind = Kind.Quoted;
  gap = x;
  token = written_string DoubleQuote (codes "\"" ++ (escaped lexical ++ codes "\"")) r (string_text lexical h) none;
  listed = string_listed a;
}

tag_written : (lang r : List ℕ) → IsTextOf lang_tag (codes "@" ++ lang) → EndsTerm r → IsWritten true (tag_piece lang) r
tag_written lang r x ends =
    let t = written_tag_after_string (codes "@" ++ lang) r x ends in
    record { kind = t.0; gap = nothing_is_gap; token = t.1; listed = sym t.2 }

carets_written : (r : List ℕ) → IsWritten true carets_piece r
carets_written r = record { kind = Kind.Carets; gap = nothing_is_gap; token = written_carets r; listed = refl }

pub space_is_gap : IsTextOf gap (codes " ")
unfolding gap is_blank encode_utf8
space_is_gap = (1, ([], inl (32, refl, refl, refl), refl))

pub dot_written : (a : Bool) (r : List ℕ) → EndsTerm r → IsWritten a dot_piece r
dot_written a r ends = record { kind = Kind.Dot; gap = space_is_gap; token = written_dot r ends; listed = dot_listed a }

-- whatever token they follow
abbrev pub AreWrittenAlways : List Piece → List ℕ → Type 0
AreWrittenAlways ps r = (a : Bool) → AreWritten a ps r

datatype_written : (b : Bool) (datatype : List ℕ) (ps : List Piece) (r : List ℕ) → IsIriText datatype → EndsTerm (pieces_text ps r)
    → AreWrittenAlways ps r
    → (IsPrefix (34 ∷ []) (pieces_text (datatype_pieces b datatype ps) r) → ⊥) × AreWritten true (datatype_pieces b datatype ps) r
datatype_written true datatype ps r h ends rest = (ends_no_quote (pieces_text ps r) ends, rest true)
datatype_written false datatype ps r h ends rest =
    let after : List ℕ = (codes "<" ++ (datatype ++ codes ">")) ++ pieces_text ps r in
    let c = carets_written after in
    let i = iri_written (is_string c.kind) [] datatype (pieces_text ps r) nothing_is_gap h in
    (other_no_quote 94 (94 ∷ after) (omega arith), (c, (i, rest (is_string i.kind))))

pub term_written : (base blanks : List ℕ) (t : Term) (ps : List Piece) (r : List ℕ) → IsTextOf gap blanks → HasTexts t → IsReadBack t
    → EndsTerm (pieces_text ps r) → AreWrittenAlways ps r → AreWrittenAlways (term_pieces blanks t ps) r
term_written base blanks (Iri iri) ps r x h k ends rest a =
    let i = iri_written a blanks iri (pieces_text ps r) x h in
    (i, rest (is_string i.kind))
term_written base blanks (Blank label) ps r x h k ends rest a =
    let b = label_written a blanks label (pieces_text ps r) x k ends in
    (b, rest (is_string b.kind))
term_written base blanks (Literal lexical datatype) ps r x h k ends rest a =
    let b : Bool = pointwise nat_eq datatype xsd_string in
    let more = datatype_written b datatype ps r h.1 ends rest in
    (string_written a blanks lexical (pieces_text (datatype_pieces b datatype ps) r) x h.0 more.0, more.1)
term_written base blanks (Tagged lexical lang) ps r x h k ends rest a =
    let t = tag_written lang (pieces_text ps r) k.0 ends in (
      string_written a blanks lexical ((codes "@" ++ lang) ++ pieces_text ps r) x h (other_no_quote 64 (lang ++ pieces_text ps r) (omega arith)),
      (t, rest (is_string t.kind)),
    )
