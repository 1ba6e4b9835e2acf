-- What the tokens of a graph's text mean, and that none is a directive or a bracket.
use Rattle.std.proofs.Common.{◌≡◌, ℕ, ◌+◌, Bool, true, false, List, [], ◌∷◌, ◌++◌, length, map, codes, Option, Some, None, Ok, refl, sym, ap, subst, nat_eq}
use Rattle.std.proofs.lemmas.List.Elements.{All-head, All-tail}
use Rattle.std.specs.Char.{to_ascii_lowercase}
use Rattle.std.specs.FinMap as map_of
use lib.Pointwise.{pointwise}
use Rattle.iri_ref.specs.Characters.{AllAllowed}
use Rattle.iri_ref.specs.Components.{IsAbsolute}
use Rattle.iri_ref.specs.Written.{IsIriOfReference}
use Rattle.iri_ref.proofs.Written.{absolute_itself}
use Rattle.rdf_graph.specs.Term.{xsd_string}
use Rattle.rdf_graph.specs.declared.term.Term.{Term}
use Rattle.rdf_graph.specs.declared.term.Term.TheVariants.{Iri, Blank, Literal, Tagged}
use Rattle.rdf_graph.specs.declared.triple.Triple.{Triple}
use Rattle.turtle_lex.specs.declared.token.TokenKind.{TokenKind}
use Rattle.turtle_lex.specs.declared.token.Token.{Token as LexToken}
use Rattle.turtle_lex.specs.Laws.{text_of}
use Rattle.turtle_grammar.specs.declared.symbol.Symbol.{Symbol}
use Rattle.turtle_grammar.specs.declared.symbol.Symbol.TheVariants.{Token}
use Rattle.turtle_grammar.specs.declared.symbol.Start.TheVariants.{Document}
use Rattle.turtle_grammar.specs.Derivations.{is_allowed, braces_after, depth_after}
use Rattle.turtle_terms.specs.Meaning.{IsTermMeaning as IsTermOfKind}
use Rattle.turtle_terms.specs.Values.{reference_value}
use Rattle.turtle_terms.proofs.Written.{reference_is_read, string_is_read}
use Rattle.turtle_reader.specs.declared.context.Directive.{Directive}
use Rattle.turtle_reader.specs.declared.context.Directive.TheVariants.{Nothing}
use Rattle.turtle_reader.specs.declared.meaning.Meaning.{Meaning}
use Rattle.turtle_reader.specs.declared.meaning.Meaning.TheVariants as meaning_of
use Rattle.turtle_reader.specs.Contexts.{at_start, opened, with_directive}
use Rattle.turtle_reader.specs.Lexemes.{lexeme_of, lexemes_of}
use Rattle.turtle_reader.specs.Meanings.{special_meaning, term_meaning, IsPlainMeaning, IsMeaning, AreMeanings}
use Rattle.syntax_laws.specs.ReadBack.{HasTexts, TripleHasTexts, GraphHasTexts, IsReadBack, TripleIsReadBack, GraphIsReadBack}
use Rattle.syntax_laws.proofs.Pieces.{Piece, pieces_text, token_of, tokens_of, IsAt, after_piece, piece_text}
use Rattle.syntax_laws.proofs.Terms.{iri_piece, label_piece, string_piece, tag_piece, carets_piece, dot_piece, datatype_pieces, term_pieces}
use Rattle.syntax_laws.proofs.Graphs.{graph_pieces}

-- what a token of this kind and text means without prefixes, by its special meaning
abbrev HasMeaning : Option Meaning → List ℕ → TokenKind → List ℕ → Meaning → Type 0
HasMeaning (Some m) base kind text meaning = m ≡ meaning
HasMeaning None base kind text meaning =
    (term : Option Term) × IsTermOfKind base map_of.empty kind text (Ok term) × (meaning ≡ term_meaning term)

-- The symbol is part of a document, and no bracket.
pub record IsPlain (symbol : Symbol) : Type 0 where
  pub allowed : is_allowed Document 0 symbol ≡ true
  pub braces : braces_after 0 symbol ≡ 0
  pub depth : depth_after 0 symbol ≡ 0

-- The piece's symbol is plain, begins no directive, and has the piece's meaning.
pub record IsMeant (base : List ℕ) (p : Piece) : Type 0 where
  pub plain : IsPlain (Token p.kind)
  pub opens : opened (Token p.kind) ≡ Nothing
  pub means : HasMeaning (special_meaning p.kind p.text) base p.kind p.text p.meaning

abbrev pub AreMeant : List ℕ → List Piece → Type 0
AreMeant base [] = Unit {0}
AreMeant base (p ∷ ps) = IsMeant base p × AreMeant base ps

abbrev pub meanings_of : List Piece → List Meaning
meanings_of ps = map (λ p. p.meaning) ps

plain_meaning : (o : Option Meaning) (base bytes : List ℕ) (token : LexToken) (m : Meaning) → HasMeaning o base token.kind (text_of bytes token) m
    → IsPlainMeaning o base map_of.empty bytes token (Ok m)
plain_meaning (Some x) base bytes token m e = ap (λ y. Ok y) (sym e)
plain_meaning None base bytes token m h = h

piece_meaning : (base bytes : List ℕ) (n : ℕ) (p : Piece) → text_of bytes (token_of n p) ≡ p.text → IsMeant base p
    → IsMeaning bytes (at_start base) (lexeme_of (token_of n p)) (Ok p.meaning)
piece_meaning base bytes n p e h =
    plain_meaning (special_meaning p.kind (text_of bytes (token_of n p))) base bytes (token_of n p) p.meaning
    (subst (λ (t : List ℕ). HasMeaning (special_meaning p.kind t) base p.kind t p.meaning) (sym e) h.means)

pub meanings_are : (ps : List Piece) (base bytes : List ℕ) (n : ℕ) (r : List ℕ) → IsAt bytes n (pieces_text ps r) → AreMeant base ps
    → AreMeanings bytes (at_start base) (lexemes_of (tokens_of n ps)) (meanings_of ps)
meanings_are [] base bytes n r at h = tt
meanings_are (p ∷ ps) base bytes n r at (one, more) =
    let to : ℕ = n + length p.blanks + length p.text in
    let left : List ℕ = pieces_text ps r in
    let rest = meanings_are ps base bytes to r (after_piece bytes n p left at) more in
    let goes_on = subst (λ (d : Directive). AreMeanings bytes (with_directive d (at_start base)) (lexemes_of (tokens_of to ps)) (meanings_of ps)) (sym one.opens) rest in
    (piece_meaning base bytes n p (piece_text bytes n p left at) one, goes_on)

-- ---- the pieces of a graph

iri_meant : (base blanks iri : List ℕ) → IsAbsolute iri → IsMeant base (iri_piece blanks iri)
iri_meant base blanks iri absolute =
    let value : reference_value (codes "<" ++ (iri ++ codes ">")) ≡ iri = reference_is_read iri absolute.allowed in
    record {
      plain = record { allowed = refl; braces = refl; depth = refl };
      opens = refl;
      means = (Some (Iri iri), subst (λ (x : List ℕ). AllAllowed x × IsIriOfReference base x iri) (sym value) (absolute.allowed, absolute_itself base iri absolute), refl);
    }

label_meant : (base blanks label : List ℕ) → IsMeant base (label_piece blanks label)
label_meant base blanks label = record {
  plain = record { allowed = refl; braces = refl; depth = refl };
  opens = refl;
  means = (Some (Blank label), refl, refl);
}

string_meant : (base blanks lexical : List ℕ) → IsMeant base (string_piece blanks lexical)
string_meant base blanks lexical = record {
  plain = record { allowed = refl; braces = refl; depth = refl };
  opens = refl;
  means = (Some (Literal lexical xsd_string), ap (λ (x : List ℕ). Ok (Some (Literal x xsd_string))) (sym (string_is_read lexical)), refl);
}

tag_meant : (base lang : List ℕ) → map to_ascii_lowercase lang ≡ lang → IsMeant base (tag_piece lang)
tag_meant base lang lower = record {
  plain = record { allowed = refl; braces = refl; depth = refl };
  opens = refl;
  means = ap (λ (x : List ℕ). meaning_of.Language x) lower;
}

carets_meant : (base : List ℕ) → IsMeant base carets_piece
carets_meant base = record { plain = record { allowed = refl; braces = refl; depth = refl }; opens = refl; means = (None, refl, refl) }

dot_meant : (base : List ℕ) → IsMeant base dot_piece
dot_meant base = record { plain = record { allowed = refl; braces = refl; depth = refl }; opens = refl; means = (None, refl, refl) }

datatype_meant : (b : Bool) (base datatype : List ℕ) (ps : List Piece) → IsAbsolute datatype → AreMeant base ps
    → AreMeant base (datatype_pieces b datatype ps)
datatype_meant true base datatype ps absolute rest = rest
datatype_meant false base datatype ps absolute rest = (carets_meant base, (iri_meant base [] datatype absolute, rest))

term_meant : (base blanks : List ℕ) (t : Term) (ps : List Piece) → HasTexts t → IsReadBack t → AreMeant base ps → AreMeant base (term_pieces blanks t ps)
term_meant base blanks (Iri iri) ps h k rest = (iri_meant base blanks iri h.absolute, rest)
term_meant base blanks (Blank label) ps h k rest = (label_meant base blanks label, rest)
term_meant base blanks (Literal lexical datatype) ps h k rest =
    (string_meant base blanks lexical, datatype_meant (pointwise nat_eq datatype xsd_string) base datatype ps h.1.absolute rest)
term_meant base blanks (Tagged lexical lang) ps h k rest = (string_meant base blanks lexical, (tag_meant base lang k.1, rest))

pub graph_meant : (base blanks : List ℕ) (ts : List Triple) → GraphHasTexts ts → GraphIsReadBack ts → AreMeant base (graph_pieces blanks ts)
graph_meant base blanks [] h k = tt
graph_meant base blanks (t ∷ ts) h k =
    let texts = All-head TripleHasTexts t ts h in
    let one = All-head TripleIsReadBack t ts k in
    let rest = graph_meant base (codes "\n") ts (All-tail TripleHasTexts t ts h) (All-tail TripleIsReadBack t ts k) in
    let ps : List Piece = dot_piece ∷ graph_pieces (codes "\n") ts in
    let third : List Piece = term_pieces (codes " ") t.o ps in
    term_meant base blanks t.s (term_pieces (codes " ") t.p third) texts.subject one.subject
    (term_meant base (codes " ") t.p third texts.predicate one.predicate
    (term_meant base (codes " ") t.o ps texts.object one.object (dot_meant base, rest)))
