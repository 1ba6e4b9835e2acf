-- The tokens of a graph's text derive a document with a statement for each triple.
use Rattle.std.proofs.Common.{◌≡◌, ℕ, ◌+◌, Bool, true, false, List, [], ◌∷◌, ◌++◌, length, map, codes, All, refl, sym, ap, ◌∙◌, subst, nat_eq}
use Rattle.std.proofs.lemmas.List.Elements.{All-head, All-tail}
use lib.Pointwise.{pointwise}
use Rattle.rdf_graph.specs.Term.{xsd_string, IsLiteral, IsIri}
use Rattle.rdf_graph.specs.Triple.{IsRdf}
use Rattle.rdf_graph.specs.declared.term.Term.{Term}
use Rattle.rdf_graph.specs.declared.term.Term.TheVariants.{Iri, Blank, Literal, Tagged}
use Rattle.rdf_graph.specs.declared.triple.Triple.{Triple}
use Rattle.turtle_lex.specs.declared.token.TokenKind.TheVariants as Kind
use Rattle.turtle_grammar.specs.declared.symbol.Symbol.{Symbol}
use Rattle.turtle_grammar.specs.declared.symbol.Symbol.TheVariants.{Token}
use Rattle.turtle_grammar.specs.declared.symbol.Start.TheVariants.{Document}
use Rattle.turtle_grammar.specs.Derivations.{AreAllowed, depth_from}
use Rattle.turtle_grammar.specs.Trees as tree
use Rattle.turtle_grammar.specs.TreeSymbols.{subject_symbols, object_symbols, statement_symbols, document_symbols}
use Rattle.turtle_reader.specs.Lexemes.{lexemes_of, symbols_of}
use Rattle.syntax_laws.proofs.Pieces.{Piece, tokens_of}
use Rattle.syntax_laws.proofs.Terms.{dot_piece, datatype_pieces, term_pieces}
use Rattle.syntax_laws.proofs.Graphs.{triple_pieces, graph_pieces}
use Rattle.syntax_laws.proofs.Meanings.{IsPlain, AreMeant}

-- ---- the tree of a graph

abbrev pub subject_of : Term → tree.Subject
subject_of (Iri iri) = tree.subject_iri tree.iri_ref
subject_of (Blank label) = tree.subject_label
subject_of (Literal lexical datatype) = tree.subject_label
subject_of (Tagged lexical lang) = tree.subject_label

-- a literal without a tag, by whether its datatype is that of plain strings
abbrev pub literal_of : Bool → tree.Literal
literal_of true = tree.string
literal_of false = tree.typed_string tree.iri_ref

abbrev pub object_of : Term → tree.Object
object_of (Iri iri) = tree.iri tree.iri_ref
object_of (Blank label) = tree.label
object_of (Literal lexical datatype) = tree.literal (literal_of (pointwise nat_eq datatype xsd_string))
object_of (Tagged lexical lang) = tree.literal tree.tagged_string

-- one predicate with one object
abbrev pub one_object : tree.Object → tree.PredicateObjectList
one_object o = tree.predicates (tree.predicate tree.iri_ref) o tree.none tree.end

abbrev pub statement_of : Triple → tree.Statement
statement_of t = tree.statement (tree.about (subject_of t.s) (one_object (object_of t.o)))

abbrev pub document_of : List Triple → List tree.Statement
document_of ts = map statement_of ts

-- ---- its symbols

abbrev pub kinds_of : List Piece → List Symbol
kinds_of ps = map (λ p. Token p.kind) ps

pub symbols_are : (n : ℕ) (ps : List Piece) → symbols_of (lexemes_of (tokens_of n ps)) ≡ kinds_of ps
symbols_are n [] = refl
symbols_are n (p ∷ ps) = ap (λ (xs : List Symbol). Token p.kind ∷ xs) (symbols_are (n + length p.blanks + length p.text) ps)

subject_same : (blanks : List ℕ) (s : Term) (ps : List Piece) (xs : List Symbol) → (IsLiteral s → ⊥) → xs ≡ kinds_of ps
    → subject_symbols (subject_of s) xs ≡ kinds_of (term_pieces blanks s ps)
subject_same blanks (Iri iri) ps xs h e = ap (λ (ys : List Symbol). Token Kind.IriRef ∷ ys) e
subject_same blanks (Blank label) ps xs h e = ap (λ (ys : List Symbol). Token Kind.BlankLabel ∷ ys) e
subject_same blanks (Literal lexical datatype) ps xs h e = absurd (h tt)
subject_same blanks (Tagged lexical lang) ps xs h e = absurd (h tt)

verb_same : (blanks : List ℕ) (p : Term) (ps : List Piece) (xs : List Symbol) → IsIri p → xs ≡ kinds_of ps
    → Token Kind.IriRef ∷ xs ≡ kinds_of (term_pieces blanks p ps)
verb_same blanks (Iri iri) ps xs h e = ap (λ (ys : List Symbol). Token Kind.IriRef ∷ ys) e
verb_same blanks (Blank label) ps xs h e = absurd h
verb_same blanks (Literal lexical datatype) ps xs h e = absurd h
verb_same blanks (Tagged lexical lang) ps xs h e = absurd h

literal_same : (b : Bool) (blanks lexical datatype : List ℕ) (ps : List Piece) (xs : List Symbol) → xs ≡ kinds_of ps
    → object_symbols (tree.literal (literal_of b)) xs ≡ Token Kind.Quoted ∷ kinds_of (datatype_pieces b datatype ps)
literal_same true blanks lexical datatype ps xs e = ap (λ (ys : List Symbol). Token Kind.Quoted ∷ ys) e
literal_same false blanks lexical datatype ps xs e =
    ap (λ (ys : List Symbol). Token Kind.Quoted ∷ Token Kind.Carets ∷ Token Kind.IriRef ∷ ys) e

object_same : (blanks : List ℕ) (o : Term) (ps : List Piece) (xs : List Symbol) → xs ≡ kinds_of ps
    → object_symbols (object_of o) xs ≡ kinds_of (term_pieces blanks o ps)
object_same blanks (Iri iri) ps xs e = ap (λ (ys : List Symbol). Token Kind.IriRef ∷ ys) e
object_same blanks (Blank label) ps xs e = ap (λ (ys : List Symbol). Token Kind.BlankLabel ∷ ys) e
object_same blanks (Literal lexical datatype) ps xs e = literal_same (pointwise nat_eq datatype xsd_string) blanks lexical datatype ps xs e
object_same blanks (Tagged lexical lang) ps xs e = ap (λ (ys : List Symbol). Token Kind.Quoted ∷ Token Kind.LangTag ∷ ys) e

statement_same : (blanks : List ℕ) (t : Triple) (ps : List Piece) (xs : List Symbol) → IsRdf t → xs ≡ kinds_of ps
    → statement_symbols (statement_of t) xs ≡ kinds_of (triple_pieces blanks t ps)
statement_same blanks t ps xs h e =
    let end : List Symbol = Token Kind.Dot ∷ xs in
    let third : List Piece = term_pieces (codes " ") t.o (dot_piece ∷ ps) in
    let dot : end ≡ kinds_of (dot_piece ∷ ps) = ap (λ (ys : List Symbol). Token Kind.Dot ∷ ys) e in
    let object : object_symbols (object_of t.o) end ≡ kinds_of third = object_same (codes " ") t.o (dot_piece ∷ ps) end dot in
    let verb = verb_same (codes " ") t.p third (object_symbols (object_of t.o) end) h.1 object in
    subject_same blanks t.s (term_pieces (codes " ") t.p third) (Token Kind.IriRef ∷ object_symbols (object_of t.o) end) h.0 verb

pub document_same : (blanks : List ℕ) (ts : List Triple) → All IsRdf ts → document_symbols (document_of ts) [] ≡ kinds_of (graph_pieces blanks ts)
document_same blanks [] h = refl
document_same blanks (t ∷ ts) h =
    statement_same blanks t (graph_pieces (codes "\n") ts) (document_symbols (document_of ts) []) (All-head IsRdf t ts h)
    (document_same (codes "\n") ts (All-tail IsRdf t ts h))

-- ---- a document has all of them, and they are no brackets

abbrev pub ArePlain : List Symbol → Type 0
ArePlain [] = Unit {0}
ArePlain (x ∷ xs) = IsPlain x × ArePlain xs

pub are_plain : (base : List ℕ) (ps : List Piece) → AreMeant base ps → ArePlain (kinds_of ps)
are_plain base [] h = tt
are_plain base (p ∷ ps) (one, more) = (one.plain, are_plain base ps more)

pub are_allowed : (xs : List Symbol) → ArePlain xs → AreAllowed Document 0 xs
are_allowed [] h = tt
are_allowed (x ∷ xs) (one, more) = (one.allowed, subst (λ (n : ℕ). AreAllowed Document n xs) (sym one.braces) (are_allowed xs more))

pub plain_both : (xs ys : List Symbol) → ArePlain xs → ArePlain ys → ArePlain (xs ++ ys)
plain_both [] ys h k = k
plain_both (x ∷ xs) ys (one, more) k = (one, plain_both xs ys more k)

pub plain_first : (xs ys : List Symbol) → ArePlain (xs ++ ys) → ArePlain xs
plain_first [] ys h = tt
plain_first (x ∷ xs) ys (one, more) = (one, plain_first xs ys more)

pub plain_second : (xs ys : List Symbol) → ArePlain (xs ++ ys) → ArePlain ys
plain_second [] ys h = h
plain_second (x ∷ xs) ys (one, more) = plain_second xs ys more

pub no_depth : (xs : List Symbol) → ArePlain xs → depth_from 0 xs ≡ 0
no_depth [] h = refl
no_depth (x ∷ xs) (one, more) = ap (λ (n : ℕ). depth_from n xs) one.depth ∙ no_depth xs more
