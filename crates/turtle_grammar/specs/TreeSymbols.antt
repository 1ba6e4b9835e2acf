-- The symbols of each tree, and then the symbols that follow it.
use Rattle.std.specs.Prelude.{List, [], ◌∷◌}
use Rattle.turtle_lex.specs.declared.token.TokenKind.TheVariants as kind
use Rattle.turtle_grammar.specs.declared.symbol.Symbol.{Symbol}
use Rattle.turtle_grammar.specs.declared.symbol.Symbol.TheVariants.{Token, Insert, Delete, Data}
use Rattle.turtle_grammar.specs.Trees.{Iri, iri_ref, pname_ln, pname_ns}
use Rattle.turtle_grammar.specs.Trees.{Literal, string, tagged_string, typed_string, integer}
use Rattle.turtle_grammar.specs.Trees.{decimal, double, true_word, false_word}
use Rattle.turtle_grammar.specs.Trees.{Verb, predicate, a_word, verb_variable}
use Rattle.turtle_grammar.specs.Trees.{Subject, subject_iri, subject_label, subject_anon}
use Rattle.turtle_grammar.specs.Trees.{subject_collection, subject_variable}
use Rattle.turtle_grammar.specs.Trees.{Object, iri, label, anon, collection, property_list}
use Rattle.turtle_grammar.specs.Trees.{literal, variable, formula, Objects, none, more}
use Rattle.turtle_grammar.specs.Trees.{PredicateObjectList, predicates, Properties, end, empty}
use Rattle.turtle_grammar.specs.Trees.{also, Triples, about, lone_list, about_list}
use Rattle.turtle_grammar.specs.Trees.{Formula, void, triples, Tail, last, dot}
use Rattle.turtle_grammar.specs.Trees.{Statement, at_prefix, at_base, sparql_prefix, sparql_base}
use Rattle.turtle_grammar.specs.Trees.{statement, Operation, insert_data, delete_data}
use Rattle.turtle_grammar.specs.Trees.{Update, no_operation, update_base, update_prefix}
use Rattle.turtle_grammar.specs.Trees.{last_operation, operation_and}

abbrev pub iri_symbol : Iri → Symbol
iri_symbol iri_ref = Token kind.IriRef
iri_symbol pname_ln = Token kind.PnameLn
iri_symbol pname_ns = Token kind.PnameNs

abbrev pub literal_symbols : Literal → List Symbol → List Symbol
literal_symbols string r = Token kind.Quoted ∷ r
literal_symbols tagged_string r = Token kind.Quoted ∷ Token kind.LangTag ∷ r
literal_symbols (typed_string i) r =
    Token kind.Quoted ∷ Token kind.Carets ∷ iri_symbol i ∷ r
literal_symbols integer r = Token kind.Integer ∷ r
literal_symbols decimal r = Token kind.Decimal ∷ r
literal_symbols double r = Token kind.Double ∷ r
literal_symbols true_word r = Token kind.True ∷ r
literal_symbols false_word r = Token kind.False ∷ r

abbrev pub verb_symbol : Verb → Symbol
verb_symbol (predicate i) = iri_symbol i
verb_symbol a_word = Token kind.A
verb_symbol verb_variable = Token kind.Variable

abbrev mutual
  pub subject_symbols : Subject → List Symbol → List Symbol
  subject_symbols (subject_iri i) r = iri_symbol i ∷ r
  subject_symbols subject_label r = Token kind.BlankLabel ∷ r
  subject_symbols subject_anon r = Token kind.Anon ∷ r
  subject_symbols (subject_collection os) r =
      Token kind.OpenRound ∷ element_symbols os (Token kind.CloseRound ∷ r)
  subject_symbols subject_variable r = Token kind.Variable ∷ r

  pub object_symbols : Object → List Symbol → List Symbol
  object_symbols (iri i) r = iri_symbol i ∷ r
  object_symbols label r = Token kind.BlankLabel ∷ r
  object_symbols anon r = Token kind.Anon ∷ r
  object_symbols (collection os) r =
      Token kind.OpenRound ∷ element_symbols os (Token kind.CloseRound ∷ r)
  object_symbols (property_list q) r =
      Token kind.OpenSquare ∷ list_symbols q (Token kind.CloseSquare ∷ r)
  object_symbols (literal l) r = literal_symbols l r
  object_symbols variable r = Token kind.Variable ∷ r
  object_symbols (formula f) r =
      Token kind.OpenBrace ∷ formula_symbols f (Token kind.CloseBrace ∷ r)

  -- object*
  pub element_symbols : Objects → List Symbol → List Symbol
  element_symbols none r = r
  element_symbols (more o os) r = object_symbols o (element_symbols os r)

  -- (',' object)*
  pub other_symbols : Objects → List Symbol → List Symbol
  other_symbols none r = r
  other_symbols (more o os) r = Token kind.Comma ∷ object_symbols o (other_symbols os r)

  pub list_symbols : PredicateObjectList → List Symbol → List Symbol
  list_symbols (predicates v o os ps) r =
      verb_symbol v ∷ object_symbols o (other_symbols os (property_symbols ps r))

  pub property_symbols : Properties → List Symbol → List Symbol
  property_symbols end r = r
  property_symbols (empty ps) r = Token kind.Semicolon ∷ property_symbols ps r
  property_symbols (also q) r = Token kind.Semicolon ∷ list_symbols q r

  pub triples_symbols : Triples → List Symbol → List Symbol
  triples_symbols (about s q) r = subject_symbols s (list_symbols q r)
  triples_symbols (lone_list q) r =
      Token kind.OpenSquare ∷ list_symbols q (Token kind.CloseSquare ∷ r)
  triples_symbols (about_list q p) r =
      Token kind.OpenSquare ∷ list_symbols q (Token kind.CloseSquare ∷ list_symbols p r)

  pub formula_symbols : Formula → List Symbol → List Symbol
  formula_symbols void r = r
  formula_symbols (triples x t) r = triples_symbols x (tail_symbols t r)

  pub tail_symbols : Tail → List Symbol → List Symbol
  tail_symbols last r = r
  tail_symbols (dot f) r = Token kind.Dot ∷ formula_symbols f r

abbrev pub statement_symbols : Statement → List Symbol → List Symbol
statement_symbols at_prefix r =
    Token kind.AtPrefix ∷ Token kind.PnameNs ∷ Token kind.IriRef ∷ Token kind.Dot ∷ r
statement_symbols at_base r = Token kind.AtBase ∷ Token kind.IriRef ∷ Token kind.Dot ∷ r
statement_symbols sparql_prefix r =
    Token kind.Prefix ∷ Token kind.PnameNs ∷ Token kind.IriRef ∷ r
statement_symbols sparql_base r = Token kind.Base ∷ Token kind.IriRef ∷ r
statement_symbols (statement x) r = triples_symbols x (Token kind.Dot ∷ r)

-- turtleDoc ::= statement*
abbrev pub document_symbols : List Statement → List Symbol → List Symbol
document_symbols [] r = r
document_symbols (s ∷ ss) r = statement_symbols s (document_symbols ss r)

abbrev pub operation_symbols : Operation → List Symbol → List Symbol
operation_symbols (insert_data f) r =
    Insert ∷ Data ∷ Token kind.OpenBrace ∷ formula_symbols f (Token kind.CloseBrace ∷ r)
operation_symbols (delete_data f) r =
    Delete ∷ Data ∷ Token kind.OpenBrace ∷ formula_symbols f (Token kind.CloseBrace ∷ r)

abbrev pub update_symbols : Update → List Symbol → List Symbol
update_symbols no_operation r = r
update_symbols (update_base u) r = Token kind.Base ∷ Token kind.IriRef ∷ update_symbols u r
update_symbols (update_prefix u) r =
    Token kind.Prefix ∷ Token kind.PnameNs ∷ Token kind.IriRef ∷ update_symbols u r
update_symbols (last_operation o) r = operation_symbols o r
update_symbols (operation_and o u) r =
    operation_symbols o (Token kind.Semicolon ∷ update_symbols u r)
