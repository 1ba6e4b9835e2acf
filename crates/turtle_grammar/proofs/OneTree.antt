-- Symbols are those of one tree: the first symbols of a tree determine its constructor, and what may
-- follow it begins no longer one.
use Rattle.std.proofs.Common.{◌≡◌, List, [], ◌∷◌, Bool, true, false, refl, sym, ap, ◌∙◌}
use Rattle.turtle_lex.specs.declared.token.TokenKind.TheVariants as kind
use Rattle.turtle_grammar.specs.declared.symbol.Start.{Start}
use Rattle.turtle_grammar.specs.declared.symbol.Start.TheVariants as start_of
use Rattle.turtle_grammar.specs.declared.symbol.Symbol.{Symbol}
use Rattle.turtle_grammar.specs.declared.symbol.Symbol.TheVariants.{Token, Insert, Delete, Data}
use Rattle.turtle_grammar.specs.Trees.{Iri, iri_ref, pname_ln, pname_ns}
use Rattle.turtle_grammar.specs.Trees.{Literal, string, tagged_string, typed_string, integer}
use Rattle.turtle_grammar.specs.Trees.{decimal, double, true_word, false_word}
use Rattle.turtle_grammar.specs.Trees.{a_word}
use Rattle.turtle_grammar.specs.Trees.{Subject, subject_iri, subject_label, subject_anon}
use Rattle.turtle_grammar.specs.Trees.{subject_collection, subject_variable}
use Rattle.turtle_grammar.specs.Trees.{Object, iri, label, anon, collection, property_list}
use Rattle.turtle_grammar.specs.Trees.{literal, variable, formula, Objects, none, more}
use Rattle.turtle_grammar.specs.Trees.{PredicateObjectList, predicates, Properties, end, empty}
use Rattle.turtle_grammar.specs.Trees.{also, Triples, about, lone_list, about_list}
use Rattle.turtle_grammar.specs.Trees.{Formula, void, triples, Tail, last, dot}
use Rattle.turtle_grammar.specs.Trees.{Statement, at_prefix, at_base, sparql_prefix, sparql_base}
use Rattle.turtle_grammar.specs.Trees.{statement, Operation, insert_data, delete_data}
use Rattle.turtle_grammar.specs.Trees.{Update, no_operation, update_base, update_prefix}
use Rattle.turtle_grammar.specs.Trees.{last_operation, operation_and}
use Rattle.turtle_grammar.specs.TreeSymbols.{iri_symbol, literal_symbols}
use Rattle.turtle_grammar.specs.TreeSymbols.{subject_symbols, object_symbols, element_symbols}
use Rattle.turtle_grammar.specs.TreeSymbols.{other_symbols, list_symbols, property_symbols}
use Rattle.turtle_grammar.specs.TreeSymbols.{triples_symbols, formula_symbols, tail_symbols}
use Rattle.turtle_grammar.specs.TreeSymbols.{statement_symbols, document_symbols}
use Rattle.turtle_grammar.specs.TreeSymbols.{operation_symbols, update_symbols}
use Rattle.turtle_grammar.specs.Derivations.{Tree, tree_symbols}
use Rattle.turtle_grammar.specs.Stacks.{adds_to_string}
use Rattle.turtle_grammar.proofs.FirstSymbols.{clash, head, tail, adds_object, adds_list}
use Rattle.turtle_grammar.proofs.FirstSymbols.{is_verb, object_string, list_object, verb_list, iri_of}
use Rattle.turtle_grammar.proofs.FirstSymbols.{verb_is, same_verb}
use Rattle.turtle_grammar.proofs.FirstSymbols.{same_literal}

-- the first symbol of a tree
abbrev literal_head : Literal → Symbol
literal_head string = Token kind.Quoted
literal_head tagged_string = Token kind.Quoted
literal_head (typed_string i) = Token kind.Quoted
literal_head integer = Token kind.Integer
literal_head decimal = Token kind.Decimal
literal_head double = Token kind.Double
literal_head true_word = Token kind.True
literal_head false_word = Token kind.False

abbrev object_head : Object → Symbol
object_head (iri i) = iri_symbol i
object_head label = Token kind.BlankLabel
object_head anon = Token kind.Anon
object_head (collection os) = Token kind.OpenRound
object_head (property_list q) = Token kind.OpenSquare
object_head (literal l) = literal_head l
object_head variable = Token kind.Variable
object_head (formula f) = Token kind.OpenBrace

abbrev subject_head : Subject → Symbol
subject_head (subject_iri i) = iri_symbol i
subject_head subject_label = Token kind.BlankLabel
subject_head subject_anon = Token kind.Anon
subject_head (subject_collection os) = Token kind.OpenRound
subject_head subject_variable = Token kind.Variable

abbrev triples_head : Triples → Symbol
triples_head (about s q) = subject_head s
triples_head (lone_list q) = Token kind.OpenSquare
triples_head (about_list q p) = Token kind.OpenSquare

abbrev statement_head : Statement → Symbol
statement_head at_prefix = Token kind.AtPrefix
statement_head at_base = Token kind.AtBase
statement_head sparql_prefix = Token kind.Prefix
statement_head sparql_base = Token kind.Base
statement_head (statement x) = triples_head x

abbrev operation_head : Operation → Symbol
operation_head (insert_data f) = Insert
operation_head (delete_data f) = Delete

literal_first : (l : Literal) (r : List Symbol) → head (literal_symbols l r) ≡ literal_head l
literal_first string r = refl
literal_first tagged_string r = refl
literal_first (typed_string i) r = refl
literal_first integer r = refl
literal_first decimal r = refl
literal_first double r = refl
literal_first true_word r = refl
literal_first false_word r = refl

object_first : (o : Object) (r : List Symbol) → head (object_symbols o r) ≡ object_head o
object_first (iri i) r = refl
object_first label r = refl
object_first anon r = refl
object_first (collection os) r = refl
object_first (property_list q) r = refl
object_first (literal l) r = literal_first l r
object_first variable r = refl
object_first (formula f) r = refl

subject_first : (s : Subject) (r : List Symbol) → head (subject_symbols s r) ≡ subject_head s
subject_first (subject_iri i) r = refl
subject_first subject_label r = refl
subject_first subject_anon r = refl
subject_first (subject_collection os) r = refl
subject_first subject_variable r = refl

triples_first : (x : Triples) (r : List Symbol) → head (triples_symbols x r) ≡ triples_head x
triples_first (about s q) r = subject_first s (list_symbols q r)
triples_first (lone_list q) r = refl
triples_first (about_list q p) r = refl

statement_first : (s : Statement) (r : List Symbol) → head (statement_symbols s r) ≡ statement_head s
statement_first at_prefix r = refl
statement_first at_base r = refl
statement_first sparql_prefix r = refl
statement_first sparql_base r = refl
statement_first (statement x) r = triples_first x (Token kind.Dot ∷ r)

operation_first : (o : Operation) (r : List Symbol) → head (operation_symbols o r) ≡ operation_head o
operation_first (insert_data f) r = refl
operation_first (delete_data f) r = refl

-- the parts of an object, where it has them
abbrev elements_of : Object → Objects
elements_of (collection os) = os
elements_of o = none

abbrev list_of : Object → PredicateObjectList
list_of (property_list q) = q
list_of o = predicates a_word label none end

abbrev formula_of : Object → Formula
formula_of (formula f) = f
formula_of o = void

abbrev literal_in : Object → Literal
literal_in (literal l) = l
literal_in o = integer

-- the object of the constructor that this first symbol determines, with the parts of another
abbrev object_by : Symbol → Object → Object
object_by (Token kind.IriRef) o = iri iri_ref
object_by (Token kind.PnameLn) o = iri pname_ln
object_by (Token kind.PnameNs) o = iri pname_ns
object_by (Token kind.BlankLabel) o = label
object_by (Token kind.Anon) o = anon
object_by (Token kind.OpenRound) o = collection (elements_of o)
object_by (Token kind.OpenSquare) o = property_list (list_of o)
object_by (Token kind.Variable) o = variable
object_by (Token kind.OpenBrace) o = formula (formula_of o)
object_by t o = literal (literal_in o)

object_back : (o : Object) → object_by (object_head o) o ≡ o
object_back (iri iri_ref) = refl
object_back (iri pname_ln) = refl
object_back (iri pname_ns) = refl
object_back label = refl
object_back anon = refl
object_back (collection os) = refl
object_back (property_list q) = refl
object_back (literal string) = refl
object_back (literal tagged_string) = refl
object_back (literal (typed_string i)) = refl
object_back (literal integer) = refl
object_back (literal decimal) = refl
object_back (literal double) = refl
object_back (literal true_word) = refl
object_back (literal false_word) = refl
object_back variable = refl
object_back (formula f) = refl

object_is : (o a : Object) (r r' : List Symbol) → object_symbols o r ≡ object_symbols a r' → object_by (object_head o) a ≡ a
object_is o a r r' e =
    let heads : object_head o ≡ object_head a = sym (object_first o r) ∙ ap head e ∙ object_first a r' in
    ap (λ t. object_by t a) heads ∙ object_back a

iri_object : (i : Iri) (a : Object) → object_by (iri_symbol i) a ≡ iri i
iri_object iri_ref a = refl
iri_object pname_ln a = refl
iri_object pname_ns a = refl

literal_object : (l : Literal) (a : Object) → object_by (literal_head l) a ≡ literal (literal_in a)
literal_object string a = refl
literal_object tagged_string a = refl
literal_object (typed_string i) a = refl
literal_object integer a = refl
literal_object decimal a = refl
literal_object double a = refl
literal_object true_word a = refl
literal_object false_word a = refl

same_of_literal : (l : Literal) (a : Object) (r r' : List Symbol) → adds_to_string (head r) ≡ false → adds_to_string (head r') ≡ false
    → literal_symbols l r ≡ object_symbols a r' → (literal l ≡ a) × (r ≡ r')
same_of_literal l a r r' c c' e =
    let is : literal (literal_in a) ≡ a = sym (literal_object l a) ∙ object_is (literal l) a r r' e in
    let got = same_literal l (literal_in a) r r' c c' (e ∙ ap (λ z. object_symbols z r') (sym is)) in
    (ap literal got.0 ∙ is, got.1)

abbrev subject_elements : Subject → Objects
subject_elements (subject_collection os) = os
subject_elements s = none

abbrev subject_by : Symbol → Subject → Subject
subject_by (Token kind.BlankLabel) s = subject_label
subject_by (Token kind.Anon) s = subject_anon
subject_by (Token kind.OpenRound) s = subject_collection (subject_elements s)
subject_by (Token kind.Variable) s = subject_variable
subject_by t s = subject_iri (iri_of t)

subject_back : (s : Subject) → subject_by (subject_head s) s ≡ s
subject_back (subject_iri iri_ref) = refl
subject_back (subject_iri pname_ln) = refl
subject_back (subject_iri pname_ns) = refl
subject_back subject_label = refl
subject_back subject_anon = refl
subject_back (subject_collection os) = refl
subject_back subject_variable = refl

subject_is : (s u : Subject) (r r' : List Symbol) → subject_symbols s r ≡ subject_symbols u r' → subject_by (subject_head s) u ≡ u
subject_is s u r r' e =
    let heads : subject_head s ≡ subject_head u = sym (subject_first s r) ∙ ap head e ∙ subject_first u r' in
    ap (λ t. subject_by t u) heads ∙ subject_back u

iri_subject : (i : Iri) (u : Subject) → subject_by (iri_symbol i) u ≡ subject_iri i
iri_subject iri_ref u = refl
iri_subject pname_ln u = refl
iri_subject pname_ns u = refl

abbrev triples_in : Statement → Triples
triples_in (statement x) = x
triples_in s = lone_list (predicates a_word label none end)

abbrev statement_by : Symbol → Statement → Statement
statement_by (Token kind.AtPrefix) s = at_prefix
statement_by (Token kind.AtBase) s = at_base
statement_by (Token kind.Prefix) s = sparql_prefix
statement_by (Token kind.Base) s = sparql_base
statement_by t s = statement (triples_in s)

statement_back : (s : Statement) → statement_by (statement_head s) s ≡ s
statement_back at_prefix = refl
statement_back at_base = refl
statement_back sparql_prefix = refl
statement_back sparql_base = refl
statement_back (statement (about (subject_iri iri_ref) q)) = refl
statement_back (statement (about (subject_iri pname_ln) q)) = refl
statement_back (statement (about (subject_iri pname_ns) q)) = refl
statement_back (statement (about subject_label q)) = refl
statement_back (statement (about subject_anon q)) = refl
statement_back (statement (about (subject_collection os) q)) = refl
statement_back (statement (about subject_variable q)) = refl
statement_back (statement (lone_list q)) = refl
statement_back (statement (about_list q p)) = refl

statement_is : (s u : Statement) (r r' : List Symbol) → statement_symbols s r ≡ statement_symbols u r'
    → statement_by (statement_head s) u ≡ u
statement_is s u r r' e =
    let heads : statement_head s ≡ statement_head u = sym (statement_first s r) ∙ ap head e ∙ statement_first u r' in
    ap (λ t. statement_by t u) heads ∙ statement_back u

triples_statement : (x : Triples) (u : Statement) → statement_by (triples_head x) u ≡ statement (triples_in u)
triples_statement (about (subject_iri iri_ref) q) u = refl
triples_statement (about (subject_iri pname_ln) q) u = refl
triples_statement (about (subject_iri pname_ns) q) u = refl
triples_statement (about subject_label q) u = refl
triples_statement (about subject_anon q) u = refl
triples_statement (about (subject_collection os) q) u = refl
triples_statement (about subject_variable q) u = refl
triples_statement (lone_list q) u = refl
triples_statement (about_list q p) u = refl

-- No object begins with what continues or ends one.
object_adds : (o : Object) → adds_to_string (object_head o) ≡ false
object_adds (iri iri_ref) = refl
object_adds (iri pname_ln) = refl
object_adds (iri pname_ns) = refl
object_adds label = refl
object_adds anon = refl
object_adds (collection os) = refl
object_adds (property_list q) = refl
object_adds (literal string) = refl
object_adds (literal tagged_string) = refl
object_adds (literal (typed_string i)) = refl
object_adds (literal integer) = refl
object_adds (literal decimal) = refl
object_adds (literal double) = refl
object_adds (literal true_word) = refl
object_adds (literal false_word) = refl
object_adds variable = refl
object_adds (formula f) = refl

abbrev is_round : Symbol → Bool
is_round (Token kind.CloseRound) = true
is_round t = false

object_round : (o : Object) → is_round (object_head o) ≡ false
object_round (iri iri_ref) = refl
object_round (iri pname_ln) = refl
object_round (iri pname_ns) = refl
object_round label = refl
object_round anon = refl
object_round (collection os) = refl
object_round (property_list q) = refl
object_round (literal string) = refl
object_round (literal tagged_string) = refl
object_round (literal (typed_string i)) = refl
object_round (literal integer) = refl
object_round (literal decimal) = refl
object_round (literal double) = refl
object_round (literal true_word) = refl
object_round (literal false_word) = refl
object_round variable = refl
object_round (formula f) = refl

round_object : (o : Object) (r r' : List Symbol) → head r ≡ Token kind.CloseRound → r ≡ object_symbols o r' → ⊥
round_object o r r' c e =
    clash (ap is_round (sym c ∙ ap head e ∙ object_first o r') ∙ object_round o)

abbrev is_square : Symbol → Bool
is_square (Token kind.OpenSquare) = true
is_square t = false

subject_square : (s : Subject) → is_square (subject_head s) ≡ false
subject_square (subject_iri iri_ref) = refl
subject_square (subject_iri pname_ln) = refl
subject_square (subject_iri pname_ns) = refl
subject_square subject_label = refl
subject_square subject_anon = refl
subject_square (subject_collection os) = refl
subject_square subject_variable = refl

square_subject : (s : Subject) (r r' : List Symbol) → subject_symbols s r ≡ Token kind.OpenSquare ∷ r' → ⊥
square_subject s r r' e =
    clash (sym (ap is_square (sym (subject_first s r) ∙ ap head e)) ∙ subject_square s)

abbrev is_brace : Symbol → Bool
is_brace (Token kind.CloseBrace) = true
is_brace t = false

triples_brace : (x : Triples) → is_brace (triples_head x) ≡ false
triples_brace (about (subject_iri iri_ref) q) = refl
triples_brace (about (subject_iri pname_ln) q) = refl
triples_brace (about (subject_iri pname_ns) q) = refl
triples_brace (about subject_label q) = refl
triples_brace (about subject_anon q) = refl
triples_brace (about (subject_collection os) q) = refl
triples_brace (about subject_variable q) = refl
triples_brace (lone_list q) = refl
triples_brace (about_list q p) = refl

brace_triples : (x : Triples) (r r' : List Symbol) → head r ≡ Token kind.CloseBrace → r ≡ triples_symbols x r' → ⊥
brace_triples x r r' c e =
    clash (ap is_brace (sym c ∙ ap head e ∙ triples_first x r') ∙ triples_brace x)

-- What follows a part that may be empty.
elements_add : (os : Objects) (r : List Symbol) → head r ≡ Token kind.CloseRound → adds_to_string (head (element_symbols os r)) ≡ false
elements_add none r c = ap adds_to_string c
elements_add (more o os) r c = ap adds_to_string (object_first o (element_symbols os r)) ∙ object_adds o

others_add : (os : Objects) (r : List Symbol) → adds_object (head r) ≡ false → adds_to_string (head (other_symbols os r)) ≡ false
others_add none r c = object_string (head r) c
others_add (more o os) r c = refl

property_adds : (ps : Properties) (r : List Symbol) → adds_list (head r) ≡ false → adds_object (head (property_symbols ps r)) ≡ false
property_adds end r c = list_object (head r) c
property_adds (empty ps) r c = refl
property_adds (also q) r c = refl

no_verb : (t : Symbol) → adds_list t ≡ false → is_verb t ≡ false
no_verb (Token kind.IriRef) e = e
no_verb (Token kind.PnameLn) e = e
no_verb (Token kind.PnameNs) e = e
no_verb (Token kind.A) e = e
no_verb (Token kind.Variable) e = e
no_verb t e = refl

property_verb : (ps : Properties) (r : List Symbol) → adds_list (head r) ≡ false → is_verb (head (property_symbols ps r)) ≡ false
property_verb end r c = no_verb (head r) c
property_verb (empty ps) r c = refl
property_verb (also q) r c = refl

list_verb : (q : PredicateObjectList) (r : List Symbol) → is_verb (head (list_symbols q r)) ≡ true
list_verb (predicates v o os ps) r = verb_is v

tail_adds : (t : Tail) (r : List Symbol) → head r ≡ Token kind.CloseBrace → adds_list (head (tail_symbols t r)) ≡ false
tail_adds last r c = ap adds_list c
tail_adds (dot f) r c = refl

comma_adds : (r r' : List Symbol) → adds_object (head r) ≡ false → r ≡ Token kind.Comma ∷ r' → ⊥
comma_adds r r' c e = clash (sym (ap (λ z. adds_object (head z)) e) ∙ c)

semicolon_adds : (r r' : List Symbol) → adds_list (head r) ≡ false → r ≡ Token kind.Semicolon ∷ r' → ⊥
semicolon_adds r r' c e = clash (sym (ap (λ z. adds_list (head z)) e) ∙ c)

property_list_apart : (ps : Properties) (q : PredicateObjectList) (r r' : List Symbol) → adds_list (head r) ≡ false
    → property_symbols ps r ≡ list_symbols q r' → ⊥
property_list_apart ps q r r' c e =
    clash (sym (ap (λ z. is_verb (head z)) e ∙ list_verb q r') ∙ property_verb ps r c)

list_adds : (q : PredicateObjectList) (r r' : List Symbol) → adds_list (head r) ≡ false → r ≡ list_symbols q r' → ⊥
list_adds q r r' c e = verb_list (head r) (ap (λ z. is_verb (head z)) e ∙ list_verb q r') c

brace_dot : (r r' : List Symbol) → head r ≡ Token kind.CloseBrace → r ≡ Token kind.Dot ∷ r' → ⊥
brace_dot r r' c e = clash (sym (ap is_brace c) ∙ ap (λ z. is_brace (head z)) e)

mutual
  same_subject : (s u : Subject) (r r' : List Symbol) → subject_symbols s r ≡ subject_symbols u r' → (s ≡ u) × (r ≡ r')
  same_subject (subject_iri i) u r r' e =
      let is : subject_iri i ≡ u = sym (iri_subject i u) ∙ subject_is (subject_iri i) u r r' e in
      (is, ap tail (e ∙ ap (λ z. subject_symbols z r') (sym is)))
  same_subject subject_label u r r' e =
      let is = subject_is subject_label u r r' e in
      (is, ap tail (e ∙ ap (λ z. subject_symbols z r') (sym is)))
  same_subject subject_anon u r r' e =
      let is = subject_is subject_anon u r r' e in
      (is, ap tail (e ∙ ap (λ z. subject_symbols z r') (sym is)))
  same_subject (subject_collection os) u r r' e =
      let is = subject_is (subject_collection os) u r r' e in
      let got = same_elements os (subject_elements u) (Token kind.CloseRound ∷ r) (Token kind.CloseRound ∷ r') refl refl
      (ap tail (e ∙ ap (λ z. subject_symbols z r') (sym is))) in
      (ap subject_collection got.0 ∙ is, ap tail got.1)
  same_subject subject_variable u r r' e =
      let is = subject_is subject_variable u r r' e in
      (is, ap tail (e ∙ ap (λ z. subject_symbols z r') (sym is)))

  same_object : (o a : Object) (r r' : List Symbol) → adds_to_string (head r) ≡ false → adds_to_string (head r') ≡ false
      → object_symbols o r ≡ object_symbols a r' → (o ≡ a) × (r ≡ r')
  same_object (iri i) a r r' c c' e =
      let is : iri i ≡ a = sym (iri_object i a) ∙ object_is (iri i) a r r' e in
      (is, ap tail (e ∙ ap (λ z. object_symbols z r') (sym is)))
  same_object label a r r' c c' e =
      let is = object_is label a r r' e in
      (is, ap tail (e ∙ ap (λ z. object_symbols z r') (sym is)))
  same_object anon a r r' c c' e =
      let is = object_is anon a r r' e in
      (is, ap tail (e ∙ ap (λ z. object_symbols z r') (sym is)))
  same_object (collection os) a r r' c c' e =
      let is = object_is (collection os) a r r' e in
      let got = same_elements os (elements_of a) (Token kind.CloseRound ∷ r) (Token kind.CloseRound ∷ r') refl refl
      (ap tail (e ∙ ap (λ z. object_symbols z r') (sym is))) in
      (ap collection got.0 ∙ is, ap tail got.1)
  same_object (property_list q) a r r' c c' e =
      let is = object_is (property_list q) a r r' e in
      let got = same_list q (list_of a) (Token kind.CloseSquare ∷ r) (Token kind.CloseSquare ∷ r') refl refl
      (ap tail (e ∙ ap (λ z. object_symbols z r') (sym is))) in
      (ap property_list got.0 ∙ is, ap tail got.1)
  same_object (literal l) a r r' c c' e = same_of_literal l a r r' c c' e
  same_object variable a r r' c c' e =
      let is = object_is variable a r r' e in
      (is, ap tail (e ∙ ap (λ z. object_symbols z r') (sym is)))
  same_object (formula f) a r r' c c' e =
      let is = object_is (formula f) a r r' e in
      let got = same_formula f (formula_of a) (Token kind.CloseBrace ∷ r) (Token kind.CloseBrace ∷ r') refl refl
      (ap tail (e ∙ ap (λ z. object_symbols z r') (sym is))) in
      (ap formula got.0 ∙ is, ap tail got.1)

  same_elements : (os as' : Objects) (r r' : List Symbol) → head r ≡ Token kind.CloseRound → head r' ≡ Token kind.CloseRound
      → element_symbols os r ≡ element_symbols as' r' → (os ≡ as') × (r ≡ r')
  same_elements none none r r' c c' e = (refl, e)
  same_elements none (more a as') r r' c c' e = absurd (round_object a r (element_symbols as' r') c e)
  same_elements (more o os) none r r' c c' e = absurd (round_object o r' (element_symbols os r) c' (sym e))
  same_elements (more o os) (more a as') r r' c c' e =
      let one = same_object o a (element_symbols os r) (element_symbols as' r') (elements_add os r c) (elements_add as' r' c') e in
      let others = same_elements os as' r r' c c' one.1 in
      (ap (λ z. more z os) one.0 ∙ ap (more a) others.0, others.1)

  same_others : (os as' : Objects) (r r' : List Symbol) → adds_object (head r) ≡ false → adds_object (head r') ≡ false
      → other_symbols os r ≡ other_symbols as' r' → (os ≡ as') × (r ≡ r')
  same_others none none r r' c c' e = (refl, e)
  same_others none (more a as') r r' c c' e = absurd (comma_adds r (object_symbols a (other_symbols as' r')) c e)
  same_others (more o os) none r r' c c' e = absurd (comma_adds r' (object_symbols o (other_symbols os r)) c' (sym e))
  same_others (more o os) (more a as') r r' c c' e =
      let one = same_object o a (other_symbols os r) (other_symbols as' r') (others_add os r c) (others_add as' r' c') (ap tail e) in
      let others = same_others os as' r r' c c' one.1 in
      (ap (λ z. more z os) one.0 ∙ ap (more a) others.0, others.1)

  same_list : (q p : PredicateObjectList) (r r' : List Symbol) → adds_list (head r) ≡ false → adds_list (head r') ≡ false
      → list_symbols q r ≡ list_symbols p r' → (q ≡ p) × (r ≡ r')
  same_list (predicates v o os ps) (predicates w a as' ks) r r' c c' e =
      let verbs = same_verb v w (ap head e) in
      let one = same_object o a (other_symbols os (property_symbols ps r)) (other_symbols as' (property_symbols ks r'))
      (others_add os (property_symbols ps r) (property_adds ps r c)) (others_add as' (property_symbols ks r') (property_adds ks r' c')) (ap tail e) in
      let others = same_others os as' (property_symbols ps r) (property_symbols ks r') (property_adds ps r c) (property_adds ks r' c') one.1 in
      let more_of = same_properties ps ks r r' c c' others.1 in (
        ap (λ z. predicates z o os ps) verbs ∙ ap (λ z. predicates w z os ps) one.0 ∙ ap (λ z. predicates w a z ps) others.0
            ∙ ap (λ z. predicates w a as' z) more_of.0,
        more_of.1,
      )

  same_properties : (ps ks : Properties) (r r' : List Symbol) → adds_list (head r) ≡ false → adds_list (head r') ≡ false
      → property_symbols ps r ≡ property_symbols ks r' → (ps ≡ ks) × (r ≡ r')
  same_properties end end r r' c c' e = (refl, e)
  same_properties end (empty ks) r r' c c' e = absurd (semicolon_adds r (property_symbols ks r') c e)
  same_properties end (also p) r r' c c' e = absurd (semicolon_adds r (list_symbols p r') c e)
  same_properties (empty ps) end r r' c c' e = absurd (semicolon_adds r' (property_symbols ps r) c' (sym e))
  same_properties (empty ps) (empty ks) r r' c c' e =
      let got = same_properties ps ks r r' c c' (ap tail e) in
      (ap empty got.0, got.1)
  same_properties (empty ps) (also p) r r' c c' e = absurd (property_list_apart ps p r r' c (ap tail e))
  same_properties (also q) end r r' c c' e = absurd (semicolon_adds r' (list_symbols q r) c' (sym e))
  same_properties (also q) (empty ks) r r' c c' e = absurd (property_list_apart ks q r' r c' (ap tail (sym e)))
  same_properties (also q) (also p) r r' c c' e =
      let got = same_list q p r r' c c' (ap tail e) in
      (ap also got.0, got.1)

  same_triples : (x y : Triples) (r r' : List Symbol) → adds_list (head r) ≡ false → adds_list (head r') ≡ false
      → triples_symbols x r ≡ triples_symbols y r' → (x ≡ y) × (r ≡ r')
  same_triples (about s q) (about u p) r r' c c' e =
      let one = same_subject s u (list_symbols q r) (list_symbols p r') e in
      let got = same_list q p r r' c c' one.1 in
      (ap (λ z. about z q) one.0 ∙ ap (about u) got.0, got.1)
  same_triples (about s q) (lone_list p) r r' c c' e =
      absurd (square_subject s (list_symbols q r) (list_symbols p (Token kind.CloseSquare ∷ r')) e)
  same_triples (about s q) (about_list p k) r r' c c' e =
      absurd (square_subject s (list_symbols q r) (list_symbols p (Token kind.CloseSquare ∷ list_symbols k r')) e)
  same_triples (lone_list q) (about u p) r r' c c' e =
      absurd (square_subject u (list_symbols p r') (list_symbols q (Token kind.CloseSquare ∷ r)) (sym e))
  same_triples (lone_list q) (lone_list p) r r' c c' e =
      let got = same_list q p (Token kind.CloseSquare ∷ r) (Token kind.CloseSquare ∷ r') refl refl (ap tail e) in
      (ap lone_list got.0, ap tail got.1)
  same_triples (lone_list q) (about_list p k) r r' c c' e =
      let got = same_list q p (Token kind.CloseSquare ∷ r) (Token kind.CloseSquare ∷ list_symbols k r') refl refl (ap tail e) in
      absurd (list_adds k r r' c (ap tail got.1))
  same_triples (about_list q k) (about u p) r r' c c' e =
      absurd (square_subject u (list_symbols p r') (list_symbols q (Token kind.CloseSquare ∷ list_symbols k r)) (sym e))
  same_triples (about_list q k) (lone_list p) r r' c c' e =
      let got = same_list q p (Token kind.CloseSquare ∷ list_symbols k r) (Token kind.CloseSquare ∷ r') refl refl (ap tail e) in
      absurd (list_adds k r' r c' (sym (ap tail got.1)))
  same_triples (about_list q k) (about_list p j) r r' c c' e =
      let one = same_list q p (Token kind.CloseSquare ∷ list_symbols k r) (Token kind.CloseSquare ∷ list_symbols j r') refl refl (ap tail e) in
      let got = same_list k j r r' c c' (ap tail one.1) in
      (ap (λ z. about_list z k) one.0 ∙ ap (about_list p) got.0, got.1)

  same_formula : (f g : Formula) (r r' : List Symbol) → head r ≡ Token kind.CloseBrace → head r' ≡ Token kind.CloseBrace
      → formula_symbols f r ≡ formula_symbols g r' → (f ≡ g) × (r ≡ r')
  same_formula void void r r' c c' e = (refl, e)
  same_formula void (triples y k) r r' c c' e = absurd (brace_triples y r (tail_symbols k r') c e)
  same_formula (triples x t) void r r' c c' e = absurd (brace_triples x r' (tail_symbols t r) c' (sym e))
  same_formula (triples x t) (triples y k) r r' c c' e =
      let one = same_triples x y (tail_symbols t r) (tail_symbols k r') (tail_adds t r c) (tail_adds k r' c') e in
      let got = same_tail t k r r' c c' one.1 in
      (ap (λ z. triples z t) one.0 ∙ ap (triples y) got.0, got.1)

  same_tail : (t k : Tail) (r r' : List Symbol) → head r ≡ Token kind.CloseBrace → head r' ≡ Token kind.CloseBrace
      → tail_symbols t r ≡ tail_symbols k r' → (t ≡ k) × (r ≡ r')
  same_tail last last r r' c c' e = (refl, e)
  same_tail last (dot g) r r' c c' e = absurd (brace_dot r (formula_symbols g r') c e)
  same_tail (dot f) last r r' c c' e = absurd (brace_dot r' (formula_symbols f r) c' (sym e))
  same_tail (dot f) (dot g) r r' c c' e =
      let got = same_formula f g r r' c c' (ap tail e) in
      (ap dot got.0, got.1)

same_statement : (s u : Statement) (r r' : List Symbol) → statement_symbols s r ≡ statement_symbols u r' → (s ≡ u) × (r ≡ r')
same_statement at_prefix u r r' e =
    let is = statement_is at_prefix u r r' e in
    (is, ap (λ z. tail (tail (tail (tail z)))) (e ∙ ap (λ z. statement_symbols z r') (sym is)))
same_statement at_base u r r' e =
    let is = statement_is at_base u r r' e in
    (is, ap (λ z. tail (tail (tail z))) (e ∙ ap (λ z. statement_symbols z r') (sym is)))
same_statement sparql_prefix u r r' e =
    let is = statement_is sparql_prefix u r r' e in
    (is, ap (λ z. tail (tail (tail z))) (e ∙ ap (λ z. statement_symbols z r') (sym is)))
same_statement sparql_base u r r' e =
    let is = statement_is sparql_base u r r' e in
    (is, ap (λ z. tail (tail z)) (e ∙ ap (λ z. statement_symbols z r') (sym is)))
same_statement (statement x) u r r' e =
    let is : statement (triples_in u) ≡ u = sym (triples_statement x u) ∙ statement_is (statement x) u r r' e in
    let got = same_triples x (triples_in u) (Token kind.Dot ∷ r) (Token kind.Dot ∷ r') refl refl
    (e ∙ ap (λ z. statement_symbols z r') (sym is)) in
    (ap statement got.0 ∙ is, ap tail got.1)

-- No statement begins with nothing.
abbrev is_nothing : Symbol → Bool
is_nothing Data = true
is_nothing t = false

statement_some : (s : Statement) → is_nothing (statement_head s) ≡ false
statement_some at_prefix = refl
statement_some at_base = refl
statement_some sparql_prefix = refl
statement_some sparql_base = refl
statement_some (statement (about (subject_iri iri_ref) q)) = refl
statement_some (statement (about (subject_iri pname_ln) q)) = refl
statement_some (statement (about (subject_iri pname_ns) q)) = refl
statement_some (statement (about subject_label q)) = refl
statement_some (statement (about subject_anon q)) = refl
statement_some (statement (about (subject_collection os) q)) = refl
statement_some (statement (about subject_variable q)) = refl
statement_some (statement (lone_list q)) = refl
statement_some (statement (about_list q p)) = refl

nothing_statement : (s : Statement) (r : List Symbol) → [] ≡ statement_symbols s r → ⊥
nothing_statement s r e = clash (ap is_nothing (ap head e ∙ statement_first s r) ∙ statement_some s)

same_document : (ss us : List Statement) → document_symbols ss [] ≡ document_symbols us [] → ss ≡ us
same_document [] [] e = refl
same_document [] (u ∷ us) e = absurd (nothing_statement u (document_symbols us []) e)
same_document (s ∷ ss) [] e = absurd (nothing_statement s (document_symbols ss []) (sym e))
same_document (s ∷ ss) (u ∷ us) e =
    let one = same_statement s u (document_symbols ss []) (document_symbols us []) e in
    let got = same_document ss us one.1 in
    ap (λ z. z ∷ ss) one.0 ∙ ap (λ z. u ∷ z) got

abbrev is_insert : Symbol → Bool
is_insert Insert = true
is_insert t = false

same_operation : (o a : Operation) (r r' : List Symbol) → operation_symbols o r ≡ operation_symbols a r' → (o ≡ a) × (r ≡ r')
same_operation (insert_data f) (insert_data g) r r' e =
    let got = same_formula f g (Token kind.CloseBrace ∷ r) (Token kind.CloseBrace ∷ r') refl refl (ap (λ z. tail (tail (tail z))) e) in
    (ap insert_data got.0, ap tail got.1)
same_operation (insert_data f) (delete_data g) r r' e = absurd (clash (ap (λ z. is_insert (head z)) e))
same_operation (delete_data f) (insert_data g) r r' e = absurd (clash (sym (ap (λ z. is_insert (head z)) e)))
same_operation (delete_data f) (delete_data g) r r' e =
    let got = same_formula f g (Token kind.CloseBrace ∷ r) (Token kind.CloseBrace ∷ r') refl refl (ap (λ z. tail (tail (tail z))) e) in
    (ap delete_data got.0, ap tail got.1)

abbrev is_operation : Symbol → Bool
is_operation Insert = true
is_operation Delete = true
is_operation t = false

operation_starts : (o : Operation) (r : List Symbol) → is_operation (head (operation_symbols o r)) ≡ true
operation_starts (insert_data f) r = refl
operation_starts (delete_data f) r = refl

-- Nothing else begins as an operation does.
no_operation_first : (o : Operation) (r ts : List Symbol) → is_operation (head ts) ≡ false → operation_symbols o r ≡ ts → ⊥
no_operation_first o r ts c e = clash (sym (operation_starts o r) ∙ ap (λ z. is_operation (head z)) e ∙ c)

abbrev is_base : Symbol → Bool
is_base (Token kind.Base) = true
is_base t = false

abbrev is_some : Symbol → Bool
is_some Data = false
is_some t = true

same_update : (u w : Update) → update_symbols u [] ≡ update_symbols w [] → u ≡ w
same_update no_operation no_operation e = refl
same_update no_operation (update_base w) e = absurd (clash (sym (ap (λ z. is_some (head z)) e)))
same_update no_operation (update_prefix w) e = absurd (clash (sym (ap (λ z. is_some (head z)) e)))
same_update no_operation (last_operation a) e = absurd (no_operation_first a [] [] refl (sym e))
same_update no_operation (operation_and a w) e =
    absurd (no_operation_first a (Token kind.Semicolon ∷ update_symbols w []) [] refl (sym e))
same_update (update_base u) no_operation e = absurd (clash (ap (λ z. is_some (head z)) e))
same_update (update_base u) (update_base w) e = ap update_base (same_update u w (ap (λ z. tail (tail z)) e))
same_update (update_base u) (update_prefix w) e = absurd (clash (ap (λ z. is_base (head z)) e))
same_update (update_base u) (last_operation a) e =
    absurd (no_operation_first a [] (update_symbols (update_base u) []) refl (sym e))
same_update (update_base u) (operation_and a w) e =
    absurd (no_operation_first a (Token kind.Semicolon ∷ update_symbols w []) (update_symbols (update_base u) []) refl (sym e))
same_update (update_prefix u) no_operation e = absurd (clash (ap (λ z. is_some (head z)) e))
same_update (update_prefix u) (update_base w) e = absurd (clash (sym (ap (λ z. is_base (head z)) e)))
same_update (update_prefix u) (update_prefix w) e = ap update_prefix (same_update u w (ap (λ z. tail (tail (tail z))) e))
same_update (update_prefix u) (last_operation a) e =
    absurd (no_operation_first a [] (update_symbols (update_prefix u) []) refl (sym e))
same_update (update_prefix u) (operation_and a w) e =
    absurd (no_operation_first a (Token kind.Semicolon ∷ update_symbols w []) (update_symbols (update_prefix u) []) refl (sym e))
same_update (last_operation o) no_operation e = absurd (no_operation_first o [] [] refl e)
same_update (last_operation o) (update_base w) e =
    absurd (no_operation_first o [] (update_symbols (update_base w) []) refl e)
same_update (last_operation o) (update_prefix w) e =
    absurd (no_operation_first o [] (update_symbols (update_prefix w) []) refl e)
same_update (last_operation o) (last_operation a) e = ap last_operation (same_operation o a [] [] e).0
same_update (last_operation o) (operation_and a w) e =
    let got = same_operation o a [] (Token kind.Semicolon ∷ update_symbols w []) e in
    absurd (clash (sym (ap (λ z. is_some (head z)) got.1)))
same_update (operation_and o u) no_operation e =
    absurd (no_operation_first o (Token kind.Semicolon ∷ update_symbols u []) [] refl e)
same_update (operation_and o u) (update_base w) e =
    absurd (no_operation_first o (Token kind.Semicolon ∷ update_symbols u []) (update_symbols (update_base w) []) refl e)
same_update (operation_and o u) (update_prefix w) e =
    absurd (no_operation_first o (Token kind.Semicolon ∷ update_symbols u []) (update_symbols (update_prefix w) []) refl e)
same_update (operation_and o u) (last_operation a) e =
    let got = same_operation o a (Token kind.Semicolon ∷ update_symbols u []) [] e in
    absurd (clash (ap (λ z. is_some (head z)) got.1))
same_update (operation_and o u) (operation_and a w) e =
    let one = same_operation o a (Token kind.Semicolon ∷ update_symbols u []) (Token kind.Semicolon ∷ update_symbols w []) e in
    let got = same_update u w (ap tail one.1) in
    ap (λ z. operation_and z u) one.0 ∙ ap (operation_and a) got

pub same_tree : (start : Start) (these those : Tree start) → tree_symbols start these ≡ tree_symbols start those → these ≡ those
same_tree start_of.Document these those e = same_document these those e
same_tree start_of.Patch these those e = same_document these those e
same_tree start_of.Update these those e = same_update these those e
