-- The first symbols of IRIs, verbs and literals determine them, and what may continue a part.
use Rattle.std.proofs.Common.{◌≡◌, List, [], ◌∷◌, Bool, true, false, refl, sym, ap, ◌∙◌}
use Rattle.turtle_lex.specs.declared.token.TokenKind.TheVariants as kind
use Rattle.turtle_grammar.specs.declared.symbol.Symbol.{Symbol}
use Rattle.turtle_grammar.specs.declared.symbol.Symbol.TheVariants.{Token, Data}
use Rattle.turtle_grammar.specs.Trees.{Iri, iri_ref, pname_ln, pname_ns}
use Rattle.turtle_grammar.specs.Trees.{Literal, string, tagged_string, typed_string, integer}
use Rattle.turtle_grammar.specs.Trees.{decimal, double, true_word, false_word}
use Rattle.turtle_grammar.specs.Trees.{Verb, predicate, a_word, verb_variable}
use Rattle.turtle_grammar.specs.TreeSymbols.{iri_symbol, literal_symbols, verb_symbol}
use Rattle.turtle_grammar.specs.Stacks.{adds_to_string}

pub clash : true ≡ false → ⊥
clash e = cc

-- the first symbol, or one that begins and continues nothing, and what follows it
abbrev pub head : List Symbol → Symbol
head [] = Data
head (x ∷ xs) = x

abbrev pub tail : List Symbol → List Symbol
tail [] = []
tail (x ∷ xs) = xs

-- the symbols that continue what precedes them: objects, and predicateObjectLists
abbrev pub adds_object : Symbol → Bool
adds_object (Token kind.LangTag) = true
adds_object (Token kind.Carets) = true
adds_object (Token kind.Comma) = true
adds_object t = false

abbrev pub adds_list : Symbol → Bool
adds_list (Token kind.LangTag) = true
adds_list (Token kind.Carets) = true
adds_list (Token kind.Comma) = true
adds_list (Token kind.Semicolon) = true
adds_list (Token kind.IriRef) = true
adds_list (Token kind.PnameLn) = true
adds_list (Token kind.PnameNs) = true
adds_list (Token kind.A) = true
adds_list (Token kind.Variable) = true
adds_list t = false

abbrev pub is_verb : Symbol → Bool
is_verb (Token kind.IriRef) = true
is_verb (Token kind.PnameLn) = true
is_verb (Token kind.PnameNs) = true
is_verb (Token kind.A) = true
is_verb (Token kind.Variable) = true
is_verb t = false

pub object_string : (t : Symbol) → adds_object t ≡ false → adds_to_string t ≡ false
object_string (Token kind.LangTag) e = absurd (clash e)
object_string (Token kind.Carets) e = absurd (clash e)
object_string t e = refl

pub list_object : (t : Symbol) → adds_list t ≡ false → adds_object t ≡ false
list_object (Token kind.LangTag) e = absurd (clash e)
list_object (Token kind.Carets) e = absurd (clash e)
list_object (Token kind.Comma) e = absurd (clash e)
list_object t e = refl

pub verb_list : (t : Symbol) → is_verb t ≡ true → adds_list t ≡ false → ⊥
verb_list (Token kind.IriRef) v e = clash e
verb_list (Token kind.PnameLn) v e = clash e
verb_list (Token kind.PnameNs) v e = clash e
verb_list (Token kind.A) v e = clash e
verb_list (Token kind.Variable) v e = clash e
verb_list t v e = clash (sym v)

-- An IRI, a verb and a literal are those of their first symbols.
abbrev pub iri_of : Symbol → Iri
iri_of (Token kind.IriRef) = iri_ref
iri_of (Token kind.PnameLn) = pname_ln
iri_of t = pname_ns

pub iri_back : (i : Iri) → iri_of (iri_symbol i) ≡ i
iri_back iri_ref = refl
iri_back pname_ln = refl
iri_back pname_ns = refl

abbrev pub verb_of : Symbol → Verb
verb_of (Token kind.A) = a_word
verb_of (Token kind.Variable) = verb_variable
verb_of t = predicate (iri_of t)

pub verb_back : (v : Verb) → verb_of (verb_symbol v) ≡ v
verb_back (predicate iri_ref) = refl
verb_back (predicate pname_ln) = refl
verb_back (predicate pname_ns) = refl
verb_back a_word = refl
verb_back verb_variable = refl

pub verb_is : (v : Verb) → is_verb (verb_symbol v) ≡ true
verb_is (predicate iri_ref) = refl
verb_is (predicate pname_ln) = refl
verb_is (predicate pname_ns) = refl
verb_is a_word = refl
verb_is verb_variable = refl

pub same_verb : (v w : Verb) → verb_symbol v ≡ verb_symbol w → v ≡ w
same_verb v w e = sym (verb_back v) ∙ ap verb_of e ∙ verb_back w

abbrev pub string_of : Symbol → Symbol → Literal
string_of (Token kind.LangTag) i = tagged_string
string_of (Token kind.Carets) i = typed_string (iri_of i)
string_of t i = string

abbrev pub literal_of : Symbol → Symbol → Symbol → Literal
literal_of (Token kind.Quoted) t i = string_of t i
literal_of (Token kind.Integer) t i = integer
literal_of (Token kind.Decimal) t i = decimal
literal_of (Token kind.Double) t i = double
literal_of (Token kind.True) t i = true_word
literal_of x t i = false_word

abbrev pub literal_from : List Symbol → Literal
literal_from ts = literal_of (head ts) (head (tail ts)) (head (tail (tail ts)))

pub plain_string : (t i : Symbol) → adds_to_string t ≡ false → string_of t i ≡ string
plain_string (Token kind.LangTag) i e = absurd (clash e)
plain_string (Token kind.Carets) i e = absurd (clash e)
plain_string t i e = refl

pub literal_back : (l : Literal) (r : List Symbol) → adds_to_string (head r) ≡ false → literal_from (literal_symbols l r) ≡ l
literal_back string r e = plain_string (head r) (head (tail r)) e
literal_back tagged_string r e = refl
literal_back (typed_string iri_ref) r e = refl
literal_back (typed_string pname_ln) r e = refl
literal_back (typed_string pname_ns) r e = refl
literal_back integer r e = refl
literal_back decimal r e = refl
literal_back double r e = refl
literal_back true_word r e = refl
literal_back false_word r e = refl

pub literal_rest : (l : Literal) (r r' : List Symbol) → literal_symbols l r ≡ literal_symbols l r' → r ≡ r'
literal_rest string r r' e = ap tail e
literal_rest tagged_string r r' e = ap (λ z. tail (tail z)) e
literal_rest (typed_string i) r r' e = ap (λ z. tail (tail (tail z))) e
literal_rest integer r r' e = ap tail e
literal_rest decimal r r' e = ap tail e
literal_rest double r r' e = ap tail e
literal_rest true_word r r' e = ap tail e
literal_rest false_word r r' e = ap tail e

pub same_literal : (l k : Literal) (r r' : List Symbol) → adds_to_string (head r) ≡ false → adds_to_string (head r') ≡ false
    → literal_symbols l r ≡ literal_symbols k r' → (l ≡ k) × (r ≡ r')
same_literal l k r r' c c' e =
    let is : l ≡ k = sym (literal_back l r c) ∙ ap literal_from e ∙ literal_back k r' c' in
    (is, literal_rest l r r' (e ∙ ap (λ z. literal_symbols z r') (sym is)))
