-- The base and the prefixes in force (RDF 1.1 Turtle, sections 2.4 and 6.3): the IRI of a directive
-- holds for the tokens after it.
use Rattle.std.specs.Prelude.{ℕ, List, ◌∷◌, Option, Some, None}
use Rattle.std.specs.FinMap as map
use Rattle.rdf_graph.specs.declared.term.Term.TheVariants.{Iri}
use Rattle.turtle_lex.specs.declared.token.TokenKind.TheVariants as Kind
use Rattle.turtle_grammar.specs.declared.symbol.Symbol.{Symbol}
use Rattle.turtle_grammar.specs.declared.symbol.Symbol.TheVariants.{Token}
use Rattle.turtle_reader.specs.declared.lexeme.Lexeme.{Lexeme}
use Rattle.turtle_reader.specs.declared.meaning.Meaning.{Meaning}
use Rattle.turtle_reader.specs.declared.meaning.Meaning.TheVariants.{Term, Name as NameMeaning}
use Rattle.turtle_reader.specs.declared.context.Directive.{Directive}
use Rattle.turtle_reader.specs.declared.context.Directive.TheVariants.{Nothing, Name, Prefix, Base}
use Rattle.turtle_reader.specs.declared.context.Context.{Context}

-- before the first lexeme
abbrev pub at_start : List ℕ → Context
at_start base = record { base = base; scope = map.empty; directive = Nothing }

abbrev pub with_directive : Directive → Context → Context
with_directive directive c = record { base = c.base; scope = c.scope; directive = directive }

-- the directive that a symbol begins
abbrev pub opened : Symbol → Directive
opened (Token Kind.AtPrefix) = Name
opened (Token Kind.Prefix) = Name
opened (Token Kind.AtBase) = Base
opened (Token Kind.Base) = Base
opened symbol = Nothing

-- the directive after the name of its prefix
abbrev pub named : Meaning → Directive
named (NameMeaning prefix) = Prefix prefix
named meaning = Nothing

-- the IRI that a lexeme means
abbrev pub meant_iri : Meaning → Option (List ℕ)
meant_iri (Term (Iri iri)) = Some iri
meant_iri meaning = None

abbrev pub declared : List ℕ → Context → Option (List ℕ) → Context
declared prefix c (Some iri) =
    record { base = c.base; scope = map.insert c.scope prefix iri; directive = Nothing }
declared prefix c None = with_directive Nothing c

abbrev pub rebased : Context → Option (List ℕ) → Context
rebased c (Some iri) = record { base = iri; scope = c.scope; directive = Nothing }
rebased c None = with_directive Nothing c

-- after a lexeme of this symbol and meaning, where a directive has come so far
abbrev pub advanced : Directive → Context → Symbol → Meaning → Context
advanced Nothing c symbol meaning = with_directive (opened symbol) c
advanced Name c symbol meaning = with_directive (named meaning) c
advanced (Prefix prefix) c symbol meaning = declared prefix c (meant_iri meaning)
advanced Base c symbol meaning = rebased c (meant_iri meaning)

abbrev pub context_after : Context → Lexeme → Meaning → Context
context_after c lexeme meaning = advanced c.directive c lexeme.symbol meaning

-- after lexemes with these meanings
abbrev pub context_from : Context → List Lexeme → List Meaning → Context
context_from c (lexeme ∷ lexemes) (meaning ∷ meanings) =
    context_from (context_after c lexeme meaning) lexemes meanings
context_from c lexemes meanings = c
