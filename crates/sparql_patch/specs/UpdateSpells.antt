-- Which bytes are an update of SPARQL data, and what it names (SPARQL 1.1 Update, sections 3.1.1
-- and 3.1.2).
use Rattle.std.specs.Prelude.{◌≡◌, ◌||◌, ℕ, Bool, true, false, List, [], ◌∷◌, Option, Some, map}
use Rattle.rdf_graph.specs.declared.term.Term.{Term}
use Rattle.rdf_graph.specs.declared.term.Term.TheVariants.{Blank}
use Rattle.rdf_graph.specs.Size.{triples_size}
use Rattle.turtle_grammar.specs.declared.production.Node.{Node}
use Rattle.turtle_grammar.specs.declared.production.Within.{Within}
use Rattle.turtle_grammar.specs.declared.production.Within.TheVariants as within
use Rattle.turtle_grammar.specs.declared.production.SymbolicTriple.{SymbolicTriple}
use Rattle.turtle_grammar.specs.declared.production.Production.{Production}
use Rattle.turtle_grammar.specs.declared.production.Production.TheVariants.{Prefix, Base, Triple}
use Rattle.turtle_grammar.specs.declared.symbol.Start.TheVariants.{Update}
use Rattle.turtle_reader.specs.declared.meaning.Meaning.{Meaning}
use Rattle.turtle_reader.specs.declared.referent.Referent.{Referent}
use Rattle.turtle_reader.specs.declared.referent.Referent.TheVariants as referent_of
use Rattle.turtle_reader.specs.Handed.{AreMadeOf}
use Rattle.turtle_reader.specs.Referents.{referent}
use Rattle.turtle_reader.specs.Texts.{IsText}
use Rattle.sparql_patch.specs.declared.named.Named.{Named}

-- Whether what a node refers to is a blank node: a label, ANON, a bracket, or a cell of a
-- collection.
abbrev pub is_blank_referent : Option Referent → Bool
is_blank_referent (Some (referent_of.Unnamed number)) = true
is_blank_referent (Some (referent_of.Term (Blank label))) = true
is_blank_referent other = false

abbrev pub has_blank_node : List Meaning → SymbolicTriple → Bool
has_blank_node meanings t = is_blank_referent (referent meanings t.subject)
    || (is_blank_referent (referent meanings t.predicate)
    || is_blank_referent (referent meanings t.object))

-- whether a blank node stands in a triple of these productions
abbrev pub has_blank : List Meaning → List Production → Bool
has_blank meanings [] = false
has_blank meanings (Prefix name iri ∷ productions) = has_blank meanings productions
has_blank meanings (Base iri ∷ productions) = has_blank meanings productions
has_blank meanings (Triple t ∷ productions) =
    has_blank_node meanings t || has_blank meanings productions

-- whether the word before the formula of a triple is INSERT
abbrev pub is_insert : Within → Bool
is_insert within.Insert = true
is_insert other = false

-- what a node refers to is this term
abbrev pub IsTermOf : List Meaning → Node → Term → Type 0
IsTermOf meanings node term = referent meanings node ≡ Some (referent_of.Term term)

-- The naming is the triple of these nodes, with the word before its formula.
pub record IsNamingOf (meanings : List Meaning) (symbolic : SymbolicTriple) (naming : Named)
    : Type 0 where
  pub subject : IsTermOf meanings symbolic.subject naming.triple.s
  pub predicate : IsTermOf meanings symbolic.predicate naming.triple.p
  pub object : IsTermOf meanings symbolic.object naming.triple.o
  pub word : naming.insert ≡ is_insert symbolic.within

-- The namings of productions, in their order.
abbrev pub AreNamingsOf : List Meaning → List Production → List Named → Type 0
AreNamingsOf meanings productions named = AreMadeOf (IsNamingOf meanings) productions named

-- The bytes are an update under a base: their lexemes derive one, and each has a meaning under the
-- directives before it.
abbrev pub IsUpdate : List ℕ → List ℕ → List Production → List Meaning → Type 0
IsUpdate base bytes productions meanings = IsText Update base bytes productions meanings

-- The bytes are an update without a blank node, which names these triples in this order.
pub record Names (base bytes : List ℕ) (named : List Named) : Type 0 where
  pub productions : List Production
  pub meanings : List Meaning
  pub is_update : IsUpdate base bytes productions meanings
  pub without_blank : has_blank meanings productions ≡ false
  pub are_named : AreNamingsOf meanings productions named

-- the encoded size of the named triples, repeats included
abbrev pub named_size : List Named → ℕ
named_size named = triples_size (map (λ x. x.triple) named)
