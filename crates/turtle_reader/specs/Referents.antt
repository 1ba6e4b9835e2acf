-- What nodes refer to, by the meanings of the lexemes that they name (RDF 1.1 Turtle, section 7).
use Rattle.std.specs.Prelude.{◌≡◌, List, Option, Some, None, slice_get}
use Rattle.rdf_graph.specs.declared.term.Term.TheVariants.{Iri, Literal, Tagged as TaggedTerm}
use Rattle.turtle_grammar.specs.declared.production.Node.{Node}
use Rattle.turtle_grammar.specs.declared.production.Node.TheVariants as node
use Rattle.turtle_grammar.specs.declared.production.SymbolicTriple.{SymbolicTriple}
use Rattle.turtle_terms.specs.declared.vocabulary.Word.TheVariants.{RdfNil, RdfFirst, RdfRest}
use Rattle.turtle_terms.specs.Vocabulary.{word_text}
use Rattle.turtle_reader.specs.declared.meaning.Meaning.{Meaning}
use Rattle.turtle_reader.specs.declared.meaning.Meaning.TheVariants.{Term as TermMeaning, Language}
use Rattle.turtle_reader.specs.declared.meaning.Meaning.TheVariants.{Variable as VariableMeaning}
use Rattle.turtle_reader.specs.declared.referent.Referent.{Referent}
use Rattle.turtle_reader.specs.declared.referent.Referent.TheVariants as referent_of
use Rattle.turtle_reader.specs.declared.referent.ResolvedTriple.{ResolvedTriple}

-- what a lexeme refers to by itself, by its meaning
abbrev pub term_referent : Option Meaning → Option Referent
term_referent (Some (TermMeaning term)) = Some (referent_of.Term term)
term_referent (Some (VariableMeaning name)) = Some (referent_of.Variable name)
term_referent meaning = None

-- a String with the tag of a language
abbrev pub tagged : Option Meaning → Option Meaning → Option Referent
tagged (Some (TermMeaning (Literal lexical datatype))) (Some (Language tag)) =
    Some (referent_of.Term (TaggedTerm lexical tag))
tagged string tag = None

-- a String with a datatype
abbrev pub typed : Option Meaning → Option Meaning → Option Referent
typed (Some (TermMeaning (Literal lexical datatype))) (Some (TermMeaning (Iri iri))) =
    Some (referent_of.Term (Literal lexical iri))
typed string datatype = None

-- What a node refers to, where these are the meanings of the lexemes.
abbrev pub referent : List Meaning → Node → Option Referent
referent meanings (node.Token i) = term_referent (slice_get meanings i)
referent meanings (node.Tagged i k) = tagged (slice_get meanings i) (slice_get meanings k)
referent meanings (node.Typed i k) = typed (slice_get meanings i) (slice_get meanings k)
referent meanings (node.Unnamed number) = Some (referent_of.Unnamed number)
referent meanings (node.Formula index) = Some (referent_of.Formula index)
referent meanings node.Nil = Some (referent_of.Term (Iri (word_text RdfNil)))
referent meanings node.First = Some (referent_of.Term (Iri (word_text RdfFirst)))
referent meanings node.Rest = Some (referent_of.Term (Iri (word_text RdfRest)))

pub record IsResolved (meanings : List Meaning) (triple : SymbolicTriple) (resolved : ResolvedTriple)
    : Type 0 where
  pub subject : referent meanings triple.subject ≡ Some resolved.subject
  pub predicate : referent meanings triple.predicate ≡ Some resolved.predicate
  pub object : referent meanings triple.object ≡ Some resolved.object
  pub within : resolved.within ≡ triple.within
  pub end : resolved.end ≡ triple.end
