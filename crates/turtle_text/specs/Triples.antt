-- The triples of a document, by the meanings of its tokens (RDF 1.1 Turtle, section 7).
use Rattle.std.specs.Prelude.{◌≡◌, ℕ, List, Option, Some}
use Rattle.rdf_graph.specs.declared.term.Term.{Term}
use Rattle.rdf_graph.specs.declared.term.Term.TheVariants.{Blank}
use Rattle.rdf_graph.specs.declared.triple.Triple.{Triple as RdfTriple}
use Rattle.turtle_grammar.specs.declared.production.Node.{Node}
use Rattle.turtle_grammar.specs.declared.production.SymbolicTriple.{SymbolicTriple}
use Rattle.turtle_grammar.specs.declared.production.Production.{Production}
use Rattle.turtle_reader.specs.Documents.{IsLabelOf}
use Rattle.turtle_reader.specs.declared.meaning.Meaning.{Meaning}
use Rattle.turtle_reader.specs.declared.referent.Referent.{Referent}
use Rattle.turtle_reader.specs.declared.referent.Referent.TheVariants as referent_of
use Rattle.turtle_reader.specs.declared.referent.ResolvedTriple.{ResolvedTriple}
use Rattle.turtle_reader.specs.Handed.{AreMadeOf, AreEach}
use Rattle.turtle_reader.specs.Referents.{referent}

-- The term of what a node refers to. A document has neither variables nor formulas.
abbrev pub IsReferentTerm : List ℕ → Option Referent → Term → Type 0
IsReferentTerm bytes (Some (referent_of.Term t)) term = term ≡ t
IsReferentTerm bytes (Some (referent_of.Unnamed number)) term =
    (label : List ℕ) × IsLabelOf bytes number label × (term ≡ Blank label)
IsReferentTerm bytes other term = ⊥

-- The term of a node, where these are the meanings of the tokens.
abbrev pub IsNodeTerm : List ℕ → List Meaning → Node → Term → Type 0
IsNodeTerm bytes meanings node term = IsReferentTerm bytes (referent meanings node) term

pub record IsTripleOf (bytes : List ℕ) (meanings : List Meaning) (symbolic : SymbolicTriple)
    (triple : RdfTriple) : Type 0 where
  pub subject : IsNodeTerm bytes meanings symbolic.subject triple.s
  pub predicate : IsNodeTerm bytes meanings symbolic.predicate triple.p
  pub object : IsNodeTerm bytes meanings symbolic.object triple.o

-- The triples of productions, in their order.
abbrev pub AreTriplesOf : List ℕ → List Meaning → List Production → List RdfTriple → Type 0
AreTriplesOf bytes meanings productions triples =
    AreMadeOf (IsTripleOf bytes meanings) productions triples

-- the triple is that of these referents
pub record IsReferentTriple (bytes : List ℕ) (resolved : ResolvedTriple) (triple : RdfTriple)
    : Type 0 where
  pub subject : IsReferentTerm bytes (Some resolved.subject) triple.s
  pub predicate : IsReferentTerm bytes (Some resolved.predicate) triple.p
  pub object : IsReferentTerm bytes (Some resolved.object) triple.o

-- the triples are those of these referents, in their order
abbrev pub AreReferentTriples : List ℕ → List ResolvedTriple → List RdfTriple → Type 0
AreReferentTriples bytes resolved triples = AreEach (IsReferentTriple bytes) resolved triples
