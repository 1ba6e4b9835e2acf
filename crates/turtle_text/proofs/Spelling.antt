-- What a text spells is one graph, and a text that spells one has only faults of limits.
use Rattle.std.proofs.Common.{◌≡◌, ◌≢◌, ℕ, List, Option, Result, Ok, Err, refl, sym, ap, ◌∙◌, subst}
use Rattle.std.specs.Result.{IsErrAnd}
use Rattle.rdf_graph.specs.declared.triple.Triple.{Triple as RdfTriple}
use Rattle.rdf_graph.specs.Graph.{SameSet}
use Rattle.rdf_graph.proofs.Graphs.{one_graph as same_graphs}
use Rattle.turtle_grammar.specs.declared.symbol.Start.TheVariants as start_of
use Rattle.turtle_grammar.specs.declared.production.Production.{Production}
use Rattle.turtle_grammar.specs.declared.production.SymbolicTriple.{SymbolicTriple}
use Rattle.turtle_grammar.proofs.OneTree.{same_tree}
use Rattle.turtle_terms.specs.declared.fault.TurtleFault.{TurtleFault}
use Rattle.turtle_terms.specs.declared.fault.TurtleFault.TheVariants.{NoMemory}
use Rattle.turtle_reader.specs.declared.meaning.Meaning.{Meaning}
use Rattle.turtle_reader.specs.declared.referent.Referent.{Referent}
use Rattle.turtle_reader.specs.declared.referent.ResolvedTriple.{ResolvedTriple}
use Rattle.turtle_reader.specs.Handed.{AreResolved}
use Rattle.turtle_reader.specs.Languages.{KeepsText}
use Rattle.turtle_reader.specs.Lexemes.{symbols_of}
use Rattle.turtle_reader.specs.Referents.{referent, IsResolved}
use Rattle.turtle_reader.proofs.Firsts.{one_list}
use Rattle.turtle_reader.proofs.Handing.{made_each, one_made}
use Rattle.turtle_reader.proofs.OneText.{one_text, no_fault}
use Rattle.turtle_text.specs.declared.document_triples.Triples.{Triples}
use Rattle.turtle_text.specs.Triples.{IsReferentTerm, IsReferentTriple, IsTripleOf, AreTriplesOf, AreReferentTriples}
use Rattle.turtle_text.specs.Spells.{SpellsTriples, Spells}
use Rattle.turtle_text.specs.Faults.{IsLarge, HasNoFault, IsFirstFault, IsWithinLimits, HasOnlyGraph}
use Rattle.turtle_text.specs.Progress.{IsKept}
use Rattle.turtle_text.proofs.Judging.{one_term, same_triple}

-- the triple of referents is that of their nodes
triple_is : (bytes : List ℕ) (ms : List Meaning) (s : SymbolicTriple) (r : ResolvedTriple) (t : RdfTriple) → IsResolved ms s r → IsReferentTriple bytes r t
    → IsTripleOf bytes ms s t
triple_is bytes ms s r t h k = record {
  subject = subst (λ (z : Option Referent). IsReferentTerm bytes z t.s) (sym h.subject) k.subject;
  predicate = subst (λ (z : Option Referent). IsReferentTerm bytes z t.p) (sym h.predicate) k.predicate;
  object = subst (λ (z : Option Referent). IsReferentTerm bytes z t.o) (sym h.object) k.object;
}

pub triples_are : (bytes : List ℕ) (ms : List Meaning) (ps : List Production) (rs : List ResolvedTriple) (ts : List RdfTriple) → AreResolved ms ps rs
    → AreReferentTriples bytes rs ts → AreTriplesOf bytes ms ps ts
triples_are bytes ms ps rs ts h k = made_each (IsResolved ms) (IsReferentTriple bytes) (IsTripleOf bytes ms) (triple_is bytes ms) ps rs ts h k

pub spells_kept : (base bytes : List ℕ) (kept : Triples) → KeepsText IsKept start_of.Document base bytes kept → SpellsTriples base bytes kept.list.items
spells_kept base bytes kept h = record {
  productions = h.productions;
  meanings = h.meanings;
  text = h.text;
  are_triples = triples_are bytes h.meanings h.productions h.handed kept.list.items h.resolved h.is_kept.are_triples;
}

one_triple : (bytes : List ℕ) (ms : List Meaning) (s : SymbolicTriple) (a b : RdfTriple) → IsTripleOf bytes ms s a → IsTripleOf bytes ms s b → a ≡ b
one_triple bytes ms s a b h k =
    same_triple a b (one_term bytes (referent ms s.subject) a.s b.s h.subject k.subject) (one_term bytes (referent ms s.predicate) a.p b.p h.predicate k.predicate)
    (one_term bytes (referent ms s.object) a.o b.o h.object k.object)

-- productions have one list of triples
pub one_triples : (bytes : List ℕ) (ms : List Meaning) (ps : List Production) (a b : List RdfTriple) → AreTriplesOf bytes ms ps a → AreTriplesOf bytes ms ps b → a ≡ b
one_triples bytes ms ps a b h k = one_made (IsTripleOf bytes ms) (one_triple bytes ms) ps a b h k

-- and so has a text
one_spelled : (base bytes : List ℕ) (ts us : List RdfTriple) → SpellsTriples base bytes ts → SpellsTriples base bytes us → ts ≡ us
one_spelled base bytes ts us h k =
    let same = one_text start_of.Document base bytes h.productions k.productions h.meanings k.meanings h.text k.text in
    one_triples bytes h.meanings h.productions ts us h.are_triples
    (subst (λ (z : List Meaning). AreTriplesOf bytes z h.productions us) same.1 (subst (λ (z : List Production). AreTriplesOf bytes k.meanings z us) same.0 k.are_triples))

-- by one tree
pub one_derivation : (base bytes : List ℕ) (ts us : List RdfTriple) (a : SpellsTriples base bytes ts) (b : SpellsTriples base bytes us)
    → (a.text.lexemes ≡ b.text.lexemes) × (a.text.derives.tree ≡ b.text.derives.tree) × (ts ≡ us)
one_derivation base bytes ts us a b =
    let lexemes : a.text.lexemes ≡ b.text.lexemes = one_list start_of.Document bytes a.text.lexemes b.text.lexemes a.text.are_lexemes b.text.are_lexemes in (
      lexemes,
      same_tree start_of.Document a.text.derives.tree b.text.derives.tree
          (a.text.derives.symbols_are ∙ ap symbols_of lexemes ∙ sym b.text.derives.symbols_are),
      one_spelled base bytes ts us a b,
    )

pub one_graph : (base bytes : List ℕ) (g k : List RdfTriple) → Spells base bytes g → Spells base bytes k → g ≡ k
one_graph base bytes g k h l =
    let triples : h.triples ≡ l.triples = one_spelled base bytes h.triples l.triples h.spells l.spells in
    let moved : SameSet g l.triples = subst (SameSet g) triples h.same in
    same_graphs g k h.is_graph l.is_graph (λ x. (λ c. (l.same x).1 ((moved x).0 c), λ c. (moved x).1 ((l.same x).0 c)))

-- Where the bytes spell a graph within the limits, no fault is told.
none_within : (base bytes : List ℕ) (g : List RdfTriple) → Spells base bytes g → IsWithinLimits base bytes → HasNoFault base bytes
none_within base bytes g h within =
    no_fault (IsLarge base bytes) start_of.Document base bytes h.spells.productions h.spells.meanings h.spells.text (λ i at. (within i at).0) (λ i at. (within i at).1)

only_memory : (base bytes : List ℕ) (f : TurtleFault) → (f ≢ NoMemory → IsFirstFault base bytes f) → (g : List RdfTriple) → Spells base bytes g
    → IsWithinLimits base bytes → f ≡ NoMemory
only_memory base bytes NoMemory err g spells within = refl
only_memory base bytes f err g spells within =
    let first = err (λ e. cc) in absurd (none_within base bytes g spells within first.index f first.has)

pub only_handed : (base bytes : List ℕ) (r : Result (List RdfTriple) TurtleFault) (e : TurtleFault) → IsErrAnd r (λ x. x ≡ e)
    → (e ≢ NoMemory → IsFirstFault base bytes e) → HasOnlyGraph base bytes r
only_handed base bytes (Ok found) e h err = absurd h
only_handed base bytes (Err f) e h err = λ g spells within. h ∙ only_memory base bytes e err g spells within
