-- Why a text is no update of SPARQL data, and which fault is told.
use Rattle.std.specs.Prelude.{◌≡◌, ◌<◌, ◌≤◌, ℕ, true, List, Result, Ok, Err}
use Rattle.pod_base.specs.Listed.{Listed}
use Rattle.rdf_graph.specs.declared.size.TheConstants.{TRIPLES_LIMIT}
use Rattle.turtle_grammar.specs.declared.production.Production.{Production}
use Rattle.turtle_grammar.specs.declared.symbol.Start.TheVariants.{Update}
use Rattle.turtle_terms.specs.declared.fault.TurtleFault.{TurtleFault}
use Rattle.turtle_terms.specs.declared.fault.TurtleFault.TheVariants as turtle
use Rattle.turtle_reader.specs.declared.meaning.Meaning.{Meaning}
use Rattle.turtle_reader.specs.FirstFaults as first
use Rattle.turtle_reader.specs.FirstFaults.{NeverLarge}
use Rattle.turtle_reader.specs.LanguageFaults.{IsFirstSyntaxFault}
use Rattle.sparql_patch.specs.declared.fault.SparqlFault.{SparqlFault}
use Rattle.sparql_patch.specs.declared.fault.SparqlFault.TheVariants.{Syntax, Blank, TooLarge}
use Rattle.sparql_patch.specs.declared.fault.SparqlFault.TheVariants.{NoMemory}
use Rattle.sparql_patch.specs.declared.named.Named.{Named}
use Rattle.sparql_patch.specs.UpdateSpells.{has_blank, named_size, IsUpdate, Names}

-- The bytes have no fault of syntax.
abbrev pub HasNoFault : List ℕ → List ℕ → Type 0
HasNoFault base bytes = first.HasNoFault NeverLarge Update base bytes

-- a fault of syntax as it is told
abbrev pub told_as : TurtleFault → SparqlFault
told_as (turtle.Bad at kind) = Syntax at
told_as (turtle.TooLarge at) = Syntax at
told_as turtle.NoMemory = NoMemory

-- Why the bytes name no triples: the first fault of syntax, else a blank node, else their size.
abbrev pub IsSparqlFault : List ℕ → List ℕ → SparqlFault → Type 0
IsSparqlFault base bytes (Syntax at) =
    (fault : TurtleFault) × IsFirstSyntaxFault Update base bytes fault × (told_as fault ≡ Syntax at)
IsSparqlFault base bytes Blank = (productions : List Production) × (meanings : List Meaning)
    × IsUpdate base bytes productions meanings × HasNoFault base bytes
    × (has_blank meanings productions ≡ true)
IsSparqlFault base bytes TooLarge = (named : List Named) × Names base bytes named
    × HasNoFault base bytes × (TRIPLES_LIMIT < named_size named)
IsSparqlFault base bytes NoMemory = Unit {0}

-- these triples, or out of memory
abbrev pub AreNamedOrNoMemory : Result (Listed Named) SparqlFault → List Named → Type 0
AreNamedOrNoMemory (Ok found) named = found.items ≡ named
AreNamedOrNoMemory (Err fault) named = fault ≡ NoMemory

-- Where the bytes name triples within the limits, these are returned, or out of memory.
abbrev pub HasOnlyNamed : List ℕ → List ℕ → Result (Listed Named) SparqlFault → Type 0
HasOnlyNamed base bytes result = (named : List Named) → Names base bytes named
    → first.IsShallow NeverLarge Update base bytes → named_size named ≤ TRIPLES_LIMIT → AreNamedOrNoMemory result named
