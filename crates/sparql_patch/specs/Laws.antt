-- What follows from the definitions. Each law is the contract of a function of `laws`.
use Rattle.std.specs.Prelude.{◌≡◌, ◌↔◌, ◌≤◌, ℕ, Bool, false, List, Some, Contains}
use Rattle.std.specs.Prelude.{Result, Ok, Err}
use Rattle.std.specs.List.{IsDistinct, filter}
use Rattle.rdf_graph.specs.declared.size.TheConstants.{TRIPLES_LIMIT}
use Rattle.rdf_graph.specs.declared.triple.Triple.{Triple}
use Rattle.sparql_patch.specs.declared.fault.SparqlFault.{SparqlFault}
use Rattle.sparql_patch.specs.declared.fault.SparqlFault.TheVariants.{NoMemory}
use Rattle.sparql_patch.specs.declared.named.Named.{Named}
use Rattle.sparql_patch.specs.NamedUpdate.{triple_eq, has_triple, last_named, last_word}
use Rattle.sparql_patch.specs.UpdateFaults.{HasNoFault, IsSparqlFault}
use Rattle.sparql_patch.specs.UpdateSpells.{Names, named_size}

-- A triple is listed under a word exactly where its last naming is with that word.
abbrev pub LastNamingDecides : Type 0
LastNamingDecides = (named : List Named) (insert : Bool) (t : Triple)
    → Contains (last_named insert named) t ↔ (last_word named t ≡ Some insert)

-- Of these the deletions are those in the graph.
abbrev pub DeletionsAreInGraph : Type 0
DeletionsAreInGraph = (g : List Triple) (named : List Named) (t : Triple)
    → Contains (filter (has_triple g) (last_named false named)) t
    ↔ (Contains g t × (last_word named t ≡ Some false))

-- No triple is listed twice.
abbrev pub EachIsListedOnce : Type 0
EachIsListedOnce = (named : List Named) (insert : Bool) → IsDistinct triple_eq (last_named insert named)

-- the naming of a triple with a word
abbrev pub naming : Triple → Bool → Named
naming t insert = record { triple = t; insert = insert }

-- Where no triple is named twice, the listed ones are those that are named with the word.
abbrev pub WithoutRepeats : Type 0
WithoutRepeats = (named : List Named) (insert : Bool) (t : Triple)
    → IsDistinct (λ (x y : Named). triple_eq x.triple y.triple) named
    → Contains (last_named insert named) t ↔ Contains named (naming t insert)

-- A text names at most one list of triples.
abbrev pub HasOneNaming : Type 0
HasOneNaming = (base bytes : List ℕ) (a b : List Named) → Names base bytes a → Names base bytes b
    → a ≡ b

-- A text is read as these triples, or has this fault, which is none of memory.
abbrev pub IsReadAs : List ℕ → List ℕ → Result (List Named) SparqlFault → Type 0
IsReadAs base bytes (Ok named) = Names base bytes named × HasNoFault base bytes
    × (named_size named ≤ TRIPLES_LIMIT)
IsReadAs base bytes (Err NoMemory) = ⊥
IsReadAs base bytes (Err fault) = IsSparqlFault base bytes fault

-- It is read in one way at most.
abbrev pub HasOneAnswer : Type 0
HasOneAnswer = (base bytes : List ℕ) (a b : Result (List Named) SparqlFault)
    → IsReadAs base bytes a → IsReadAs base bytes b → a ≡ b
