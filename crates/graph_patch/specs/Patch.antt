-- What a patch means (Solid Protocol, N3 Patch).
use Rattle.std.specs.Prelude.{ℕ, List, ◌≡◌, ◌↔◌, ◌⊎◌, ◌+◌, Contains, IsSome, None, Option, Some}
use Rattle.std.specs.Prelude.{map, sum}
use Rattle.rdf_graph.specs.Size.{term_size}
use Rattle.rdf_graph.specs.declared.term.Term.TheVariants.{Iri}
use Rattle.graph_patch.specs.Pattern.{slot_term, Binding, HasVariable, value_of, Instantiates}
use Rattle.graph_patch.specs.Pattern.{IsSolution, IsVariableOf, SameBinding}
use Rattle.graph_patch.specs.Solutions.{HasTwoSolutions}
use Rattle.rdf_graph.specs.Triple.{IsRdf}
use Rattle.rdf_graph.specs.declared.change.Change.{Change}
use Rattle.graph_patch.specs.declared.patch.Patch.{Patch}
use Rattle.graph_patch.specs.declared.patch.PatchFault.{PatchFault}
use Rattle.graph_patch.specs.declared.patch.PatchFault.TheVariants.{NoMatch, ManyMatches}
use Rattle.graph_patch.specs.declared.patch.PatchFault.TheVariants.{MissingDeletion, NotTriple}
use Rattle.graph_patch.specs.declared.patch.PatchFault.TheVariants.{NoMemory}
use Rattle.graph_patch.specs.declared.pattern.Pattern.{Pattern}
use Rattle.graph_patch.specs.declared.pattern.Slot.{Slot}
use Rattle.graph_patch.specs.declared.pattern.Slot.TheVariants.{Var}
use Rattle.rdf_graph.specs.declared.term.Term.{Term}
use Rattle.rdf_graph.specs.declared.triple.Triple.{Triple}

-- each variable of deletions and insertions is one of the conditions
abbrev pub IsBound : Patch → Type 0
IsBound patch =
    (name : List ℕ)
    → IsVariableOf patch.deletions.items name ⊎ IsVariableOf patch.insertions.items name
    → IsVariableOf patch.conditions.items name

-- the one solution of the conditions
pub record IsTheSolution (g : List Triple) (conditions : List Pattern) (m : Binding) : Type 0 where
  pub solution : IsSolution g conditions m
  pub only : (n : Binding) → IsSolution g conditions n → SameBinding n m

-- the triple is the instance of one of the patterns under the mapping
abbrev pub IsInstance : Binding → List Pattern → Triple → Type 0
IsInstance m patterns t = (pattern : Pattern) × Contains patterns pattern × Instantiates m pattern t

-- the triples are the instances of the patterns under the mapping
abbrev pub AreInstances : Binding → List Pattern → List Triple → Type 0
AreInstances m patterns triples = (x : Triple) → Contains triples x ↔ IsInstance m patterns x

-- what the patch changes in g
pub record IsChangeOf (g : List Triple) (patch : Patch) (change : Change) : Type 0 where
  pub mapping : Binding
  pub only : IsTheSolution g patch.conditions.items mapping
  pub removed : AreInstances mapping patch.deletions.items change.removed
  pub added : AreInstances mapping patch.insertions.items change.added
  pub in_graph : (x : Triple) → IsInstance mapping patch.deletions.items x → Contains g x
  pub rdf : (x : Triple) → IsInstance mapping patch.insertions.items x → IsRdf x

-- a deletion that isn't in g
pub record LacksDeletion (g : List Triple) (patch : Patch) : Type 0 where
  pub mapping : Binding
  pub only : IsTheSolution g patch.conditions.items mapping
  pub missing : Triple
  pub is_deletion : IsInstance mapping patch.deletions.items missing
  pub absent : Contains g missing → ⊥

-- all deletions are in g, and an insertion is not a triple of RDF
pub record HasInvalidInsertion (g : List Triple) (patch : Patch) : Type 0 where
  pub mapping : Binding
  pub only : IsTheSolution g patch.conditions.items mapping
  pub in_graph : (x : Triple) → IsInstance mapping patch.deletions.items x → Contains g x
  pub wrong : Triple
  pub is_insertion : IsInstance mapping patch.insertions.items wrong
  pub no_triple : IsRdf wrong → ⊥

-- why the patch fails in g
abbrev pub IsFaultOf : List Triple → Patch → PatchFault → Type 0
IsFaultOf g patch NoMatch = (m : Binding) → IsSolution g patch.conditions.items m → ⊥
IsFaultOf g patch ManyMatches = HasTwoSolutions g patch.conditions.items
IsFaultOf g patch MissingDeletion = LacksDeletion g patch
IsFaultOf g patch NotTriple = HasInvalidInsertion g patch
IsFaultOf g patch NoMemory = Unit {0}

-- why conditions have not exactly one solution
abbrev pub IsMappingFault : List Triple → List Pattern → PatchFault → Type 0
IsMappingFault g conditions NoMatch = (m : Binding) → IsSolution g conditions m → ⊥
IsMappingFault g conditions ManyMatches = HasTwoSolutions g conditions
IsMappingFault g conditions MissingDeletion = ⊥
IsMappingFault g conditions NotTriple = ⊥
IsMappingFault g conditions NoMemory = Unit {0}

-- under the mapping the deletions are triples of g, and the insertions are triples of RDF
pub record FitsGraph (g : List Triple) (patch : Patch) (m : Binding) : Type 0 where
  pub in_graph : (x : Triple) → IsInstance m patch.deletions.items x → Contains g x
  pub removed_rdf : (x : Triple) → IsInstance m patch.deletions.items x → IsRdf x
  pub added_rdf : (x : Triple) → IsInstance m patch.insertions.items x → IsRdf x

-- why the check of a patch under a mapping fails
abbrev pub IsCheckFault : List Triple → Patch → Binding → PatchFault → Type 0
IsCheckFault g patch m NoMatch = ⊥
IsCheckFault g patch m ManyMatches = ⊥
IsCheckFault g patch m MissingDeletion =
    (x : Triple) × IsInstance m patch.deletions.items x × (Contains g x → ⊥)
IsCheckFault g patch m NotTriple =
    ((x : Triple) → IsInstance m patch.deletions.items x → Contains g x)
    × ((x : Triple) × IsInstance m patch.insertions.items x × (IsRdf x → ⊥))
IsCheckFault g patch m NoMemory = ⊥

-- under the mapping some pattern has this IRI as its predicate
abbrev pub HasPredicate : Binding → List Pattern → List ℕ → Type 0
HasPredicate m patterns iri =
    (pattern : Pattern) × Contains patterns pattern × (slot_term m pattern.p ≡ Some (Iri iri))

-- the size of an instance
abbrev pub slot_size : Option Term → ℕ
slot_size None = 0
slot_size (Some term) = term_size term

abbrev pub instance_size : Binding → Pattern → ℕ
instance_size m pattern =
    slot_size (slot_term m pattern.s)
    + (slot_size (slot_term m pattern.p) + slot_size (slot_term m pattern.o))

-- the size of all instances, where equal ones count once for each pattern
abbrev pub instances_size : Binding → List Pattern → ℕ
instances_size m patterns = sum (map (instance_size m) patterns)

-- the pairs bind the variable of the slot, of the pattern, of the patterns
abbrev pub BindsSlot : List (List ℕ × Term) → Slot → Type 0
BindsSlot pairs slot = (name : List ℕ) → slot ≡ Var name → IsSome (value_of pairs name)

abbrev pub BindsPattern : List (List ℕ × Term) → Pattern → Type 0
BindsPattern pairs pattern =
    (name : List ℕ) → HasVariable pattern name → IsSome (value_of pairs name)

abbrev pub BindsPatterns : List (List ℕ × Term) → List Pattern → Type 0
BindsPatterns pairs patterns =
    (name : List ℕ) → IsVariableOf patterns name → IsSome (value_of pairs name)

-- each variable of the slot, and of the patterns, is one of the conditions
abbrev pub IsBoundIn : Slot → List Pattern → Type 0
IsBoundIn slot conditions = (name : List ℕ) → slot ≡ Var name → IsVariableOf conditions name

abbrev pub AllBound : List Pattern → List Pattern → Type 0
AllBound patterns conditions =
    (name : List ℕ) → IsVariableOf patterns name → IsVariableOf conditions name
