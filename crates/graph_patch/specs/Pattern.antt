-- Patterns, and what mappings make of them (Solid Protocol, N3 Patch).
use Rattle.std.specs.Prelude.{ℕ, List, [], ◌∷◌, ◌≡◌, ◌↔◌, ◌⊎◌, Option, None, Some, IsSome, All}
use Rattle.std.specs.Prelude.{Contains, if◌then◌else◌, nat_eq}
use lib.Pointwise.{pointwise}
use Rattle.rdf_graph.specs.declared.term.Term.{Term}
use Rattle.rdf_graph.specs.declared.triple.Triple.{Triple}
use Rattle.graph_patch.specs.declared.pattern.Slot.{Slot}
use Rattle.graph_patch.specs.declared.pattern.Slot.TheVariants.{Fixed, Var}
use Rattle.graph_patch.specs.declared.pattern.Pattern.{Pattern}

-- a mapping from names to terms
abbrev pub Binding : Type 0
Binding = List ℕ → Option Term

-- the mapping of these pairs, where the first with a name counts
abbrev pub value_of : List (List ℕ × Term) → Binding
value_of [] name = None
value_of (pair ∷ pairs) name =
    if pointwise nat_eq pair.0 name then Some pair.1 else value_of pairs name

-- the term of a slot under a mapping, if it has one
abbrev pub slot_term : Binding → Slot → Option Term
slot_term m (Fixed term) = Some term
slot_term m (Var name) = m name

-- the mapping makes the pattern this triple
pub record Instantiates (m : Binding) (pattern : Pattern) (t : Triple) : Type 0 where
  pub s : slot_term m pattern.s ≡ Some t.s
  pub p : slot_term m pattern.p ≡ Some t.p
  pub o : slot_term m pattern.o ≡ Some t.o

-- the mapping makes the pattern a triple of g
abbrev pub HoldsIn : List Triple → Binding → Pattern → Type 0
HoldsIn g m pattern = (t : Triple) × Instantiates m pattern t × Contains g t

-- the pattern has that variable
abbrev pub HasVariable : Pattern → List ℕ → Type 0
HasVariable pattern name =
    (pattern.s ≡ Var name) ⊎ ((pattern.p ≡ Var name) ⊎ (pattern.o ≡ Var name))

-- one of the patterns has it
abbrev pub IsVariableOf : List Pattern → List ℕ → Type 0
IsVariableOf patterns name =
    (pattern : Pattern) × Contains patterns pattern × HasVariable pattern name

-- a mapping from exactly the variables of the conditions that makes each of them a triple of g
pub record IsSolution (g : List Triple) (conditions : List Pattern) (m : Binding) : Type 0 where
  pub variables : (name : List ℕ) → IsSome (m name) ↔ IsVariableOf conditions name
  pub holds : All (HoldsIn g m) conditions

-- both have the same value for each name
abbrev pub SameBinding : Binding → Binding → Type 0
SameBinding m n = (name : List ℕ) → m name ≡ n name

-- no name is in two pairs
abbrev pub HasDistinctNames : List (List ℕ × Term) → Type 0
HasDistinctNames [] = Unit {0}
HasDistinctNames (pair ∷ pairs) = (value_of pairs pair.0 ≡ None) × HasDistinctNames pairs

-- m has the value of each name that the pairs have
abbrev pub Extends : List (List ℕ × Term) → Binding → Type 0
Extends pairs m =
    (name : List ℕ) (term : Term) → value_of pairs name ≡ Some term → m name ≡ Some term
