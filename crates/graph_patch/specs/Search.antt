-- The search for solutions, and its partial matches.
use Rattle.std.specs.Prelude.{ℕ, List, [], ◌∷◌, ◌++◌, ◌≡◌, ◌≢◌, Bool, true, false, Option, None}
use Rattle.std.specs.Prelude.{Some, IsSome, All, slice_get, map}
use Rattle.graph_patch.specs.Pattern.{Binding, Extends, HoldsIn, IsVariableOf, HasDistinctNames}
use Rattle.graph_patch.specs.Pattern.{value_of}
use Rattle.rdf_graph.specs.Term.{term_eq}
use Rattle.graph_patch.specs.declared.search_bindings.BoundVariable.{BoundVariable}
use Rattle.graph_patch.specs.declared.pattern.Found.{Found}
use Rattle.graph_patch.specs.declared.pattern.Found.TheVariants.{Nothing, One, Many}
use Rattle.graph_patch.specs.declared.pattern.Pattern.{Pattern}
use Rattle.graph_patch.specs.declared.pattern.Slot.{Slot}
use Rattle.graph_patch.specs.declared.pattern.Slot.TheVariants.{Fixed, Var}
use Rattle.rdf_graph.specs.declared.term.Term.{Term}
use Rattle.rdf_graph.specs.declared.triple.Triple.{Triple}

-- the pairs of a name and its term
abbrev pub pairs_of : List BoundVariable → List (List ℕ × Term)
pairs_of bound = map (λ b. (b.name.now, b.term.now)) bound

-- the pairs, if the terms are equal
abbrev pub if_same : Bool → List (List ℕ × Term) → Option (List (List ℕ × Term))
if_same true pairs = Some pairs
if_same false pairs = None

-- the pairs with the name bound to the term, if it is not bound to another one
abbrev pub bind_name : Option Term → List (List ℕ × Term) → List ℕ → Term
    → Option (List (List ℕ × Term))
bind_name None pairs name term = Some (pairs ++ (name, term) ∷ [])
bind_name (Some other) pairs name term = if_same (term_eq other term) pairs

-- the pairs with which a slot is the term, if there are any
abbrev pub bind_slot : List (List ℕ × Term) → Slot → Term → Option (List (List ℕ × Term))
bind_slot pairs (Fixed fixed) term = if_same (term_eq fixed term) pairs
bind_slot pairs (Var name) term = bind_name (value_of pairs name) pairs name term

abbrev pub and_then : Option (List (List ℕ × Term))
    → (List (List ℕ × Term) → Option (List (List ℕ × Term))) → Option (List (List ℕ × Term))
and_then None f = None
and_then (Some pairs) f = f pairs

-- the pairs with which a pattern is the triple, if there are any
abbrev pub bind_pattern : List (List ℕ × Term) → Pattern → Triple → Option (List (List ℕ × Term))
bind_pattern pairs pattern t =
    and_then (bind_slot pairs pattern.s t.s)
    (λ with_s. and_then (bind_slot with_s pattern.p t.p)
    (λ with_p. bind_slot with_p pattern.o t.o))

-- each of the patterns is a triple of g under the mapping
abbrev pub Satisfies : List Triple → List Pattern → Binding → Type 0
Satisfies g patterns m = All (HoldsIn g m) patterns

-- pairs for the variables of the patterns alone that satisfy them
pub record IsCompleteMatch (g : List Triple) (patterns : List Pattern)
    (pairs : List (List ℕ × Term)) : Type 0 where
  pub once : HasDistinctNames pairs
  pub within : (name : List ℕ) → IsSome (value_of pairs name) → IsVariableOf patterns name
  pub satisfies : Satisfies g patterns (value_of pairs)

-- among the mappings of Q, these pairs alone satisfy the patterns
pub record IsUniqueMatch (g : List Triple) (patterns : List Pattern) (Q : Binding → Type 0)
    (pairs : List (List ℕ × Term)) : Type 0 where
  pub full : IsCompleteMatch g patterns pairs
  pub among : Q (value_of pairs)
  pub only : (m : Binding) → Satisfies g patterns m → Q m → Extends pairs m

-- among the mappings of Q, two satisfy the patterns and differ at a name
pub record HasTwoMatches (g : List Triple) (patterns : List Pattern)
    (Q : Binding → Type 0) : Type 0 where
  pub first : List (List ℕ × Term)
  pub second : List (List ℕ × Term)
  pub is_first : IsCompleteMatch g patterns first
  pub is_second : IsCompleteMatch g patterns second
  pub among_first : Q (value_of first)
  pub among_second : Q (value_of second)
  pub name : List ℕ
  pub apart : value_of first name ≢ value_of second name

-- the search among the mappings of Q returns this
abbrev pub IsSearchResult : List Triple → List Pattern → (Binding → Type 0) → Found → Type 0
IsSearchResult g patterns Q Nothing = (m : Binding) → Satisfies g patterns m → Q m → ⊥
IsSearchResult g patterns Q (One mapping) = IsUniqueMatch g patterns Q mapping.pairs.items
IsSearchResult g patterns Q Many = HasTwoMatches g patterns Q

-- the result for the mappings of two searches that have none in common
abbrev pub union : Found → Found → Found
union Nothing found = found
union found Nothing = found
union _ _ = Many

-- a partial match: each name once and of the patterns, and the patterns taken so far hold
pub record IsPartialMatch (g : List Triple) (patterns : List Pattern) (taken : List Bool)
    (pairs : List (List ℕ × Term)) : Type 0 where
  pub once : HasDistinctNames pairs
  pub within : (name : List ℕ) → IsSome (value_of pairs name) → IsVariableOf patterns name
  pub done : (i : ℕ) (pattern : Pattern) → slice_get taken i ≡ Some true
      → slice_get patterns i ≡ Some pattern → HoldsIn g (value_of pairs) pattern

-- every mapping has it
abbrev pub AnyBinding : Binding → Type 0
AnyBinding m = Unit {0}

-- the one mapping that has the pairs of two
abbrev pub IsMergedMapping : List (List ℕ × Term) → List (List ℕ × Term) → Found → Type 0
IsMergedMapping first second Nothing = ⊥
IsMergedMapping first second (One mapping) = mapping.pairs.items ≡ first ++ second
IsMergedMapping first second Many = ⊥

-- the result for two lists of patterns without a common variable, by the results for each
abbrev pub IsJoin : Found → Found → Found → Type 0
IsJoin Nothing other found = found ≡ Nothing
IsJoin (One mapping) Nothing found = found ≡ Nothing
IsJoin (One mapping) (One other) found = IsMergedMapping mapping.pairs.items other.pairs.items found
IsJoin (One mapping) Many found = found ≡ Many
IsJoin Many Nothing found = found ≡ Nothing
IsJoin Many (One other) found = found ≡ Many
IsJoin Many Many found = found ≡ Many
