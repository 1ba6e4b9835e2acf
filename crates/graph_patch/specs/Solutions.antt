-- How many solutions conditions have in a graph.
use Rattle.std.specs.Prelude.{ℕ, List, ◌≢◌}
use Rattle.graph_patch.specs.Pattern.{Binding, IsSolution, HasDistinctNames, SameBinding, value_of}
use Rattle.graph_patch.specs.declared.pattern.Found.{Found}
use Rattle.graph_patch.specs.declared.pattern.Found.TheVariants.{Nothing, One, Many}
use Rattle.graph_patch.specs.declared.pattern.Pattern.{Pattern}
use Rattle.rdf_graph.specs.declared.term.Term.{Term}
use Rattle.rdf_graph.specs.declared.triple.Triple.{Triple}

-- these pairs, each name once, are the only solution
pub record IsOnlySolution (g : List Triple) (conditions : List Pattern)
    (pairs : List (List ℕ × Term)) : Type 0 where
  pub once : HasDistinctNames pairs
  pub solution : IsSolution g conditions (value_of pairs)
  pub only : (m : Binding) → IsSolution g conditions m → SameBinding m (value_of pairs)

-- two solutions differ at a name
pub record HasTwoSolutions (g : List Triple) (conditions : List Pattern) : Type 0 where
  pub first : Binding
  pub second : Binding
  pub is_first : IsSolution g conditions first
  pub is_second : IsSolution g conditions second
  pub name : List ℕ
  pub apart : first name ≢ second name

-- no solution, one, or more
abbrev pub AreSolutions : List Triple → List Pattern → Found → Type 0
AreSolutions g conditions Nothing = (m : Binding) → IsSolution g conditions m → ⊥
AreSolutions g conditions (One mapping) = IsOnlySolution g conditions mapping.pairs.items
AreSolutions g conditions Many = HasTwoSolutions g conditions
