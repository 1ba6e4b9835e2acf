-- The tokens that productions name, and those that goals name.
use Rattle.std.specs.Prelude.{ℕ, ◌≡◌, List, [], ◌∷◌}
use Rattle.turtle_grammar.specs.declared.production.Node.{Node}
use Rattle.turtle_grammar.specs.declared.production.Node.TheVariants.{Token, Tagged, Typed}
use Rattle.turtle_grammar.specs.declared.production.Production.{Production}
use Rattle.turtle_grammar.specs.declared.production.Production.TheVariants.{Prefix, Base, Triple}
use Rattle.turtle_grammar.specs.declared.goal.FormulaUse.{FormulaUse}
use Rattle.turtle_grammar.specs.declared.goal.FormulaUse.TheVariants as formula_use
use Rattle.turtle_grammar.specs.declared.goal.Closer.{Closer}
use Rattle.turtle_grammar.specs.declared.goal.Closer.TheVariants as closer
use Rattle.turtle_grammar.specs.declared.goal.CellUse.{CellUse}
use Rattle.turtle_grammar.specs.declared.goal.CellUse.TheVariants as cell_use
use Rattle.turtle_grammar.specs.declared.goal.CollectionUse.{CollectionUse}
use Rattle.turtle_grammar.specs.declared.goal.CollectionUse.TheVariants as collection_use
use Rattle.turtle_grammar.specs.declared.goal.Goal.{Goal}
use Rattle.turtle_grammar.specs.declared.goal.Goal.TheVariants as goal

-- P holds of the tokens that the node names
abbrev pub NodeNames : (ℕ → Type 0) → Node → Type 0
NodeNames P (Token i) = P i
NodeNames P (Tagged i k) = P i × P k
NodeNames P (Typed i k) = P i × P k
NodeNames P node = Unit {0}

-- and of those that the production names
abbrev pub Names : (ℕ → Type 0) → Production → Type 0
Names P (Prefix i k) = P i × P k
Names P (Base i) = P i
Names P (Triple t) = NodeNames P t.subject × NodeNames P t.predicate × NodeNames P t.object

-- the token i is another one
abbrev pub IsOther : ℕ → ℕ → Type 0
IsOther index i = i ≡ index → ⊥

abbrev pub FormulaNames : (ℕ → Type 0) → FormulaUse → Type 0
FormulaNames P (formula_use.Object s p i w) = NodeNames P s × NodeNames P p
FormulaNames P formula_use.Operation = Unit {0}

abbrev pub CloserNames : (ℕ → Type 0) → Closer → Type 0
CloserNames P (closer.Object s p o) = NodeNames P s × NodeNames P p × NodeNames P o
CloserNames P (closer.Formula u) = FormulaNames P u
CloserNames P c = Unit {0}

abbrev pub CellNames : (ℕ → Type 0) → CellUse → Type 0
CellNames P (cell_use.Object s p o) = NodeNames P s × NodeNames P p × NodeNames P o
CellNames P cell_use.Subject = Unit {0}

abbrev pub CollectionNames : (ℕ → Type 0) → CollectionUse → Type 0
CollectionNames P (collection_use.Subject c) = CloserNames P c
CollectionNames P (collection_use.Object s p) = NodeNames P s × NodeNames P p

abbrev pub GoalNames : (ℕ → Type 0) → Goal → Type 0
GoalNames P (goal.One s p) = NodeNames P s × NodeNames P p
GoalNames P (goal.Suffix s p i) = NodeNames P s × NodeNames P p × P i
GoalNames P (goal.Datatype s p i) = NodeNames P s × NodeNames P p × P i
GoalNames P (goal.After s p c) = NodeNames P s × NodeNames P p × CloserNames P c
GoalNames P (goal.Again s c) = NodeNames P s × CloserNames P c
GoalNames P (goal.Predicates s c) = NodeNames P s × CloserNames P c
GoalNames P (goal.Maybe s c) = NodeNames P s × CloserNames P c
GoalNames P (goal.Formula u) = FormulaNames P u
GoalNames P (goal.Collection u) = CollectionNames P u
GoalNames P (goal.Elements c u) = NodeNames P c × CellNames P u
GoalNames P (goal.PrefixIri dot i) = P i
GoalNames P g = Unit {0}

abbrev pub GoalsName : (ℕ → Type 0) → List Goal → Type 0
GoalsName P [] = Unit {0}
GoalsName P (g ∷ gs) = GoalNames P g × GoalsName P gs
