-- Whether a goal names the token of an index.
use Rattle.std.specs.Prelude.{ℕ, ◌≡◌, Bool, false, ◌==◌, ◌||◌}
use Rattle.turtle_grammar.specs.declared.production.Node.{Node}
use Rattle.turtle_grammar.specs.declared.production.Node.TheVariants.{Token, Tagged, Typed}
use Rattle.turtle_grammar.specs.declared.goal.FormulaUse.{FormulaUse}
use Rattle.turtle_grammar.specs.declared.goal.FormulaUse.TheVariants as formula_use
use Rattle.turtle_grammar.specs.declared.goal.Closer.{Closer}
use Rattle.turtle_grammar.specs.declared.goal.Closer.TheVariants as closer
use Rattle.turtle_grammar.specs.declared.goal.CellUse.{CellUse}
use Rattle.turtle_grammar.specs.declared.goal.CellUse.TheVariants as cell_use
use Rattle.turtle_grammar.specs.declared.goal.CollectionUse.{CollectionUse}
use Rattle.turtle_grammar.specs.declared.goal.CollectionUse.TheVariants as collection_use
use Rattle.turtle_grammar.specs.declared.goal.Goal.{Goal}
use Rattle.turtle_grammar.specs.declared.goal.Goal.TheVariants as goal

abbrev pub in_node : ℕ → Node → Bool
in_node n (Token i) = i == n
in_node n (Tagged i k) = (i == n) || (k == n)
in_node n (Typed i k) = (i == n) || (k == n)
in_node n node = false

abbrev pub in_nodes : ℕ → Node → Node → Bool
in_nodes n s p = in_node n s || in_node n p

abbrev pub in_formula : ℕ → FormulaUse → Bool
in_formula n (formula_use.Object s p i w) = in_nodes n s p
in_formula n formula_use.Operation = false

abbrev pub in_closer : ℕ → Closer → Bool
in_closer n (closer.Object s p o) = in_nodes n s p || in_node n o
in_closer n (closer.Formula u) = in_formula n u
in_closer n c = false

abbrev pub in_cell : ℕ → CellUse → Bool
in_cell n (cell_use.Object s p o) = in_nodes n s p || in_node n o
in_cell n cell_use.Subject = false

abbrev pub in_collection : ℕ → CollectionUse → Bool
in_collection n (collection_use.Subject c) = in_closer n c
in_collection n (collection_use.Object s p) = in_nodes n s p

abbrev pub in_goal : ℕ → Goal → Bool
in_goal n (goal.One s p) = in_nodes n s p
in_goal n (goal.Suffix s p i) = in_nodes n s p || (i == n)
in_goal n (goal.Datatype s p i) = in_nodes n s p || (i == n)
in_goal n (goal.After s p c) = in_nodes n s p || in_closer n c
in_goal n (goal.Again s c) = in_node n s || in_closer n c
in_goal n (goal.Predicates s c) = in_node n s || in_closer n c
in_goal n (goal.Maybe s c) = in_node n s || in_closer n c
in_goal n (goal.Formula u) = in_formula n u
in_goal n (goal.Collection u) = in_collection n u
in_goal n (goal.Elements c u) = in_node n c || in_cell n u
in_goal n (goal.PrefixIri dot i) = i == n
in_goal n g = false

abbrev pub IsNotIn : ℕ → Goal → Type 0
IsNotIn n g = in_goal n g ≡ false
