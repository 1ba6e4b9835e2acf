-- A goal names the token of an index, or all that it names are others.
use Rattle.std.proofs.Common.{◌≡◌, ℕ, List, [], ◌∷◌, reverse, Bool, false, ◌==◌, ◌||◌, refl, sym, subst}
use Rattle.std.proofs.lemmas.Bool.{or_parts, or_from, eqb-false, ne_eqb}
use Rattle.std.proofs.lemmas.List.{reverse-append, reverse-reverse}
use Rattle.std.proofs.lemmas.List.Elements.{All-nil, All-cons, All-head, All-tail}
use Rattle.std.specs.List.{All}
use Rattle.turtle_grammar.specs.declared.production.Node.{Node}
use Rattle.turtle_grammar.specs.declared.production.Node.TheVariants as node
use Rattle.turtle_grammar.specs.declared.goal.FormulaUse.{FormulaUse}
use Rattle.turtle_grammar.specs.declared.goal.FormulaUse.TheVariants as formula_use
use Rattle.turtle_grammar.specs.declared.goal.Closer.{Closer}
use Rattle.turtle_grammar.specs.declared.goal.Closer.TheVariants as closer
use Rattle.turtle_grammar.specs.declared.goal.CellUse.{CellUse}
use Rattle.turtle_grammar.specs.declared.goal.CellUse.TheVariants as cell_use
use Rattle.turtle_grammar.specs.declared.goal.CollectionUse.{CollectionUse}
use Rattle.turtle_grammar.specs.declared.goal.CollectionUse.TheVariants as collection_use
use Rattle.turtle_grammar.specs.declared.goal.Goal.{Goal}
use Rattle.turtle_grammar.specs.declared.goal.Goal.TheVariants as goal
use Rattle.turtle_grammar.specs.Names.{IsOther, NodeNames, FormulaNames, CloserNames, CellNames, GoalNames, GoalsName}
use Rattle.turtle_grammar.specs.Named.{in_node, in_nodes, in_formula, in_closer, in_cell, in_goal, IsNotIn}
use Rattle.turtle_grammar.proofs.Naming.{goals_append}

module _ (n : ℕ) where
  other : (i : ℕ) → (i == n) ≡ false → IsOther n i
  other i e = eqb-false i n e

  others : (i k : ℕ) → ((i == n) || (k == n)) ≡ false → IsOther n i × IsOther n k
  others i k e = let parts = or_parts (i == n) (k == n) e in (other i parts.0, other k parts.1)

  node_other : (x : Node) → in_node n x ≡ false → NodeNames (IsOther n) x
  node_other (node.Token i) e = other i e
  node_other (node.Tagged i k) e = others i k e
  node_other (node.Typed i k) e = others i k e
  node_other _ e = tt

  nodes_other : (s p : Node) → in_nodes n s p ≡ false → NodeNames (IsOther n) s × NodeNames (IsOther n) p
  nodes_other s p e = let parts = or_parts (in_node n s) (in_node n p) e in (node_other s parts.0, node_other p parts.1)

  three_other : (s p o : Node) → (in_nodes n s p || in_node n o) ≡ false → NodeNames (IsOther n) s × NodeNames (IsOther n) p × NodeNames (IsOther n) o
  three_other s p o e =
      let parts = or_parts (in_nodes n s p) (in_node n o) e in let first = nodes_other s p parts.0 in
      (first.0, first.1, node_other o parts.1)

  string_other : (s p : Node) (i : ℕ) → (in_nodes n s p || (i == n)) ≡ false → NodeNames (IsOther n) s × NodeNames (IsOther n) p × IsOther n i
  string_other s p i e =
      let parts = or_parts (in_nodes n s p) (i == n) e in let first = nodes_other s p parts.0 in
      (first.0, first.1, other i parts.1)

  formula_other : (u : FormulaUse) → in_formula n u ≡ false → FormulaNames (IsOther n) u
  formula_other (formula_use.Object s p i w) e = nodes_other s p e
  formula_other formula_use.Operation e = tt

  closer_other : (c : Closer) → in_closer n c ≡ false → CloserNames (IsOther n) c
  closer_other closer.Statement e = tt
  closer_other closer.Subject e = tt
  closer_other (closer.Object s p o) e = three_other s p o e
  closer_other (closer.Formula u) e = formula_other u e

  about_other : (s : Node) (c : Closer) → (in_node n s || in_closer n c) ≡ false → NodeNames (IsOther n) s × CloserNames (IsOther n) c
  about_other s c e = let parts = or_parts (in_node n s) (in_closer n c) e in (node_other s parts.0, closer_other c parts.1)

  cell_other : (u : CellUse) → in_cell n u ≡ false → CellNames (IsOther n) u
  cell_other cell_use.Subject e = tt
  cell_other (cell_use.Object s p o) e = three_other s p o e

  goal_other : (g : Goal) → in_goal n g ≡ false → GoalNames (IsOther n) g
  goal_other (goal.One s p) e = nodes_other s p e
  goal_other (goal.Suffix s p i) e = string_other s p i e
  goal_other (goal.Datatype s p i) e = string_other s p i e
  goal_other (goal.After s p c) e =
      let parts = or_parts (in_nodes n s p) (in_closer n c) e in let first = nodes_other s p parts.0 in
      (first.0, first.1, closer_other c parts.1)
  goal_other (goal.Again s c) e = about_other s c e
  goal_other (goal.Predicates s c) e = about_other s c e
  goal_other (goal.Maybe s c) e = about_other s c e
  goal_other (goal.Formula u) e = formula_other u e
  goal_other (goal.Collection (collection_use.Subject c)) e = closer_other c e
  goal_other (goal.Collection (collection_use.Object s p)) e = nodes_other s p e
  goal_other (goal.Elements c u) e =
      let parts = or_parts (in_node n c) (in_cell n u) e in (node_other c parts.0, cell_other u parts.1)
  goal_other (goal.PrefixIri dot i) e = other i e
  goal_other (goal.PrefixName dot) e = tt
  goal_other (goal.BaseIri dot) e = tt
  goal_other goal.Dot e = tt
  goal_other (goal.Data w) e = tt
  goal_other (goal.Brace w) e = tt

  node_not_in : (x : Node) → NodeNames (IsOther n) x → in_node n x ≡ false
  node_not_in (node.Token i) h = ne_eqb i n h
  node_not_in (node.Tagged i k) h = or_from (i == n) (k == n) (ne_eqb i n h.0) (ne_eqb k n h.1)
  node_not_in (node.Typed i k) h = or_from (i == n) (k == n) (ne_eqb i n h.0) (ne_eqb k n h.1)
  node_not_in _ h = refl

  nodes_not_in : (s p : Node) → NodeNames (IsOther n) s → NodeNames (IsOther n) p → in_nodes n s p ≡ false
  nodes_not_in s p hs hp = or_from (in_node n s) (in_node n p) (node_not_in s hs) (node_not_in p hp)

  three_not_in : (s p o : Node) → NodeNames (IsOther n) s → NodeNames (IsOther n) p → NodeNames (IsOther n) o
      → (in_nodes n s p || in_node n o) ≡ false
  three_not_in s p o hs hp ho = or_from (in_nodes n s p) (in_node n o) (nodes_not_in s p hs hp) (node_not_in o ho)

  string_not_in : (s p : Node) (i : ℕ) → NodeNames (IsOther n) s → NodeNames (IsOther n) p → IsOther n i → (in_nodes n s p || (i == n)) ≡ false
  string_not_in s p i hs hp hi = or_from (in_nodes n s p) (i == n) (nodes_not_in s p hs hp) (ne_eqb i n hi)

  formula_not_in : (u : FormulaUse) → FormulaNames (IsOther n) u → in_formula n u ≡ false
  formula_not_in (formula_use.Object s p i w) h = nodes_not_in s p h.0 h.1
  formula_not_in formula_use.Operation h = refl

  closer_not_in : (c : Closer) → CloserNames (IsOther n) c → in_closer n c ≡ false
  closer_not_in closer.Statement h = refl
  closer_not_in closer.Subject h = refl
  closer_not_in (closer.Object s p o) h = three_not_in s p o h.0 h.1 h.2
  closer_not_in (closer.Formula u) h = formula_not_in u h

  about_not_in : (s : Node) (c : Closer) → NodeNames (IsOther n) s → CloserNames (IsOther n) c → (in_node n s || in_closer n c) ≡ false
  about_not_in s c hs hc = or_from (in_node n s) (in_closer n c) (node_not_in s hs) (closer_not_in c hc)

  cell_not_in : (u : CellUse) → CellNames (IsOther n) u → in_cell n u ≡ false
  cell_not_in cell_use.Subject h = refl
  cell_not_in (cell_use.Object s p o) h = three_not_in s p o h.0 h.1 h.2

  goal_not_in : (g : Goal) → GoalNames (IsOther n) g → IsNotIn n g
  goal_not_in (goal.One s p) h = nodes_not_in s p h.0 h.1
  goal_not_in (goal.Suffix s p i) h = string_not_in s p i h.0 h.1 h.2
  goal_not_in (goal.Datatype s p i) h = string_not_in s p i h.0 h.1 h.2
  goal_not_in (goal.After s p c) h = or_from (in_nodes n s p) (in_closer n c) (nodes_not_in s p h.0 h.1) (closer_not_in c h.2)
  goal_not_in (goal.Again s c) h = about_not_in s c h.0 h.1
  goal_not_in (goal.Predicates s c) h = about_not_in s c h.0 h.1
  goal_not_in (goal.Maybe s c) h = about_not_in s c h.0 h.1
  goal_not_in (goal.Formula u) h = formula_not_in u h
  goal_not_in (goal.Collection (collection_use.Subject c)) h = closer_not_in c h
  goal_not_in (goal.Collection (collection_use.Object s p)) h = nodes_not_in s p h.0 h.1
  goal_not_in (goal.Elements c u) h = or_from (in_node n c) (in_cell n u) (node_not_in c h.0) (cell_not_in u h.1)
  goal_not_in (goal.PrefixIri dot i) h = ne_eqb i n h
  goal_not_in (goal.PrefixName dot) h = refl
  goal_not_in (goal.BaseIri dot) h = refl
  goal_not_in goal.Dot h = refl
  goal_not_in (goal.Data w) h = refl
  goal_not_in (goal.Brace w) h = refl

  goals_other : (gs : List Goal) → All (IsNotIn n) gs → GoalsName (IsOther n) gs
  goals_other [] h = tt
  goals_other (g ∷ gs) h = (goal_other g (All-head (IsNotIn n) g gs h), goals_other gs (All-tail (IsNotIn n) g gs h))

  goals_not_in : (gs : List Goal) → GoalsName (IsOther n) gs → All (IsNotIn n) gs
  goals_not_in [] h = All-nil (IsNotIn n)
  goals_not_in (g ∷ gs) h = All-cons (IsNotIn n) g gs (goal_not_in g h.0) (goals_not_in gs h.1)

  reversed : (gs : List Goal) → GoalsName (IsOther n) gs → GoalsName (IsOther n) (reverse gs)
  reversed [] h = tt
  reversed (g ∷ gs) h =
      subst (GoalsName (IsOther n)) (sym (reverse-append (g ∷ []) gs)) (goals_append (IsOther n) (reverse gs) (g ∷ []) (reversed gs h.1) (h.0, tt))

  pub stack_other : (stack : List Goal) → All (IsNotIn n) stack → GoalsName (IsOther n) (reverse stack)
  stack_other stack h = reversed stack (goals_other stack h)

  pub stack_not_in : (stack : List Goal) → GoalsName (IsOther n) (reverse stack) → All (IsNotIn n) stack
  stack_not_in stack h = goals_not_in stack (subst (GoalsName (IsOther n)) (reverse-reverse stack) (reversed (reverse stack) h))
