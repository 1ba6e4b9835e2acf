-- What a step of the machine names, as its caller sees it.
use Rattle.std.proofs.Common.{◌≡◌, ℕ, List, [], ◌∷◌, length, Option, Some, None, sym, ap, subst}
use Rattle.std.specs.Prelude.{IfSome}
use Rattle.std.proofs.lemmas.List.Elements.{All-nil}
use Rattle.std.specs.List.{All}
use Rattle.turtle_grammar.specs.declared.symbol.Start.{Start}
use Rattle.turtle_grammar.specs.declared.symbol.Symbol.{Symbol}
use Rattle.turtle_grammar.specs.declared.production.SymbolicTriple.{SymbolicTriple}
use Rattle.turtle_grammar.specs.declared.production.Within.{Within}
use Rattle.turtle_grammar.specs.declared.production.Production.{Production}
use Rattle.turtle_grammar.specs.declared.production.Production.TheVariants.{Triple}
use Rattle.turtle_grammar.specs.declared.goal.Goal.{Goal}
use Rattle.turtle_grammar.specs.declared.goal.Goal.TheVariants as goal
use Rattle.turtle_grammar.specs.declared.machine.Machine.{Machine}
use Rattle.turtle_grammar.specs.Names.{Names, IsOther, GoalsName}
use Rattle.turtle_grammar.specs.Stacks.{Stage, step_of, cleared, with_produced, waiting_goals, waiting_triple}
use Rattle.turtle_grammar.specs.Readings.{HasRead, Avoids, NamesNothing, WaitingNames}
use Rattle.turtle_grammar.proofs.Backward.{On}
use Rattle.turtle_grammar.proofs.Waiting.{run_settled}
use Rattle.turtle_grammar.proofs.Naming.{StageNames, step_names}

-- a token that no goal names and that isn't the symbol's is not named after the symbol
pub names_on : (index : ℕ) (start : Start) (ts : List Symbol) (ps : List Production) (old : Machine) (t : Symbol) → HasRead start ts ps old
    → IsOther index (length ts) → Avoids index old → (x : Stage) → step_of (cleared old.engine) t ≡ Some x
    → GoalsName (IsOther index) x.goals × All (Names (IsOther index)) x.point.produced
names_on index start ts ps old t h other avoids x taken =
    let now = run_settled start ts _ h.reached h.allowed in
    let here : IsOther index old.engine.point.at = subst (IsOther index) (sym now.1.at_is) other in
    let all = step_names (IsOther index) old.engine.goals old.engine.rest (with_produced [] old.engine.point) t avoids here (All-nil _) in
    subst (λ o. On o (StageNames (IsOther index))) taken all

-- no goal names nothing
pub none_name : (machine : Machine) → machine.engine.goals ≡ [] → NamesNothing machine
none_name machine e index = subst (GoalsName (IsOther index)) (sym e) tt

goals_of : Option Stage → List Goal
goals_of None = []
goals_of (Some x) = x.goals

pub nothing_at_start : (start : Start) (ps : List Production) (machine : Machine) → HasRead start [] ps machine → NamesNothing machine
unfolding goals_of
nothing_at_start start ps machine h = none_name machine (sym (ap goals_of h.reached))

-- what a String that waits names is what its goal names
WaitingNamed : (ℕ → Type 0) → Option SymbolicTriple → Type 0
WaitingNamed P None = Unit {0}
WaitingNamed P (Some x) = Names P (Triple x)

goals_waiting : (P : ℕ → Type 0) (gs : List Goal) (w : Within) → GoalsName P gs → WaitingNamed P (waiting_goals gs w)
unfolding WaitingNamed
goals_waiting P (goal.Suffix s p i ∷ gs) w h = (h.0.0, h.0.1, h.0.2)
goals_waiting P [] w h = tt
goals_waiting P (_ ∷ gs) w h = tt

pub waiting_names : (machine : Machine) (found : Option SymbolicTriple) → found ≡ waiting_triple machine.engine
    → IfSome found (λ x. WaitingNames x machine)
unfolding WaitingNamed
waiting_names machine None e = tt
waiting_names machine (Some x) e = λ index avoids.
    let got : WaitingNamed (IsOther index) (Some x) =
    subst (WaitingNamed (IsOther index)) (sym e) (goals_waiting (IsOther index) machine.engine.goals machine.engine.point.within avoids) in
    got
