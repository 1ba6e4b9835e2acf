-- A String that was read waits for what follows it.
use Rattle.std.proofs.Common.{◌≡◌, List, [], ◌∷◌, Option, Some, refl, sym, subst}
use Rattle.turtle_lex.specs.declared.token.TokenKind.TheVariants as kind
use Rattle.turtle_grammar.specs.declared.symbol.Symbol.{Symbol}
use Rattle.turtle_grammar.specs.declared.symbol.Symbol.TheVariants.{Token}
use Rattle.turtle_grammar.specs.declared.production.SymbolicTriple.{SymbolicTriple}
use Rattle.turtle_grammar.specs.declared.production.Node.TheVariants as node
use Rattle.turtle_grammar.specs.declared.production.Within.{Within}
use Rattle.turtle_grammar.specs.declared.goal.Closer.{Closer}
use Rattle.turtle_grammar.specs.declared.goal.Closer.TheVariants as closer
use Rattle.turtle_grammar.specs.declared.goal.CollectionUse.TheVariants as collection_use
use Rattle.turtle_grammar.specs.declared.goal.Goal.{Goal}
use Rattle.turtle_grammar.specs.declared.goal.Goal.TheVariants as goal
use Rattle.turtle_grammar.specs.declared.goal.Rest.{Rest}
use Rattle.turtle_grammar.specs.declared.goal.Rest.TheVariants as rest_of
use Rattle.turtle_grammar.specs.declared.machine.Machine.{Machine}
use Rattle.turtle_grammar.specs.Productions.{Point, triple_at}
use Rattle.turtle_grammar.specs.Stacks.{Stage, staged, before, closes, begins, take_symbol, step, step_of, cleared, waiting_goals, waiting_triple}
use Rattle.turtle_grammar.specs.Readings.{HasString}
use Rattle.turtle_grammar.proofs.Backward.{On}

-- the top goal is what follows a String
abbrev IsOnTop : List Goal → Type 0
IsOnTop (goal.Suffix s p x ∷ gs) = Unit {0}
IsOnTop gs = ⊥

abbrev WaitsNow : Stage → Type 0
WaitsNow x = IsOnTop x.goals

closes_none : (c : Closer) (gs : List Goal) (w : Rest) (m : Point) → On (staged w (before gs (closes c m (Token kind.Quoted)))) WaitsNow
closes_none closer.Statement gs w m = tt
closes_none closer.Subject gs w m = tt
closes_none (closer.Object s p o) gs w m = tt
closes_none (closer.Formula u) gs w m = tt

begins_waits : (g : Goal) (gs : List Goal) (w : Rest) (m : Point) → On (staged w (before gs (begins g m (Token kind.Quoted)))) WaitsNow
begins_waits (goal.One s p) gs w m = tt
begins_waits (goal.Suffix s p x) gs w m = tt
begins_waits (goal.Datatype s p x) gs w m = tt
begins_waits (goal.After s p c) gs w m = closes_none c gs w m
begins_waits (goal.Again s c) gs w m = closes_none c gs w m
begins_waits (goal.Predicates s c) gs w m = tt
begins_waits (goal.Maybe s c) gs w m = closes_none c gs w m
begins_waits (goal.Formula u) gs w m = tt
begins_waits (goal.Collection (collection_use.Subject c)) gs w m = tt
begins_waits (goal.Collection (collection_use.Object s p)) gs w m = tt
begins_waits (goal.Elements c u) gs w m = tt
begins_waits (goal.PrefixName d) gs w m = tt
begins_waits (goal.PrefixIri d i) gs w m = tt
begins_waits (goal.BaseIri d) gs w m = tt
begins_waits goal.Dot gs w m = tt
begins_waits (goal.Data d) gs w m = tt
begins_waits (goal.Brace d) gs w m = tt

take_waits : (gs : List Goal) (w : Rest) (m : Point) → On (take_symbol gs w m (Token kind.Quoted)) WaitsNow
take_waits [] rest_of.Statements m = tt
take_waits [] rest_of.Update m = tt
take_waits [] rest_of.AfterOperation m = tt
take_waits (g ∷ gs) w m = begins_waits g gs w m

step_waits : (gs : List Goal) (w : Rest) (m : Point) → On (step gs w m (Token kind.Quoted)) WaitsNow
step_waits (goal.Suffix s p x ∷ gs) w m = take_waits gs w (triple_at x s p (node.Token x) m)
step_waits gs w m = take_waits gs w m

top_waits : (gs : List Goal) (w : Within) → IsOnTop gs → (t : SymbolicTriple) × (waiting_goals gs w ≡ Some t)
top_waits (goal.Suffix s p x ∷ gs) w h = (_, refl)
top_waits [] w h = absurd h
top_waits (_ ∷ gs) w h = absurd h

-- after a String the machine has one that waits
pub string_waits : (t : Symbol) (old new : Machine) → step_of (cleared old.engine) t ≡ Some new.engine → t ≡ Token kind.Quoted → HasString new
string_waits t old new e quoted =
    let taken = subst (λ (u : Symbol). step_of (cleared old.engine) u ≡ Some new.engine) quoted e in
    let here : On (Some new.engine) WaitsNow = subst (λ (o : Option Stage). On o WaitsNow) taken
    (step_waits old.engine.goals old.engine.rest (cleared old.engine).point) in
    top_waits new.engine.goals new.engine.point.within here

pub found_waits : (machine : Machine) (found : Option SymbolicTriple) → found ≡ waiting_triple machine.engine → HasString machine
    → (t : SymbolicTriple) × (found ≡ Some t)
found_waits machine found e (t, is) = (t, subst (λ (o : Option SymbolicTriple). o ≡ Some t) (sym e) is)
