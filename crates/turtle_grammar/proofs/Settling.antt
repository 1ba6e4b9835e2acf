-- A String that waits, and what follows it.
use Rattle.std.proofs.Common.{◌≡◌, List, ◌∷◌, true, false, refl}
use Rattle.turtle_lex.specs.declared.token.TokenKind.TheVariants as kind
use Rattle.turtle_grammar.specs.declared.symbol.Symbol.{Symbol}
use Rattle.turtle_grammar.specs.declared.symbol.Symbol.TheVariants.{Token}
use Rattle.turtle_grammar.specs.declared.goal.Goal.{Goal}
use Rattle.turtle_grammar.specs.declared.goal.Goal.TheVariants as goal
use Rattle.turtle_grammar.specs.declared.goal.Rest.{Rest}
use Rattle.turtle_grammar.specs.Productions.{Point}
use Rattle.turtle_grammar.specs.Stacks.{step, take_symbol, take_of, ended_goals, adds_to_string}

no_end : {A : Type 0} → true ≡ false → A
no_end e = absurd (let f : true ≡ false = e in cc)

no_more : {A : Type 0} → false ≡ true → A
no_more e = absurd (let f : false ≡ true = e in cc)

-- a symbol that adds nothing to a String ends it
pub ends : (gs : List Goal) (w : Rest) (m : Point) (t : Symbol) → adds_to_string t ≡ false
    → step gs w m t ≡ take_of (ended_goals gs w m) t
ends (goal.Suffix s p x ∷ gs) w m (Token kind.LangTag) e = no_end e
ends (goal.Suffix s p x ∷ gs) w m (Token kind.Carets) e = no_end e
ends (goal.Suffix s p x ∷ gs) w m _ e = refl
ends gs w m t e = refl

-- and another is for the goal of the String itself
pub adds : (gs : List Goal) (w : Rest) (m : Point) (t : Symbol) → adds_to_string t ≡ true
    → step gs w m t ≡ take_symbol gs w m t
adds (goal.Suffix s p x ∷ gs) w m (Token kind.LangTag) e = refl
adds (goal.Suffix s p x ∷ gs) w m (Token kind.Carets) e = refl
adds (goal.Suffix s p x ∷ gs) w m _ e = no_more e
adds gs w m t e = refl
