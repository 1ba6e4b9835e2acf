-- What a step produces ends at its symbol, and the triple of a waiting String before it.
use Rattle.std.proofs.Common.{◌≡◌, ℕ, ◌+◌, List, [], ◌∷◌, ◌++◌, Bool, true, false, Option, Some, None, refl, sym, ap, ◌∙◌, subst, append_assoc}
use Rattle.std.proofs.lemmas.List.{append-nil}
use Rattle.std.proofs.lemmas.List.Elements.{All-nil, All-cons}
use Rattle.std.specs.List.{All}
use Rattle.turtle_grammar.specs.declared.production.Production.{Production}
use Rattle.turtle_grammar.specs.declared.production.Production.TheVariants.{Prefix, Base, Triple}
use Rattle.turtle_lex.specs.declared.token.TokenKind.TheVariants as kind
use Rattle.turtle_grammar.specs.declared.symbol.Symbol.{Symbol}
use Rattle.turtle_grammar.specs.declared.symbol.Symbol.TheVariants.{Token, Data}
use Rattle.turtle_grammar.specs.declared.production.Node.{Node}
use Rattle.turtle_grammar.specs.declared.production.Node.TheVariants as node
use Rattle.turtle_grammar.specs.declared.production.Within.{Within}
use Rattle.turtle_grammar.specs.declared.goal.FormulaUse.{FormulaUse}
use Rattle.turtle_grammar.specs.declared.goal.FormulaUse.TheVariants as formula_use
use Rattle.turtle_grammar.specs.declared.goal.Closer.{Closer}
use Rattle.turtle_grammar.specs.declared.goal.Closer.TheVariants as closer
use Rattle.turtle_grammar.specs.declared.goal.CellUse.{CellUse}
use Rattle.turtle_grammar.specs.declared.goal.CellUse.TheVariants as cell_use
use Rattle.turtle_grammar.specs.declared.goal.CollectionUse.{CollectionUse}
use Rattle.turtle_grammar.specs.declared.goal.CollectionUse.TheVariants as collection_use
use Rattle.turtle_grammar.specs.declared.goal.Goal.{Goal}
use Rattle.turtle_grammar.specs.declared.goal.Goal.TheVariants as goal
use Rattle.turtle_grammar.specs.Productions.{Point, passed, fresh, counted, produces}
use Rattle.turtle_grammar.specs.Productions.{says}
use Rattle.turtle_grammar.specs.Readings.{end_of}
use Rattle.turtle_grammar.specs.Stacks.{Step, before, one, closes}
use Rattle.turtle_grammar.specs.Stacks.{verb_or, after, again, perhaps, suffix, datatype}
use Rattle.turtle_grammar.specs.Stacks.{collected, collection, elements, subject_of, formula}
use Rattle.turtle_grammar.specs.Stacks.{formula_closed, prefix_name, prefix_iri, base_iri, dot_only}
use Rattle.turtle_grammar.specs.Stacks.{data_word, brace, begins, statement}
use Rattle.turtle_grammar.specs.Stacks.{dot_goals}

-- a String that waits at the top is the symbol at i
abbrev pub WaitsAt : ℕ → List Goal → Type 0
WaitsAt i (goal.Suffix s p x ∷ gs) = x ≡ i
WaitsAt i gs = Unit {0}

abbrev pub EndAt : ℕ → List Production → Type 0
EndAt i later = All (λ x. end_of x ≡ i) later

-- From the point m to the point n a symbol is passed, and what is produced ends at it.
pub record Adds (m n : Point) : Type 0 where
  pub later : List Production
  pub produced : n.produced ≡ m.produced ++ later
  pub passes : n.at ≡ m.at + 1
  pub ends : EndAt m.at later

abbrev pub AddsStep : Point → Step → Type 0
AddsStep m x = Adds m x.point × WaitsAt m.at x.goals

abbrev pub OnStep : Option Step → (Step → Type 0) → Type 0
OnStep None P = Unit {0}
OnStep (Some x) P = P x

pub quiet : (m n : Point) → n.produced ≡ m.produced → n.at ≡ m.at + 1 → Adds m n
quiet m n e f = record { later = []; produced = e ∙ sym (append-nil m.produced); passes = f; ends = All-nil _ }

pub loud : (m n : Point) (x : Production) → n.produced ≡ m.produced ++ x ∷ [] → n.at ≡ m.at + 1 → end_of x ≡ m.at → Adds m n
loud m n x e f g = record { later = x ∷ []; produced = e; passes = f; ends = All-cons (λ y. end_of y ≡ m.at) x [] g (All-nil _) }

-- a production before others
pub prepend : (m k n : Point) (x : Production) → k.produced ≡ m.produced ++ x ∷ [] → k.at ≡ m.at → end_of x ≡ m.at → Adds k n → Adds m n
prepend m k n x e f g h = record {
  later = x ∷ h.later;
  produced = h.produced ∙ ap (λ z. z ++ h.later) e ∙ append_assoc m.produced (x ∷ []) h.later;
  passes = h.passes ∙ ap (λ i. i + 1) f;
  ends = All-cons (λ y. end_of y ≡ m.at) x h.later g (subst (λ i. EndAt i h.later) f h.ends);
}

said : (s p o : Node) (m : Point) → AddsStep m (record { goals = []; point = passed (says s p o m) })
said s p o m = (loud m _ _ refl refl refl, tt)

pub one_adds : (t : Symbol) (s p : Node) (m : Point) → OnStep (one s p m t) (AddsStep m)
one_adds (Token kind.IriRef) s p m = said s p (node.Token m.at) m
one_adds (Token kind.PnameLn) s p m = said s p (node.Token m.at) m
one_adds (Token kind.PnameNs) s p m = said s p (node.Token m.at) m
one_adds (Token kind.BlankLabel) s p m = said s p (node.Token m.at) m
one_adds (Token kind.Integer) s p m = said s p (node.Token m.at) m
one_adds (Token kind.Decimal) s p m = said s p (node.Token m.at) m
one_adds (Token kind.Double) s p m = said s p (node.Token m.at) m
one_adds (Token kind.True) s p m = said s p (node.Token m.at) m
one_adds (Token kind.False) s p m = said s p (node.Token m.at) m
one_adds (Token kind.Variable) s p m = said s p (node.Token m.at) m
one_adds (Token kind.Quoted) s p m = (quiet m _ refl refl, refl)
one_adds (Token kind.Anon) s p m = (loud m _ _ refl refl refl, tt)
one_adds (Token kind.OpenSquare) s p m = (quiet m _ refl refl, tt)
one_adds (Token kind.OpenRound) s p m = (quiet m _ refl refl, tt)
one_adds (Token kind.OpenBrace) s p m = (quiet m _ refl refl, tt)
one_adds _ s p m = tt

pub formula_closed_adds : (u : FormulaUse) (m : Point) → Adds m (formula_closed u m)
formula_closed_adds (formula_use.Object s p i w) m = loud m _ _ refl refl refl
formula_closed_adds formula_use.Operation m = quiet m _ refl refl

closes_adds : (c : Closer) (t : Symbol) (m : Point) → OnStep (closes c m t) (AddsStep m)
closes_adds closer.Statement (Token kind.Dot) m = (quiet m _ refl refl, tt)
closes_adds closer.Subject (Token kind.CloseSquare) m = (quiet m _ refl refl, tt)
closes_adds (closer.Object s p o) (Token kind.CloseSquare) m = said s p o m
closes_adds (closer.Formula u) (Token kind.CloseBrace) m = (formula_closed_adds u m, tt)
closes_adds (closer.Formula u) (Token kind.Dot) m = (quiet m _ refl refl, tt)
closes_adds _ _ m = tt

verb_adds : (t : Symbol) (s : Node) (c : Closer) (m : Point) (other : Option Step) → OnStep other (AddsStep m)
    → OnStep (verb_or s c m t other) (AddsStep m)
verb_adds (Token kind.IriRef) s c m other h = (quiet m _ refl refl, tt)
verb_adds (Token kind.PnameLn) s c m other h = (quiet m _ refl refl, tt)
verb_adds (Token kind.PnameNs) s c m other h = (quiet m _ refl refl, tt)
verb_adds (Token kind.A) s c m other h = (quiet m _ refl refl, tt)
verb_adds (Token kind.Variable) s c m other h = (quiet m _ refl refl, tt)
verb_adds _ s c m other h = h

perhaps_adds : (t : Symbol) (s : Node) (c : Closer) (m : Point) → OnStep (perhaps s c m t) (AddsStep m)
perhaps_adds t s c m = verb_adds t s c m (closes c m t) (closes_adds c t m)

after_adds : (t : Symbol) (s p : Node) (c : Closer) (m : Point) → OnStep (after s p c m t) (AddsStep m)
after_adds (Token kind.Comma) s p c m = (quiet m _ refl refl, tt)
after_adds (Token kind.Semicolon) s p c m = (quiet m _ refl refl, tt)
after_adds t s p c m = closes_adds c t m

again_adds : (t : Symbol) (s : Node) (c : Closer) (m : Point) → OnStep (again s c m t) (AddsStep m)
again_adds (Token kind.Semicolon) s c m = (quiet m _ refl refl, tt)
again_adds t s c m = perhaps_adds t s c m

suffix_adds : (t : Symbol) (s p : Node) (x : ℕ) (m : Point) → OnStep (suffix s p x m t) (AddsStep m)
suffix_adds (Token kind.LangTag) s p x m = said s p (node.Tagged x m.at) m
suffix_adds (Token kind.Carets) s p x m = (quiet m _ refl refl, tt)
suffix_adds _ s p x m = tt

datatype_adds : (t : Symbol) (s p : Node) (x : ℕ) (m : Point) → OnStep (datatype s p x m t) (AddsStep m)
datatype_adds (Token kind.IriRef) s p x m = said s p (node.Typed x m.at) m
datatype_adds (Token kind.PnameLn) s p x m = said s p (node.Typed x m.at) m
datatype_adds (Token kind.PnameNs) s p x m = said s p (node.Typed x m.at) m
datatype_adds _ s p x m = tt

-- goals after those of a step, of which none is a String that waits
pub waits_before : (i : ℕ) (xs es : List Goal) → WaitsAt i xs → WaitsAt i es → WaitsAt i (xs ++ es)
waits_before i [] es h k = k
waits_before i (goal.Suffix s p x ∷ xs) es h k = h
waits_before i (_ ∷ xs) es h k = tt

before_adds : (m : Point) (es : List Goal) (o : Option Step) → OnStep o (AddsStep m) → WaitsAt m.at es → OnStep (before es o) (AddsStep m)
before_adds m es None h k = tt
before_adds m es (Some x) h k = (h.0, waits_before m.at x.goals es h.1 k)

-- the same after a production at this symbol, and from where a cell was counted
from_counted : (m : Point) (x : Step) → AddsStep (counted m) x → AddsStep m x
from_counted m x h = (record { later = h.0.later; produced = h.0.produced; passes = h.0.passes; ends = h.0.ends }, h.1)

on_counted : (m : Point) (o : Option Step) → OnStep o (AddsStep (counted m)) → OnStep o (AddsStep m)
on_counted m None h = tt
on_counted m (Some x) h = from_counted m x h

on_cell : (m : Point) (x : Production) (o : Option Step) → end_of x ≡ m.at
    → OnStep o (AddsStep (counted (produces x m))) → OnStep o (AddsStep m)
on_cell m x None e h = tt
on_cell m x (Some y) e h = (prepend m (counted (produces x m)) y.point x refl refl e h.0, h.1)

collection_adds : (u : CollectionUse) (t : Symbol) (m : Point) → OnStep (collection u m t) (AddsStep m)
collection_adds (collection_use.Subject c) (Token kind.CloseRound) m = (quiet m _ refl refl, tt)
collection_adds (collection_use.Object s p) (Token kind.CloseRound) m = said s p node.Nil m
collection_adds (collection_use.Subject c) t m =
    before_adds m (goal.Elements (fresh m) cell_use.Subject ∷ goal.Predicates (fresh m) c ∷ []) (one (fresh m) node.First (counted m) t)
    (on_counted m (one (fresh m) node.First (counted m) t) (one_adds t (fresh m) node.First (counted m))) tt
collection_adds (collection_use.Object s p) t m =
    before_adds m (goal.Elements (fresh m) (cell_use.Object s p (fresh m)) ∷ []) (one (fresh m) node.First (counted m) t)
    (on_counted m (one (fresh m) node.First (counted m) t) (one_adds t (fresh m) node.First (counted m))) tt

pub collected_adds : (u : CellUse) (c : Node) (m : Point) → Adds m (collected u (says c node.Rest node.Nil m))
collected_adds cell_use.Subject c m = loud m _ _ refl refl refl
collected_adds (cell_use.Object s p o) c m =
    prepend m (says c node.Rest node.Nil m) _ _ refl refl refl (loud (says c node.Rest node.Nil m) _ _ refl refl refl)

elements_adds : (t : Symbol) (c : Node) (u : CellUse) (m : Point) → OnStep (elements c u m t) (AddsStep m)
elements_adds (Token kind.CloseRound) c u m = (collected_adds u c m, tt)
elements_adds t c u m =
    before_adds m (goal.Elements (fresh m) u ∷ []) (one (fresh m) node.First (counted (says c node.Rest (fresh m) m)) t)
    (on_cell m (Triple (record { subject = c; predicate = node.Rest; object = fresh m; within = m.within; end = m.at }))
    (one (fresh m) node.First (counted (says c node.Rest (fresh m) m)) t) refl
    (one_adds t (fresh m) node.First (counted (says c node.Rest (fresh m) m)))) tt

subject_adds : (t : Symbol) (c : Closer) (m : Point) → OnStep (subject_of c m t) (AddsStep m)
subject_adds (Token kind.IriRef) c m = (quiet m _ refl refl, tt)
subject_adds (Token kind.PnameLn) c m = (quiet m _ refl refl, tt)
subject_adds (Token kind.PnameNs) c m = (quiet m _ refl refl, tt)
subject_adds (Token kind.BlankLabel) c m = (quiet m _ refl refl, tt)
subject_adds (Token kind.Variable) c m = (quiet m _ refl refl, tt)
subject_adds (Token kind.Anon) c m = (quiet m _ refl refl, tt)
subject_adds (Token kind.OpenSquare) c m = (quiet m _ refl refl, tt)
subject_adds (Token kind.OpenRound) c m = (quiet m _ refl refl, tt)
subject_adds _ c m = tt

formula_adds : (t : Symbol) (u : FormulaUse) (m : Point) → OnStep (formula u m t) (AddsStep m)
formula_adds (Token kind.CloseBrace) u m = (formula_closed_adds u m, tt)
formula_adds t u m = subject_adds t (closer.Formula u) m

prefix_name_adds : (t : Symbol) (d : Bool) (m : Point) → OnStep (prefix_name d m t) (AddsStep m)
prefix_name_adds (Token kind.PnameNs) d m = (quiet m _ refl refl, tt)
prefix_name_adds _ d m = tt

dots_wait : (i : ℕ) (d : Bool) → WaitsAt i (dot_goals d)
dots_wait i true = tt
dots_wait i false = tt

prefix_iri_adds : (t : Symbol) (d : Bool) (i : ℕ) (m : Point) → OnStep (prefix_iri d i m t) (AddsStep m)
prefix_iri_adds (Token kind.IriRef) d i m = (loud m _ (Prefix i m.at) refl refl refl, dots_wait m.at d)
prefix_iri_adds _ d i m = tt

base_iri_adds : (t : Symbol) (d : Bool) (m : Point) → OnStep (base_iri d m t) (AddsStep m)
base_iri_adds (Token kind.IriRef) d m = (loud m _ (Base m.at) refl refl refl, dots_wait m.at d)
base_iri_adds _ d m = tt

dot_adds : (t : Symbol) (m : Point) → OnStep (dot_only m t) (AddsStep m)
dot_adds (Token kind.Dot) m = (quiet m _ refl refl, tt)
dot_adds _ m = tt

data_adds : (t : Symbol) (w : Within) (m : Point) → OnStep (data_word w m t) (AddsStep m)
data_adds Data w m = (quiet m _ refl refl, tt)
data_adds _ w m = tt

brace_adds : (t : Symbol) (w : Within) (m : Point) → OnStep (brace w m t) (AddsStep m)
brace_adds (Token kind.OpenBrace) w m = (quiet m _ refl refl, tt)
brace_adds _ w m = tt

pub begins_adds : (g : Goal) (t : Symbol) (m : Point) → OnStep (begins g m t) (AddsStep m)
begins_adds (goal.One s p) t m = one_adds t s p m
begins_adds (goal.Suffix s p x) t m = suffix_adds t s p x m
begins_adds (goal.Datatype s p x) t m = datatype_adds t s p x m
begins_adds (goal.After s p c) t m = after_adds t s p c m
begins_adds (goal.Again s c) t m = again_adds t s c m
begins_adds (goal.Predicates s c) t m = verb_adds t s c m None tt
begins_adds (goal.Maybe s c) t m = perhaps_adds t s c m
begins_adds (goal.Formula u) t m = formula_adds t u m
begins_adds (goal.Collection u) t m = collection_adds u t m
begins_adds (goal.Elements c u) t m = elements_adds t c u m
begins_adds (goal.PrefixName d) t m = prefix_name_adds t d m
begins_adds (goal.PrefixIri d i) t m = prefix_iri_adds t d i m
begins_adds (goal.BaseIri d) t m = base_iri_adds t d m
begins_adds goal.Dot t m = dot_adds t m
begins_adds (goal.Data w) t m = data_adds t w m
begins_adds (goal.Brace w) t m = brace_adds t w m

pub statement_adds : (t : Symbol) (m : Point) → OnStep (statement m t) (AddsStep m)
statement_adds (Token kind.AtPrefix) m = (quiet m _ refl refl, tt)
statement_adds (Token kind.AtBase) m = (quiet m _ refl refl, tt)
statement_adds (Token kind.Prefix) m = (quiet m _ refl refl, tt)
statement_adds (Token kind.Base) m = (quiet m _ refl refl, tt)
statement_adds t m = subject_adds t closer.Statement m
