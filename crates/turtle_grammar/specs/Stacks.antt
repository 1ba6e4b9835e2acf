-- The machine: a stack of goals, and one step for each symbol.
use Rattle.std.specs.Prelude.{ℕ, ◌≡◌, List, [], ◌∷◌, ◌++◌, Option, Some, None, Bool, true, false}
use Rattle.std.specs.Prelude.{cond, reverse}
use Rattle.turtle_lex.specs.declared.token.TokenKind.TheVariants as kind
use Rattle.turtle_grammar.specs.declared.symbol.Start.{Start}
use Rattle.turtle_grammar.specs.declared.symbol.Start.TheVariants as start_of
use Rattle.turtle_grammar.specs.declared.symbol.Symbol.{Symbol}
use Rattle.turtle_grammar.specs.declared.symbol.Symbol.TheVariants.{Token, Insert, Delete, Data}
use Rattle.turtle_grammar.specs.declared.production.Node.{Node}
use Rattle.turtle_grammar.specs.declared.production.Node.TheVariants as node
use Rattle.turtle_grammar.specs.declared.production.Within.{Within}
use Rattle.turtle_grammar.specs.declared.production.Within.TheVariants as within
use Rattle.turtle_grammar.specs.declared.production.SymbolicTriple.{SymbolicTriple}
use Rattle.turtle_grammar.specs.declared.production.Production.{Production}
use Rattle.turtle_grammar.specs.declared.production.Production.TheVariants.{Prefix}
use Rattle.turtle_grammar.specs.declared.goal.FormulaUse.{FormulaUse}
use Rattle.turtle_grammar.specs.declared.goal.FormulaUse.TheVariants as formula_use
use Rattle.turtle_grammar.specs.declared.goal.Closer.{Closer}
use Rattle.turtle_grammar.specs.declared.goal.Closer.TheVariants as closer
use Rattle.turtle_grammar.specs.declared.goal.CellUse.{CellUse}
use Rattle.turtle_grammar.specs.declared.goal.CellUse.TheVariants as cell_use
use Rattle.turtle_grammar.specs.declared.goal.CollectionUse.{CollectionUse}
use Rattle.turtle_grammar.specs.declared.goal.CollectionUse.TheVariants as collection_use
use Rattle.turtle_grammar.specs.declared.goal.Goal.{Goal}
use Rattle.turtle_grammar.specs.declared.goal.Goal.TheVariants as goal
use Rattle.turtle_grammar.specs.declared.goal.Rest.{Rest}
use Rattle.turtle_grammar.specs.declared.goal.Rest.TheVariants as rest_of
use Rattle.turtle_grammar.specs.Productions.{Point, start_point, passed, fresh, counted, moved}
use Rattle.turtle_grammar.specs.Productions.{produces, triple_at, says, says_token, base_end}

-- the goals that a symbol leaves of one goal, and the point after it
pub record Step : Type 0 where
  pub goals : List Goal
  pub point : Point

abbrev pub step_to : List Goal → Point → Option Step
step_to gs m = Some (record { goals = gs; point = m })

-- with these goals after those of the step
abbrev pub before : List Goal → Option Step → Option Step
before gs None = None
before gs (Some x) = step_to (x.goals ++ gs) x.point

-- An object of s and p.
abbrev pub one : Node → Node → Point → Symbol → Option Step
one s p m (Token kind.IriRef) = step_to [] (says_token s p m)
one s p m (Token kind.PnameLn) = step_to [] (says_token s p m)
one s p m (Token kind.PnameNs) = step_to [] (says_token s p m)
one s p m (Token kind.BlankLabel) = step_to [] (says_token s p m)
one s p m (Token kind.Integer) = step_to [] (says_token s p m)
one s p m (Token kind.Decimal) = step_to [] (says_token s p m)
one s p m (Token kind.Double) = step_to [] (says_token s p m)
one s p m (Token kind.True) = step_to [] (says_token s p m)
one s p m (Token kind.False) = step_to [] (says_token s p m)
one s p m (Token kind.Variable) = step_to [] (says_token s p m)
one s p m (Token kind.Quoted) = step_to (goal.Suffix s p m.at ∷ []) (passed m)
one s p m (Token kind.Anon) = step_to [] (passed (says s p (fresh m) (counted m)))
one s p m (Token kind.OpenSquare) =
    step_to (goal.Predicates (fresh m) (closer.Object s p (fresh m)) ∷ []) (passed (counted m))
one s p m (Token kind.OpenRound) =
    step_to (goal.Collection (collection_use.Object s p) ∷ []) (passed m)
one s p m (Token kind.OpenBrace) =
    step_to (goal.Formula (formula_use.Object s p m.at m.within) ∷ [])
    (moved (within.Formula m.at) (passed m))
one s p m _ = None

-- the end of a formula
abbrev pub formula_closed : FormulaUse → Point → Point
formula_closed (formula_use.Object s p i w) m = passed (says s p (node.Formula i) (moved w m))
formula_closed formula_use.Operation m = passed (moved within.Document m)

-- The end of a predicateObjectList.
abbrev pub closes : Closer → Point → Symbol → Option Step
closes closer.Statement m (Token kind.Dot) = step_to [] (passed m)
closes closer.Subject m (Token kind.CloseSquare) = step_to [] (passed m)
closes (closer.Object s p o) m (Token kind.CloseSquare) = step_to [] (passed (says s p o m))
closes (closer.Formula u) m (Token kind.CloseBrace) = step_to [] (formula_closed u m)
closes (closer.Formula u) m (Token kind.Dot) = step_to (goal.Formula u ∷ []) (passed m)
closes _ m _ = None

-- the objects of the verb at this point
abbrev pub objects : Node → Closer → Point → Option Step
objects s c m =
    step_to (goal.One s (node.Token m.at) ∷ goal.After s (node.Token m.at) c ∷ []) (passed m)

-- A verb of s, or the other step.
abbrev pub verb_or : Node → Closer → Point → Symbol → Option Step → Option Step
verb_or s c m (Token kind.IriRef) other = objects s c m
verb_or s c m (Token kind.PnameLn) other = objects s c m
verb_or s c m (Token kind.PnameNs) other = objects s c m
verb_or s c m (Token kind.A) other = objects s c m
verb_or s c m (Token kind.Variable) other = objects s c m
verb_or s c m _ other = other

abbrev pub after : Node → Node → Closer → Point → Symbol → Option Step
after s p c m (Token kind.Comma) = step_to (goal.One s p ∷ goal.After s p c ∷ []) (passed m)
after s p c m (Token kind.Semicolon) = step_to (goal.Again s c ∷ []) (passed m)
after s p c m t = closes c m t

abbrev pub again : Node → Closer → Point → Symbol → Option Step
again s c m (Token kind.Semicolon) = step_to (goal.Again s c ∷ []) (passed m)
again s c m t = verb_or s c m t (closes c m t)

abbrev pub predicates : Node → Closer → Point → Symbol → Option Step
predicates s c m t = verb_or s c m t None

abbrev pub perhaps : Node → Closer → Point → Symbol → Option Step
perhaps s c m t = verb_or s c m t (closes c m t)

-- What follows the String at x.
abbrev pub suffix : Node → Node → ℕ → Point → Symbol → Option Step
suffix s p x m (Token kind.LangTag) = step_to [] (passed (says s p (node.Tagged x m.at) m))
suffix s p x m (Token kind.Carets) = step_to (goal.Datatype s p x ∷ []) (passed m)
suffix s p x m _ = None

abbrev pub datatype : Node → Node → ℕ → Point → Symbol → Option Step
datatype s p x m (Token kind.IriRef) = step_to [] (passed (says s p (node.Typed x m.at) m))
datatype s p x m (Token kind.PnameLn) = step_to [] (passed (says s p (node.Typed x m.at) m))
datatype s p x m (Token kind.PnameNs) = step_to [] (passed (says s p (node.Typed x m.at) m))
datatype s p x m _ = None

-- the `)` of a collection
abbrev pub collected : CellUse → Point → Point
collected cell_use.Subject m = passed m
collected (cell_use.Object s p o) m = passed (says s p o m)

-- After the `(` of a collection.
abbrev pub collection : CollectionUse → Point → Symbol → Option Step
collection (collection_use.Subject c) m (Token kind.CloseRound) =
    step_to (goal.Predicates node.Nil c ∷ []) (passed m)
collection (collection_use.Subject c) m t =
    before (goal.Elements (fresh m) cell_use.Subject ∷ goal.Predicates (fresh m) c ∷ [])
    (one (fresh m) node.First (counted m) t)
collection (collection_use.Object s p) m (Token kind.CloseRound) =
    step_to [] (passed (says s p node.Nil m))
collection (collection_use.Object s p) m t =
    before (goal.Elements (fresh m) (cell_use.Object s p (fresh m)) ∷ [])
    (one (fresh m) node.First (counted m) t)

-- After an element, the one of the cell c.
abbrev pub elements : Node → CellUse → Point → Symbol → Option Step
elements c u m (Token kind.CloseRound) = step_to [] (collected u (says c node.Rest node.Nil m))
elements c u m t = before (goal.Elements (fresh m) u ∷ [])
    (one (fresh m) node.First (counted (says c node.Rest (fresh m) m)) t)

-- Triples, whose predicates have this end.
abbrev pub subject_of : Closer → Point → Symbol → Option Step
subject_of c m (Token kind.IriRef) = step_to (goal.Predicates (node.Token m.at) c ∷ []) (passed m)
subject_of c m (Token kind.PnameLn) =
    step_to (goal.Predicates (node.Token m.at) c ∷ []) (passed m)
subject_of c m (Token kind.PnameNs) =
    step_to (goal.Predicates (node.Token m.at) c ∷ []) (passed m)
subject_of c m (Token kind.BlankLabel) =
    step_to (goal.Predicates (node.Token m.at) c ∷ []) (passed m)
subject_of c m (Token kind.Variable) =
    step_to (goal.Predicates (node.Token m.at) c ∷ []) (passed m)
subject_of c m (Token kind.Anon) =
    step_to (goal.Predicates (fresh m) c ∷ []) (passed (counted m))
subject_of c m (Token kind.OpenSquare) =
    step_to (goal.Predicates (fresh m) closer.Subject ∷ goal.Maybe (fresh m) c ∷ [])
    (passed (counted m))
subject_of c m (Token kind.OpenRound) =
    step_to (goal.Collection (collection_use.Subject c) ∷ []) (passed m)
subject_of c m _ = None

abbrev pub formula : FormulaUse → Point → Symbol → Option Step
formula u m (Token kind.CloseBrace) = step_to [] (formula_closed u m)
formula u m t = subject_of (closer.Formula u) m t

-- the dot of a directive, where it has one
abbrev pub dot_goals : Bool → List Goal
dot_goals true = goal.Dot ∷ []
dot_goals false = []

abbrev pub prefix_name : Bool → Point → Symbol → Option Step
prefix_name dot m (Token kind.PnameNs) = step_to (goal.PrefixIri dot m.at ∷ []) (passed m)
prefix_name dot m _ = None

abbrev pub prefix_iri : Bool → ℕ → Point → Symbol → Option Step
prefix_iri dot i m (Token kind.IriRef) =
    step_to (dot_goals dot) (passed (produces (Prefix i m.at) m))
prefix_iri dot i m _ = None

abbrev pub base_iri : Bool → Point → Symbol → Option Step
base_iri dot m (Token kind.IriRef) = step_to (dot_goals dot) (base_end m)
base_iri dot m _ = None

abbrev pub dot_only : Point → Symbol → Option Step
dot_only m (Token kind.Dot) = step_to [] (passed m)
dot_only m _ = None

abbrev pub data_word : Within → Point → Symbol → Option Step
data_word w m Data = step_to (goal.Brace w ∷ []) (passed m)
data_word w m _ = None

abbrev pub brace : Within → Point → Symbol → Option Step
brace w m (Token kind.OpenBrace) =
    step_to (goal.Formula formula_use.Operation ∷ []) (moved w (passed m))
brace w m _ = None

-- A goal begins with this symbol.
abbrev pub begins : Goal → Point → Symbol → Option Step
begins (goal.One s p) m t = one s p m t
begins (goal.Suffix s p x) m t = suffix s p x m t
begins (goal.Datatype s p x) m t = datatype s p x m t
begins (goal.After s p c) m t = after s p c m t
begins (goal.Again s c) m t = again s c m t
begins (goal.Predicates s c) m t = predicates s c m t
begins (goal.Maybe s c) m t = perhaps s c m t
begins (goal.Formula u) m t = formula u m t
begins (goal.Collection u) m t = collection u m t
begins (goal.Elements c u) m t = elements c u m t
begins (goal.PrefixName dot) m t = prefix_name dot m t
begins (goal.PrefixIri dot i) m t = prefix_iri dot i m t
begins (goal.BaseIri dot) m t = base_iri dot m t
begins goal.Dot m t = dot_only m t
begins (goal.Data w) m t = data_word w m t
begins (goal.Brace w) m t = brace w m t

-- all of the machine: its goals, the top first, what comes after them, and the point
pub record Stage : Type 0 where
  pub goals : List Goal
  pub rest : Rest
  pub point : Point

abbrev pub stage_to : List Goal → Rest → Point → Option Stage
stage_to gs w m = Some (record { goals = gs; rest = w; point = m })

abbrev pub staged : Rest → Option Step → Option Stage
staged w None = None
staged w (Some x) = stage_to x.goals w x.point

-- A statement of a document begins.
abbrev pub statement : Point → Symbol → Option Step
statement m (Token kind.AtPrefix) = step_to (goal.PrefixName true ∷ []) (passed m)
statement m (Token kind.AtBase) = step_to (goal.BaseIri true ∷ []) (passed m)
statement m (Token kind.Prefix) = step_to (goal.PrefixName false ∷ []) (passed m)
statement m (Token kind.Base) = step_to (goal.BaseIri false ∷ []) (passed m)
statement m t = subject_of closer.Statement m t

-- An update begins.
abbrev pub update : Point → Symbol → Option Stage
update m (Token kind.Prefix) =
    stage_to (goal.PrefixName false ∷ []) rest_of.Update (passed m)
update m (Token kind.Base) = stage_to (goal.BaseIri false ∷ []) rest_of.Update (passed m)
update m Insert = stage_to (goal.Data within.Insert ∷ []) rest_of.AfterOperation (passed m)
update m Delete = stage_to (goal.Data within.Delete ∷ []) rest_of.AfterOperation (passed m)
update m _ = None

-- After an operation.
abbrev pub after_operation : Point → Symbol → Option Stage
after_operation m (Token kind.Semicolon) = stage_to [] rest_of.Update (passed m)
after_operation m _ = None

abbrev pub top : Rest → Point → Symbol → Option Stage
top rest_of.Statements m t = staged rest_of.Statements (statement m t)
top rest_of.Update m t = update m t
top rest_of.AfterOperation m t = after_operation m t

-- The top goal takes the symbol.
abbrev pub take_symbol : List Goal → Rest → Point → Symbol → Option Stage
take_symbol [] w m t = top w m t
take_symbol (g ∷ gs) w m t = staged w (before gs (begins g m t))

-- whether the symbol adds something to a String before it
abbrev pub adds_to_string : Symbol → Bool
adds_to_string (Token kind.LangTag) = true
adds_to_string (Token kind.Carets) = true
adds_to_string t = false

-- One step of the machine: what may follow a String gives way to the goal after it.
abbrev pub step : List Goal → Rest → Point → Symbol → Option Stage
step (goal.Suffix s p x ∷ gs) w m (Token kind.LangTag) =
    take_symbol (goal.Suffix s p x ∷ gs) w m (Token kind.LangTag)
step (goal.Suffix s p x ∷ gs) w m (Token kind.Carets) =
    take_symbol (goal.Suffix s p x ∷ gs) w m (Token kind.Carets)
step (goal.Suffix s p x ∷ gs) w m t = take_symbol gs w (triple_at x s p (node.Token x) m) t
step gs w m t = take_symbol gs w m t

abbrev pub step_of : Stage → Symbol → Option Stage
step_of x t = step x.goals x.rest x.point t

abbrev pub take_of : Stage → Symbol → Option Stage
take_of x t = take_symbol x.goals x.rest x.point t

abbrev pub then : Option Stage → (Stage → Option Stage) → Option Stage
then None f = None
then (Some x) f = f x

-- The machine on all of the symbols.
abbrev pub reach : List Goal → Rest → Point → List Symbol → Option Stage
reach gs w m [] = stage_to gs w m
reach gs w m (t ∷ ts) = then (step gs w m t) (λ x. reach x.goals x.rest x.point ts)

abbrev pub first_rest : Start → Rest
first_rest start_of.Update = rest_of.Update
first_rest start = rest_of.Statements

abbrev pub run : Start → List Symbol → Option Stage
run start ts = reach [] (first_rest start) start_point ts

-- the machine as its code keeps it: the top of the stack is the last
abbrev pub seen : List Goal → Rest → ℕ → ℕ → Within → List Production → Stage
seen stack w at unnamed inside produced = record {
  goals = reverse stack;
  rest = w;
  point = record { at = at; unnamed = unnamed; within = inside; produced = produced };
}

-- what the code does to the machine
abbrev pub wants : Goal → Stage → Stage
wants g x = record { goals = g ∷ x.goals; rest = x.rest; point = x.point }

abbrev pub at_point : Point → Stage → Stage
at_point m x = record { goals = x.goals; rest = x.rest; point = m }

abbrev pub with_rest : Rest → Stage → Stage
with_rest w x = record { goals = x.goals; rest = w; point = x.point }

abbrev pub with_produced : List Production → Point → Point
with_produced productions m = record {
  at = m.at;
  unnamed = m.unnamed;
  within = m.within;
  produced = productions;
}

abbrev pub cleared : Stage → Stage
cleared x = at_point (with_produced [] x.point) x

-- the triple of a String at the top, where nothing follows it
abbrev pub waiting_goals : List Goal → Within → Option SymbolicTriple
waiting_goals (goal.Suffix s p x ∷ gs) w =
    Some (record { subject = s; predicate = p; object = node.Token x; within = w; end = x })
waiting_goals gs w = None

abbrev pub waiting_triple : Stage → Option SymbolicTriple
waiting_triple x = waiting_goals x.goals x.point.within

abbrev pub ended_goals : List Goal → Rest → Point → Stage
ended_goals (goal.Suffix s p x ∷ gs) w m =
    record { goals = gs; rest = w; point = triple_at x s p (node.Token x) m }
ended_goals gs w m = record { goals = gs; rest = w; point = m }

abbrev pub string_ended : Stage → Stage
string_ended x = ended_goals x.goals x.rest x.point

-- what a goal leaves, or what comes after the last one, on the goals of the machine
abbrev pub behind : Stage → Option Step → Option Stage
behind x o = staged x.rest (before x.goals o)

abbrev pub on_top : Stage → Option Stage → Option Stage
on_top x None = None
on_top x (Some y) = stage_to (y.goals ++ x.goals) y.rest y.point

-- whether the symbol was taken, and the machine then
abbrev pub Takes : Option Stage → Bool → Stage → Type 0
Takes o taken x = o ≡ cond taken (Some x) None
