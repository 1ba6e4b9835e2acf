-- What a step names: tokens that the goals name, and its own.
use Rattle.std.proofs.Common.{ℕ, List, [], ◌∷◌, ◌++◌, Bool, true, false, Option, Some, None}
use Rattle.std.proofs.lemmas.List.Elements.{All-push}
use Rattle.std.specs.List.{All}
use Rattle.turtle_grammar.specs.declared.production.Production.TheVariants.{Prefix, Base}
use Rattle.turtle_lex.specs.declared.token.TokenKind.TheVariants as kind
use Rattle.turtle_grammar.specs.declared.symbol.Symbol.{Symbol}
use Rattle.turtle_grammar.specs.declared.symbol.Symbol.TheVariants.{Token, Insert, Delete, Data}
use Rattle.turtle_grammar.specs.declared.production.Node.{Node}
use Rattle.turtle_grammar.specs.declared.production.Node.TheVariants as node
use Rattle.turtle_grammar.specs.declared.production.Within.{Within}
use Rattle.turtle_grammar.specs.declared.goal.FormulaUse.{FormulaUse}
use Rattle.turtle_grammar.specs.declared.goal.FormulaUse.TheVariants as formula_use
use Rattle.turtle_grammar.specs.declared.goal.Closer.{Closer}
use Rattle.turtle_grammar.specs.declared.goal.Closer.TheVariants as closer
use Rattle.turtle_grammar.specs.declared.goal.CellUse.{CellUse}
use Rattle.turtle_grammar.specs.declared.goal.CellUse.TheVariants as cell_use
use Rattle.turtle_grammar.specs.declared.goal.CollectionUse.{CollectionUse}
use Rattle.turtle_grammar.specs.declared.goal.CollectionUse.TheVariants as collection_use
use Rattle.turtle_grammar.specs.declared.goal.Goal.{Goal}
use Rattle.turtle_grammar.specs.declared.goal.Goal.TheVariants as goal
use Rattle.turtle_grammar.specs.declared.goal.Rest.{Rest}
use Rattle.turtle_grammar.specs.declared.goal.Rest.TheVariants as rest_of
use Rattle.turtle_grammar.specs.Productions.{Point, fresh, counted, moved, triple_at, says}
use Rattle.turtle_grammar.specs.Names.{NodeNames, Names, FormulaNames, CloserNames, CellNames, CollectionNames, GoalNames, GoalsName}
use Rattle.turtle_grammar.specs.Stacks.{Step, Stage, staged, before, one, closes}
use Rattle.turtle_grammar.specs.Stacks.{verb_or, after, again, perhaps, suffix, datatype}
use Rattle.turtle_grammar.specs.Stacks.{collected, collection, elements, subject_of, formula}
use Rattle.turtle_grammar.specs.Stacks.{formula_closed, prefix_name, prefix_iri, base_iri, dot_only}
use Rattle.turtle_grammar.specs.Stacks.{data_word, brace, begins, statement, update, after_operation}
use Rattle.turtle_grammar.specs.Stacks.{take_symbol, step, dot_goals}
use Rattle.turtle_grammar.proofs.Backward.{On}
use Rattle.turtle_grammar.proofs.Ends.{OnStep}

module _ (P : ℕ → Type 0) where
  abbrev pub Produced : Point → Type 0
  Produced m = All (Names P) m.produced

  abbrev StepNames : Step → Type 0
  StepNames x = GoalsName P x.goals × Produced x.point

  abbrev pub StageNames : Stage → Type 0
  StageNames x = GoalsName P x.goals × Produced x.point

  said : (s p o : Node) (m : Point) → NodeNames P s → NodeNames P p → NodeNames P o → Produced m → Produced (says s p o m)
  said s p o m hs hp ho h = All-push (Names P) m.produced _ h (hs, hp, ho)

  one_names : (t : Symbol) (s p : Node) (m : Point) → NodeNames P s → NodeNames P p → P m.at → Produced m
      → OnStep (one s p m t) StepNames
  one_names (Token kind.IriRef) s p m hs hp i h = (tt, said s p (node.Token m.at) m hs hp i h)
  one_names (Token kind.PnameLn) s p m hs hp i h = (tt, said s p (node.Token m.at) m hs hp i h)
  one_names (Token kind.PnameNs) s p m hs hp i h = (tt, said s p (node.Token m.at) m hs hp i h)
  one_names (Token kind.BlankLabel) s p m hs hp i h = (tt, said s p (node.Token m.at) m hs hp i h)
  one_names (Token kind.Integer) s p m hs hp i h = (tt, said s p (node.Token m.at) m hs hp i h)
  one_names (Token kind.Decimal) s p m hs hp i h = (tt, said s p (node.Token m.at) m hs hp i h)
  one_names (Token kind.Double) s p m hs hp i h = (tt, said s p (node.Token m.at) m hs hp i h)
  one_names (Token kind.True) s p m hs hp i h = (tt, said s p (node.Token m.at) m hs hp i h)
  one_names (Token kind.False) s p m hs hp i h = (tt, said s p (node.Token m.at) m hs hp i h)
  one_names (Token kind.Variable) s p m hs hp i h = (tt, said s p (node.Token m.at) m hs hp i h)
  one_names (Token kind.Quoted) s p m hs hp i h = (((hs, hp, i), tt), h)
  one_names (Token kind.Anon) s p m hs hp i h = (tt, said s p (fresh m) (counted m) hs hp tt h)
  one_names (Token kind.OpenSquare) s p m hs hp i h = (((tt, (hs, hp, tt)), tt), h)
  one_names (Token kind.OpenRound) s p m hs hp i h = (((hs, hp), tt), h)
  one_names (Token kind.OpenBrace) s p m hs hp i h = (((hs, hp), tt), h)
  one_names _ s p m hs hp i h = tt

  formula_closed_names : (u : FormulaUse) (m : Point) → FormulaNames P u → Produced m → Produced (formula_closed u m)
  formula_closed_names (formula_use.Object s p i w) m hu h = said s p (node.Formula i) (moved w m) hu.0 hu.1 tt h
  formula_closed_names formula_use.Operation m hu h = h

  closes_names : (c : Closer) (t : Symbol) (m : Point) → CloserNames P c → Produced m → OnStep (closes c m t) StepNames
  closes_names closer.Statement (Token kind.Dot) m hc h = (tt, h)
  closes_names closer.Subject (Token kind.CloseSquare) m hc h = (tt, h)
  closes_names (closer.Object s p o) (Token kind.CloseSquare) m hc h = (tt, said s p o m hc.0 hc.1 hc.2 h)
  closes_names (closer.Formula u) (Token kind.CloseBrace) m hc h = (tt, formula_closed_names u m hc h)
  closes_names (closer.Formula u) (Token kind.Dot) m hc h = ((hc, tt), h)
  closes_names _ _ m hc h = tt

  verb_names : (t : Symbol) (s : Node) (c : Closer) (m : Point) (other : Option Step) → NodeNames P s → CloserNames P c → P m.at → Produced m
      → OnStep other StepNames → OnStep (verb_or s c m t other) StepNames
  verb_names (Token kind.IriRef) s c m other hs hc i h k = (((hs, i), ((hs, i, hc), tt)), h)
  verb_names (Token kind.PnameLn) s c m other hs hc i h k = (((hs, i), ((hs, i, hc), tt)), h)
  verb_names (Token kind.PnameNs) s c m other hs hc i h k = (((hs, i), ((hs, i, hc), tt)), h)
  verb_names (Token kind.A) s c m other hs hc i h k = (((hs, i), ((hs, i, hc), tt)), h)
  verb_names (Token kind.Variable) s c m other hs hc i h k = (((hs, i), ((hs, i, hc), tt)), h)
  verb_names _ s c m other hs hc i h k = k

  perhaps_names : (t : Symbol) (s : Node) (c : Closer) (m : Point) → NodeNames P s → CloserNames P c → P m.at → Produced m
      → OnStep (perhaps s c m t) StepNames
  perhaps_names t s c m hs hc i h = verb_names t s c m (closes c m t) hs hc i h (closes_names c t m hc h)

  after_names : (t : Symbol) (s p : Node) (c : Closer) (m : Point) → NodeNames P s → NodeNames P p → CloserNames P c → Produced m
      → OnStep (after s p c m t) StepNames
  after_names (Token kind.Comma) s p c m hs hp hc h = (((hs, hp), ((hs, hp, hc), tt)), h)
  after_names (Token kind.Semicolon) s p c m hs hp hc h = (((hs, hc), tt), h)
  after_names t s p c m hs hp hc h = closes_names c t m hc h

  again_names : (t : Symbol) (s : Node) (c : Closer) (m : Point) → NodeNames P s → CloserNames P c → P m.at → Produced m
      → OnStep (again s c m t) StepNames
  again_names (Token kind.Semicolon) s c m hs hc i h = (((hs, hc), tt), h)
  again_names t s c m hs hc i h = perhaps_names t s c m hs hc i h

  suffix_names : (t : Symbol) (s p : Node) (x : ℕ) (m : Point) → NodeNames P s → NodeNames P p → P x → P m.at → Produced m
      → OnStep (suffix s p x m t) StepNames
  suffix_names (Token kind.LangTag) s p x m hs hp hx i h = (tt, said s p (node.Tagged x m.at) m hs hp (hx, i) h)
  suffix_names (Token kind.Carets) s p x m hs hp hx i h = (((hs, hp, hx), tt), h)
  suffix_names _ s p x m hs hp hx i h = tt

  datatype_names : (t : Symbol) (s p : Node) (x : ℕ) (m : Point) → NodeNames P s → NodeNames P p → P x → P m.at → Produced m
      → OnStep (datatype s p x m t) StepNames
  datatype_names (Token kind.IriRef) s p x m hs hp hx i h = (tt, said s p (node.Typed x m.at) m hs hp (hx, i) h)
  datatype_names (Token kind.PnameLn) s p x m hs hp hx i h = (tt, said s p (node.Typed x m.at) m hs hp (hx, i) h)
  datatype_names (Token kind.PnameNs) s p x m hs hp hx i h = (tt, said s p (node.Typed x m.at) m hs hp (hx, i) h)
  datatype_names _ s p x m hs hp hx i h = tt

  pub goals_append : (xs gs : List Goal) → GoalsName P xs → GoalsName P gs → GoalsName P (xs ++ gs)
  goals_append [] gs h k = k
  goals_append (x ∷ xs) gs h k = (h.0, goals_append xs gs h.1 k)

  before_names : (es : List Goal) (o : Option Step) → OnStep o StepNames → GoalsName P es → OnStep (before es o) StepNames
  before_names es None h k = tt
  before_names es (Some x) h k = (goals_append x.goals es h.0 k, h.1)

  collection_names : (u : CollectionUse) (t : Symbol) (m : Point) → CollectionNames P u → P m.at → Produced m
      → OnStep (collection u m t) StepNames
  collection_names (collection_use.Subject c) (Token kind.CloseRound) m hu i h = (((tt, hu), tt), h)
  collection_names (collection_use.Object s p) (Token kind.CloseRound) m hu i h = (tt, said s p node.Nil m hu.0 hu.1 tt h)
  collection_names (collection_use.Subject c) t m hu i h =
      before_names (goal.Elements (fresh m) cell_use.Subject ∷ goal.Predicates (fresh m) c ∷ []) (one (fresh m) node.First (counted m) t)
      (one_names t (fresh m) node.First (counted m) tt tt i h) ((tt, tt), ((tt, hu), tt))
  collection_names (collection_use.Object s p) t m hu i h =
      before_names (goal.Elements (fresh m) (cell_use.Object s p (fresh m)) ∷ []) (one (fresh m) node.First (counted m) t)
      (one_names t (fresh m) node.First (counted m) tt tt i h) ((tt, (hu.0, hu.1, tt)), tt)

  collected_names : (u : CellUse) (m : Point) → CellNames P u → Produced m → Produced (collected u m)
  collected_names cell_use.Subject m hu h = h
  collected_names (cell_use.Object s p o) m hu h = said s p o m hu.0 hu.1 hu.2 h

  elements_names : (t : Symbol) (c : Node) (u : CellUse) (m : Point) → NodeNames P c → CellNames P u → P m.at → Produced m
      → OnStep (elements c u m t) StepNames
  elements_names (Token kind.CloseRound) c u m hc hu i h =
      (tt, collected_names u (says c node.Rest node.Nil m) hu (said c node.Rest node.Nil m hc tt tt h))
  elements_names t c u m hc hu i h =
      before_names (goal.Elements (fresh m) u ∷ []) (one (fresh m) node.First (counted (says c node.Rest (fresh m) m)) t)
      (one_names t (fresh m) node.First (counted (says c node.Rest (fresh m) m)) tt tt i (said c node.Rest (fresh m) m hc tt tt h)) ((tt, hu), tt)

  subject_names : (t : Symbol) (c : Closer) (m : Point) → CloserNames P c → P m.at → Produced m → OnStep (subject_of c m t) StepNames
  subject_names (Token kind.IriRef) c m hc i h = (((i, hc), tt), h)
  subject_names (Token kind.PnameLn) c m hc i h = (((i, hc), tt), h)
  subject_names (Token kind.PnameNs) c m hc i h = (((i, hc), tt), h)
  subject_names (Token kind.BlankLabel) c m hc i h = (((i, hc), tt), h)
  subject_names (Token kind.Variable) c m hc i h = (((i, hc), tt), h)
  subject_names (Token kind.Anon) c m hc i h = (((tt, hc), tt), h)
  subject_names (Token kind.OpenSquare) c m hc i h = (((tt, tt), ((tt, hc), tt)), h)
  subject_names (Token kind.OpenRound) c m hc i h = ((hc, tt), h)
  subject_names _ c m hc i h = tt

  formula_names : (t : Symbol) (u : FormulaUse) (m : Point) → FormulaNames P u → P m.at → Produced m → OnStep (formula u m t) StepNames
  formula_names (Token kind.CloseBrace) u m hu i h = (tt, formula_closed_names u m hu h)
  formula_names t u m hu i h = subject_names t (closer.Formula u) m hu i h

  dots_name : (d : Bool) → GoalsName P (dot_goals d)
  dots_name true = (tt, tt)
  dots_name false = tt

  prefix_name_names : (t : Symbol) (d : Bool) (m : Point) → P m.at → Produced m → OnStep (prefix_name d m t) StepNames
  prefix_name_names (Token kind.PnameNs) d m i h = ((i, tt), h)
  prefix_name_names _ d m i h = tt

  prefix_iri_names : (t : Symbol) (d : Bool) (k : ℕ) (m : Point) → P k → P m.at → Produced m → OnStep (prefix_iri d k m t) StepNames
  prefix_iri_names (Token kind.IriRef) d k m hk i h = (dots_name d, All-push (Names P) m.produced (Prefix k m.at) h (hk, i))
  prefix_iri_names _ d k m hk i h = tt

  base_iri_names : (t : Symbol) (d : Bool) (m : Point) → P m.at → Produced m → OnStep (base_iri d m t) StepNames
  base_iri_names (Token kind.IriRef) d m i h = (dots_name d, All-push (Names P) m.produced (Base m.at) h i)
  base_iri_names _ d m i h = tt

  dot_names : (t : Symbol) (m : Point) → Produced m → OnStep (dot_only m t) StepNames
  dot_names (Token kind.Dot) m h = (tt, h)
  dot_names _ m h = tt

  data_names : (t : Symbol) (w : Within) (m : Point) → Produced m → OnStep (data_word w m t) StepNames
  data_names Data w m h = ((tt, tt), h)
  data_names _ w m h = tt

  brace_names : (t : Symbol) (w : Within) (m : Point) → Produced m → OnStep (brace w m t) StepNames
  brace_names (Token kind.OpenBrace) w m h = ((tt, tt), h)
  brace_names _ w m h = tt

  begins_names : (g : Goal) (t : Symbol) (m : Point) → GoalNames P g → P m.at → Produced m → OnStep (begins g m t) StepNames
  begins_names (goal.One s p) t m hg i h = one_names t s p m hg.0 hg.1 i h
  begins_names (goal.Suffix s p x) t m hg i h = suffix_names t s p x m hg.0 hg.1 hg.2 i h
  begins_names (goal.Datatype s p x) t m hg i h = datatype_names t s p x m hg.0 hg.1 hg.2 i h
  begins_names (goal.After s p c) t m hg i h = after_names t s p c m hg.0 hg.1 hg.2 h
  begins_names (goal.Again s c) t m hg i h = again_names t s c m hg.0 hg.1 i h
  begins_names (goal.Predicates s c) t m hg i h = verb_names t s c m None hg.0 hg.1 i h tt
  begins_names (goal.Maybe s c) t m hg i h = perhaps_names t s c m hg.0 hg.1 i h
  begins_names (goal.Formula u) t m hg i h = formula_names t u m hg i h
  begins_names (goal.Collection u) t m hg i h = collection_names u t m hg i h
  begins_names (goal.Elements c u) t m hg i h = elements_names t c u m hg.0 hg.1 i h
  begins_names (goal.PrefixName d) t m hg i h = prefix_name_names t d m i h
  begins_names (goal.PrefixIri d k) t m hg i h = prefix_iri_names t d k m hg i h
  begins_names (goal.BaseIri d) t m hg i h = base_iri_names t d m i h
  begins_names goal.Dot t m hg i h = dot_names t m h
  begins_names (goal.Data w) t m hg i h = data_names t w m h
  begins_names (goal.Brace w) t m hg i h = brace_names t w m h

  staged_names : (w : Rest) (o : Option Step) → OnStep o StepNames → On (staged w o) StageNames
  staged_names w None h = tt
  staged_names w (Some x) h = h

  statement_names : (t : Symbol) (m : Point) → P m.at → Produced m → OnStep (statement m t) StepNames
  statement_names (Token kind.AtPrefix) m i h = ((tt, tt), h)
  statement_names (Token kind.AtBase) m i h = ((tt, tt), h)
  statement_names (Token kind.Prefix) m i h = ((tt, tt), h)
  statement_names (Token kind.Base) m i h = ((tt, tt), h)
  statement_names t m i h = subject_names t closer.Statement m tt i h

  update_names : (t : Symbol) (m : Point) → Produced m → On (update m t) StageNames
  update_names (Token kind.Prefix) m h = ((tt, tt), h)
  update_names (Token kind.Base) m h = ((tt, tt), h)
  update_names Insert m h = ((tt, tt), h)
  update_names Delete m h = ((tt, tt), h)
  update_names _ m h = tt

  after_operation_names : (t : Symbol) (m : Point) → Produced m → On (after_operation m t) StageNames
  after_operation_names (Token kind.Semicolon) m h = (tt, h)
  after_operation_names _ m h = tt

  take_names : (gs : List Goal) (w : Rest) (m : Point) (t : Symbol) → GoalsName P gs → P m.at → Produced m → On (take_symbol gs w m t) StageNames
  take_names [] rest_of.Statements m t hg i h = staged_names rest_of.Statements (statement m t) (statement_names t m i h)
  take_names [] rest_of.Update m t hg i h = update_names t m h
  take_names [] rest_of.AfterOperation m t hg i h = after_operation_names t m h
  take_names (g ∷ gs) w m t hg i h =
      staged_names w (before gs (begins g m t)) (before_names gs (begins g m t) (begins_names g t m hg.0 i h) hg.1)

  string_names : (t : Symbol) (s p : Node) (x : ℕ) (gs : List Goal) (w : Rest) (m : Point) → GoalsName P (goal.Suffix s p x ∷ gs) → P m.at → Produced m
      → On (step (goal.Suffix s p x ∷ gs) w m t) StageNames
  string_names (Token kind.LangTag) s p x gs w m hg i h = take_names (goal.Suffix s p x ∷ gs) w m (Token kind.LangTag) hg i h
  string_names (Token kind.Carets) s p x gs w m hg i h = take_names (goal.Suffix s p x ∷ gs) w m (Token kind.Carets) hg i h
  string_names t s p x gs w m hg i h =
      take_names gs w (triple_at x s p (node.Token x) m) t hg.1 i (All-push (Names P) m.produced _ h (hg.0.0, hg.0.1, hg.0.2))

  pub step_names : (gs : List Goal) (w : Rest) (m : Point) (t : Symbol) → GoalsName P gs → P m.at → Produced m → On (step gs w m t) StageNames
  step_names (goal.Suffix s p x ∷ gs) w m t hg i h = string_names t s p x gs w m hg i h
  step_names gs w m t hg i h = take_names gs w m t hg i h
