-- What was produced before a step stays in front of what it produces.
use Rattle.std.proofs.Common.{◌≡◌, ℕ, List, [], ◌∷◌, ◌++◌, Bool, Option, Some, None, refl, ap, ◌∙◌, append_assoc}
use Rattle.turtle_grammar.specs.declared.production.Production.{Production}
use Rattle.turtle_grammar.specs.declared.production.Production.TheVariants.{Prefix, Base, Triple}
use Rattle.turtle_lex.specs.declared.token.TokenKind.TheVariants as kind
use Rattle.turtle_grammar.specs.declared.symbol.Symbol.{Symbol}
use Rattle.turtle_grammar.specs.declared.symbol.Symbol.TheVariants.{Token, Data}
use Rattle.turtle_grammar.specs.declared.production.Node.{Node}
use Rattle.turtle_grammar.specs.declared.production.Node.TheVariants as node
use Rattle.turtle_grammar.specs.declared.production.Within.{Within}
use Rattle.turtle_grammar.specs.declared.goal.FormulaUse.{FormulaUse}
use Rattle.turtle_grammar.specs.declared.goal.FormulaUse.TheVariants as formula_use
use Rattle.turtle_grammar.specs.declared.goal.Closer.{Closer}
use Rattle.turtle_grammar.specs.declared.goal.Closer.TheVariants as closer
use Rattle.turtle_grammar.specs.declared.goal.CellUse.{CellUse}
use Rattle.turtle_grammar.specs.declared.goal.CellUse.TheVariants as cell_use
use Rattle.turtle_grammar.specs.declared.goal.CollectionUse.{CollectionUse}
use Rattle.turtle_grammar.specs.declared.goal.CollectionUse.TheVariants as collection_use
use Rattle.turtle_grammar.specs.declared.goal.Goal.{Goal}
use Rattle.turtle_grammar.specs.declared.goal.Goal.TheVariants as goal
use Rattle.turtle_grammar.specs.declared.goal.Rest.{Rest}
use Rattle.turtle_grammar.specs.declared.goal.Rest.TheVariants as rest_of
use Rattle.turtle_grammar.specs.Productions.{Point, passed, fresh, counted, moved, produces}
use Rattle.turtle_grammar.specs.Productions.{triple_at, says}
use Rattle.turtle_grammar.specs.Stacks.{Step, Stage, step_to, stage_to, staged, before, one, closes}
use Rattle.turtle_grammar.specs.Stacks.{verb_or, after, again, perhaps, suffix, datatype}
use Rattle.turtle_grammar.specs.Stacks.{collected, collection, elements, subject_of, formula}
use Rattle.turtle_grammar.specs.Stacks.{formula_closed, prefix_name, prefix_iri, base_iri, dot_only}
use Rattle.turtle_grammar.specs.Stacks.{data_word, brace, begins, statement, update, after_operation}
use Rattle.turtle_grammar.specs.Stacks.{take_symbol, step, dot_goals}

abbrev pub shift : List Production → Point → Point
shift b m = record { at = m.at; unnamed = m.unnamed; within = m.within; produced = b ++ m.produced }

abbrev pub shift_step : List Production → Option Step → Option Step
shift_step b None = None
shift_step b (Some x) = step_to x.goals (shift b x.point)

abbrev pub shift_stage : List Production → Option Stage → Option Stage
shift_stage b None = None
shift_stage b (Some x) = stage_to x.goals x.rest (shift b x.point)

module _ (b : List Production) where
  pub produces_shift : (x : Production) (m : Point) → produces x (shift b m) ≡ shift b (produces x m)
  produces_shift x m =
      ap (λ (z : List Production). let p : Point = record { at = m.at; unnamed = m.unnamed; within = m.within; produced = z } in p)
      (append_assoc b m.produced (x ∷ []))

  pub says_shift : (s p o : Node) (m : Point) → says s p o (shift b m) ≡ shift b (says s p o m)
  says_shift s p o m =
      produces_shift (Triple (record { subject = s; predicate = p; object = o; within = m.within; end = m.at })) m

  pub triple_shift : (i : ℕ) (s p o : Node) (m : Point) → triple_at i s p o (shift b m) ≡ shift b (triple_at i s p o m)
  triple_shift i s p o m =
      produces_shift (Triple (record { subject = s; predicate = p; object = o; within = m.within; end = i })) m

  said : (s p o : Node) (m : Point) → step_to [] (passed (says s p o (shift b m))) ≡ step_to [] (shift b (passed (says s p o m)))
  said s p o m = ap (λ (z : Point). step_to [] (passed z)) (says_shift s p o m)

  pub one_shift : (t : Symbol) (s p : Node) (m : Point) → one s p (shift b m) t ≡ shift_step b (one s p m t)
  one_shift (Token kind.IriRef) s p m = said s p (node.Token m.at) m
  one_shift (Token kind.PnameLn) s p m = said s p (node.Token m.at) m
  one_shift (Token kind.PnameNs) s p m = said s p (node.Token m.at) m
  one_shift (Token kind.BlankLabel) s p m = said s p (node.Token m.at) m
  one_shift (Token kind.Integer) s p m = said s p (node.Token m.at) m
  one_shift (Token kind.Decimal) s p m = said s p (node.Token m.at) m
  one_shift (Token kind.Double) s p m = said s p (node.Token m.at) m
  one_shift (Token kind.True) s p m = said s p (node.Token m.at) m
  one_shift (Token kind.False) s p m = said s p (node.Token m.at) m
  one_shift (Token kind.Variable) s p m = said s p (node.Token m.at) m
  one_shift (Token kind.Anon) s p m = said s p (fresh m) (counted m)
  one_shift _ s p m = refl

  formula_closed_shift : (u : FormulaUse) (m : Point) → formula_closed u (shift b m) ≡ shift b (formula_closed u m)
  formula_closed_shift (formula_use.Object s p i w) m = ap passed (says_shift s p (node.Formula i) (moved w m))
  formula_closed_shift formula_use.Operation m = refl

  to_end : {m n : Point} → m ≡ n → step_to [] m ≡ step_to [] n
  to_end e = ap (λ (z : Point). step_to [] z) e

  closes_shift : (c : Closer) (t : Symbol) (m : Point) → closes c (shift b m) t ≡ shift_step b (closes c m t)
  closes_shift closer.Statement (Token kind.Dot) m = refl
  closes_shift closer.Subject (Token kind.CloseSquare) m = refl
  closes_shift (closer.Object s p o) (Token kind.CloseSquare) m = said s p o m
  closes_shift (closer.Formula u) (Token kind.CloseBrace) m = to_end (formula_closed_shift u m)
  closes_shift (closer.Formula u) (Token kind.Dot) m = refl
  closes_shift _ _ m = refl

  verb_shift : (t : Symbol) (s : Node) (c : Closer) (m : Point) (other before : Option Step) → other ≡ shift_step b before
      → verb_or s c (shift b m) t other ≡ shift_step b (verb_or s c m t before)
  verb_shift (Token kind.IriRef) s c m other before e = refl
  verb_shift (Token kind.PnameLn) s c m other before e = refl
  verb_shift (Token kind.PnameNs) s c m other before e = refl
  verb_shift (Token kind.A) s c m other before e = refl
  verb_shift (Token kind.Variable) s c m other before e = refl
  verb_shift _ s c m other before e = e

  perhaps_shift : (t : Symbol) (s : Node) (c : Closer) (m : Point) → perhaps s c (shift b m) t ≡ shift_step b (perhaps s c m t)
  perhaps_shift t s c m = verb_shift t s c m (closes c (shift b m) t) (closes c m t) (closes_shift c t m)

  after_shift : (t : Symbol) (s p : Node) (c : Closer) (m : Point) → after s p c (shift b m) t ≡ shift_step b (after s p c m t)
  after_shift (Token kind.Comma) s p c m = refl
  after_shift (Token kind.Semicolon) s p c m = refl
  after_shift t s p c m = closes_shift c t m

  again_shift : (t : Symbol) (s : Node) (c : Closer) (m : Point) → again s c (shift b m) t ≡ shift_step b (again s c m t)
  again_shift (Token kind.Semicolon) s c m = refl
  again_shift t s c m = perhaps_shift t s c m

  suffix_shift : (t : Symbol) (s p : Node) (x : ℕ) (m : Point) → suffix s p x (shift b m) t ≡ shift_step b (suffix s p x m t)
  suffix_shift (Token kind.LangTag) s p x m = said s p (node.Tagged x m.at) m
  suffix_shift _ s p x m = refl

  datatype_shift : (t : Symbol) (s p : Node) (x : ℕ) (m : Point) → datatype s p x (shift b m) t ≡ shift_step b (datatype s p x m t)
  datatype_shift (Token kind.IriRef) s p x m = said s p (node.Typed x m.at) m
  datatype_shift (Token kind.PnameLn) s p x m = said s p (node.Typed x m.at) m
  datatype_shift (Token kind.PnameNs) s p x m = said s p (node.Typed x m.at) m
  datatype_shift _ s p x m = refl

  before_shift : (es : List Goal) (o p : Option Step) → p ≡ shift_step b o → before es p ≡ shift_step b (before es o)
  before_shift es None p e = ap (before es) e
  before_shift es (Some x) p e = ap (before es) e

  collection_shift : (u : CollectionUse) (t : Symbol) (m : Point) → collection u (shift b m) t ≡ shift_step b (collection u m t)
  collection_shift (collection_use.Subject c) (Token kind.CloseRound) m = refl
  collection_shift (collection_use.Object s p) (Token kind.CloseRound) m = said s p node.Nil m
  collection_shift (collection_use.Subject c) t m =
      before_shift (goal.Elements (fresh m) cell_use.Subject ∷ goal.Predicates (fresh m) c ∷ []) (one (fresh m) node.First (counted m) t) _ (one_shift t (fresh m) node.First (counted m))
  collection_shift (collection_use.Object s p) t m =
      before_shift (goal.Elements (fresh m) (cell_use.Object s p (fresh m)) ∷ []) (one (fresh m) node.First (counted m) t) _ (one_shift t (fresh m) node.First (counted m))

  collected_shift : (u : CellUse) (m n : Point) → n ≡ shift b m → collected u n ≡ shift b (collected u m)
  collected_shift cell_use.Subject m n e = ap passed e
  collected_shift (cell_use.Object s p o) m n e = ap (λ z. passed (says s p o z)) e ∙ ap passed (says_shift s p o m)

  elements_shift : (t : Symbol) (c : Node) (u : CellUse) (m : Point) → elements c u (shift b m) t ≡ shift_step b (elements c u m t)
  elements_shift (Token kind.CloseRound) c u m =
      to_end (collected_shift u (says c node.Rest node.Nil m) _ (says_shift c node.Rest node.Nil m))
  elements_shift t c u m =
      before_shift (goal.Elements (fresh m) u ∷ []) (one (fresh m) node.First (counted (says c node.Rest (fresh m) m)) t) _
      (ap (λ (z : Point). one (fresh m) node.First (counted z) t) (says_shift c node.Rest (fresh m) m)
      ∙ one_shift t (fresh m) node.First (counted (says c node.Rest (fresh m) m)))

  subject_shift : (c : Closer) (t : Symbol) (m : Point) → subject_of c (shift b m) t ≡ shift_step b (subject_of c m t)
  subject_shift c (Token kind.IriRef) m = refl
  subject_shift c _ m = refl

  formula_shift : (u : FormulaUse) (t : Symbol) (m : Point) → formula u (shift b m) t ≡ shift_step b (formula u m t)
  formula_shift u (Token kind.CloseBrace) m = to_end (formula_closed_shift u m)
  formula_shift u t m = subject_shift (closer.Formula u) t m

  iri_passed : (d : Bool) (x : Production) (m : Point)
      → step_to (dot_goals d) (passed (produces x (shift b m))) ≡ step_to (dot_goals d) (shift b (passed (produces x m)))
  iri_passed d x m = ap (λ (z : Point). step_to (dot_goals d) (passed z)) (produces_shift x m)

  prefix_iri_shift : (t : Symbol) (d : Bool) (i : ℕ) (m : Point) → prefix_iri d i (shift b m) t ≡ shift_step b (prefix_iri d i m t)
  prefix_iri_shift (Token kind.IriRef) d i m = iri_passed d (Prefix i m.at) m
  prefix_iri_shift _ d i m = refl

  base_iri_shift : (t : Symbol) (d : Bool) (m : Point) → base_iri d (shift b m) t ≡ shift_step b (base_iri d m t)
  base_iri_shift (Token kind.IriRef) d m = iri_passed d (Base m.at) m
  base_iri_shift _ d m = refl

  prefix_name_shift : (t : Symbol) (d : Bool) (m : Point) → prefix_name d (shift b m) t ≡ shift_step b (prefix_name d m t)
  prefix_name_shift (Token kind.PnameNs) d m = refl
  prefix_name_shift _ d m = refl

  dot_shift : (t : Symbol) (m : Point) → dot_only (shift b m) t ≡ shift_step b (dot_only m t)
  dot_shift (Token kind.Dot) m = refl
  dot_shift _ m = refl

  data_shift : (t : Symbol) (w : Within) (m : Point) → data_word w (shift b m) t ≡ shift_step b (data_word w m t)
  data_shift Data w m = refl
  data_shift _ w m = refl

  brace_shift : (t : Symbol) (w : Within) (m : Point) → brace w (shift b m) t ≡ shift_step b (brace w m t)
  brace_shift (Token kind.OpenBrace) w m = refl
  brace_shift _ w m = refl

  begins_shift : (g : Goal) (t : Symbol) (m : Point) → begins g (shift b m) t ≡ shift_step b (begins g m t)
  begins_shift (goal.One s p) t m = one_shift t s p m
  begins_shift (goal.Suffix s p x) t m = suffix_shift t s p x m
  begins_shift (goal.Datatype s p x) t m = datatype_shift t s p x m
  begins_shift (goal.After s p c) t m = after_shift t s p c m
  begins_shift (goal.Again s c) t m = again_shift t s c m
  begins_shift (goal.Predicates s c) t m = verb_shift t s c m None None refl
  begins_shift (goal.Maybe s c) t m = perhaps_shift t s c m
  begins_shift (goal.Formula u) t m = formula_shift u t m
  begins_shift (goal.Collection u) t m = collection_shift u t m
  begins_shift (goal.Elements c u) t m = elements_shift t c u m
  begins_shift (goal.PrefixName d) t m = prefix_name_shift t d m
  begins_shift (goal.PrefixIri d i) t m = prefix_iri_shift t d i m
  begins_shift (goal.BaseIri d) t m = base_iri_shift t d m
  begins_shift goal.Dot t m = dot_shift t m
  begins_shift (goal.Data w) t m = data_shift t w m
  begins_shift (goal.Brace w) t m = brace_shift t w m

  staged_shift : (w : Rest) (o p : Option Step) → p ≡ shift_step b o → staged w p ≡ shift_stage b (staged w o)
  staged_shift w None p e = ap (staged w) e
  staged_shift w (Some x) p e = ap (staged w) e

  statement_shift : (t : Symbol) (m : Point) → statement (shift b m) t ≡ shift_step b (statement m t)
  statement_shift (Token kind.AtPrefix) m = refl
  statement_shift _ m = refl

  update_shift : (t : Symbol) (m : Point) → update (shift b m) t ≡ shift_stage b (update m t)
  update_shift (Token kind.Prefix) m = refl
  update_shift _ m = refl

  after_operation_shift : (t : Symbol) (m : Point) → after_operation (shift b m) t ≡ shift_stage b (after_operation m t)
  after_operation_shift (Token kind.Semicolon) m = refl
  after_operation_shift _ m = refl

  take_shift : (gs : List Goal) (w : Rest) (m : Point) (t : Symbol) → take_symbol gs w (shift b m) t ≡ shift_stage b (take_symbol gs w m t)
  take_shift [] rest_of.Statements m t = staged_shift rest_of.Statements (statement m t) _ (statement_shift t m)
  take_shift [] rest_of.Update m t = update_shift t m
  take_shift [] rest_of.AfterOperation m t = after_operation_shift t m
  take_shift (g ∷ gs) w m t = staged_shift w (before gs (begins g m t)) _ (before_shift gs (begins g m t) _ (begins_shift g t m))

  string_shift : (t : Symbol) (s p : Node) (x : ℕ) (gs : List Goal) (w : Rest) (m : Point)
      → step (goal.Suffix s p x ∷ gs) w (shift b m) t ≡ shift_stage b (step (goal.Suffix s p x ∷ gs) w m t)
  string_shift (Token kind.LangTag) s p x gs w m = take_shift (goal.Suffix s p x ∷ gs) w m (Token kind.LangTag)
  string_shift (Token kind.Carets) s p x gs w m = refl
  string_shift t s p x gs w m =
      ap (λ (z : Point). take_symbol gs w z t) (triple_shift x s p (node.Token x) m) ∙ take_shift gs w (triple_at x s p (node.Token x) m) t

  pub step_shift : (gs : List Goal) (w : Rest) (m : Point) (t : Symbol) → step gs w (shift b m) t ≡ shift_stage b (step gs w m t)
  step_shift (goal.Suffix s p x ∷ gs) w m t = string_shift t s p x gs w m
  step_shift gs w m t = take_shift gs w m t
