-- Each step keeps what the shortest ending needs: the words of an operation are wanted at the top
-- alone, where no brace is open.
use Rattle.std.proofs.Common.{◌≡◌, ℕ, ◌<◌, List, [], ◌∷◌, ◌++◌, Bool, true, false, cond, Option, Some, None, refl, ap, ◌∙◌, arith}
use Rattle.std.proofs.lemmas.Bool.{ltb-true}
use Rattle.turtle_lex.specs.declared.token.TokenKind.TheVariants as kind
use Rattle.turtle_grammar.specs.declared.symbol.Start.{Start}
use Rattle.turtle_grammar.specs.declared.symbol.Start.TheVariants as start_of
use Rattle.turtle_grammar.specs.declared.symbol.Symbol.{Symbol}
use Rattle.turtle_grammar.specs.declared.symbol.Symbol.TheVariants.{Token, Insert, Delete, Data}
use Rattle.turtle_grammar.specs.declared.production.Node.{Node}
use Rattle.turtle_grammar.specs.declared.production.Node.TheVariants as node
use Rattle.turtle_grammar.specs.declared.production.Within.{Within}
use Rattle.turtle_grammar.specs.declared.goal.FormulaUse.{FormulaUse}
use Rattle.turtle_grammar.specs.declared.goal.Closer.{Closer}
use Rattle.turtle_grammar.specs.declared.goal.Closer.TheVariants as closer
use Rattle.turtle_grammar.specs.declared.goal.CellUse.{CellUse}
use Rattle.turtle_grammar.specs.declared.goal.CellUse.TheVariants as cell_use
use Rattle.turtle_grammar.specs.declared.goal.CollectionUse.{CollectionUse}
use Rattle.turtle_grammar.specs.declared.goal.CollectionUse.TheVariants as collection_use
use Rattle.turtle_grammar.specs.declared.goal.Goal.{Goal}
use Rattle.turtle_grammar.specs.declared.goal.Goal.TheVariants as goal
use Rattle.turtle_grammar.specs.declared.goal.Rest.{Rest}
use Rattle.turtle_grammar.specs.declared.goal.Rest.TheVariants as rest_of
use Rattle.turtle_grammar.specs.Productions.{Point, fresh, counted, says, triple_at}
use Rattle.turtle_grammar.specs.Derivations.{AreAllowed, is_allowed, has_word, braces_after, braces_from}
use Rattle.turtle_grammar.specs.Stacks.{Step, Stage, staged, before, then, reach}
use Rattle.turtle_grammar.specs.Stacks.{step, take_symbol, begins, one, closes, subject_of}
use Rattle.turtle_grammar.specs.Stacks.{verb_or, after, again, suffix, datatype, collection}
use Rattle.turtle_grammar.specs.Stacks.{elements, formula, prefix_name, prefix_iri, base_iri, dot_goals}
use Rattle.turtle_grammar.specs.Stacks.{dot_only, data_word, brace, statement, update, after_operation}
use Rattle.turtle_grammar.proofs.Backward.{On}
use Rattle.turtle_grammar.proofs.Endings.{is_word, is_inner, all_inner, GoalsFit, RestFits}
use Rattle.turtle_grammar.proofs.Endings.{false_true, split}

-- the goals of a step: a String may wait at the top, and no word of an operation is wanted
abbrev pub are_fine : List Goal → Bool
are_fine (goal.Suffix s p x ∷ gs) = all_inner gs
are_fine gs = all_inner gs

abbrev pub is_fine : Option Step → Bool
is_fine None = true
is_fine (Some x) = are_fine x.goals

inner_fine : (gs : List Goal) → all_inner gs ≡ true → are_fine gs ≡ true
inner_fine (goal.Suffix s p x ∷ gs) h = false_true h
inner_fine gs h = h

one_fine : (t : Symbol) (s p : Node) (m : Point) → is_fine (one s p m t) ≡ true
one_fine (Token kind.IriRef) s p m = refl
one_fine _ s p m = refl

closes_fine : (c : Closer) (t : Symbol) (m : Point) → is_fine (closes c m t) ≡ true
closes_fine closer.Statement (Token kind.Dot) m = refl
closes_fine closer.Subject (Token kind.CloseSquare) m = refl
closes_fine (closer.Object s p o) (Token kind.CloseSquare) m = refl
closes_fine (closer.Formula u) (Token kind.CloseBrace) m = refl
closes_fine (closer.Formula u) (Token kind.Dot) m = refl
closes_fine _ _ m = refl

verb_fine : (t : Symbol) (s : Node) (c : Closer) (m : Point) (other : Option Step) → is_fine other ≡ true
    → is_fine (verb_or s c m t other) ≡ true
verb_fine (Token kind.IriRef) s c m other e = refl
verb_fine (Token kind.PnameLn) s c m other e = refl
verb_fine (Token kind.PnameNs) s c m other e = refl
verb_fine (Token kind.A) s c m other e = refl
verb_fine (Token kind.Variable) s c m other e = refl
verb_fine _ s c m other e = e

after_fine : (t : Symbol) (s p : Node) (c : Closer) (m : Point) → is_fine (after s p c m t) ≡ true
after_fine (Token kind.Comma) s p c m = refl
after_fine (Token kind.Semicolon) s p c m = refl
after_fine t s p c m = closes_fine c t m

again_fine : (t : Symbol) (s : Node) (c : Closer) (m : Point) → is_fine (again s c m t) ≡ true
again_fine (Token kind.Semicolon) s c m = refl
again_fine t s c m = verb_fine t s c m (closes c m t) (closes_fine c t m)

inner_append : (xs es : List Goal) → all_inner xs ≡ true → all_inner es ≡ true → all_inner (xs ++ es) ≡ true
inner_append [] es h k = k
inner_append (g ∷ xs) es h k =
    let e = split (is_inner g) (all_inner xs) h in
    ap (λ (b : Bool). cond b (all_inner (xs ++ es)) false) e.0 ∙ inner_append xs es e.1 k

fine_append : (xs es : List Goal) → are_fine xs ≡ true → all_inner es ≡ true → are_fine (xs ++ es) ≡ true
fine_append [] es h k = inner_fine es k
fine_append (goal.Suffix s p x ∷ xs) es h k = inner_append xs es h k
fine_append (g ∷ xs) es h k = inner_append (g ∷ xs) es h k

before_fine : (es : List Goal) (o : Option Step) → is_fine o ≡ true → all_inner es ≡ true → is_fine (before es o) ≡ true
before_fine es None h k = refl
before_fine es (Some x) h k = fine_append x.goals es h k

collection_fine : (u : CollectionUse) (t : Symbol) (m : Point) → is_fine (collection u m t) ≡ true
collection_fine (collection_use.Subject c) (Token kind.CloseRound) m = refl
collection_fine (collection_use.Object s p) (Token kind.CloseRound) m = refl
collection_fine (collection_use.Subject c) t m =
    before_fine (goal.Elements (fresh m) cell_use.Subject ∷ goal.Predicates (fresh m) c ∷ []) (one (fresh m) node.First (counted m) t)
    (one_fine t (fresh m) node.First (counted m)) refl
collection_fine (collection_use.Object s p) t m =
    before_fine (goal.Elements (fresh m) (cell_use.Object s p (fresh m)) ∷ []) (one (fresh m) node.First (counted m) t)
    (one_fine t (fresh m) node.First (counted m)) refl

elements_fine : (t : Symbol) (c : Node) (u : CellUse) (m : Point) → is_fine (elements c u m t) ≡ true
elements_fine (Token kind.CloseRound) c u m = refl
elements_fine t c u m =
    before_fine (goal.Elements (fresh m) u ∷ []) (one (fresh m) node.First (counted (says c node.Rest (fresh m) m)) t)
    (one_fine t (fresh m) node.First (counted (says c node.Rest (fresh m) m))) refl

subject_fine : (t : Symbol) (c : Closer) (m : Point) → is_fine (subject_of c m t) ≡ true
subject_fine (Token kind.IriRef) c m = refl
subject_fine _ c m = refl

formula_fine : (t : Symbol) (u : FormulaUse) (m : Point) → is_fine (formula u m t) ≡ true
formula_fine (Token kind.CloseBrace) u m = refl
formula_fine t u m = subject_fine t (closer.Formula u) m

suffix_fine : (t : Symbol) (s p : Node) (x : ℕ) (m : Point) → is_fine (suffix s p x m t) ≡ true
suffix_fine (Token kind.LangTag) s p x m = refl
suffix_fine _ s p x m = refl

datatype_fine : (t : Symbol) (s p : Node) (x : ℕ) (m : Point) → is_fine (datatype s p x m t) ≡ true
datatype_fine (Token kind.IriRef) s p x m = refl
datatype_fine _ s p x m = refl

dot_fine : (d : Bool) → are_fine (dot_goals d) ≡ true
dot_fine true = refl
dot_fine false = refl

prefix_name_fine : (t : Symbol) (d : Bool) (m : Point) → is_fine (prefix_name d m t) ≡ true
prefix_name_fine (Token kind.PnameNs) d m = refl
prefix_name_fine _ d m = refl

prefix_iri_fine : (t : Symbol) (d : Bool) (i : ℕ) (m : Point) → is_fine (prefix_iri d i m t) ≡ true
prefix_iri_fine (Token kind.IriRef) d i m = dot_fine d
prefix_iri_fine _ d i m = refl

base_iri_fine : (t : Symbol) (d : Bool) (m : Point) → is_fine (base_iri d m t) ≡ true
base_iri_fine (Token kind.IriRef) d m = dot_fine d
base_iri_fine _ d m = refl

dot_only_fine : (t : Symbol) (m : Point) → is_fine (dot_only m t) ≡ true
dot_only_fine (Token kind.Dot) m = refl
dot_only_fine _ m = refl

brace_fine : (t : Symbol) (w : Within) (m : Point) → is_fine (brace w m t) ≡ true
brace_fine (Token kind.OpenBrace) w m = refl
brace_fine _ w m = refl

statement_fine : (t : Symbol) (m : Point) → is_fine (statement m t) ≡ true
statement_fine (Token kind.AtPrefix) m = refl
statement_fine _ m = refl

-- a goal that isn't a word of updates leaves none
begins_fine : (g : Goal) (t : Symbol) (m : Point) → is_word g ≡ false → is_fine (begins g m t) ≡ true
begins_fine (goal.One s p) t m e = one_fine t s p m
begins_fine (goal.Suffix s p x) t m e = suffix_fine t s p x m
begins_fine (goal.Datatype s p x) t m e = datatype_fine t s p x m
begins_fine (goal.After s p c) t m e = after_fine t s p c m
begins_fine (goal.Again s c) t m e = again_fine t s c m
begins_fine (goal.Predicates s c) t m e = verb_fine t s c m None refl
begins_fine (goal.Maybe s c) t m e = verb_fine t s c m (closes c m t) (closes_fine c t m)
begins_fine (goal.Formula u) t m e = formula_fine t u m
begins_fine (goal.Collection u) t m e = collection_fine u t m
begins_fine (goal.Elements c u) t m e = elements_fine t c u m
begins_fine (goal.PrefixName d) t m e = prefix_name_fine t d m
begins_fine (goal.PrefixIri d i) t m e = prefix_iri_fine t d i m
begins_fine (goal.BaseIri d) t m e = base_iri_fine t d m
begins_fine goal.Dot t m e = dot_only_fine t m
begins_fine (goal.Data w) t m e = absurd (let f : true ≡ false = e in cc)
begins_fine (goal.Brace w) t m e = brace_fine t w m

pub inner_fit : (gs : List Goal) (w : Rest) (n : ℕ) → all_inner gs ≡ true → GoalsFit w n gs
inner_fit [] w n e = tt
inner_fit (goal.Data x ∷ gs) w n e = false_true e
inner_fit (goal.Brace x ∷ gs) w n e = false_true e
inner_fit (goal.Suffix s p x ∷ gs) w n e = false_true e
inner_fit (g ∷ gs) w n e = e

fine_fit : (gs : List Goal) (w : Rest) (n : ℕ) → are_fine gs ≡ true → GoalsFit w n gs
fine_fit [] w n e = tt
fine_fit (goal.Data x ∷ gs) w n e = false_true e
fine_fit (goal.Brace x ∷ gs) w n e = false_true e
fine_fit (g ∷ gs) w n e = e

abbrev pub Fits : Start → ℕ → Stage → Type 0
Fits start n x = RestFits start x.rest × GoalsFit x.rest n x.goals

staged_fits : (start : Start) (w : Rest) (n : ℕ) (gs : List Goal) (o : Option Step) → RestFits start w
    → all_inner gs ≡ true → is_fine o ≡ true → On (staged w (before gs o)) (Fits start n)
staged_fits start w n gs None r h e = tt
staged_fits start w n gs (Some x) r h e = (r, fine_fit (x.goals ++ gs) w n (fine_append x.goals gs e h))

statement_fits : (start : Start) (n : ℕ) (o : Option Step) → RestFits start rest_of.Statements → is_fine o ≡ true
    → On (staged rest_of.Statements o) (Fits start n)
statement_fits start n None r e = tt
statement_fits start n (Some x) r e = (r, fine_fit x.goals rest_of.Statements n e)

word_outside : (start : Start) (n : ℕ) → RestFits start rest_of.Update → has_word start n ≡ true → n ≡ 0
word_outside start_of.Update n r e = let lt : n < 1 = ltb-true n 1 e in omega arith
word_outside start_of.Document n r e = absurd r
word_outside start_of.Patch n r e = absurd r

after_word : (start : Start) → RestFits start rest_of.Update → RestFits start rest_of.AfterOperation
after_word start_of.Update r = tt
after_word start_of.Document r = absurd r
after_word start_of.Patch r = absurd r

after_semicolon : (start : Start) → RestFits start rest_of.AfterOperation → RestFits start rest_of.Update
after_semicolon start_of.Update r = tt
after_semicolon start_of.Document r = absurd r
after_semicolon start_of.Patch r = absurd r

update_fits : (start : Start) (t : Symbol) (n : ℕ) (m : Point) → RestFits start rest_of.Update → is_allowed start n t ≡ true
    → On (update m t) (Fits start (braces_after n t))
update_fits start (Token kind.Prefix) n m r ok = (r, refl)
update_fits start (Token kind.Base) n m r ok = (r, refl)
update_fits start Insert n m r ok = (after_word start r, (word_outside start n r ok, refl))
update_fits start Delete n m r ok = (after_word start r, (word_outside start n r ok, refl))
update_fits start _ n m r ok = tt

after_operation_fits : (start : Start) (t : Symbol) (n : ℕ) (m : Point) → RestFits start rest_of.AfterOperation
    → On (after_operation m t) (Fits start (braces_after n t))
after_operation_fits start (Token kind.Semicolon) n m r = (after_semicolon start r, tt)
after_operation_fits start _ n m r = tt

data_fits : (start : Start) (t : Symbol) (x : Within) (gs : List Goal) (n : ℕ) (m : Point)
    → RestFits start rest_of.AfterOperation → (n ≡ 0) × (all_inner gs ≡ true)
    → On (staged rest_of.AfterOperation (before gs (data_word x m t))) (Fits start (braces_after n t))
data_fits start Data x gs n m r h = (r, h)
data_fits start _ x gs n m r h = tt

pub take_fits : (start : Start) (gs : List Goal) (w : Rest) (m : Point) (t : Symbol) (n : ℕ)
    → RestFits start w → GoalsFit w n gs → is_allowed start n t ≡ true
    → On (take_symbol gs w m t) (Fits start (braces_after n t))
take_fits start [] rest_of.Statements m t n r h ok = statement_fits start (braces_after n t) (statement m t) r (statement_fine t m)
take_fits start [] rest_of.Update m t n r h ok = update_fits start t n m r ok
take_fits start [] rest_of.AfterOperation m t n r h ok = after_operation_fits start t n m r
take_fits start (goal.Data x ∷ gs) rest_of.AfterOperation m t n r h ok = data_fits start t x gs n m r h
take_fits start (goal.Data x ∷ gs) rest_of.Statements m t n r h ok = absurd h
take_fits start (goal.Data x ∷ gs) rest_of.Update m t n r h ok = absurd h
take_fits start (goal.Brace x ∷ gs) rest_of.AfterOperation m t n r h ok =
    staged_fits start rest_of.AfterOperation (braces_after n t) gs (brace x m t) r h.1 (brace_fine t x m)
take_fits start (goal.Brace x ∷ gs) rest_of.Statements m t n r h ok = absurd h
take_fits start (goal.Brace x ∷ gs) rest_of.Update m t n r h ok = absurd h
take_fits start (g ∷ gs) w m t n r h ok =
    staged_fits start w (braces_after n t) gs (begins g m t) r h (begins_fine g t m refl)

string_fits : (start : Start) (t : Symbol) (s p : Node) (x : ℕ) (gs : List Goal) (w : Rest) (m : Point) (n : ℕ)
    → RestFits start w → all_inner gs ≡ true → is_allowed start n t ≡ true
    → On (step (goal.Suffix s p x ∷ gs) w m t) (Fits start (braces_after n t))
string_fits start (Token kind.LangTag) s p x gs w m n r h ok = take_fits start (goal.Suffix s p x ∷ gs) w m (Token kind.LangTag) n r h ok
string_fits start (Token kind.Carets) s p x gs w m n r h ok = take_fits start (goal.Suffix s p x ∷ gs) w m (Token kind.Carets) n r h ok
string_fits start t s p x gs w m n r h ok = take_fits start gs w (triple_at x s p (node.Token x) m) t n r (inner_fit gs w n h) ok

pub step_fits : (start : Start) (gs : List Goal) (w : Rest) (m : Point) (t : Symbol) (n : ℕ)
    → RestFits start w → GoalsFit w n gs → is_allowed start n t ≡ true
    → On (step gs w m t) (Fits start (braces_after n t))
step_fits start (goal.Suffix s p x ∷ gs) w m t n r h ok = string_fits start t s p x gs w m n r h ok
step_fits start gs w m t n r h ok = take_fits start gs w m t n r h ok

more_fits : (start : Start) (ts : List Symbol) (n : ℕ) (o : Option Stage) → On o (Fits start n)
    → ((x : Stage) → Fits start n x → On (reach x.goals x.rest x.point ts) (Fits start (braces_from n ts)))
    → On (then o (λ x. reach x.goals x.rest x.point ts)) (Fits start (braces_from n ts))
more_fits start ts n None h f = tt
more_fits start ts n (Some x) h f = f x h

pub reach_fits : (start : Start) (ts : List Symbol) (gs : List Goal) (w : Rest) (m : Point) (n : ℕ)
    → RestFits start w → GoalsFit w n gs → AreAllowed start n ts
    → On (reach gs w m ts) (Fits start (braces_from n ts))
reach_fits start [] gs w m n r h ok = (r, h)
reach_fits start (t ∷ ts) gs w m n r h ok =
    more_fits start ts (braces_after n t) (step gs w m t) (step_fits start gs w m t n r h ok.0)
    (λ x f. reach_fits start ts x.goals x.rest x.point (braces_after n t) f.0 f.1 ok.1)
