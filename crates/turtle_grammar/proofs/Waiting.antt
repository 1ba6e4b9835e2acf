-- What was produced up to a symbol, and what a String that waits adds to it.
use Rattle.std.proofs.Common.{◌≡◌, ℕ, ◌+◌, ◌<◌, ◌≤◌, List, [], ◌∷◌, ◌++◌, length, Bool, true, false, cond, Option, Some, None, refl, sym, ap, ◌∙◌, subst, append_assoc, arith}
use Rattle.std.proofs.lemmas.List.{append-nil}
use Rattle.std.proofs.lemmas.List.Elements.{All-nil, All-push, All-append, All-weaker}
use Rattle.std.specs.List.{All}
use Rattle.turtle_grammar.specs.declared.symbol.Start.{Start}
use Rattle.turtle_grammar.specs.declared.machine.Machine.{Machine}
use Rattle.turtle_grammar.specs.declared.production.Production.{Production}
use Rattle.turtle_grammar.specs.declared.production.Production.TheVariants.{Prefix, Base}
use Rattle.turtle_lex.specs.declared.token.TokenKind.TheVariants as kind
use Rattle.turtle_grammar.specs.declared.symbol.Start.{Start}
use Rattle.turtle_grammar.specs.declared.symbol.Symbol.{Symbol}
use Rattle.turtle_grammar.specs.declared.symbol.Symbol.TheVariants.{Token, Insert, Delete}
use Rattle.turtle_grammar.specs.declared.production.Node.{Node}
use Rattle.turtle_grammar.specs.declared.production.Node.TheVariants as node
use Rattle.turtle_grammar.specs.declared.goal.Closer.{Closer}
use Rattle.turtle_grammar.specs.declared.goal.Closer.TheVariants as closer
use Rattle.turtle_grammar.specs.declared.goal.CollectionUse.TheVariants as collection_use
use Rattle.turtle_grammar.specs.declared.goal.Goal.{Goal}
use Rattle.turtle_grammar.specs.declared.goal.Goal.TheVariants as goal
use Rattle.turtle_grammar.specs.declared.goal.Rest.{Rest}
use Rattle.turtle_grammar.specs.declared.goal.Rest.TheVariants as rest_of
use Rattle.turtle_grammar.specs.Productions.{Point, start_point, passed, fresh, counted, produces}
use Rattle.turtle_grammar.specs.Productions.{triple_at, says, prefix_end, base_end}
use Rattle.turtle_grammar.specs.Derivations.{AreAllowed, braces_after, braces_from, Derives}
use Rattle.turtle_grammar.specs.Readings.{end_of, EndsString, Produces, HasRead, waiting_productions}
use Rattle.turtle_grammar.specs.Stacks.{Step, Stage, staged, before, begins, update, after_operation}
use Rattle.turtle_grammar.specs.Stacks.{take_symbol, step, then, reach, run, first_rest, ended_goals}
use Rattle.turtle_grammar.specs.Stacks.{waiting_goals, waiting_triple}
use Rattle.turtle_grammar.proofs.Completions.{plain, Reads, close_symbols, close_end, dot_end}
use Rattle.turtle_grammar.proofs.Completions.{completion_end}
use Rattle.turtle_grammar.proofs.Backward.{On}
use Rattle.turtle_grammar.proofs.Endings.{is_inner, all_inner, WantsWord, GoalsFit, RestFits, false_true, split}
use Rattle.turtle_grammar.proofs.Endings.{shortest, shortest_closing, ending_of, ending_point}
use Rattle.turtle_grammar.proofs.Endings.{reads_ending, allowed_ending}
use Rattle.turtle_grammar.proofs.Fitting.{Fits, step_fits, inner_fit}
use Rattle.turtle_grammar.proofs.Theorem.{derived, through, rest_fits, allowed-append}
use Rattle.turtle_grammar.proofs.Ends.{WaitsAt, Adds, AddsStep, OnStep, quiet, loud, waits_before}
use Rattle.turtle_grammar.proofs.Ends.{begins_adds, statement_adds, formula_closed_adds, collected_adds}

-- inner goals are no String that waits
inner_waits : (i : ℕ) (gs : List Goal) → all_inner gs ≡ true → WaitsAt i gs
inner_waits i [] e = tt
inner_waits i (goal.Suffix s p x ∷ gs) e = false_true e
inner_waits i (_ ∷ gs) e = tt

words_inner : (w : Rest) (n : ℕ) (gs : List Goal) → WantsWord w n gs → all_inner gs ≡ true
words_inner rest_of.AfterOperation n gs h = h.1
words_inner rest_of.Statements n gs h = absurd h
words_inner rest_of.Update n gs h = absurd h

tail_inner : (g : Goal) (gs : List Goal) (w : Rest) (n : ℕ) → GoalsFit w n (g ∷ gs) → all_inner gs ≡ true
tail_inner (goal.Data x) gs w n h = words_inner w n gs h
tail_inner (goal.Brace x) gs w n h = words_inner w n gs h
tail_inner _ gs w n h = h

abbrev pub AddsStage : Point → Stage → Type 0
AddsStage m x = Adds m x.point × WaitsAt m.at x.goals

stage_adds : (w : Rest) (m : Point) (gs : List Goal) (o : Option Step) → OnStep o (AddsStep m) → WaitsAt m.at gs
    → On (staged w (before gs o)) (AddsStage m)
stage_adds w m gs None h k = tt
stage_adds w m gs (Some x) h k = (h.0, waits_before m.at x.goals gs h.1 k)

alone_adds : (w : Rest) (m : Point) (o : Option Step) → OnStep o (AddsStep m) → On (staged w o) (AddsStage m)
alone_adds w m None h = tt
alone_adds w m (Some x) h = h

update_adds : (t : Symbol) (m : Point) → On (update m t) (AddsStage m)
update_adds (Token kind.Prefix) m = (quiet m _ refl refl, tt)
update_adds (Token kind.Base) m = (quiet m _ refl refl, tt)
update_adds Insert m = (quiet m _ refl refl, tt)
update_adds Delete m = (quiet m _ refl refl, tt)
update_adds _ m = tt

after_operation_adds : (t : Symbol) (m : Point) → On (after_operation m t) (AddsStage m)
after_operation_adds (Token kind.Semicolon) m = (quiet m _ refl refl, tt)
after_operation_adds _ m = tt

pub take_adds : (gs : List Goal) (w : Rest) (m : Point) (t : Symbol) (n : ℕ) → GoalsFit w n gs → On (take_symbol gs w m t) (AddsStage m)
take_adds [] rest_of.Statements m t n h = alone_adds rest_of.Statements m _ (statement_adds t m)
take_adds [] rest_of.Update m t n h = update_adds t m
take_adds [] rest_of.AfterOperation m t n h = after_operation_adds t m
take_adds (g ∷ gs) w m t n h =
    stage_adds w m gs (begins g m t) (begins_adds g t m) (inner_waits m.at gs (tail_inner g gs w n h))

-- what was produced ends before this point
abbrev pub AllBefore : ℕ → List Production → Type 0
AllBefore i ps = All (λ x. end_of x < i) ps

-- a String that waits is the last symbol
abbrev pub WaitsBefore : ℕ → List Goal → Type 0
WaitsBefore i (goal.Suffix s p x ∷ gs) = x + 1 ≡ i
WaitsBefore i gs = Unit {0}

pub record Ended (k : ℕ) (x : Stage) : Type 0 where
  pub at_is : x.point.at ≡ k
  pub all_before : AllBefore x.point.at x.point.produced
  pub waits : WaitsBefore x.point.at x.goals

pub waits_next : (i k : ℕ) (gs : List Goal) → k ≡ i + 1 → WaitsAt i gs → WaitsBefore k gs
waits_next i k (goal.Suffix s p x ∷ gs) e h = ap (λ n. n + 1) h ∙ sym e
waits_next i k [] e h = tt
waits_next i k (_ ∷ gs) e h = tt

ended_more : (k : ℕ) (m : Point) (o : Option Stage) → m.at ≡ k → AllBefore m.at m.produced → On o (AddsStage m) → On o (Ended (k + 1))
ended_more k m None e h f = tt
ended_more k m (Some x) e h f =
    let added = f.0 in
    let grown : x.point.at ≡ m.at + 1 = added.passes in
    let old : AllBefore x.point.at m.produced =
    All-weaker (λ p. end_of p < m.at) (λ p. end_of p < x.point.at) (λ p lt. omega arith) m.produced h in
    let new : AllBefore x.point.at added.later =
    All-weaker (λ p. end_of p ≡ m.at) (λ p. end_of p < x.point.at) (λ p eq. omega arith) added.later added.ends in
    record {
      at_is = grown ∙ ap (λ n. n + 1) e;
      all_before = subst (AllBefore x.point.at) (sym added.produced) (All-append (λ p. end_of p < x.point.at) m.produced added.later old new);
      waits = waits_next m.at x.point.at x.goals grown f.1;
    }

string_ended : (t : Symbol) (s p : Node) (x : ℕ) (gs : List Goal) (w : Rest) (m : Point) (n k : ℕ) → all_inner gs ≡ true
    → m.at ≡ k → AllBefore m.at m.produced → x + 1 ≡ m.at → On (step (goal.Suffix s p x ∷ gs) w m t) (Ended (k + 1))
string_ended (Token kind.LangTag) s p x gs w m n k i e h f =
    ended_more k m (take_symbol (goal.Suffix s p x ∷ gs) w m (Token kind.LangTag)) e h (take_adds (goal.Suffix s p x ∷ gs) w m (Token kind.LangTag) n i)
string_ended (Token kind.Carets) s p x gs w m n k i e h f =
    ended_more k m (take_symbol (goal.Suffix s p x ∷ gs) w m (Token kind.Carets)) e h (take_adds (goal.Suffix s p x ∷ gs) w m (Token kind.Carets) n i)
string_ended t s p x gs w m n k i e h f =
    ended_more k (triple_at x s p (node.Token x) m) (take_symbol gs w (triple_at x s p (node.Token x) m) t) e
    (All-push (λ y. end_of y < m.at) m.produced _ h (let lt : x < m.at = omega arith in lt))
    (take_adds gs w (triple_at x s p (node.Token x) m) t n (inner_fit gs w n i))

step_ended : (gs : List Goal) (w : Rest) (m : Point) (t : Symbol) (n k : ℕ) → GoalsFit w n gs
    → m.at ≡ k → AllBefore m.at m.produced → WaitsBefore m.at gs → On (step gs w m t) (Ended (k + 1))
step_ended (goal.Suffix s p x ∷ gs) w m t n k i e h f = string_ended t s p x gs w m n k i e h f
step_ended gs w m t n k i e h f = ended_more k m (take_symbol gs w m t) e h (take_adds gs w m t n i)

abbrev Settled : Start → ℕ → ℕ → Stage → Type 0
Settled start n k x = Fits start n x × Ended k x

both : (P Q : Stage → Type 0) (o : Option Stage) → On o P → On o Q → On o (λ x. P x × Q x)
both P Q None h k = tt
both P Q (Some x) h k = (h, k)

more_settled : (start : Start) (ts : List Symbol) (n k : ℕ) (o : Option Stage) → On o (Settled start n k)
    → ((x : Stage) → Settled start n k x → On (reach x.goals x.rest x.point ts) (Settled start (braces_from n ts) (k + length ts)))
    → On (then o (λ x. reach x.goals x.rest x.point ts)) (Settled start (braces_from n ts) (k + length ts))
more_settled start ts n k None h f = tt
more_settled start ts n k (Some x) h f = f x h

same_end : (start : Start) (n i k : ℕ) (o : Option Stage) → i ≡ k → On o (Settled start n i) → On o (Settled start n k)
same_end start n i k o e h = subst (λ z. On o (Settled start n z)) e h

reach_settled : (start : Start) (ts : List Symbol) (gs : List Goal) (w : Rest) (m : Point) (n k : ℕ)
    → RestFits start w → GoalsFit w n gs → AreAllowed start n ts → m.at ≡ k → AllBefore m.at m.produced → WaitsBefore m.at gs
    → On (reach gs w m ts) (Settled start (braces_from n ts) (k + length ts))
reach_settled start [] gs w m n k r g ok e h f =
    ((r, g), record { at_is = e ∙ (let z : k ≡ k + 0 = omega arith in z); all_before = h; waits = f })
reach_settled start (t ∷ ts) gs w m n k r g ok e h f =
    same_end start (braces_from (braces_after n t) ts) (k + 1 + length ts) (k + length (t ∷ ts)) (reach gs w m (t ∷ ts))
    (let z : k + 1 + length ts ≡ k + length (t ∷ ts) = omega arith in z)
    (more_settled start ts (braces_after n t) (k + 1) (step gs w m t)
    (both (Fits start (braces_after n t)) (Ended (k + 1)) (step gs w m t) (step_fits start gs w m t n r g ok.0) (step_ended gs w m t n k g e h f))
    (λ x b. reach_settled start ts x.goals x.rest x.point (braces_after n t) (k + 1) b.0.0 b.0.1 ok.1 b.1.at_is b.1.all_before b.1.waits))

pub run_settled : (start : Start) (ts : List Symbol) (x : Stage) → run start ts ≡ Some x → AreAllowed start 0 ts
    → Settled start (braces_from 0 ts) (length ts) x
run_settled start ts x e ok =
    let all : On (Some x) (Settled start (braces_from 0 ts) (0 + length ts)) =
    subst (λ o. On o (Settled start (braces_from 0 ts) (0 + length ts))) e
    (reach_settled start ts [] (first_rest start) start_point 0 0 (rest_fits start) tt ok refl (All-nil _) tt) in (
      all.0,
      record {
        at_is = all.1.at_is ∙ (let z : 0 + length ts ≡ length ts = omega arith in z);
        all_before = all.1.all_before;
        waits = all.1.waits;
      },
    )

-- From the point m to the point n what is produced ends at later symbols.
record AddsLater (m n : Point) : Type 0 where
  later : List Production
  produced : n.produced ≡ m.produced ++ later
  grows : m.at ≤ n.at
  ends : All (λ x. m.at ≤ end_of x) later

later_of : (m n : Point) → Adds m n → AddsLater m n
later_of m n h =
    let grown : n.at ≡ m.at + 1 = h.passes in
    record {
      later = h.later;
      produced = h.produced;
      grows = omega arith;
      ends = All-weaker (λ x. end_of x ≡ m.at) (λ x. m.at ≤ end_of x) (λ x e. omega arith) h.later h.ends;
    }

later_then : (m k n : Point) → AddsLater m k → AddsLater k n → AddsLater m n
later_then m k n h f =
    let one : m.at ≤ k.at = h.grows in
    let two : k.at ≤ n.at = f.grows in
    record {
      later = h.later ++ f.later;
      produced = f.produced ∙ ap (λ z. z ++ f.later) h.produced ∙ append_assoc m.produced h.later f.later;
      grows = omega arith;
      ends = All-append (λ x. m.at ≤ end_of x) h.later f.later h.ends
          (All-weaker (λ x. k.at ≤ end_of x) (λ x. m.at ≤ end_of x) (λ x le. omega arith) f.later f.ends);
    }

nothing : (m n : Point) → n.produced ≡ m.produced → m.at ≤ n.at → AddsLater m n
nothing m n e le = record { later = []; produced = e ∙ sym (append-nil m.produced); grows = le; ends = All-nil _ }

closing_later : (c : Closer) (m : Point) → AddsLater m (close_end c (shortest_closing c) m)
unfolding shortest_closing
closing_later closer.Statement m = later_of m _ (quiet m _ refl refl)
closing_later closer.Subject m = later_of m _ (quiet m _ refl refl)
closing_later (closer.Object s p o) m = later_of m _ (loud m _ _ refl refl refl)
closing_later (closer.Formula u) m = later_of m _ (formula_closed_adds u m)

dot_later : (b : Bool) (m : Point) → AddsLater m (dot_end b m)
dot_later true m = later_of m _ (quiet m _ refl refl)
dot_later false m = nothing m m refl (omega arith)

-- the shortest predicateObjectList: `a []`
list_later : (s : Node) (m : Point) → AddsLater m (passed (says s (node.Token m.at) (fresh (passed m)) (counted (passed m))))
list_later s m = later_then m (passed m) _ (later_of m _ (quiet m _ refl refl)) (later_of (passed m) _ (loud (passed m) _ _ refl refl refl))

three : (m n : Point) → n.produced ≡ m.produced → n.at ≡ m.at + 1 + 1 + 1 → AddsLater m n
three m n e f = nothing m n e (omega arith)

four : (m n : Point) → n.produced ≡ m.produced → n.at ≡ m.at + 1 + 1 → AddsLater m n
four m n e f = nothing m n e (omega arith)

is_calm : Goal → Bool
is_calm (goal.Suffix s p x) = false
is_calm g = true

goal_later : (g : Goal) (m : Point) → is_calm g ≡ true → AddsLater m (completion_end g (shortest g) m)
unfolding shortest is_calm
goal_later (goal.One s p) m e = later_of m _ (loud m _ _ refl refl refl)
goal_later (goal.Suffix s p x) m e = false_true e
goal_later (goal.Datatype s p x) m e = later_of m _ (loud m _ _ refl refl refl)
goal_later (goal.After s p c) m e = closing_later c m
goal_later (goal.Again s c) m e = closing_later c m
goal_later (goal.Predicates s c) m e = later_then m _ _ (list_later s m) (closing_later c _)
goal_later (goal.Maybe s c) m e = closing_later c m
goal_later (goal.Formula u) m e = later_of m _ (formula_closed_adds u m)
goal_later (goal.Collection (collection_use.Subject c)) m e =
    later_then m (passed m) _ (later_of m _ (quiet m _ refl refl)) (later_then (passed m) _ _ (list_later node.Nil (passed m)) (closing_later c _))
goal_later (goal.Collection (collection_use.Object s p)) m e = later_of m _ (loud m _ _ refl refl refl)
goal_later (goal.Elements c u) m e = later_of m _ (collected_adds u c m)
goal_later (goal.PrefixName b) m e =
    later_then m (prefix_end m) _ (later_then m (passed m) _ (later_of m _ (quiet m _ refl refl)) (later_of (passed m) _ (loud (passed m) _ (Prefix m.at (m.at + 1)) refl refl refl)))
    (dot_later b (prefix_end m))
goal_later (goal.PrefixIri b i) m e =
    later_then m (passed (produces (Prefix i m.at) m)) _ (later_of m _ (loud m _ (Prefix i m.at) refl refl refl)) (dot_later b _)
goal_later (goal.BaseIri b) m e = later_then m (base_end m) _ (later_of m _ (loud m _ (Base m.at) refl refl refl)) (dot_later b _)
goal_later goal.Dot m e = later_of m _ (quiet m _ refl refl)
goal_later (goal.Data w) m e = three m _ refl refl
goal_later (goal.Brace w) m e = four m _ refl refl

all_calm : List Goal → Bool
all_calm [] = true
all_calm (g ∷ gs) = cond (is_calm g) (all_calm gs) false

inner_is_calm : (g : Goal) → is_inner g ≡ true → is_calm g ≡ true
unfolding is_calm
inner_is_calm (goal.Suffix s p x) e = e
inner_is_calm g e = refl

calm_on : (g : Goal) (gs : List Goal) → is_calm g ≡ true → all_calm gs ≡ true → all_calm (g ∷ gs) ≡ true
unfolding all_calm
calm_on g gs e h = ap (λ (b : Bool). cond b (all_calm gs) false) e ∙ h

inner_calm : (gs : List Goal) → all_inner gs ≡ true → all_calm gs ≡ true
unfolding all_calm
inner_calm [] e = refl
inner_calm (g ∷ gs) e = let k = split (is_inner g) (all_inner gs) e in calm_on g gs (inner_is_calm g k.0) (inner_calm gs k.1)

ending_later : (gs : List Goal) (w : Rest) (m : Point) → all_calm gs ≡ true → AddsLater m (ending_point gs w m)
unfolding ending_point all_calm
ending_later [] w m e = nothing m m refl (omega arith)
ending_later (g ∷ gs) w m e =
    let k = split (is_calm g) (all_calm gs) e in
    later_then m _ _ (goal_later g m k.0) (ending_later gs w (completion_end g (shortest g) m) k.1)

closing_ends : (c : Closer) (r : List Symbol) → EndsString (close_symbols c (shortest_closing c) r)
unfolding shortest_closing
closing_ends closer.Statement r = tt
closing_ends closer.Subject r = tt
closing_ends (closer.Object s p o) r = tt
closing_ends (closer.Formula u) r = tt

-- the shortest ending adds nothing to a String
ending_ends : (gs : List Goal) (w : Rest) → EndsString (ending_of gs w)
unfolding ending_of shortest
ending_ends [] w = tt
ending_ends (goal.One s p ∷ gs) w = tt
ending_ends (goal.Suffix s p x ∷ gs) w = ending_ends gs w
ending_ends (goal.Datatype s p x ∷ gs) w = tt
ending_ends (goal.After s p c ∷ gs) w = closing_ends c _
ending_ends (goal.Again s c ∷ gs) w = closing_ends c _
ending_ends (goal.Predicates s c ∷ gs) w = tt
ending_ends (goal.Maybe s c ∷ gs) w = closing_ends c _
ending_ends (goal.Formula u ∷ gs) w = tt
ending_ends (goal.Collection (collection_use.Subject c) ∷ gs) w = tt
ending_ends (goal.Collection (collection_use.Object s p) ∷ gs) w = tt
ending_ends (goal.Elements c u ∷ gs) w = tt
ending_ends (goal.PrefixName b ∷ gs) w = tt
ending_ends (goal.PrefixIri b i ∷ gs) w = tt
ending_ends (goal.BaseIri b ∷ gs) w = tt
ending_ends (goal.Dot ∷ gs) w = tt
ending_ends (goal.Data x ∷ gs) w = tt
ending_ends (goal.Brace x ∷ gs) w = tt

-- where the String ends, what follows is read after it
reads_settled : (gs : List Goal) (w : Rest) (m : Point) (ts : List Symbol) (m' : Point)
    → Reads (ended_goals gs w m).goals (ended_goals gs w m).rest (ended_goals gs w m).point ts m' → Reads gs w m ts m'
reads_settled (goal.Suffix s p x ∷ gs) w m ts m' h = (plain, ts, refl, h)
reads_settled [] w m ts m' h = h
reads_settled (g ∷ gs) w m ts m' h = h

pub settled_fit : (gs : List Goal) (w : Rest) (m : Point) (n : ℕ) → GoalsFit w n gs
    → GoalsFit (ended_goals gs w m).rest n (ended_goals gs w m).goals
settled_fit (goal.Suffix s p x ∷ gs) w m n h = inner_fit gs w n h
settled_fit [] w m n h = h
settled_fit (g ∷ gs) w m n h = h

settled_calm : (gs : List Goal) (w : Rest) (m : Point) (n : ℕ) → GoalsFit w n gs → all_calm (ended_goals gs w m).goals ≡ true
unfolding all_calm is_calm
settled_calm (goal.Suffix s p x ∷ gs) w m n h = inner_calm gs h
settled_calm [] w m n h = refl
settled_calm (goal.Data x ∷ gs) w m n h = inner_calm gs (words_inner w n gs h)
settled_calm (goal.Brace x ∷ gs) w m n h = inner_calm gs (words_inner w n gs h)
settled_calm (g ∷ gs) w m n h = inner_calm gs h

pub settled_rest : (gs : List Goal) (w : Rest) (m : Point) (start : Start) → RestFits start w → RestFits start (ended_goals gs w m).rest
settled_rest (goal.Suffix s p x ∷ gs) w m start r = r
settled_rest [] w m start r = r
settled_rest (g ∷ gs) w m start r = r

pub settled_at : (gs : List Goal) (w : Rest) (m : Point) → (ended_goals gs w m).point.at ≡ m.at
settled_at (goal.Suffix s p x ∷ gs) w m = refl
settled_at [] w m = refl
settled_at (g ∷ gs) w m = refl

settled_produced : (gs : List Goal) (w : Rest) (m : Point)
    → (ended_goals gs w m).point.produced ≡ m.produced ++ waiting_productions (waiting_goals gs m.within)
settled_produced (goal.Suffix s p x ∷ gs) w m = refl
settled_produced [] w m = sym (append-nil m.produced)
settled_produced (g ∷ gs) w m = sym (append-nil m.produced)

pub settled_before : (gs : List Goal) (w : Rest) (m : Point) → AllBefore m.at m.produced → WaitsBefore m.at gs
    → AllBefore m.at (ended_goals gs w m).point.produced
settled_before (goal.Suffix s p x ∷ gs) w m h f = All-push (λ y. end_of y < m.at) m.produced _ h (let lt : x < m.at = omega arith in lt)
settled_before [] w m h f = h
settled_before (g ∷ gs) w m h f = h

pub waits : (start : Start) (ts : List Symbol) (ps : List Production) (machine : Machine) → HasRead start ts ps machine
    → Produces start ts (ps ++ waiting_productions (waiting_triple machine.engine))
waits start ts ps machine h =
    let gs : List Goal = machine.engine.goals in
    let w : Rest = machine.engine.rest in
    let m : Point = record { at = machine.engine.point.at; unnamed = machine.engine.point.unnamed; within = machine.engine.point.within; produced = ps } in
    let now = run_settled start ts _ h.reached h.allowed in
    let y = ended_goals gs w m in
    let fit = settled_fit gs w m (braces_from 0 ts) now.0.1 in
    let adds = ending_later y.goals y.rest y.point (settled_calm gs w m (braces_from 0 ts) now.0.1) in
    let end : (ending_point y.goals y.rest y.point).produced ≡ (ps ++ waiting_productions (waiting_triple machine.engine)) ++ adds.later =
    adds.produced ∙ ap (λ z. z ++ adds.later) (settled_produced gs w m) in
    let at_now : m.at ≡ length ts = now.1.at_is in
    let at_end : y.point.at ≡ length ts = settled_at gs w m ∙ at_now in
    record {
      rest = ending_of y.goals y.rest;
      later = adds.later;
      ends_string = ending_ends y.goals y.rest;
      derives = subst (λ z. Derives start (ts ++ ending_of y.goals y.rest) z) end
          (derived start (ts ++ ending_of y.goals y.rest) (ending_point y.goals y.rest y.point)
          (through start ts _ _ _ h.reached (reads_settled gs w m _ _ (reads_ending y.goals y.rest y.point)))
          (allowed-append start ts _ 0 h.allowed (allowed_ending start y.goals y.rest (braces_from 0 ts) (settled_rest gs w m start now.0.0) fit)));
      so_far = subst (λ i. AllBefore i (ps ++ waiting_productions (waiting_triple machine.engine))) at_now
          (subst (AllBefore m.at) (settled_produced gs w m) (settled_before gs w m now.1.all_before now.1.waits));
      after = subst (λ i. All (λ x. i ≤ end_of x) adds.later) at_end adds.ends;
    }
