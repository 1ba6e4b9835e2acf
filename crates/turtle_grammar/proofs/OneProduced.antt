-- What symbols produce is one list, whatever follows them.
use Rattle.std.proofs.Common.{◌≡◌, ℕ, ◌+◌, ◌<◌, ◌≤◌, List, [], ◌∷◌, ◌++◌, length, true, false, Option, Some, None, refl, sym, ap, ◌∙◌, subst, append_assoc, arith}
use Rattle.std.proofs.lemmas.List.{append-nil}
use Rattle.std.proofs.lemmas.List.Elements.{All-nil, All-head, All-tail, All-cons, All-append, All-weaker}
use Rattle.std.specs.List.{All}
use Rattle.turtle_grammar.specs.declared.symbol.Start.{Start}
use Rattle.turtle_grammar.specs.declared.production.Production.{Production}
use Rattle.turtle_lex.specs.declared.token.TokenKind.TheVariants as kind
use Rattle.turtle_grammar.specs.declared.symbol.Start.{Start}
use Rattle.turtle_grammar.specs.declared.symbol.Symbol.{Symbol}
use Rattle.turtle_grammar.specs.declared.symbol.Symbol.TheVariants.{Token}
use Rattle.turtle_grammar.specs.declared.production.Node.{Node}
use Rattle.turtle_grammar.specs.declared.production.Node.TheVariants as node
use Rattle.turtle_grammar.specs.declared.goal.Goal.{Goal}
use Rattle.turtle_grammar.specs.declared.goal.Goal.TheVariants as goal
use Rattle.turtle_grammar.specs.declared.goal.Rest.{Rest}
use Rattle.turtle_grammar.specs.Productions.{Point, start_point, triple_at}
use Rattle.turtle_grammar.specs.Derivations.{AreAllowed, braces_after, braces_from}
use Rattle.turtle_grammar.specs.Readings.{end_of, EndsString, Produces}
use Rattle.turtle_grammar.specs.Stacks.{Stage, stage_to, take_symbol, step, then, reach, run, first_rest}
use Rattle.turtle_grammar.specs.Stacks.{ended_goals, adds_to_string}
use Rattle.turtle_grammar.proofs.Backward.{On}
use Rattle.turtle_grammar.proofs.Endings.{all_inner, GoalsFit, RestFits}
use Rattle.turtle_grammar.proofs.Fitting.{Fits, take_fits, step_fits, inner_fit}
use Rattle.turtle_grammar.proofs.Settling.{ends}
use Rattle.turtle_grammar.proofs.Theorem.{reach-append, derives_only, stuck, allowed_front, allowed_rest}
use Rattle.turtle_grammar.proofs.Ends.{Adds}
use Rattle.turtle_grammar.proofs.Waiting.{AddsStage, take_adds, AllBefore, WaitsBefore, waits_next, run_settled, settled_fit, settled_rest, settled_at, settled_before}

-- from the point m to the point n all that is produced ends at b or later
record AddsFrom (b : ℕ) (m n : Point) : Type 0 where
  later : List Production
  produced : n.produced ≡ m.produced ++ later
  ends : All (λ x. b ≤ end_of x) later

none_from : (b : ℕ) (m : Point) → AddsFrom b m m
none_from b m = record { later = []; produced = sym (append-nil m.produced); ends = All-nil _ }

from_adds : (b : ℕ) (m n : Point) → b ≤ m.at → Adds m n → AddsFrom b m n
from_adds b m n le h = record {
  later = h.later;
  produced = h.produced;
  ends = All-weaker (λ x. end_of x ≡ m.at) (λ x. b ≤ end_of x) (λ x e. omega arith) h.later h.ends;
}

from_then : (b : ℕ) (m k n : Point) → AddsFrom b m k → AddsFrom b k n → AddsFrom b m n
from_then b m k n h f = record {
  later = h.later ++ f.later;
  produced = f.produced ∙ ap (λ z. z ++ f.later) h.produced ∙ append_assoc m.produced h.later f.later;
  ends = All-append (λ x. b ≤ end_of x) h.later f.later h.ends f.ends;
}

-- what a step leaves: where it is, what it added, what waits
abbrev StepsFrom : ℕ → Point → Stage → Type 0
StepsFrom b m x = AddsFrom b m x.point × (b < x.point.at) × WaitsBefore x.point.at x.goals

stage_from : (b : ℕ) (m : Point) (o : Option Stage) → b ≤ m.at → On o (AddsStage m) → On o (StepsFrom b m)
stage_from b m None le h = tt
stage_from b m (Some x) le h =
    let grown : x.point.at ≡ m.at + 1 = h.0.passes in
    (from_adds b m x.point le h.0, (let lt : b < x.point.at = omega arith in lt), waits_next m.at x.point.at x.goals grown h.1)

string_said : (b : ℕ) (s p : Node) (x : ℕ) (m : Point) (o : Option Stage) → b ≤ x
    → On o (StepsFrom b (triple_at x s p (node.Token x) m)) → On o (StepsFrom b m)
string_said b s p x m None le h = tt
string_said b s p x m (Some y) le h = (
  from_then b m (triple_at x s p (node.Token x) m) y.point
      (record { later = _; produced = refl; ends = All-cons (λ z. b ≤ end_of z) _ [] le (All-nil _) }) h.0,
  h.1,
  h.2,
)

string_from : (t : Symbol) (s p : Node) (x : ℕ) (gs : List Goal) (w : Rest) (m : Point) (n b : ℕ) → all_inner gs ≡ true
    → b < m.at → x + 1 ≡ m.at → On (step (goal.Suffix s p x ∷ gs) w m t) (StepsFrom b m)
string_from (Token kind.LangTag) s p x gs w m n b i lt e =
    stage_from b m (take_symbol (goal.Suffix s p x ∷ gs) w m (Token kind.LangTag)) (omega arith) (take_adds (goal.Suffix s p x ∷ gs) w m (Token kind.LangTag) n i)
string_from (Token kind.Carets) s p x gs w m n b i lt e =
    stage_from b m (take_symbol (goal.Suffix s p x ∷ gs) w m (Token kind.Carets)) (omega arith) (take_adds (goal.Suffix s p x ∷ gs) w m (Token kind.Carets) n i)
string_from t s p x gs w m n b i lt e =
    string_said b s p x m (take_symbol gs w (triple_at x s p (node.Token x) m) t) (omega arith)
    (stage_from b (triple_at x s p (node.Token x) m) (take_symbol gs w (triple_at x s p (node.Token x) m) t) (omega arith)
    (take_adds gs w (triple_at x s p (node.Token x) m) t n (inner_fit gs w n i)))

step_from : (gs : List Goal) (w : Rest) (m : Point) (t : Symbol) (n b : ℕ) → GoalsFit w n gs → b < m.at → WaitsBefore m.at gs
    → On (step gs w m t) (StepsFrom b m)
step_from (goal.Suffix s p x ∷ gs) w m t n b i lt f = string_from t s p x gs w m n b i lt f
step_from gs w m t n b i lt f = stage_from b m (take_symbol gs w m t) (omega arith) (take_adds gs w m t n i)

abbrev ReachesFrom : ℕ → Point → Stage → Type 0
ReachesFrom b m x = AddsFrom b m x.point

more_from : (start : Start) (ts : List Symbol) (n b : ℕ) (m : Point) (o : Option Stage) → On o (StepsFrom b m) → On o (Fits start n)
    → ((x : Stage) → Fits start n x → (b < x.point.at) × WaitsBefore x.point.at x.goals → On (reach x.goals x.rest x.point ts) (ReachesFrom b x.point))
    → On (then o (λ x. reach x.goals x.rest x.point ts)) (ReachesFrom b m)
more_from start ts n b m None h g f = tt
more_from start ts n b m (Some x) h g f = both (reach x.goals x.rest x.point ts) (f x g (h.1, h.2))
  where
    both : (o : Option Stage) → On o (ReachesFrom b x.point) → On o (ReachesFrom b m)
    both None k = tt
    both (Some y) k = from_then b m x.point y.point h.0 k

reach_from : (start : Start) (ts : List Symbol) (gs : List Goal) (w : Rest) (m : Point) (n b : ℕ)
    → RestFits start w → GoalsFit w n gs → AreAllowed start n ts → b < m.at → WaitsBefore m.at gs
    → On (reach gs w m ts) (ReachesFrom b m)
reach_from start [] gs w m n b r g ok lt f = none_from b m
reach_from start (t ∷ ts) gs w m n b r g ok lt f =
    more_from start ts (braces_after n t) b m (step gs w m t) (step_from gs w m t n b g lt f) (step_fits start gs w m t n r g ok.0)
    (λ x fit more. reach_from start ts x.goals x.rest x.point (braces_after n t) b fit.0 fit.1 ok.1 more.0 more.1)

-- the first symbol adds nothing to a String
adds_nothing : (t : Symbol) (ts : List Symbol) → EndsString (t ∷ ts) → adds_to_string t ≡ false
adds_nothing (Token kind.LangTag) ts h = absurd h
adds_nothing (Token kind.Carets) ts h = absurd h
adds_nothing _ ts h = refl

-- From where the String at the top has ended, all that is produced ends at the next symbol or later.
settled_from : (start : Start) (ts : List Symbol) (gs : List Goal) (w : Rest) (m : Point) (n : ℕ)
    → RestFits start w → GoalsFit w n gs → AreAllowed start n ts → EndsString ts → (u : Rest) (z : Point)
    → reach gs w m ts ≡ stage_to [] u z → AddsFrom m.at (ended_goals gs w m).point z
settled_from start [] gs w m n r g ok ends_so u z e =
    let none : gs ≡ [] = ap goals_of e in
    let same : m ≡ z = ap point_of e in
    let here : AddsFrom m.at (ended_goals [] w m).point m = none_from m.at m in
    subst (λ y. AddsFrom m.at (ended_goals gs w m).point y) same (subst (λ y. AddsFrom m.at (ended_goals y w m).point m) (sym none) here)
  where
    goals_of : Option Stage → List Goal
    goals_of None = []
    goals_of (Some x) = x.goals

    point_of : Option Stage → Point
    point_of None = m
    point_of (Some x) = x.point
settled_from start (t ∷ ts) gs w m n r g ok ends_so u z e =
    let y = ended_goals gs w m in
    let at_is : y.point.at ≡ m.at = settled_at gs w m in
    let first : step gs w m t ≡ take_symbol y.goals y.rest y.point t = ends gs w m t (adds_nothing t ts ends_so) in
    let fit = settled_fit gs w m n g in
    let all = more_from start ts (braces_after n t) m.at y.point (take_symbol y.goals y.rest y.point t)
    (stage_from m.at y.point (take_symbol y.goals y.rest y.point t) (omega arith) (take_adds y.goals y.rest y.point t n fit))
    (take_fits start y.goals y.rest y.point t n (settled_rest gs w m start r) fit ok.0)
    (λ x fits more. reach_from start ts x.goals x.rest x.point (braces_after n t) m.at fits.0 fits.1 ok.1 more.0 more.1) in
    let gone : then (take_symbol y.goals y.rest y.point t) (λ x. reach x.goals x.rest x.point ts) ≡ stage_to [] u z =
    ap (λ o. then o (λ x. reach x.goals x.rest x.point ts)) (sym first) ∙ e in
    let got : On (stage_to [] u z) (ReachesFrom m.at y.point) = subst (λ o. On o (ReachesFrom m.at y.point)) gone all in
    got

head_or : Production → List Production → Production
head_or x [] = x
head_or x (y ∷ ys) = y

tail_of : List Production → List Production
tail_of [] = []
tail_of (y ∷ ys) = ys

-- a list is cut in one way into what ends before n and what ends at n or later
one_cut : (n : ℕ) (a b c d : List Production) → a ++ b ≡ c ++ d → AllBefore n a → All (λ x. n ≤ end_of x) b
    → AllBefore n c → All (λ x. n ≤ end_of x) d → a ≡ c
unfolding head_or tail_of
one_cut n [] b [] d e h i j k = refl
one_cut n [] b (y ∷ c) d e h i j k =
    let low : end_of y < n = All-head (λ x. end_of x < n) y c j in
    let high : n ≤ end_of y = All-head (λ x. n ≤ end_of x) y (c ++ d) (subst (λ z. All (λ x. n ≤ end_of x) z) e i) in
    absurd (omega arith)
one_cut n (x ∷ a) b [] d e h i j k =
    let low : end_of x < n = All-head (λ x. end_of x < n) x a h in
    let high : n ≤ end_of x = All-head (λ x. n ≤ end_of x) x (a ++ b) (subst (λ z. All (λ x. n ≤ end_of x) z) (sym e) k) in
    absurd (omega arith)
one_cut n (x ∷ a) b (y ∷ c) d e h i j k =
    let heads : x ≡ y = ap (head_or x) e in
    let tails : a ≡ c = one_cut n a b c d (ap tail_of e) (All-tail (λ x. end_of x < n) x a h) i (All-tail (λ x. end_of x < n) y c j) k in
    ap (λ z. z ∷ a) heads ∙ ap (λ z. y ∷ z) tails

module _ (start : Start) (ts : List Symbol) where
  -- what is produced is what the machine has produced, a last String included
  produced_is : (ps : List Production) → Produces start ts ps → (x : Stage) → run start ts ≡ Some x
      → ps ≡ (ended_goals x.goals x.rest x.point).point.produced
  produced_is ps h x e =
      let ok : AreAllowed start 0 ts = allowed_front start ts h.rest 0 h.derives.allowed in
      let now = run_settled start ts x e ok in
      let d = derives_only start (ts ++ h.rest) (ps ++ h.later) h.derives in
      let gone : reach x.goals x.rest x.point h.rest ≡ stage_to [] d.0 d.1 =
      sym (reach-append ts h.rest [] (first_rest start) start_point ∙ ap (λ o. then o (λ y. reach y.goals y.rest y.point h.rest)) e) ∙ d.2 in
      let added = settled_from start h.rest x.goals x.rest x.point (braces_from 0 ts) now.0.0 now.0.1
      (allowed_rest start ts h.rest 0 h.derives.allowed) h.ends_string d.0 d.1 gone in
      let size : x.point.at ≡ length ts = now.1.at_is in
      one_cut (length ts) ps h.later (ended_goals x.goals x.rest x.point).point.produced added.later
      (sym d.3 ∙ added.produced) h.so_far h.after
      (subst (λ i. AllBefore i (ended_goals x.goals x.rest x.point).point.produced) size (settled_before x.goals x.rest x.point now.1.all_before now.1.waits))
      (subst (λ i. All (λ x. i ≤ end_of x) added.later) size added.ends)

  one_by : (a z : List Production) → Produces start ts a → Produces start ts z → (o : Option Stage) → run start ts ≡ o → a ≡ z
  one_by a z h k None e = absurd (stuck start ts e (record { rest = h.rest; productions = a ++ h.later; derives = h.derives }))
  one_by a z h k (Some x) e = produced_is a h x e ∙ sym (produced_is z k x e)

  pub one_produced : (a z : List Production) → Produces start ts a → Produces start ts z → a ≡ z
  one_produced a z h k = one_by a z h k (run start ts) refl
