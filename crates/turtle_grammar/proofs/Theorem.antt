-- The machine and the grammar: it takes the symbols that go on, and no goal is left where they are
-- derived.
use Rattle.std.proofs.Common.{◌≡◌, ℕ, true, false, List, [], ◌∷◌, ◌++◌, length, take, drop}
use Rattle.std.proofs.Common.{Option, Some, None, refl, sym, ap, ◌∙◌, subst, append_assoc}
use Rattle.std.proofs.lemmas.List.{append-nil, take-append-drop}
use Rattle.turtle_grammar.specs.declared.symbol.Start.{Start}
use Rattle.turtle_grammar.specs.declared.symbol.Start.TheVariants as start_of
use Rattle.turtle_grammar.specs.declared.symbol.Symbol.{Symbol}
use Rattle.turtle_grammar.specs.declared.production.Production.{Production}
use Rattle.turtle_grammar.specs.declared.goal.Goal.{Goal}
use Rattle.turtle_grammar.specs.declared.goal.Rest.{Rest}
use Rattle.turtle_grammar.specs.Productions.{Point, start_point}
use Rattle.turtle_grammar.specs.Derivations.{tree_end, AreAllowed, is_allowed}
use Rattle.turtle_grammar.specs.Derivations.{braces_after, braces_from, Derives, GoesOn}
use Rattle.turtle_grammar.specs.Stacks.{Stage, stage_to, reach, step, step_of, then, run, first_rest}
use Rattle.turtle_grammar.proofs.Forward.{run_tree, last_rest}
use Rattle.turtle_grammar.proofs.Completions.{Reads, tree_of_rest}
use Rattle.turtle_grammar.proofs.Backward.{On, KeepsAll, keeps_all}
use Rattle.turtle_grammar.proofs.Endings.{ending_of, ending_point, reads_ending, reads_none, allowed_ending, RestFits}
use Rattle.turtle_grammar.proofs.Fitting.{Fits, reach_fits}

pub then-reach : (o : Option Stage) (ts r : List Symbol)
    → ((x : Stage) → reach x.goals x.rest x.point (ts ++ r) ≡ then (reach x.goals x.rest x.point ts) (λ y. reach y.goals y.rest y.point r))
    → then o (λ x. reach x.goals x.rest x.point (ts ++ r)) ≡ then (then o (λ x. reach x.goals x.rest x.point ts)) (λ y. reach y.goals y.rest y.point r)
then-reach None ts r f = refl
then-reach (Some x) ts r f = f x

pub reach-append : (ts r : List Symbol) (gs : List Goal) (w : Rest) (m : Point)
    → reach gs w m (ts ++ r) ≡ then (reach gs w m ts) (λ x. reach x.goals x.rest x.point r)
reach-append [] r gs w m = refl
reach-append (t ∷ ts) r gs w m = then-reach (step gs w m t) ts r (λ x. reach-append ts r x.goals x.rest x.point)

then-some : (o : Option Stage) → then o (λ x. stage_to x.goals x.rest x.point) ≡ o
then-some None = refl
then-some (Some x) = refl

pub allowed-append : (start : Start) (ts us : List Symbol) (n : ℕ) → AreAllowed start n ts → AreAllowed start (braces_from n ts) us
    → AreAllowed start n (ts ++ us)
allowed-append start [] us n h k = k
allowed-append start (t ∷ ts) us n h k = (h.0, allowed-append start ts us (braces_after n t) h.1 k)

pub allowed_front : (start : Start) (ts us : List Symbol) (n : ℕ) → AreAllowed start n (ts ++ us) → AreAllowed start n ts
allowed_front start [] us n h = tt
allowed_front start (t ∷ ts) us n h = (h.0, allowed_front start ts us (braces_after n t) h.1)

pub allowed_rest : (start : Start) (ts us : List Symbol) (n : ℕ) → AreAllowed start n (ts ++ us) → AreAllowed start (braces_from n ts) us
allowed_rest start [] us n h = h
allowed_rest start (t ∷ ts) us n h = allowed_rest start ts us (braces_after n t) h.1

out_of : Option Stage → List Production
out_of None = []
out_of (Some x) = x.point.produced

goals_of : Option Stage → List Goal
goals_of None = []
goals_of (Some x) = x.goals

pub rest_fits : (start : Start) → RestFits start (first_rest start)
rest_fits start_of.Document = tt
rest_fits start_of.Patch = tt
rest_fits start_of.Update = tt

module _ (start : Start) where
  -- what is read from the start symbol on is derived
  pub derived : (ts : List Symbol) (m : Point) → Reads [] (first_rest start) start_point ts m → AreAllowed start 0 ts
      → Derives start ts m.produced
  derived ts m h ok =
      let k = tree_of_rest start h.0 m in
      record {
        tree = k.0;
        symbols_are = k.1 ∙ h.1;
        produced = ap (λ (z : Point). z.produced) (k.2 ∙ h.2);
        allowed = ok;
      }

  -- the symbols go through the machine from the start symbol on
  pub through : (ts : List Symbol) (x : Stage) (us : List Symbol) (m : Point) → run start ts ≡ Some x
      → Reads x.goals x.rest x.point us m → Reads [] (first_rest start) start_point (ts ++ us) m
  through ts x us m e h =
      let all : KeepsAll [] (first_rest start) start_point ts (Some x) =
      subst (λ o. KeepsAll [] (first_rest start) start_point ts o) e (keeps_all ts [] (first_rest start) start_point) in
      all us m h

  pub fits : (ts : List Symbol) (x : Stage) → run start ts ≡ Some x → AreAllowed start 0 ts → Fits start (braces_from 0 ts) x
  fits ts x e ok =
      let all : On (Some x) (Fits start (braces_from 0 ts)) =
      subst (λ o. On o (Fits start (braces_from 0 ts))) e
      (reach_fits start ts [] (first_rest start) start_point 0 (rest_fits start) tt ok) in
      all

  pub goes_on : (ts : List Symbol) (x : Stage) → run start ts ≡ Some x → AreAllowed start 0 ts → GoesOn start ts
  goes_on ts x e ok =
      let fit = fits ts x e ok in
      record {
        rest = ending_of x.goals x.rest;
        productions = (ending_point x.goals x.rest x.point).produced;
        derives = derived (ts ++ ending_of x.goals x.rest) (ending_point x.goals x.rest x.point)
            (through ts x _ _ e (reads_ending x.goals x.rest x.point))
            (allowed-append start ts _ 0 ok (allowed_ending start x.goals x.rest (braces_from 0 ts) fit.0 fit.1));
      }

  pub derives_only : (ts : List Symbol) (out : List Production) → Derives start ts out
      → (w : Rest) × (m : Point) × (run start ts ≡ stage_to [] w m) × (m.produced ≡ out)
  derives_only ts out d =
      (last_rest start d.tree, tree_end start d.tree, ap (run start) (sym d.symbols_are) ∙ run_tree start d.tree, d.produced)

  stage_none : (w : Rest) (m : Point) → stage_to [] w m ≡ None → ⊥
  stage_none w m e = cc

  pub stuck : (ts : List Symbol) → run start ts ≡ None → GoesOn start ts → ⊥
  stuck ts e g =
      let a : run start (ts ++ g.rest) ≡ None =
      reach-append ts g.rest [] (first_rest start) start_point ∙ ap (λ o. then o (λ x. reach x.goals x.rest x.point g.rest)) e in
      let d = derives_only (ts ++ g.rest) g.productions g.derives in
      stage_none d.0 d.1 (sym d.2 ∙ a)

  pub run_next : (ts : List Symbol) (t : Symbol) (x : Stage) → run start ts ≡ Some x → run start (ts ++ t ∷ []) ≡ step_of x t
  run_next ts t x e =
      reach-append ts (t ∷ []) [] (first_rest start) start_point
      ∙ ap (λ o. then o (λ y. reach y.goals y.rest y.point (t ∷ []))) e
      ∙ then-some (step x.goals x.rest x.point t)

  pub complete : (ts : List Symbol) (x : Stage) → run start ts ≡ Some x → AreAllowed start 0 ts → x.goals ≡ []
      → Derives start ts x.point.produced
  complete ts x e ok none =
      let here = subst (λ g. Reads g x.rest x.point [] x.point) (sym none) (reads_none x.rest x.point) in
      let all = through ts x [] x.point e here in
      derived ts x.point (subst (λ z. Reads [] (first_rest start) start_point z x.point) (append-nil ts) all) ok

  pub unfinished : (ts : List Symbol) (x : Stage) → run start ts ≡ Some x → (x.goals ≡ [] → ⊥)
      → (out : List Production) → Derives start ts out → ⊥
  unfolding goals_of
  unfinished ts x e left out d =
      let k = derives_only ts out d in
      let same : Some x ≡ stage_to [] k.0 k.1 = sym e ∙ k.2 in
      left (ap goals_of same)

  -- a symbol that isn't allowed
  pub refused : (ts : List Symbol) (t : Symbol) → is_allowed start (braces_from 0 ts) t ≡ false → GoesOn start (ts ++ t ∷ []) → ⊥
  refused ts t forbidden g =
      let k : AreAllowed start 0 (ts ++ t ∷ []) = allowed_front start (ts ++ t ∷ []) g.rest 0 g.derives.allowed in
      let here : is_allowed start (braces_from 0 ts) t ≡ true = (allowed_rest start ts (t ∷ []) 0 k).0 in
      let bad : false ≡ true = sym forbidden ∙ here in
      absurd (let f : false ≡ true = bad in cc)

  -- What one list of symbols produces is one list.
  pub same_productions : (ts : List Symbol) (a z : List Production) → Derives start ts a → Derives start ts z → a ≡ z
  unfolding out_of
  same_productions ts a z d e =
      let v = derives_only ts a d in
      let u = derives_only ts z e in
      let same : stage_to [] v.0 v.1 ≡ stage_to [] u.0 u.1 = sym v.2 ∙ u.2 in
      sym v.3 ∙ ap out_of same ∙ u.3

  pub goes_on_front : (ts us : List Symbol) → GoesOn start (ts ++ us) → GoesOn start ts
  goes_on_front ts us g = record {
    rest = us ++ g.rest;
    productions = g.productions;
    derives = subst (λ z. Derives start z g.productions) (append_assoc ts us g.rest) g.derives;
  }

  -- What has a derivation goes on at each of its prefixes.
  pub begins_so : (ts : List Symbol) (a : List Production) (k : ℕ) → Derives start ts a → GoesOn start (take k ts)
  begins_so ts a k d = record {
    rest = drop k ts;
    productions = a;
    derives = subst (λ z. Derives start z a) (sym (take-append-drop k ts)) d;
  }
