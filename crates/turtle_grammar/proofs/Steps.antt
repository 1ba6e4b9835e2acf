-- One step of the machine, as its caller sees it.
use Rattle.std.proofs.Common.{◌≡◌, ℕ, ◌+◌, ◌<◌, ◌≤◌, true, false, List, [], ◌∷◌, ◌++◌, length, take}
use Rattle.std.proofs.Common.{Some, None, inl, inr, refl, sym, ap, ◌∙◌, subst, arith}
use Rattle.std.proofs.lemmas.List.{append-nil, take-append-le, length-append}
use Rattle.std.proofs.lemmas.Bool.{cases_lt}
use Rattle.std.proofs.Math.Seq.{take-length}
use Rattle.turtle_grammar.specs.declared.symbol.Start.{Start}
use Rattle.turtle_grammar.specs.declared.symbol.Symbol.{Symbol}
use Rattle.turtle_grammar.specs.declared.production.Production.{Production}
use Rattle.turtle_grammar.specs.declared.fault.TheConstants.{DEPTH_LIMIT}
use Rattle.turtle_grammar.specs.declared.machine.Machine.{Machine}
use Rattle.turtle_grammar.specs.Derivations.{AreAllowed, is_allowed, braces_after, braces_from}
use Rattle.turtle_grammar.specs.Derivations.{depth_after, depth_from, GoesOn, IsTooDeep, IsShallow}
use Rattle.turtle_grammar.specs.Stacks.{Stage, step, step_of, run, cleared, at_point, with_produced}
use Rattle.turtle_grammar.specs.Readings.{HasRead, produced_by}
use Rattle.turtle_grammar.proofs.Shift.{shift_stage, step_shift}
use Rattle.turtle_grammar.proofs.Theorem.{run_next, goes_on, stuck, refused, allowed-append}

braces-append : (ts : List Symbol) (t : Symbol) (n : ℕ) → braces_from n (ts ++ t ∷ []) ≡ braces_after (braces_from n ts) t
braces-append [] t n = refl
braces-append (u ∷ ts) t n = braces-append ts t (braces_after n u)

depth-append : (ts : List Symbol) (t : Symbol) (n : ℕ) → depth_from n (ts ++ t ∷ []) ≡ depth_after (depth_from n ts) t
depth-append [] t n = refl
depth-append (u ∷ ts) t n = depth-append ts t (depth_after n u)

length_more : (ts : List Symbol) (t : Symbol) → length (ts ++ t ∷ []) ≡ length ts + 1
length_more ts t = length-append ts (t ∷ [])

take_all_more : (ts : List Symbol) (t : Symbol) → take (length ts + 1) (ts ++ t ∷ []) ≡ ts ++ t ∷ []
take_all_more ts t = ap (λ n. take n (ts ++ t ∷ [])) (sym (length_more ts t)) ∙ take-length (ts ++ t ∷ [])

-- a symbol more adds no depth before it
still_shallow : (ts : List Symbol) (t : Symbol) → IsShallow ts (length ts) → IsShallow (ts ++ t ∷ []) (length ts)
still_shallow ts t h j lt deep =
    h j lt (lt, subst (λ z. DEPTH_LIMIT < depth_from 0 z) (take-append-le (j + 1) ts (t ∷ []) (omega arith)) deep.1)

shallow_more : (ts : List Symbol) (t : Symbol) → IsShallow ts (length ts) → depth_from 0 (ts ++ t ∷ []) ≤ DEPTH_LIMIT
    → IsShallow (ts ++ t ∷ []) (length (ts ++ t ∷ []))
shallow_more ts t h low j lt deep =
    let size : length (ts ++ t ∷ []) ≡ length ts + 1 = length_more ts t in
    elim (cases_lt j (length ts)) [
      | inl less ↦ still_shallow ts t h j less deep
      | inr le ↦
          let here : j ≡ length ts = omega arith in
          let all : take (j + 1) (ts ++ t ∷ []) ≡ ts ++ t ∷ [] = ap (λ n. take (n + 1) (ts ++ t ∷ [])) here ∙ take_all_more ts t in
          let high : DEPTH_LIMIT < depth_from 0 (ts ++ t ∷ []) = subst (λ z. DEPTH_LIMIT < depth_from 0 z) all deep.1 in
          absurd (omega arith)
    ]

-- a step from all that was produced, by the step from nothing
from_cleared : (ps : List Production) (x : Stage) (t : Symbol)
    → step_of (at_point (with_produced ps x.point) x) t ≡ shift_stage ps (step_of (cleared x) t)
from_cleared ps x t =
    ap (λ z. step x.goals x.rest (with_produced z x.point) t) (sym (append-nil ps))
    ∙ step_shift ps x.goals x.rest (with_produced [] x.point) t

module _ (start : Start) (ts : List Symbol) (ps : List Production) (old : Machine) (t : Symbol) (h : HasRead start ts ps old) where
  next : run start (ts ++ t ∷ []) ≡ shift_stage ps (step_of (cleared old.engine) t)
  next = run_next start ts t _ h.reached ∙ from_cleared ps old.engine t

  -- a symbol that the language doesn't have here
  pub not_allowed : is_allowed old.start old.braces t ≡ false → GoesOn start (ts ++ t ∷ []) → ⊥
  not_allowed forbidden = refused start ts t (ap (λ s. is_allowed s (braces_from 0 ts) t) (sym h.start_is) ∙ ap (λ n. is_allowed old.start n t) (sym h.braces) ∙ forbidden)

  -- a symbol that the grammar doesn't have here
  pub not_taken : step_of (cleared old.engine) t ≡ None → GoesOn start (ts ++ t ∷ []) → ⊥
  not_taken none = stuck start (ts ++ t ∷ []) (next ∙ ap (shift_stage ps) none)

  module _ (allowed : is_allowed old.start old.braces t ≡ true) where
    all_allowed : AreAllowed start 0 (ts ++ t ∷ [])
    all_allowed =
        let here : is_allowed start (braces_from 0 ts) t ≡ true =
        ap (λ s. is_allowed s (braces_from 0 ts) t) (sym h.start_is) ∙ ap (λ n. is_allowed old.start n t) (sym h.braces) ∙ allowed in
        allowed-append start ts (t ∷ []) 0 h.allowed (here, tt)

    module _ (x : Stage) (taken : step_of (cleared old.engine) t ≡ Some x) where
      reached : run start (ts ++ t ∷ []) ≡ Some (at_point (with_produced (ps ++ x.point.produced) x.point) x)
      reached = next ∙ ap (shift_stage ps) taken

      depth_now : (n : ℕ) → n ≡ depth_after old.depth t → n ≡ depth_from 0 (ts ++ t ∷ [])
      depth_now n e = e ∙ ap (λ d. depth_after d t) h.depth ∙ sym (depth-append ts t 0)

      pub too_deep : (n : ℕ) → n ≡ depth_after old.depth t → DEPTH_LIMIT < n
          → GoesOn start (ts ++ t ∷ []) × IsTooDeep (ts ++ t ∷ []) (length ts)
      too_deep n e high =
          let size : length (ts ++ t ∷ []) ≡ length ts + 1 = length_more ts t in
          let all : n ≡ depth_from 0 (take (length ts + 1) (ts ++ t ∷ [])) = depth_now n e ∙ ap (depth_from 0) (sym (take_all_more ts t)) in (
            goes_on start (ts ++ t ∷ []) _ reached all_allowed,
            (let lt : length ts < length (ts ++ t ∷ []) = omega arith in lt, subst (λ (d : ℕ). DEPTH_LIMIT < d) all high),
          )

      pub reads_on : (new : Machine) → new.engine ≡ x → new.start ≡ old.start → new.braces ≡ braces_after old.braces t
          → new.depth ≡ depth_after old.depth t → new.depth ≤ DEPTH_LIMIT
          → HasRead start (ts ++ t ∷ []) (ps ++ produced_by new) new
      reads_on new is same braces depth low = record {
        start_is = same ∙ h.start_is;
        reached = subst (λ y. run start (ts ++ t ∷ []) ≡ Some (at_point (with_produced (ps ++ y.point.produced) y.point) y)) (sym is) reached;
        braces = braces ∙ ap (λ n. braces_after n t) h.braces ∙ sym (braces-append ts t 0);
        depth = depth_now new.depth depth;
        low = low;
        allowed = all_allowed;
        shallow = shallow_more ts t h.shallow (subst (λ (d : ℕ). d ≤ DEPTH_LIMIT) (depth_now new.depth depth) low);
      }

-- what was read goes on
pub goes_on_now : (start : Start) (ts : List Symbol) (ps : List Production) (machine : Machine) → HasRead start ts ps machine → GoesOn start ts
goes_on_now start ts ps machine h = goes_on start ts _ h.reached h.allowed
