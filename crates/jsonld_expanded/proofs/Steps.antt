-- Steps of a walk in the code, one after another.
use Rattle.std.proofs.Common.{◌≡◌, Bool, true, false, Result, Ok, Err, refl, sym, ap, ◌∙◌, subst}
use Rattle.std.specs.Result.{IsErrAnd, IsErrOf}
use Rattle.rdf_graph.specs.declared.term.Term.{Term}
use Rattle.jsonld_expanded.specs.declared.walk_state.Walk.{Walk}
use Rattle.jsonld_expanded.specs.Expands.{Choose, State, Then}
use Rattle.jsonld_expanded.specs.Walks.{Advances, Refuses, Stands}
use Rattle.jsonld_expanded.proofs.Once.{Once, PicksOnce}

-- a step that picks a term, and what it does with it
abbrev pub Picks : (Term → State → State → Type 0) → (Term → State → State → Type 0) → State → State → Type 0
Picks R S a c = (t : Term) × Then (R t) (S t) a c

pub advance-same : (u : Walk) → Advances (λ a b. b ≡ a) u u
advance-same u a h = (a, refl, h)

pub advance-then : (R S : State → State → Type 0) (u v w : Walk) → Advances R u v → Advances S v w → Advances (Then R S) u w
advance-then R S u v w r s a h =
    let x = r a h in
    let y = s x.0 x.2 in
    (y.0, (x.0, x.1, y.1), y.2)

-- a walk that has only counted is as far as before
pub advance-counted : (R : State → State → Type 0) (u v w : Walk) → Advances R u v → Advances (λ a b. b ≡ a) v w → Advances R u w
advance-counted R u v w r s a h =
    let x = r a h in
    let y = s x.0 x.2 in
    (x.0, x.1, subst (λ (t : State). Stands w t) y.1 y.2)

pub refuse-first : (R S : State → State → Type 0) (u : Walk) → Refuses R u → Refuses (Then R S) u
refuse-first R S u r a h c (b, x, y) = r a h b x

pub refuse-second : (R S : State → State → Type 0) (u v : Walk) → Once R → Advances R u v → Refuses S v → Refuses (Then R S) u
refuse-second R S u v once r s a h c (b, x, y) =
    let z = r a h in
    s z.0 z.2 c (subst (λ (t : State). S t c) (once a b z.0 x z.1) y)

pub advance-pick : (R S : Term → State → State → Type 0) (t : Term) (u v w : Walk) → Advances (R t) u v → Advances (S t) v w → Advances (Picks R S) u w
advance-pick R S t u v w r s a h =
    let x = r a h in
    let y = s x.0 x.2 in
    (y.0, (t, (x.0, x.1, y.1)), y.2)

pub refuse-pick : (R S : Term → State → State → Type 0) (u : Walk) → ((t : Term) → Refuses (R t) u) → Refuses (Picks R S) u
refuse-pick R S u r a h c (t, (b, x, y)) = r t a h b x

pub refuse-picked : (R S : Term → State → State → Type 0) (t : Term) (u v : Walk) → PicksOnce R → Advances (R t) u v → Refuses (S t) v → Refuses (Picks R S) u
refuse-picked R S t u v once r s a h c (o, (b, x, y)) =
    let z = r a h in
    let same = once o t a b z.0 x z.1 in
    s z.0 z.2 c (subst (λ (e : State). S t e c) same.1 (subst (λ (q : Term). S q b c) same.0 y))

-- whatever S does from v, R does from u
pub record Leads (R S : State → State → Type 0) (u v : Walk) : Type 0 where
  pub ok : (w : Walk) → Advances S v w → Advances R u w
  pub out : Refuses S v → Refuses R u

pub leads-same : (R : State → State → Type 0) (u : Walk) → Leads R R u u
leads-same R u = record { ok = λ w h. h; out = λ h. h }

pub leads-then : (R P S : State → State → Type 0) (u v w : Walk) → Leads R (Then P S) u v → Once P → Advances P v w → Leads R S u w
leads-then R P S u v w leads once p = record {
  ok = λ x s. leads.ok x (advance-then P S v w x p s);
  out = λ s. leads.out (refuse-second P S v w once p s);
}

pub leads-pick : (R : State → State → Type 0) (P S : Term → State → State → Type 0) (t : Term) (u v w : Walk) → Leads R (Picks P S) u v → PicksOnce P → Advances (P t) v w → Leads R (S t) u w
leads-pick R P S t u v w leads once p = record {
  ok = λ x s. leads.ok x (advance-pick P S t v w x p s);
  out = λ s. leads.out (refuse-picked P S t v w once p s);
}

-- a step that a test chooses
pub advance-true : (test : Bool) (A B : State → State → Type 0) (u v : Walk) → test ≡ true → Advances A u v → Advances (λ a b. Choose test (A a b) (B a b)) u v
advance-true true A B u v e h = h
advance-true false A B u v e h = absurd cc

pub advance-false : (test : Bool) (A B : State → State → Type 0) (u v : Walk) → test ≡ false → Advances B u v → Advances (λ a b. Choose test (A a b) (B a b)) u v
advance-false true A B u v e h = absurd cc
advance-false false A B u v e h = h

pub refuse-true : (test : Bool) (A B : State → State → Type 0) (u : Walk) → test ≡ true → Refuses A u → Refuses (λ a b. Choose test (A a b) (B a b)) u
refuse-true true A B u e h = h
refuse-true false A B u e h = absurd cc

pub refuse-false : (test : Bool) (A B : State → State → Type 0) (u : Walk) → test ≡ false → Refuses B u → Refuses (λ a b. Choose test (A a b) (B a b)) u
refuse-false true A B u e h = absurd cc
refuse-false false A B u e h = h

-- a step under a condition
pub advance-if : (P : Type 0) (R : State → State → Type 0) (u v : Walk) → P → Advances R u v → Advances (λ a b. P × R a b) u v
advance-if P R u v p r a h = let x = r a h in (x.0, (p, x.1), x.2)

pub refuse-if : (P : Type 0) (R : State → State → Type 0) (u : Walk) → Refuses R u → Refuses (λ a b. P × R a b) u
refuse-if P R u r a h b x = r a h b x.1

pub refuse-not : (P : Type 0) (R : State → State → Type 0) (u : Walk) → (P → ⊥) → Refuses (λ a b. P × R a b) u
refuse-not P R u none a h b x = none x.0

-- a fault that `?` hands on is the callee's
pub handed : {S T E : Type 0} (r : Result T E) (e f : E) → IsErrAnd r (λ x. x ≡ e) → IsErrOf r f → IsErrOf {T = S} (Err e) f
handed (Ok x) e f h k = absurd h
handed (Err x) e f h k = let same : e ≡ f = cc in ap (λ y. Err y) same
