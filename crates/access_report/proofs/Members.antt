-- What is in the lists of several lists joined.
use Rattle.std.proofs.Common.{◌≡◌, inl, inr, Bool, true, false, cond, List, [], ◌∷◌, Option, Some, None, refl, sym, ap, subst}
use Rattle.std.specs.Prelude.{Contains, is_some}
use Rattle.std.specs.List.{find, flat_map}
use Rattle.std.proofs.lemmas.Bool.{false≢true}
use Rattle.std.proofs.lemmas.List.Elements.{Contains-append_cases, Contains-append_left, Contains-append_right}
use Rattle.rdf_graph.proofs.Members.{contains_cases, contains_here, contains_there, contains_none}

-- an element of a joined list, and of which it comes
pub record Comes {X Y : Type 0} (f : X → List Y) (xs : List X) (y : Y) : Type 0 where
  pub of : X
  pub among : Contains xs of
  pub in_its : Contains (f of) y

pub comes : {X Y : Type 0} (f : X → List Y) (xs : List X) (y : Y) → Contains (flat_map f xs) y → Comes f xs y
comes f [] y h = absurd (contains_none y h)
comes f (x ∷ xs) y h =
    elim (Contains-append_cases (f x) (flat_map f xs) y h) [
      | inl here ↦ record { of = x; among = contains_here x xs; in_its = here }
      | inr there ↦ later (comes f xs y there)
    ]
  where
    later : Comes f xs y → Comes f (x ∷ xs) y
    later c = record { of = c.of; among = contains_there x xs c.of c.among; in_its = c.in_its }

pub joins : {X Y : Type 0} (f : X → List Y) (xs : List X) (x : X) (y : Y) → Contains xs x → Contains (f x) y → Contains (flat_map f xs) y
joins f [] x y h in_its = absurd (contains_none x h)
joins f (z ∷ zs) x y h in_its =
    elim (contains_cases z zs x h) [
      | inl same ↦ Contains-append_left (f z) (flat_map f zs) y (subst (λ v. Contains (f v) y) (sym same) in_its)
      | inr there ↦ Contains-append_right (f z) (flat_map f zs) y (joins f zs x y there in_its)
    ]

-- what a search finds is in the list, and passes
pub record Found {X : Type 0} (p : X → Bool) (xs : List X) (x : X) : Type 0 where
  pub among : Contains xs x
  pub passes : p x ≡ true

pub found : {X : Type 0} (p : X → Bool) (xs : List X) (x : X) → find p xs ≡ Some x → Found p xs x
found p [] x h = absurd cc
found p (y ∷ ys) x h = by_test (found p ys x) (p y) refl h
  where
    by_test : (find p ys ≡ Some x → Found p ys x) → (b : Bool) → p y ≡ b → cond b (Some y) (find p ys) ≡ Some x → Found p (y ∷ ys) x
    by_test more true e h =
        let same : y ≡ x = cc in
        subst (Found p (y ∷ ys)) same (record { among = contains_here y ys; passes = e })
    by_test more false e h =
        let rest = more h in
        record { among = contains_there y ys x rest.among; passes = rest.passes }

-- where an element passes, a search finds one
pub finds : {X : Type 0} (p : X → Bool) (xs : List X) (x : X) → Contains xs x → p x ≡ true → is_some (find p xs) ≡ true
finds p [] x h e = absurd (contains_none x h)
finds p (y ∷ ys) x h e =
    elim (contains_cases y ys x h) [
      | inl same ↦ ap (λ b. is_some (cond b (Some y) (find p ys))) (subst (λ v. p v ≡ true) (sym same) e)
      | inr there ↦ by_test (p y) (finds p ys x there e)
    ]
  where
    by_test : (b : Bool) → is_some (find p ys) ≡ true → is_some (cond b (Some y) (find p ys)) ≡ true
    by_test true h = refl
    by_test false h = h

pub some_found : {X : Type 0} (o : Option X) → is_some o ≡ true → (x : X) × (o ≡ Some x)
some_found None h = absurd (false≢true h)
some_found (Some x) h = (x, refl)
