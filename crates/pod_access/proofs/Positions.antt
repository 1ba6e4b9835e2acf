-- Whether an element passes a test, and where the first one stands.
use Rattle.std.proofs.Common.{◌≡◌, ℕ, ◌<◌, ◌≤◌, Bool, true, false, cond, ◌||◌, List, [], ◌∷◌, length, take, get_or, Option, Some, None, refl, sym, ap, subst, ◌∙◌, arith, ⊎_elim}
use Rattle.std.specs.Prelude.{is_some, nat_lt, slice_get}
use Rattle.std.specs.List.{All, Contains, list_any, position, position_or_len}
use Rattle.std.proofs.lemmas.Bool.{false≢true, true≢false, ltb-false}
use Rattle.std.proofs.lemmas.List.Folds.{list_any_none, list_any_at}
use Rattle.std.proofs.lemmas.List.Quantifiers.{position-Some}
use Rattle.std.proofs.lemmas.List.Sums.{fails_before_first}
use Rattle.std.proofs.lemmas.Option.{slice_get-get_or, slice_get_within, get_or_from_slice_get}
use Rattle.rdf_graph.proofs.Members.{contains_cases, contains_here, contains_there, contains_none, All-take_within}

-- x is in the list and passes
pub record Passes {X : Type 0} (p : X → Bool) (xs : List X) : Type 0 where
  pub at : X
  pub member : Contains xs at
  pub passes : p at ≡ true

pub any_passes : {X : Type 0} (p : X → Bool) (xs : List X) → list_any p xs ≡ true → Passes p xs
any_passes p [] h = absurd (false≢true h)
any_passes p (x ∷ xs) h = by_test (p x) refl (any_passes p xs) h
  where
    by_test : (b : Bool) → p x ≡ b → (list_any p xs ≡ true → Passes p xs) → (b || list_any p xs) ≡ true → Passes p (x ∷ xs)
    by_test true e below h = record { at = x; member = contains_here x xs; passes = e }
    by_test false e below h =
        let rest = below h in
        record { at = rest.at; member = contains_there x xs rest.at rest.member; passes = rest.passes }

pub passes_any : {X : Type 0} (p : X → Bool) (xs : List X) (x : X) → Contains xs x → p x ≡ true → list_any p xs ≡ true
passes_any p xs x h e = list_any_at p xs h.0 x h.1 (subst (λ z. p z ≡ true) (sym h.2) e)

-- ---- the first position

pub position_fails : {X : Type 0} (p : X → Bool) (xs : List X) → position p xs ≡ None → All (λ x. p x ≡ false) xs
position_fails p xs h = by_test (nat_lt (position_or_len p xs) (length xs)) refl h
  where
    by_test : (b : Bool) → nat_lt (position_or_len p xs) (length xs) ≡ b → cond b (Some (position_or_len p xs)) None ≡ None → All (λ x. p x ≡ false) xs
    by_test true e h = absurd cc
    by_test false e h =
        let past : length xs ≤ position_or_len p xs = ltb-false (position_or_len p xs) (length xs) e in
        λ k d l. fails_before_first p xs k d (omega arith)

-- what a first position is
pub record IsFirst {X : Type 0} (p : X → Bool) (xs : List X) (i : ℕ) : Type 0 where
  pub at : X
  pub is_at : slice_get xs i ≡ Some at
  pub passes : p at ≡ true
  pub before : All (λ x. p x ≡ false) (take i xs)

pub first_of : {X : Type 0} (p : X → Bool) (xs : List X) (i : ℕ) → position p xs ≡ Some i → IsFirst p xs i
first_of p [] i h = absurd cc
first_of p (x ∷ xs) i h =
    let some = position-Some p (x ∷ xs) i x h in
    record {
      at = get_or (x ∷ xs) i x;
      is_at = slice_get-get_or (x ∷ xs) i x some.0;
      passes = some.1;
      before = All-take_within (λ z. p z ≡ false) (x ∷ xs) i (λ k d a b. (position-Some p (x ∷ xs) i d h).2 k b);
    }

-- where an element passes, there is a first one
pub some_position : {X : Type 0} (p : X → Bool) (xs : List X) → list_any p xs ≡ true → (i : ℕ) × (position p xs ≡ Some i)
some_position p xs h = by_position (position p xs) refl
  where
    by_position : (o : Option ℕ) → position p xs ≡ o → (i : ℕ) × (position p xs ≡ Some i)
    by_position (Some i) e = (i, e)
    by_position None e = absurd (false≢true (sym (list_any_none p xs (position_fails p xs e)) ∙ h))

pub slice_get_member : {X : Type 0} (xs : List X) (i : ℕ) (x : X) → slice_get xs i ≡ Some x → Contains xs x
slice_get_member xs i x h = (i, slice_get_within xs i x h, get_or_from_slice_get xs i x x h)
