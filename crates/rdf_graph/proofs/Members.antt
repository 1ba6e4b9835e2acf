-- What a list contains, by its parts.
use Rattle.std.proofs.Common.{ℕ, zero, suc, ◌+◌, ◌<◌, ◌≤◌, Bool, true, false, cond, ◌≡◌, ◌⊎◌, ◌↔◌, List, [], ◌∷◌, ◌++◌, length, take, drop, get_or, refl, sym, ◌∙◌, subst, arith, inl, inr, ⊎_elim}
use Rattle.std.specs.Prelude.{slice_get}
use Rattle.std.specs.List.{Contains, All, AllWithin, insert, filter}
use Rattle.std.proofs.lemmas.List.{take-append-drop, get_or-take, get_or-drop, length-take, length-drop, take_all}
use Rattle.std.proofs.lemmas.Bool.{false≢true}
use Rattle.std.proofs.lemmas.List.Elements.{Contains-append_left, Contains-append_right, Contains-append_cases, Contains-get_or, All-contains, All-more}

cases_at : {X : Type 0} (y : X) (ys : List X) (x : X) (k : ℕ) → k < length (y ∷ ys) → get_or (y ∷ ys) k x ≡ x → (y ≡ x) ⊎ Contains ys x
cases_at y ys x zero l e = inl e
cases_at y ys x (suc k) l e = inr (k, omega arith, e)

pub contains_cases : {X : Type 0} (y : X) (ys : List X) (x : X) → Contains (y ∷ ys) x → (y ≡ x) ⊎ Contains ys x
contains_cases y ys x h = cases_at y ys x h.0 h.1 h.2

pub contains_here : {X : Type 0} (x : X) (xs : List X) → Contains (x ∷ xs) x
contains_here x xs = (0, omega arith, refl)

pub contains_there : {X : Type 0} (y : X) (ys : List X) (x : X) → Contains ys x → Contains (y ∷ ys) x
contains_there y ys x h = (suc h.0, omega (arith, h.1), h.2)

pub contains_none : {X : Type 0} (x : X) → Contains [] x → ⊥
contains_none x h = omega (arith, h.1)

-- a list is what precedes a position and what follows it
pub contains_split : {X : Type 0} (i : ℕ) (xs : List X) (x : X) → Contains xs x → Contains (take i xs) x ⊎ Contains (drop i xs) x
contains_split i xs x h =
    Contains-append_cases (take i xs) (drop i xs) x (subst (λ ys. Contains ys x) (sym (take-append-drop i xs)) h)

pub contains_take : {X : Type 0} (i : ℕ) (xs : List X) (x : X) → Contains (take i xs) x → Contains xs x
contains_take i xs x h =
    subst (λ ys. Contains ys x) (take-append-drop i xs) (Contains-append_left (take i xs) (drop i xs) x h)

pub contains_drop : {X : Type 0} (i : ℕ) (xs : List X) (x : X) → Contains (drop i xs) x → Contains xs x
contains_drop i xs x h =
    subst (λ ys. Contains ys x) (take-append-drop i xs) (Contains-append_right (take i xs) (drop i xs) x h)

-- an insert adds the new element alone
pub contains_insert : {X : Type 0} (xs : List X) (i : ℕ) (t x : X) → Contains (insert xs i t) x ↔ (Contains xs x ⊎ (x ≡ t))
contains_insert xs i t x = (
  λ h. ⊎_elim
      (λ front. inl (contains_take i xs x front))
      (λ rest. ⊎_elim (λ e. inr (sym e)) (λ back. inl (contains_drop i xs x back)) (contains_cases t (drop i xs) x rest))
      (Contains-append_cases (take i xs) (t ∷ drop i xs) x h),
  λ h. ⊎_elim
      (λ old. ⊎_elim
      (λ front. Contains-append_left (take i xs) (t ∷ drop i xs) x front)
      (λ back. Contains-append_right (take i xs) (t ∷ drop i xs) x (contains_there t (drop i xs) x back))
      (contains_split i xs x old))
      (λ e. subst (Contains (insert xs i t)) (sym e) (Contains-append_right (take i xs) (t ∷ drop i xs) t (contains_here t (drop i xs))))
      h,
)

-- what holds of each member holds of each element
pub All-from_members : {X : Type 0} (P : X → Type 0) (xs : List X) → ((x : X) → Contains xs x → P x) → All P xs
All-from_members P xs h = λ k d l. h (get_or xs k d) (Contains-get_or xs k d l)

pub All-left : {X : Type 0} (P : X → Type 0) (xs ys : List X) → All P (xs ++ ys) → All P xs
All-left P xs ys a = All-from_members P xs (λ x h. All-contains P (xs ++ ys) x a (Contains-append_left xs ys x h))

pub All-right : {X : Type 0} (P : X → Type 0) (xs ys : List X) → All P (xs ++ ys) → All P ys
All-right P xs ys a = All-from_members P ys (λ x h. All-contains P (xs ++ ys) x a (Contains-append_right xs ys x h))

-- what holds below a position, and from a position on
pub All-take_within : {X : Type 0} (P : X → Type 0) (xs : List X) (i : ℕ) → AllWithin P xs 0 i → All P (take i xs)
All-take_within P xs i h =
    λ k d m. subst P (sym (get_or-take i xs k d (omega (arith, m, length-take i xs)))) (h k d (omega arith) (omega (arith, m, length-take i xs)))

pub All-drop_within : {X : Type 0} (P : X → Type 0) (xs : List X) (i : ℕ) → AllWithin P xs i (length xs) → All P (drop i xs)
All-drop_within P xs i h =
    λ k d m. subst P (sym (get_or-drop i xs k d)) (h (i + k) d (omega arith) (omega (arith, m, length-drop i xs)))

filter_step : {X : Type 0} (p : X → Bool) (y : X) (ys : List X) (x : X) → (b : Bool) → p y ≡ b
    → Contains (filter p ys) x ↔ (Contains ys x × (p x ≡ true))
    → Contains (cond b (y ∷ filter p ys) (filter p ys)) x ↔ (Contains (y ∷ ys) x × (p x ≡ true))
filter_step p y ys x true e rest = (
  λ h. ⊎_elim
      (λ same. (subst (Contains (y ∷ ys)) same (contains_here y ys), subst (λ z. p z ≡ true) same e))
      (λ kept. let old = rest.0 kept in (contains_there y ys x old.0, old.1))
      (contains_cases y (filter p ys) x h),
  λ h. ⊎_elim
      (λ same. subst (Contains (y ∷ filter p ys)) same (contains_here y (filter p ys)))
      (λ old. contains_there y (filter p ys) x (rest.1 (old, h.1)))
      (contains_cases y ys x h.0),
)
filter_step p y ys x false e rest = (
  λ h. let old = rest.0 h in (contains_there y ys x old.0, old.1),
  λ h. ⊎_elim
      (λ same. absurd (false≢true (sym e ∙ subst (λ z. p z ≡ true) (sym same) h.1)))
      (λ old. rest.1 (old, h.1))
      (contains_cases y ys x h.0),
)

-- what a filter keeps
pub contains_filter : {X : Type 0} (p : X → Bool) (xs : List X) (x : X) → Contains (filter p xs) x ↔ (Contains xs x × (p x ≡ true))
contains_filter p [] x = (λ h. absurd (contains_none x h), λ h. absurd (contains_none x h.0))
contains_filter p (y ∷ ys) x = filter_step p y ys x (p y) refl (contains_filter p ys x)

-- ---- a loop that stops at the first element without P

pub all_more : {X : Type 0} (P : X → Type 0) (xs : List X) (i : ℕ) (x : X) → i < length xs → x ≡ get_or xs i x → All P (take i xs) → P x → All P (take (i + 1) xs)
all_more P xs i x l is h p = All-more P xs i x l h (subst P is p)

pub all_at : {X : Type 0} (P : X → Type 0) (xs : List X) (i : ℕ) (x : X) → i < length xs → x ≡ get_or xs i x → All P xs → P x
all_at P xs i x l is h = subst P (sym is) (h i x l)

pub all_of : {X : Type 0} (P : X → Type 0) (xs : List X) (i : ℕ) → length xs ≤ i → All P (take i xs) → All P xs
all_of P xs i l h = subst (All P) (take_all i xs l) h

pub slice_get-push_before : {X : Type 0} (xs : List X) (x : X) (k : ℕ) → k < length xs → slice_get (xs ++ x ∷ []) k ≡ slice_get xs k
slice_get-push_before [] x k l = absurd (omega (arith, l))
slice_get-push_before (y ∷ ys) x zero l = refl
slice_get-push_before (y ∷ ys) x (suc k) l = slice_get-push_before ys x k (omega (arith, l))
