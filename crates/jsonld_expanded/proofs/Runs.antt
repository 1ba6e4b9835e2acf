-- Runs of a list.
use Rattle.std.proofs.Common.{◌≡◌, ◌⊎◌, inl, inr, map, ℕ, zero, suc, ◌+◌, ◌-◌, ◌<◌, ◌≤◌, Bool, true, false, cond, List, [], ◌∷◌, length, get_or, take, drop, refl, sym, ap, ◌∙◌, arith, subst}
use Rattle.std.proofs.lemmas.Bool.{cases_eq}
use Rattle.std.specs.List.{flat_map}
use Rattle.jsonld_expanded.specs.Runs.{runs, with_run}

-- a list that isn't empty has a first run, which begins with its first element
pub record First {X : Type 0} (x : X) (rs : List (List X)) : Type 0 where
  pub run : List X
  pub more : List (List X)
  pub is : rs ≡ (x ∷ run) ∷ more

module _ {X : Type 0} (same : X → X → Bool) where
  by_test : (b : Bool) (x y : X) (ys : List X) (rs : List (List X)) → same x y ≡ b → First x (with_run same x ((y ∷ ys) ∷ rs))
  by_test true x y ys rs e = record { run = y ∷ ys; more = rs; is = ap (λ b. cond b ((x ∷ y ∷ ys) ∷ rs) ((x ∷ []) ∷ (y ∷ ys) ∷ rs)) e }
  by_test false x y ys rs e = record { run = []; more = (y ∷ ys) ∷ rs; is = ap (λ b. cond b ((x ∷ y ∷ ys) ∷ rs) ((x ∷ []) ∷ (y ∷ ys) ∷ rs)) e }

  with_first : (x : X) (rs : List (List X)) → First x (with_run same x rs)
  with_first x [] = record { run = []; more = []; is = refl }
  with_first x ([] ∷ rs) = record { run = []; more = [] ∷ rs; is = refl }
  with_first x ((y ∷ ys) ∷ rs) = by_test (same x y) x y ys rs refl

  pub first_run : (x : X) (xs : List X) → First x (runs same (x ∷ xs))
  unfolding runs
  first_run x xs = with_first x (runs same xs)

  pub joined : (x y : X) (ys : List X) (rs : List (List X)) → same x y ≡ true → with_run same x ((y ∷ ys) ∷ rs) ≡ (x ∷ y ∷ ys) ∷ rs
  joined x y ys rs e = ap (λ b. cond b ((x ∷ y ∷ ys) ∷ rs) ((x ∷ []) ∷ (y ∷ ys) ∷ rs)) e

  pub parted : (x y : X) (ys : List X) (rs : List (List X)) → same x y ≡ false → with_run same x ((y ∷ ys) ∷ rs) ≡ (x ∷ []) ∷ (y ∷ ys) ∷ rs
  parted x y ys rs e = ap (λ b. cond b ((x ∷ y ∷ ys) ∷ rs) ((x ∷ []) ∷ (y ∷ ys) ∷ rs)) e

  parted_first : (x y : X) (rs : List (List X)) → First y rs → same x y ≡ false → with_run same x rs ≡ (x ∷ []) ∷ rs
  parted_first x y rs f e = ap (with_run same x) f.is ∙ parted x y f.run f.more e ∙ sym (ap (λ t. (x ∷ []) ∷ t) f.is)

  -- the first run has n elements, where each of the first n agrees with the next, and the last of them doesn't
  pub split_run : (xs : List X) (n : ℕ) → 0 < n → n ≤ length xs → ((k j : ℕ) (d : X) → j ≡ k + 1 → j < n → same (get_or xs k d) (get_or xs j d) ≡ true)
      → ((m : ℕ) (d : X) → m + 1 ≡ n → n < length xs → same (get_or xs m d) (get_or xs n d) ≡ false) → runs same xs ≡ take n xs ∷ runs same (drop n xs)
  unfolding runs
  split_run [] n some within agree ends = absurd (omega (arith, some, within))
  split_run (x ∷ xs) zero some within agree ends = absurd (omega (arith, some))
  split_run (x ∷ []) (suc zero) some within agree ends = refl
  split_run (x ∷ []) (suc (suc n)) some within agree ends = absurd (omega (arith, within))
  split_run (x ∷ y ∷ ys) (suc zero) some within agree ends = parted_first x y (runs same (y ∷ ys)) (first_run y ys) (ends 0 x refl (omega arith))
  split_run (x ∷ y ∷ ys) (suc (suc n)) some within agree ends =
      let rest = split_run (y ∷ ys) (suc n) (omega arith) (omega (arith, within)) (λ k j d e h. agree (suc k) (suc j) d (omega (arith, e)) (omega (arith, h))) (λ m d e h. ends (suc m) d (omega (arith, e)) (omega (arith, h))) in
      ap (with_run same x) rest ∙ joined x y (take n ys) (runs same (drop n ys)) (agree 0 1 x refl (omega arith))

-- ---- the elements of runs

module _ {X : Type 0} (same : X → X → Bool) where
  by_join : (b : Bool) (x y : X) (ys : List X) (rs : List (List X)) → same x y ≡ b → flat_map (λ r. r) (with_run same x ((y ∷ ys) ∷ rs)) ≡ x ∷ flat_map (λ r. r) ((y ∷ ys) ∷ rs)
  by_join true x y ys rs e = ap (flat_map (λ r. r)) (joined same x y ys rs e)
  by_join false x y ys rs e = ap (flat_map (λ r. r)) (parted same x y ys rs e)

  with_run_elements : (x : X) (rs : List (List X)) → flat_map (λ r. r) (with_run same x rs) ≡ x ∷ flat_map (λ r. r) rs
  with_run_elements x [] = refl
  with_run_elements x ([] ∷ rs) = refl
  with_run_elements x ((y ∷ ys) ∷ rs) = by_join (same x y) x y ys rs refl

  -- one after another, runs are the list
  pub run_elements : (xs : List X) → flat_map (λ r. r) (runs same xs) ≡ xs
  unfolding runs
  run_elements [] = refl
  run_elements (x ∷ xs) = with_run_elements x (runs same xs) ∙ ap (λ l. x ∷ l) (run_elements xs)

-- a fact of pairs of elements that agree, where it goes on from each to the next
module _ {X : Type 0} (same : X → X → Bool) (R : X → X → Type 0) (itself : (x : X) → R x x) (further : (x y z : X) → same x y ≡ true → R y z → R x z) where
  -- the fact holds of the first and each
  abbrev pub FromFirst : X → List X → Type 0
  FromFirst x [] = Unit {0}
  FromFirst x (y ∷ ys) = R x y × FromFirst x ys

  abbrev pub IsAlike : List X → Type 0
  IsAlike [] = ⊥
  IsAlike (x ∷ xs) = FromFirst x (x ∷ xs)

  abbrev pub AreAlike : List (List X) → Type 0
  AreAlike [] = Unit {0}
  AreAlike (r ∷ rs) = IsAlike r × AreAlike rs

  all_further : (x y : X) (zs : List X) → same x y ≡ true → FromFirst y zs → FromFirst x zs
  all_further x y [] e h = tt
  all_further x y (z ∷ zs) e h = (further x y z e h.0, all_further x y zs e h.1)

  by_alike : (b : Bool) (x y : X) (ys : List X) (rs : List (List X)) → same x y ≡ b → AreAlike ((y ∷ ys) ∷ rs) → AreAlike (with_run same x ((y ∷ ys) ∷ rs))
  by_alike true x y ys rs e h = subst AreAlike (sym (joined same x y ys rs e)) ((itself x, all_further x y (y ∷ ys) e h.0), h.1)
  by_alike false x y ys rs e h = subst AreAlike (sym (parted same x y ys rs e)) ((itself x, tt), h)

  with_run_alike : (x : X) (rs : List (List X)) → AreAlike rs → AreAlike (with_run same x rs)
  with_run_alike x [] h = ((itself x, tt), tt)
  with_run_alike x ([] ∷ rs) h = absurd h.0
  with_run_alike x ((y ∷ ys) ∷ rs) h = by_alike (same x y) x y ys rs refl h

  pub runs_alike : (xs : List X) → AreAlike (runs same xs)
  unfolding runs
  runs_alike [] = tt
  runs_alike (x ∷ xs) = with_run_alike x (runs same xs) (runs_alike xs)

-- ---- how the code finds the first run

-- the first n elements, each of which agrees with the next
pub record IsRunSoFar {X : Type 0} (same : X → X → Bool) (xs : List X) (n : ℕ) : Type 0 where
  pub some : 0 < n
  pub within : n ≤ length xs
  pub agree : (k j : ℕ) (d : X) → j ≡ k + 1 → j < n → same (get_or xs k d) (get_or xs j d) ≡ true

module _ {X : Type 0} (same : X → X → Bool) (xs : List X) where
  pub one_so_far : 0 < length xs → IsRunSoFar same xs 1
  one_so_far some = record { some = omega arith; within = omega (arith, some); agree = λ k j d e h. absurd (omega (arith, e, h)) }

  at_last : (n k j : ℕ) (d : X) (b : Bool) → k + 1 ≡ n → j ≡ n → ((d : X) → b ≡ same (get_or xs (n - 1) d) (get_or xs n d)) → same (get_or xs k d) (get_or xs j d) ≡ b
  at_last n k j d b e f h =
      let i : k ≡ n - 1 = omega (arith, e) in
      ap (λ (m : ℕ). same (get_or xs m d) (get_or xs j d)) i ∙ ap (λ (m : ℕ). same (get_or xs (n - 1) d) (get_or xs m d)) f ∙ sym (h d)

  by_place : (n k j : ℕ) (d : X) (b : Bool) → b ≡ true → IsRunSoFar same xs n → ((d : X) → b ≡ same (get_or xs (n - 1) d) (get_or xs n d)) → j ≡ k + 1 → j < n + 1
      → (j ≡ n) ⊎ (j ≡ n → ⊥) → same (get_or xs k d) (get_or xs j d) ≡ true
  by_place n k j d b t r h e l (inl f) = at_last n k j d b (omega (arith, e, f)) f h ∙ t
  by_place n k j d b t r h e l (inr f) = r.agree k j d e (omega (arith, l, f))

  pub one_more : (n : ℕ) (b : Bool) → IsRunSoFar same xs n → n < length xs → ((d : X) → b ≡ same (get_or xs (n - 1) d) (get_or xs n d)) → b ≡ true → IsRunSoFar same xs (n + 1)
  one_more n b r l h t = record {
    some = omega arith;
    within = omega (arith, l);
    agree = λ k j d e m. by_place n k j d b t r h e m (cases_eq j n);
  }

  pub ended_early : (n : ℕ) (b : Bool) → IsRunSoFar same xs n → ((d : X) → b ≡ same (get_or xs (n - 1) d) (get_or xs n d)) → b ≡ false → runs same xs ≡ take n xs ∷ runs same (drop n xs)
  ended_early n b r h f = split_run same xs n r.some r.within r.agree (λ m d e l. at_last n m n d b e refl h ∙ f)

  pub ended_last : (n : ℕ) → IsRunSoFar same xs n → length xs ≤ n → runs same xs ≡ take n xs ∷ runs same (drop n xs)
  ended_last n r l = split_run same xs n r.some r.within r.agree (λ m d e h. absurd (omega (arith, l, h)))

-- runs by what a function gives
module _ {A X : Type 0} (f : A → X) (same : X → X → Bool) where
  map_with : (b : Bool) (a c : A) (cs : List A) (rs : List (List A)) → same (f a) (f c) ≡ b
      → map (map f) (with_run (λ x y. same (f x) (f y)) a ((c ∷ cs) ∷ rs)) ≡ with_run same (f a) (map (map f) ((c ∷ cs) ∷ rs))
  map_with true a c cs rs e = ap (map (map f)) (joined (λ x y. same (f x) (f y)) a c cs rs e) ∙ sym (joined same (f a) (f c) (map f cs) (map (map f) rs) e)
  map_with false a c cs rs e = ap (map (map f)) (parted (λ x y. same (f x) (f y)) a c cs rs e) ∙ sym (parted same (f a) (f c) (map f cs) (map (map f) rs) e)

  map_with_run : (a : A) (rs : List (List A)) → map (map f) (with_run (λ x y. same (f x) (f y)) a rs) ≡ with_run same (f a) (map (map f) rs)
  map_with_run a [] = refl
  map_with_run a ([] ∷ rs) = refl
  map_with_run a ((c ∷ cs) ∷ rs) = map_with (same (f a) (f c)) a c cs rs refl

  pub map_runs : (bs : List A) → map (map f) (runs (λ x y. same (f x) (f y)) bs) ≡ runs same (map f bs)
  unfolding runs
  map_runs [] = refl
  map_runs (b ∷ bs) = map_with_run b (runs (λ x y. same (f x) (f y)) bs) ∙ ap (with_run same (f b)) (map_runs bs)
