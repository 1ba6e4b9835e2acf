-- A merge of three lists in order, step by step.
use Rattle.std.proofs.Common.{ℕ, ◌+◌, ◌≡◌, ◌<◌, ◌≤◌, ◌⊎◌, ◌↔◌, List, [], ◌∷◌, ◌++◌, length, take, drop, get_or, refl, sym, ap, ◌∙◌, subst, inl, inr, ⊎_elim}
use Rattle.std.specs.List.{Contains, All}
use Rattle.std.specs.Prelude.{slice_get, Some}
use Rattle.std.specs.declared.cmp.Ordering.{Ordering}
use Rattle.std.specs.declared.cmp.Ordering.TheVariants.{Less, Equal, Greater}
use Rattle.std.proofs.lemmas.Bool.{cases_lt}
use Rattle.std.proofs.lemmas.Option.{slice_get-get_or, slice_get_within, get_or_from_slice_get}
use Rattle.std.proofs.lemmas.List.{take_more, drop_more, take_all, drop_all, get_or_default}
use Rattle.std.proofs.lemmas.List.Elements.{All-nil, All-cons, All-head, All-tail, All-push, All-contains, Contains-append_left, Contains-push, Contains-push_cases}
use Rattle.rdf_graph.specs.Change.{IsChanged}
use Rattle.rdf_graph.specs.Graph.{IsOrdered}
use Rattle.rdf_graph.specs.Triple.{triple_cmp}
use Rattle.rdf_graph.specs.TripleLaws.{triple_cmp_total}
use Rattle.rdf_graph.specs.declared.triple.Triple.{Triple}
use Rattle.rdf_graph.proofs.Exact.{triple_cmp_exact}
use Rattle.rdf_graph.proofs.Members.{contains_none, contains_here, contains_there, contains_cases, contains_take, All-from_members}
use Rattle.rdf_graph.proofs.Sorted.{sorted_nil, sorted_cons, sorted_first, sorted_append, sorted_drop, above_is_below, below_itself, absent_at_gap}
use Rattle.rdf_graph.specs.InsertionPoint.{ComesFirst}

not_first : (x y : Triple) (ys : List Triple) → (y ≡ x → ⊥) → Contains ys x ⊎ (Contains ys x → ⊥) → Contains (y ∷ ys) x ⊎ (Contains (y ∷ ys) x → ⊥)
not_first x y ys apart (inl there) = inl (contains_there y ys x there)
not_first x y ys apart (inr nowhere) = inr (λ h. ⊎_elim apart nowhere (contains_cases y ys x h))

-- a list has a triple, or not
contains_or_not : (x : Triple) (xs : List Triple) → Contains xs x ⊎ (Contains xs x → ⊥)
contains_or_not x [] = inr (λ h. contains_none x h)
contains_or_not x (y ∷ ys) =
    compared (triple_cmp y x) refl (contains_or_not x ys)
  where
    compared : (r : Ordering) → triple_cmp y x ≡ r → Contains ys x ⊎ (Contains ys x → ⊥) → Contains (y ∷ ys) x ⊎ (Contains (y ∷ ys) x → ⊥)
    compared Equal e rest = inl (subst (Contains (y ∷ ys)) (triple_cmp_exact y x e) (contains_here y ys))
    compared Less e rest = not_first x y ys (λ same. below_itself triple_cmp_total triple_cmp_exact x (subst (λ z. triple_cmp z x ≡ Less) same e)) rest
    compared Greater e rest = not_first x y ys (λ same. below_itself triple_cmp_total triple_cmp_exact x (above_is_below triple_cmp_total triple_cmp_exact x x (subst (λ z. triple_cmp z x ≡ Greater) same e))) rest

-- a triple that is neither below another nor that one is above it
not_below : (y x : Triple) (r : Ordering) → triple_cmp y x ≡ r → (triple_cmp y x ≡ Less → ⊥) → (y ≡ x → ⊥) → triple_cmp x y ≡ Less
not_below y x Less e h k = absurd (h e)
not_below y x Equal e h k = absurd (k (triple_cmp_exact y x e))
not_below y x Greater e h k = above_is_below triple_cmp_total triple_cmp_exact y x e

-- each of the first is below each of the second
abbrev pub AllBelow : List Triple → List Triple → Type 0
AllBelow xs ys = All (λ x. All (λ y. triple_cmp x y ≡ Less) ys) xs

-- a triple of old that stays and isn't put in anew
abbrev pub Stays : List Triple → List Triple → List Triple → Triple → Type 0
Stays old removed added x = Contains old x × (Contains removed x → ⊥) × (Contains added x → ⊥)

-- how far a merge has come: at i of old, at j of removed and at k of added
pub record IsMerging (old removed added : List Triple) (i j k : ℕ) (new : List Triple) : Type 0 where
  pub members : (x : Triple) → Contains new x ↔ (Contains (take k added) x ⊎ Stays (take i old) removed added x)
  pub ordered : IsOrdered new
  pub below_old : AllBelow new (drop i old)
  pub below_added : AllBelow new (drop k added)
  pub passed : AllBelow (take j removed) (drop i old)

AllBelow-rest : (xs : List Triple) (y : Triple) (ys : List Triple) → AllBelow xs (y ∷ ys) → AllBelow xs ys
AllBelow-rest xs y ys h = λ k d l. All-tail (λ z. triple_cmp (get_or xs k d) z ≡ Less) y ys (h k d l)

AllBelow-first : (xs : List Triple) (y : Triple) (ys : List Triple) → AllBelow xs (y ∷ ys) → All (λ x. triple_cmp x y ≡ Less) xs
AllBelow-first xs y ys h = λ k d l. All-head (λ z. triple_cmp (get_or xs k d) z ≡ Less) y ys (h k d l)

AllBelow-push : (xs : List Triple) (x : Triple) (ys : List Triple) → AllBelow xs ys → All (λ y. triple_cmp x y ≡ Less) ys → AllBelow (xs ++ x ∷ []) ys
AllBelow-push xs x ys h a = All-push (λ z. All (λ y. triple_cmp z y ≡ Less) ys) xs x h a

-- a triple above all of a list in order is appended
pushed : (xs : List Triple) (x : Triple) → IsOrdered xs → All (λ y. triple_cmp y x ≡ Less) xs → IsOrdered (xs ++ x ∷ [])
pushed xs x s below =
    sorted_append triple_cmp xs (x ∷ []) s (sorted_cons triple_cmp x [] (All-nil (λ y. triple_cmp x y ≡ Less)) (sorted_nil triple_cmp))
    (λ k d l. All-cons (λ y. triple_cmp (get_or xs k d) y ≡ Less) x [] (below k d l) (All-nil (λ y. triple_cmp (get_or xs k d) y ≡ Less)))

below_rest : (x y : Triple) (ys : List Triple) → triple_cmp x y ≡ Less → All (λ z. triple_cmp y z ≡ Less) ys → All (λ z. triple_cmp x z ≡ Less) (y ∷ ys)
below_rest x y ys h a =
    All-cons (λ z. triple_cmp x z ≡ Less) y ys h (λ k d l. triple_cmp_total.trans x y (get_or ys k d) h (a k d l))

-- what the first list has at its position is below the second
pub comes_first_at : (first : List Triple) (k : ℕ) (second : List Triple) (i : ℕ) (y x : Triple) → IsOrdered second → slice_get first k ≡ Some y → slice_get second i ≡ Some x → triple_cmp y x ≡ Less → ComesFirst first k second i
comes_first_at first k second i y x s at at' h =
    let rest : drop i second ≡ x ∷ drop (i + 1) second =
    drop_more second i x (slice_get_within second i x at') ∙ ap (λ z. z ∷ drop (i + 1) second) (get_or_from_slice_get second i x x at') in
    record {
      next = y;
      is_next = at;
      below = subst (All (λ z. triple_cmp y z ≡ Less)) (sym rest)
          (below_rest y x (drop (i + 1) second) h (sorted_first triple_cmp x (drop (i + 1) second) (subst IsOrdered rest (sorted_drop triple_cmp i second s))));
    }

pub first_is_below : (first : List Triple) (k : ℕ) (second : List Triple) (i : ℕ) (y x : Triple) → slice_get first k ≡ Some y → slice_get second i ≡ Some x → ComesFirst first k second i → triple_cmp y x ≡ Less
first_is_below first k second i y x at at' h =
    let next : h.next ≡ y = sym (get_or_from_slice_get first k h.next y h.is_next) ∙ get_or_from_slice_get first k y y at in
    let rest : drop i second ≡ x ∷ drop (i + 1) second =
    drop_more second i x (slice_get_within second i x at') ∙ ap (λ z. z ∷ drop (i + 1) second) (get_or_from_slice_get second i x x at') in
    subst (λ z. triple_cmp z x ≡ Less) next (All-head (λ z. triple_cmp h.next z ≡ Less) x (drop (i + 1) second) (subst (All (λ z. triple_cmp h.next z ≡ Less)) rest h.below))

pub comes_first_of_none : (first : List Triple) (k : ℕ) (second : List Triple) (i : ℕ) (y : Triple) → slice_get first k ≡ Some y → length second ≤ i → ComesFirst first k second i
comes_first_of_none first k second i y at l =
    record { next = y; is_next = at; below = subst (All (λ z. triple_cmp y z ≡ Less)) (sym (drop_all i second l)) (All-nil (λ z. triple_cmp y z ≡ Less)) }

-- where it isn't below, and isn't the triple, all from there on is above
pub stands_above : (xs : List Triple) (k : ℕ) (old : List Triple) (i : ℕ) (x : Triple) → IsOrdered xs → IsOrdered old → slice_get old i ≡ Some x
    → (ComesFirst xs k old i → ⊥) → (slice_get xs k ≡ Some x → ⊥) → All (λ y. triple_cmp x y ≡ Less) (drop k xs)
stands_above xs k old i x s t at not_first not_at =
    ⊎_elim
    (λ (within : k < length xs).
    let y : Triple = get_or xs k x in
    let at_y : slice_get xs k ≡ Some (get_or xs k x) = slice_get-get_or xs k x within in
    let rest : drop k xs ≡ get_or xs k x ∷ drop (k + 1) xs = drop_more xs k x within in
    let above : triple_cmp x (get_or xs k x) ≡ Less =
    not_below (get_or xs k x) x (triple_cmp (get_or xs k x) x) refl
    (λ h. not_first (comes_first_at xs k old i (get_or xs k x) x t at_y at h))
    (λ e. not_at (at_y ∙ ap (λ z. Some z) e)) in
    subst (All (λ z. triple_cmp x z ≡ Less)) (sym rest)
    (below_rest x (get_or xs k x) (drop (k + 1) xs) above (sorted_first triple_cmp (get_or xs k x) (drop (k + 1) xs) (subst IsOrdered rest (sorted_drop triple_cmp k xs s)))))
    (λ (past : length xs ≤ k). subst (All (λ z. triple_cmp x z ≡ Less)) (sym (drop_all k xs past)) (All-nil (λ z. triple_cmp x z ≡ Less)))
    (cases_lt k (length xs))

pub merging_none : (old removed added : List Triple) → IsMerging old removed added 0 0 0 []
merging_none old removed added =
    record {
      members = λ x. (λ h. absurd (contains_none x h), λ h. ⊎_elim (λ a. absurd (contains_none x a)) (λ s. absurd (contains_none x s.0)) h);
      ordered = sorted_nil triple_cmp;
      below_old = All-nil (λ x. All (λ y. triple_cmp x y ≡ Less) old);
      below_added = All-nil (λ x. All (λ y. triple_cmp x y ≡ Less) added);
      passed = All-nil (λ x. All (λ y. triple_cmp x y ≡ Less) old);
    }

module _ (old removed added : List Triple) (i j k : ℕ) (new : List Triple) (so_far : IsMerging old removed added i j k new) where
  -- the next added triple, which is below what is left of old
  pub merging_added : IsOrdered added → (y : Triple) → k < length added → get_or added k y ≡ y → All (λ x. triple_cmp y x ≡ Less) (drop i old) → IsMerging old removed added i j (k + 1) (new ++ y ∷ [])
  merging_added s y l e below =
      let rest : drop k added ≡ y ∷ drop (k + 1) added = drop_more added k y l ∙ ap (λ z. z ∷ drop (k + 1) added) e in
      let front : take (k + 1) added ≡ take k added ++ y ∷ [] = take_more added k y l ∙ ap (λ z. take k added ++ z ∷ []) e in
      let left : AllBelow new (y ∷ drop (k + 1) added) = subst (AllBelow new) rest so_far.below_added in
      let tail : IsOrdered (y ∷ drop (k + 1) added) = subst IsOrdered rest (sorted_drop triple_cmp k added s) in
      record {
        members = λ x. (
          λ h. ⊎_elim
              (λ before. ⊎_elim
              (λ a. inl (subst (λ zs. Contains zs x) (sym front) (Contains-append_left (take k added) (y ∷ []) x a)))
              (λ stays. inr stays)
              ((so_far.members x).0 before))
              (λ same. inl (subst (λ zs. Contains zs x) (sym front) (subst (Contains (take k added ++ y ∷ [])) same (Contains-push (take k added) y))))
              (Contains-push_cases new y x h),
          λ h. ⊎_elim
              (λ a. ⊎_elim
              (λ before. Contains-append_left new (y ∷ []) x ((so_far.members x).1 (inl before)))
              (λ same. subst (Contains (new ++ y ∷ [])) same (Contains-push new y))
              (Contains-push_cases (take k added) y x (subst (λ zs. Contains zs x) front a)))
              (λ stays. Contains-append_left new (y ∷ []) x ((so_far.members x).1 (inr stays)))
              h,
        );
        ordered = pushed new y so_far.ordered (AllBelow-first new y (drop (k + 1) added) left);
        below_old = AllBelow-push new y (drop i old) so_far.below_old below;
        below_added = AllBelow-push new y (drop (k + 1) added) (AllBelow-rest new y (drop (k + 1) added) left) (sorted_first triple_cmp y (drop (k + 1) added) tail);
        passed = so_far.passed;
      }

  -- a removed triple that is below what is left of old
  pub merging_passed : (z : Triple) → j < length removed → get_or removed j z ≡ z → All (λ x. triple_cmp z x ≡ Less) (drop i old) → IsMerging old removed added i (j + 1) k new
  merging_passed z l e below =
      record {
        members = so_far.members;
        ordered = so_far.ordered;
        below_old = so_far.below_old;
        below_added = so_far.below_added;
        passed = subst (λ zs. AllBelow zs (drop i old)) (sym (take_more removed j z l ∙ ap (λ w. take j removed ++ w ∷ []) e))
            (AllBelow-push (take j removed) z (drop i old) so_far.passed below);
      }

  module _ (s : IsOrdered old) (x : Triple) (l : i < length old) (e : get_or old i x ≡ x) where
    rest_of_old : drop i old ≡ x ∷ drop (i + 1) old
    rest_of_old = drop_more old i x l ∙ ap (λ z. z ∷ drop (i + 1) old) e

    front_of_old : take (i + 1) old ≡ take i old ++ x ∷ []
    front_of_old = take_more old i x l ∙ ap (λ z. take i old ++ z ∷ []) e

    left_below : AllBelow new (x ∷ drop (i + 1) old)
    left_below = subst (AllBelow new) rest_of_old so_far.below_old

    left_passed : AllBelow (take j removed) (drop (i + 1) old)
    left_passed = AllBelow-rest (take j removed) x (drop (i + 1) old) (subst (AllBelow (take j removed)) rest_of_old so_far.passed)

    -- all that is left of old is not below its first
    pub first_of_rest : (y : Triple) → triple_cmp y x ≡ Less → All (λ z. triple_cmp y z ≡ Less) (drop i old)
    first_of_rest y h =
        subst (All (λ z. triple_cmp y z ≡ Less)) (sym rest_of_old)
        (below_rest y x (drop (i + 1) old) h (sorted_first triple_cmp x (drop (i + 1) old) (subst IsOrdered rest_of_old (sorted_drop triple_cmp i old s))))

    -- the next old triple goes, or comes with the added ones
    pub merging_skips : (Contains removed x ⊎ Contains added x) → IsMerging old removed added (i + 1) j k new
    merging_skips goes =
        record {
          members = λ z. (
            λ h. ⊎_elim (λ a. inl a)
                (λ stays. inr (subst (λ zs. Contains zs z) (sym front_of_old) (Contains-append_left (take i old) (x ∷ []) z stays.0), stays.1, stays.2))
                ((so_far.members z).0 h),
            λ h. ⊎_elim (λ a. (so_far.members z).1 (inl a))
                (λ stays. ⊎_elim
                (λ before. (so_far.members z).1 (inr (before, stays.1, stays.2)))
                (λ same. ⊎_elim
                (λ gone. absurd (stays.1 (subst (Contains removed) same gone)))
                (λ comes. absurd (stays.2 (subst (Contains added) same comes)))
                goes)
                (Contains-push_cases (take i old) x z (subst (λ zs. Contains zs z) front_of_old stays.0)))
                h,
          );
          ordered = so_far.ordered;
          below_old = AllBelow-rest new x (drop (i + 1) old) left_below;
          below_added = so_far.below_added;
          passed = left_passed;
        }

    -- the next old triple stays
    pub merging_stays : (Contains removed x → ⊥) → (Contains added x → ⊥) → All (λ y. triple_cmp x y ≡ Less) (drop k added) → IsMerging old removed added (i + 1) j k (new ++ x ∷ [])
    merging_stays stays other above =
        record {
          members = λ z. (
            λ h. ⊎_elim
                (λ before. ⊎_elim (λ a. inl a)
                (λ old_one. inr (subst (λ zs. Contains zs z) (sym front_of_old) (Contains-append_left (take i old) (x ∷ []) z old_one.0), old_one.1, old_one.2))
                ((so_far.members z).0 before))
                (λ same. inr (
                  subst (λ zs. Contains zs z) (sym front_of_old) (subst (Contains (take i old ++ x ∷ [])) same (Contains-push (take i old) x)),
                  subst (λ w. Contains removed w → ⊥) same stays,
                  subst (λ w. Contains added w → ⊥) same other,
                ))
                (Contains-push_cases new x z h),
            λ h. ⊎_elim
                (λ a. Contains-append_left new (x ∷ []) z ((so_far.members z).1 (inl a)))
                (λ old_one. ⊎_elim
                (λ before. Contains-append_left new (x ∷ []) z ((so_far.members z).1 (inr (before, old_one.1, old_one.2))))
                (λ same. subst (Contains (new ++ x ∷ [])) same (Contains-push new x))
                (Contains-push_cases (take i old) x z (subst (λ zs. Contains zs z) front_of_old old_one.0)))
                h,
          );
          ordered = pushed new x so_far.ordered (AllBelow-first new x (drop (i + 1) old) left_below);
          below_old = AllBelow-push new x (drop (i + 1) old) (AllBelow-rest new x (drop (i + 1) old) left_below)
              (sorted_first triple_cmp x (drop (i + 1) old) (subst IsOrdered rest_of_old (sorted_drop triple_cmp i old s)));
          below_added = AllBelow-push new x (drop k added) so_far.below_added above;
          passed = left_passed;
        }

    -- the triple is neither removed nor added
    module _ (xs : List Triple) (n : ℕ) (t : IsOrdered xs) (not_first : ComesFirst xs n old i → ⊥) (not_at : slice_get xs n ≡ Some x → ⊥) where
      pub above_place : All (λ y. triple_cmp x y ≡ Less) (drop n xs)
      above_place = stands_above xs n old i x t s (slice_get-get_or old i x l ∙ ap (λ z. Some z) e) not_first not_at

      absent_from : All (λ z. triple_cmp z x ≡ Less) (take n xs) → Contains xs x → ⊥
      absent_from before = absent_at_gap triple_cmp_total triple_cmp_exact xs n x before above_place

    pub not_removed : IsOrdered removed → (ComesFirst removed j old i → ⊥) → (slice_get removed j ≡ Some x → ⊥) → Contains removed x → ⊥
    not_removed t not_first not_at =
        absent_from removed j t not_first not_at
        (AllBelow-first (take j removed) x (drop (i + 1) old) (subst (AllBelow (take j removed)) rest_of_old so_far.passed))

    pub not_added : IsOrdered added → (ComesFirst added k old i → ⊥) → (slice_get added k ≡ Some x → ⊥) → Contains added x → ⊥
    not_added t not_first not_at =
        absent_from added k t not_first not_at
        (All-from_members (λ z. triple_cmp z x ≡ Less) (take k added)
        (λ z h. All-contains (λ w. triple_cmp w x ≡ Less) new z (AllBelow-first new x (drop (i + 1) old) left_below) ((so_far.members z).1 (inl h))))

    pub merging_keeps : IsOrdered removed → IsOrdered added → (ComesFirst removed j old i → ⊥) → (ComesFirst added k old i → ⊥)
        → (((slice_get removed j ≡ Some x) ⊎ (slice_get added k ≡ Some x)) → ⊥) → IsMerging old removed added (i + 1) j k (new ++ x ∷ [])
    merging_keeps t u not_removed_first not_added_first not_at =
        merging_stays (not_removed t not_removed_first (λ at. not_at (inl at))) (not_added u not_added_first (λ at. not_at (inr at)))
        (above_place added k u not_added_first (λ at. not_at (inr at)))

  -- at the end of old and of added
  pub merged : length old ≤ i → length added ≤ k → IsChanged old removed added new
  merged past_old past_added x = (
    λ h. ⊎_elim
        (λ a. inl (contains_take k added x a))
        (λ stays. inr (contains_take i old x stays.0, stays.1))
        ((so_far.members x).0 h),
    λ h. ⊎_elim
        (λ a. (so_far.members x).1 (inl (subst (λ zs. Contains zs x) (sym (take_all k added past_added)) a)))
        (λ stays. ⊎_elim
        (λ a. (so_far.members x).1 (inl (subst (λ zs. Contains zs x) (sym (take_all k added past_added)) a)))
        (λ not_a. (so_far.members x).1 (inr (subst (λ zs. Contains zs x) (sym (take_all i old past_old)) stays.0, stays.1, not_a)))
        (contains_or_not x added))
        h,
  )

-- the element that an index reads
read_at : (xs : List Triple) (k : ℕ) (x y : Triple) → x ≡ get_or xs k x → slice_get xs k ≡ Some y → y ≡ x
read_at xs k x y is at = sym (is ∙ get_or_from_slice_get xs k y x at)

module _ (old removed added : List Triple) (i j k : ℕ) (new : List Triple) (so_far : IsMerging old removed added i j k new) (olds : IsOrdered old) where
  pub step_added : IsOrdered added → ComesFirst added k old i → (x copy : Triple) (longer : List Triple) → k < length added → x ≡ get_or added k x → copy ≡ x → longer ≡ new ++ copy ∷ [] → IsMerging old removed added i j (k + 1) longer
  step_added s first x copy longer l is e made =
      let next : first.next ≡ x = read_at added k x first.next is first.is_next in
      subst (IsMerging old removed added i j (k + 1)) (sym (made ∙ ap (λ z. new ++ z ∷ []) e))
      (merging_added old removed added i j k new so_far s x l (sym is) (subst (λ z. All (λ y. triple_cmp z y ≡ Less) (drop i old)) next first.below))

  pub step_passed : ComesFirst removed j old i → IsMerging old removed added i (j + 1) k new
  step_passed first =
      let l : j < length removed = slice_get_within removed j first.next first.is_next in
      merging_passed old removed added i j k new so_far first.next l (get_or_from_slice_get removed j first.next first.next first.is_next) first.below

  pub step_skipped : (x : Triple) → i < length old → x ≡ get_or old i x → ((slice_get removed j ≡ Some x) ⊎ (slice_get added k ≡ Some x)) → IsMerging old removed added (i + 1) j k new
  step_skipped x l is at =
      merging_skips old removed added i j k new so_far olds x l (sym is)
      (⊎_elim (λ r. inl (j, slice_get_within removed j x r, get_or_from_slice_get removed j x x r)) (λ a. inr (k, slice_get_within added k x a, get_or_from_slice_get added k x x a)) at)

  pub step_kept : IsOrdered removed → IsOrdered added → (x y copy : Triple) (longer : List Triple) → i < length old → x ≡ get_or old i x → y ≡ get_or old i y → copy ≡ y → longer ≡ new ++ copy ∷ []
      → (ComesFirst removed j old i → ⊥) → (ComesFirst added k old i → ⊥) → (((slice_get removed j ≡ Some x) ⊎ (slice_get added k ≡ Some x)) → ⊥) → IsMerging old removed added (i + 1) j k longer
  step_kept t u x y copy longer l is is' e made not_removed_first not_added_first not_at =
      let one : y ≡ x = is' ∙ get_or_default old i y x l ∙ sym is in
      subst (IsMerging old removed added (i + 1) j k) (sym (made ∙ ap (λ z. new ++ z ∷ []) (e ∙ one)))
      (merging_keeps old removed added i j k new so_far olds x l (sym is) t u not_removed_first not_added_first not_at)
