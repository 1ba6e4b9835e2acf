-- Tables in byte order of their paths: where a path belongs, and what is there after an entry came or
-- went.
use Rattle.std.proofs.Common.{◌≡◌, ◌+◌, ◌<◌, ◌≤◌, Bor, ◌&&◌, ◌||◌, ℕ, zero, suc, Bool, true, false, not, cond, List, [], ◌∷◌, ◌++◌, length, Option, Some, None, refl, sym, ap, ◌∙◌, subst, arith}
use Rattle.std.specs.Prelude.{is_some, bytes_eq, slice_get, slice_index_or, option_copied}
use Rattle.std.specs.Slice.{IsItemAt}
use Rattle.std.specs.List.{find, insert, remove, AllByRecursion}
use Rattle.std.specs.List.Sorted.{IsStrictlySortedBy}
use Rattle.std.specs.Ordering.{is_lt, ordering_reverse}
use Rattle.std.specs.declared.cmp.Ordering.{Ordering}
use Rattle.std.specs.declared.cmp.Ordering.TheVariants.{Less, Equal, Greater}
use Rattle.std.proofs.lemmas.Bool.{false≢true, true≢false}
use Rattle.std.proofs.lemmas.Cmp.{nat_list_cmp_total}
use Rattle.std.proofs.lemmas.Slice.Eq.{bytes_eq-Decides}
use Rattle.rdf_graph.specs.Triple.{bytes_cmp}
use Rattle.pod_rows.specs.Apply.{is_before}
use Rattle.pod_rows.proofs.OrderedRows.{other_less, other_more, same_path}
use Rattle.access_index.specs.Listing.{is_listed}
use Rattle.access_index.specs.Tables.{keys, AreInOrder, is_at, entry_at, keep_at, rank, placed, without, without_all}
use Rattle.access_index.specs.declared.path_table.Entry.{Entry}

-- all paths of the table are after the path
abbrev pub After : List ℕ → List Entry → Type 0
After p es = AllByRecursion (λ (q : List ℕ). bytes_cmp p q ≡ Less) (keys es)

pub order_first : (e : Entry) (es : List Entry) → AreInOrder (e ∷ es) → After e.path es
unfolding IsStrictlySortedBy
order_first e es h = h.0

pub order_rest : (e : Entry) (es : List Entry) → AreInOrder (e ∷ es) → AreInOrder es
unfolding IsStrictlySortedBy
order_rest e es h = h.1

pub order_nil : AreInOrder []
unfolding IsStrictlySortedBy
order_nil = tt

pub order_cons : (e : Entry) (es : List Entry) → After e.path es → AreInOrder es → AreInOrder (e ∷ es)
unfolding IsStrictlySortedBy
order_cons e es a o = (a, o)

turned : (p q : List ℕ) (o : Ordering) → bytes_cmp p q ≡ o → bytes_cmp q p ≡ ordering_reverse o
turned p q o e = nat_list_cmp_total.antisymm q p ∙ ap ordering_reverse e

not_before : (p q : List ℕ) → bytes_cmp p q ≡ Less → is_before q p ≡ false
not_before p q e = ap is_lt (turned p q Less e)

before_is : (p q : List ℕ) → is_before p q ≡ true → bytes_cmp p q ≡ Less
before_is p q h = by_order (bytes_cmp p q) h
  where
    by_order : (o : Ordering) → is_lt o ≡ true → o ≡ Less
    by_order Less k = refl
    by_order Equal k = absurd (false≢true k)
    by_order Greater k = absurd (false≢true k)

-- what is neither before nor the path itself is after it
after_is : (p q : List ℕ) → is_before p q ≡ false → bytes_eq p q ≡ false → bytes_cmp q p ≡ Less
after_is p q h other = by_order (bytes_cmp p q) refl h
  where
    by_order : (o : Ordering) → bytes_cmp p q ≡ o → is_lt o ≡ false → bytes_cmp q p ≡ Less
    by_order Less e k = absurd (true≢false k)
    by_order Equal e k = absurd (true≢false (sym ((bytes_eq-Decides p q).1 (same_path p q e)) ∙ other))
    by_order Greater e k = turned p q Greater e

after_further : (p q : List ℕ) (es : List Entry) → bytes_cmp p q ≡ Less → After q es → After p es
after_further p q [] h b = tt
after_further p q (e ∷ es) h b = (nat_list_cmp_total.trans p q e.path h b.0, after_further p q es h b.1)

pub none_after : (p : List ℕ) (es : List Entry) → After p es → entry_at es p ≡ None
none_after p [] h = refl
none_after p (e ∷ es) h = ap (λ (b : Bool). cond b (Some e) (find (is_at p) es)) (other_less p e.path h.0) ∙ none_after p es h.1

after_middle : (p : List ℕ) (xs : List Entry) (e : Entry) (ys : List Entry) → After p (xs ++ e ∷ ys) → bytes_cmp p e.path ≡ Less
after_middle p [] e ys h = h.0
after_middle p (x ∷ xs) e ys h = after_middle p xs e ys h.1

after_left : (p : List ℕ) (xs ys : List Entry) → After p (xs ++ ys) → After p xs
after_left p [] ys h = tt
after_left p (x ∷ xs) ys h = (h.0, after_left p xs ys h.1)

pub order_left : (xs ys : List Entry) → AreInOrder (xs ++ ys) → AreInOrder xs
order_left [] ys h = order_nil
order_left (x ∷ xs) ys h = order_cons x xs (after_left x.path xs ys (order_first x (xs ++ ys) h)) (order_left xs ys (order_rest x (xs ++ ys) h))

pub order_behind : (xs : List Entry) (e : Entry) (ys : List Entry) → AreInOrder (xs ++ e ∷ ys) → AreInOrder ys
order_behind [] e ys h = order_rest e ys h
order_behind (x ∷ xs) e ys h = order_behind xs e ys (order_rest x (xs ++ e ∷ ys) h)

-- ---- how many entries are before a path, by the middle entry

pub rank_front : (p : List ℕ) (xs : List Entry) (e : Entry) (ys : List Entry) → bytes_cmp p e.path ≡ Less → rank p (xs ++ e ∷ ys) ≡ rank p xs
rank_front p [] e ys h = ap (λ (b : Bool). cond b (suc (rank p ys)) zero) (not_before p e.path h)
rank_front p (x ∷ xs) e ys h = ap (λ (n : ℕ). cond (is_before x.path p) (suc n) zero) (rank_front p xs e ys h)

pub rank_here : (p : List ℕ) (xs : List Entry) (e : Entry) (ys : List Entry) → bytes_cmp p e.path ≡ Equal → AreInOrder (xs ++ e ∷ ys) → rank p (xs ++ e ∷ ys) ≡ length xs
rank_here p [] e ys h o = ap (λ (b : Bool). cond b (suc (rank p ys)) zero) (ap is_lt (turned p e.path Equal h))
rank_here p (x ∷ xs) e ys h o =
    let below : bytes_cmp x.path p ≡ Less = subst (λ (q : List ℕ). bytes_cmp x.path q ≡ Less) (sym (same_path p e.path h)) (after_middle x.path xs e ys (order_first x (xs ++ e ∷ ys) o)) in
    ap (λ (b : Bool). cond b (suc (rank p (xs ++ e ∷ ys))) zero) (ap is_lt below) ∙ ap suc (rank_here p xs e ys h (order_rest x (xs ++ e ∷ ys) o))

pub rank_rest : (p : List ℕ) (xs : List Entry) (e : Entry) (ys : List Entry) → bytes_cmp p e.path ≡ Greater → AreInOrder (xs ++ e ∷ ys) → rank p (xs ++ e ∷ ys) ≡ length xs + 1 + rank p ys
rank_rest p [] e ys h o =
    let more : suc (rank p ys) ≡ 0 + 1 + rank p ys = omega arith in
    ap (λ (b : Bool). cond b (suc (rank p ys)) zero) (ap is_lt (turned p e.path Greater h)) ∙ more
rank_rest p (x ∷ xs) e ys h o =
    let below : bytes_cmp x.path p ≡ Less = nat_list_cmp_total.trans x.path e.path p (after_middle x.path xs e ys (order_first x (xs ++ e ∷ ys) o)) (turned p e.path Greater h) in
    let more : suc (length xs + 1 + rank p ys) ≡ suc (length xs) + 1 + rank p ys = omega arith in
    ap (λ (b : Bool). cond b (suc (rank p (xs ++ e ∷ ys))) zero) (ap is_lt below) ∙ ap suc (rank_rest p xs e ys h (order_rest x (xs ++ e ∷ ys) o)) ∙ more

pub rank_within : (p : List ℕ) (es : List Entry) → rank p es ≤ length es
rank_within p [] = omega arith
rank_within p (e ∷ es) = by_test (is_before e.path p) (rank_within p es)
  where
    by_test : (b : Bool) → rank p es ≤ length es → cond b (suc (rank p es)) zero ≤ suc (length es)
    by_test true less = omega (arith, less)
    by_test false less = omega arith

-- the entry at a path is the one at that place, where it is one of the path
pub entry_found : (es : List Entry) (p : List ℕ) → AreInOrder es → keep_at p (slice_get es (rank p es)) ≡ entry_at es p
entry_found [] p o = refl
entry_found (e ∷ es) p o = by_test (is_before e.path p) refl (entry_found es p (order_rest e es o))
  where
    here : (b : Bool) → is_at p e ≡ b → is_before e.path p ≡ false → cond b (Some e) None ≡ cond b (Some e) (find (is_at p) es)
    here true k h = refl
    here false k h = sym (none_after p es (after_further p e.path es (after_is e.path p h k) (order_first e es o)))

    by_test : (b : Bool) → is_before e.path p ≡ b → keep_at p (slice_get es (rank p es)) ≡ entry_at es p → keep_at p (slice_get (e ∷ es) (cond b (suc (rank p es)) zero)) ≡ cond (is_at p e) (Some e) (find (is_at p) es)
    by_test true h more =
        more
        ∙ sym (ap (λ (b : Bool). cond b (Some e) (find (is_at p) es)) (other_more p e.path (before_is e.path p h)))
    by_test false h more = here (is_at p e) refl h

pub found_within : (es : List Entry) (p : List ℕ) → AreInOrder es → is_some (entry_at es p) ≡ true → rank p es < length es
found_within es p o h = by_length es (rank p es) (ap is_some (entry_found es p o) ∙ h)
  where
    by_length : (xs : List Entry) (n : ℕ) → is_some (keep_at p (slice_get xs n)) ≡ true → n < length xs
    by_length [] n k = absurd (false≢true k)
    by_length (x ∷ xs) zero k = omega arith
    by_length (x ∷ xs) (suc n) k = let less = by_length xs n k in omega (arith, less)

-- ---- one more entry, and one less

pub insert_is : (es : List Entry) (e : Entry) → insert es (rank e.path es) e ≡ placed e es
insert_is [] e = refl
insert_is (x ∷ es) e = by_test (is_before x.path e.path) (insert_is es e)
  where
    by_test : (b : Bool) → insert es (rank e.path es) e ≡ placed e es → insert (x ∷ es) (cond b (suc (rank e.path es)) zero) e ≡ cond b (x ∷ placed e es) (e ∷ x ∷ es)
    by_test true more = ap (λ (xs : List Entry). x ∷ xs) more
    by_test false more = refl

without_after : (p : List ℕ) (es : List Entry) → After p es → without es p ≡ es
without_after p [] h = refl
without_after p (e ∷ es) h =
    ap (λ (b : Bool). cond (not b) (e ∷ without es p) (without es p)) (other_less p e.path h.0) ∙ ap (λ (xs : List Entry). e ∷ xs) (without_after p es h.1)

pub without_none : (es : List Entry) (p : List ℕ) → entry_at es p ≡ None → without es p ≡ es
without_none [] p h = refl
without_none (e ∷ es) p h = by_test (is_at p e) h (λ g. without_none es p g)
  where
    by_test : (b : Bool) → cond b (Some e) (find (is_at p) es) ≡ None → (entry_at es p ≡ None → without es p ≡ es) → cond (not b) (e ∷ without es p) (without es p) ≡ e ∷ es
    by_test true g more = absurd cc
    by_test false g more = ap (λ (xs : List Entry). e ∷ xs) (more g)

pub remove_is : (es : List Entry) (p : List ℕ) → AreInOrder es → is_some (entry_at es p) ≡ true → remove es (rank p es) ≡ without es p
remove_is [] p o h = absurd (false≢true h)
remove_is (e ∷ es) p o h = by_test (is_before e.path p) refl (λ still. remove_is es p (order_rest e es o) still)
  where
    here : (b : Bool) → is_at p e ≡ b → is_before e.path p ≡ false → is_some (cond b (Some e) (find (is_at p) es)) ≡ true → es ≡ cond (not b) (e ∷ without es p) (without es p)
    here true k g s = sym (without_after p es (subst (λ (q : List ℕ). After q es) ((bytes_eq-Decides e.path p).0 k) (order_first e es o)))
    here false k g s =
        absurd (false≢true (sym (ap is_some (none_after p es (after_further p e.path es (after_is e.path p g k) (order_first e es o)))) ∙ s))

    by_test : (b : Bool) → is_before e.path p ≡ b → (is_some (entry_at es p) ≡ true → remove es (rank p es) ≡ without es p)
        → remove (e ∷ es) (cond b (suc (rank p es)) zero) ≡ cond (not (is_at p e)) (e ∷ without es p) (without es p)
    by_test true g more =
        let other : is_at p e ≡ false = other_more p e.path (before_is e.path p g) in
        let still : is_some (entry_at es p) ≡ true = sym (ap (λ (b : Bool). is_some (cond b (Some e) (find (is_at p) es))) other) ∙ h in
        ap (λ (xs : List Entry). e ∷ xs) (more still)
        ∙ sym (ap (λ (b : Bool). cond (not b) (e ∷ without es p) (without es p)) other)
    by_test false g more = here (is_at p e) refl g h

after_placed : (p : List ℕ) (e : Entry) (es : List Entry) → bytes_cmp p e.path ≡ Less → After p es → After p (placed e es)
after_placed p e [] l h = (l, tt)
after_placed p e (x ∷ es) l h = by_test (is_before x.path e.path) (after_placed p e es l h.1)
  where
    by_test : (b : Bool) → After p (placed e es) → After p (cond b (x ∷ placed e es) (e ∷ x ∷ es))
    by_test true more = (h.0, more)
    by_test false more = (l, h)

none_further : (e : Entry) (es : List Entry) (p : List ℕ) → entry_at (e ∷ es) p ≡ None → (is_at p e ≡ false) × (entry_at es p ≡ None)
none_further e es p h = by_test (is_at p e) h
  where
    by_test : (b : Bool) → cond b (Some e) (find (is_at p) es) ≡ None → (b ≡ false) × (entry_at es p ≡ None)
    by_test true k = absurd cc
    by_test false k = (refl, k)

pub order_placed : (e : Entry) (es : List Entry) → AreInOrder es → entry_at es e.path ≡ None → AreInOrder (placed e es)
order_placed e [] o n = order_cons e [] tt order_nil
order_placed e (x ∷ es) o n = by_test (is_before x.path e.path) refl (order_placed e es (order_rest x es o) (none_further x es e.path n).1)
  where
    by_test : (b : Bool) → is_before x.path e.path ≡ b → AreInOrder (placed e es) → AreInOrder (cond b (x ∷ placed e es) (e ∷ x ∷ es))
    by_test true h more =
        order_cons x (placed e es) (after_placed x.path e es (before_is x.path e.path h) (order_first x es o)) more
    by_test false h more =
        let less = after_is x.path e.path h (none_further x es e.path n).0 in
        order_cons e (x ∷ es) (less, after_further e.path x.path es less (order_first x es o)) o

after_without : (p q : List ℕ) (es : List Entry) → After p es → After p (without es q)
after_without p q [] h = tt
after_without p q (e ∷ es) h = by_test (not (is_at q e)) (after_without p q es h.1)
  where
    by_test : (b : Bool) → After p (without es q) → After p (cond b (e ∷ without es q) (without es q))
    by_test true more = (h.0, more)
    by_test false more = more

pub order_without : (es : List Entry) (p : List ℕ) → AreInOrder es → AreInOrder (without es p)
order_without [] p o = order_nil
order_without (e ∷ es) p o = by_test (not (is_at p e)) (order_without es p (order_rest e es o))
  where
    by_test : (b : Bool) → AreInOrder (without es p) → AreInOrder (cond b (e ∷ without es p) (without es p))
    by_test true more = order_cons e (without es p) (after_without e.path p es (order_first e es o)) more
    by_test false more = more

pub order_without_all : (es : List Entry) (ps : List (List ℕ)) → AreInOrder es → AreInOrder (without_all es ps)
order_without_all es [] o = o
order_without_all es (p ∷ ps) o = order_without_all (without es p) ps (order_without es p o)

-- ---- which paths there are

pub entry_listed : (es : List Entry) (q : List ℕ) → is_some (entry_at es q) ≡ is_listed (keys es) q
entry_listed [] q = refl
entry_listed (e ∷ es) q = by_test (is_at q e) (entry_listed es q)
  where
    by_test : (b : Bool) → is_some (entry_at es q) ≡ is_listed (keys es) q → is_some (cond b (Some e) (find (is_at q) es)) ≡ (b || is_listed (keys es) q)
    by_test true more = refl
    by_test false more = more

or_swap : (a b c : Bool) → (a || (b || c)) ≡ (b || (a || c))
or_swap true true c = refl
or_swap true false c = refl
or_swap false b c = refl

pub listed_placed : (e : Entry) (es : List Entry) (q : List ℕ) → is_listed (keys (placed e es)) q ≡ (bytes_eq e.path q || is_listed (keys es) q)
listed_placed e [] q = refl
listed_placed e (x ∷ es) q = by_test (is_before x.path e.path) (listed_placed e es q)
  where
    by_test : (b : Bool) → is_listed (keys (placed e es)) q ≡ (bytes_eq e.path q || is_listed (keys es) q)
        → is_listed (keys (cond b (x ∷ placed e es) (e ∷ x ∷ es))) q ≡ (bytes_eq e.path q || (bytes_eq x.path q || is_listed (keys es) q))
    by_test true more =
        ap (λ (b : Bool). bytes_eq x.path q || b) more
        ∙ or_swap (bytes_eq x.path q) (bytes_eq e.path q) (is_listed (keys es) q)
    by_test false more = refl

and_false : (a : Bool) → (a && false) ≡ false
and_false true = refl
and_false false = refl

and_true : (a : Bool) → (a && true) ≡ a
and_true true = refl
and_true false = refl

pub listed_without : (es : List Entry) (p q : List ℕ) → is_listed (keys (without es p)) q ≡ (is_listed (keys es) q && not (bytes_eq p q))
listed_without [] p q = refl
listed_without (e ∷ es) p q = by_test (is_at p e) refl (listed_without es p q)
  where
    gone : (b l : Bool) → (l && not b) ≡ ((b || l) && not b)
    gone true l = and_false l
    gone false l = refl

    kept : (x b l : Bool) → (b ≡ true → x ≡ false) → (x || (l && not b)) ≡ ((x || l) && not b)
    kept true true l h = absurd (true≢false (h refl))
    kept true false l h = refl
    kept false b l h = refl

    other : is_at p e ≡ false → bytes_eq p q ≡ true → bytes_eq e.path q ≡ false
    other k s = subst (λ (x : List ℕ). bytes_eq e.path x ≡ false) ((bytes_eq-Decides p q).0 s) k

    by_test : (b : Bool) → is_at p e ≡ b → is_listed (keys (without es p)) q ≡ (is_listed (keys es) q && not (bytes_eq p q))
        → is_listed (keys (cond (not b) (e ∷ without es p) (without es p))) q ≡ ((bytes_eq e.path q || is_listed (keys es) q) && not (bytes_eq p q))
    by_test true k more =
        more
        ∙ gone (bytes_eq p q) (is_listed (keys es) q)
        ∙ ap (λ (x : List ℕ). (bytes_eq x q || is_listed (keys es) q) && not (bytes_eq p q)) (sym ((bytes_eq-Decides e.path p).0 k))
    by_test false k more =
        ap (λ (b : Bool). bytes_eq e.path q || b) more
        ∙ kept (bytes_eq e.path q) (bytes_eq p q) (is_listed (keys es) q) (other k)

and_or : (l a b : Bool) → ((l && not a) && not b) ≡ (l && not (a || b))
and_or true true b = refl
and_or true false b = refl
and_or false a b = refl

pub listed_without_all : (es : List Entry) (ps : List (List ℕ)) (q : List ℕ) → is_listed (keys (without_all es ps)) q ≡ (is_listed (keys es) q && not (is_listed ps q))
listed_without_all es [] q = sym (and_true (is_listed (keys es) q))
listed_without_all es (p ∷ ps) q =
    listed_without_all (without es p) ps q
    ∙ ap (λ (b : Bool). b && not (is_listed ps q)) (listed_without es p q)
    ∙ and_or (is_listed (keys es) q) (bytes_eq p q) (is_listed ps q)

-- ---- what holds of each entry

pub all_placed : (P : Entry → Type 0) (e : Entry) (es : List Entry) → P e → AllByRecursion P es → AllByRecursion P (placed e es)
all_placed P e [] h hs = (h, tt)
all_placed P e (x ∷ es) h hs = by_test (is_before x.path e.path) (all_placed P e es h hs.1)
  where
    by_test : (b : Bool) → AllByRecursion P (placed e es) → AllByRecursion P (cond b (x ∷ placed e es) (e ∷ x ∷ es))
    by_test true more = (hs.0, more)
    by_test false more = (h, hs)

pub all_without : (P : Entry → Type 0) (es : List Entry) (p : List ℕ) → AllByRecursion P es → AllByRecursion P (without es p)
all_without P [] p h = tt
all_without P (e ∷ es) p h = by_test (not (is_at p e)) (all_without P es p h.1)
  where
    by_test : (b : Bool) → AllByRecursion P (without es p) → AllByRecursion P (cond b (e ∷ without es p) (without es p))
    by_test true more = (h.0, more)
    by_test false more = more

pub all_without_all : (P : Entry → Type 0) (es : List Entry) (ps : List (List ℕ)) → AllByRecursion P es → AllByRecursion P (without_all es ps)
all_without_all P es [] h = h
all_without_all P es (p ∷ ps) h = all_without_all P (without es p) ps (all_without P es p h)

pub all_at : (P : Entry → Type 0) (es : List Entry) (q : List ℕ) (e : Entry) → AllByRecursion P es → entry_at es q ≡ Some e → P e × (e.path ≡ q)
all_at P [] q e h found = absurd cc
all_at P (x ∷ es) q e h found = by_test (is_at q x) refl found (λ f. all_at P es q e h.1 f)
  where
    by_test : (b : Bool) → is_at q x ≡ b → cond b (Some x) (find (is_at q) es) ≡ Some e → (entry_at es q ≡ Some e → P e × (e.path ≡ q)) → P e × (e.path ≡ q)
    by_test true k f more =
        let same : x ≡ e = cc in
        (subst P same h.0, sym (ap (λ (y : Entry). y.path) same) ∙ (bytes_eq-Decides x.path q).0 k)
    by_test false k f more = more f

-- ---- one more step of a loop

pub without_append : (es : List Entry) (xs ys : List (List ℕ)) → without_all es (xs ++ ys) ≡ without_all (without_all es xs) ys
without_append es [] ys = refl
without_append es (x ∷ xs) ys = without_append (without es x) xs ys

-- what is lent at a place
at_some : (xs : List Entry) (n : ℕ) (d : Entry) → n < length xs → d ≡ slice_index_or xs n d → Some d ≡ slice_get xs n
at_some [] n d lt e = absurd (omega (arith, lt))
at_some (x ∷ xs) zero d lt e = ap (λ (y : Entry). Some y) e
at_some (x ∷ xs) (suc n) d lt e = at_some xs n d (omega (arith, lt)) e

at_none : (xs : List Entry) (n : ℕ) → length xs ≤ n → None ≡ slice_get xs n
at_none [] n le = refl
at_none (x ∷ xs) zero le = absurd (omega (arith, le))
at_none (x ∷ xs) (suc n) le = at_none xs n (omega (arith, le))

pub lent_at : (o : Option (Bor Entry)) (xs : List Entry) (n : ℕ) → IsItemAt xs n o → option_copied o ≡ slice_get xs n
lent_at None xs n h = at_none xs n h.3
lent_at (Some x) xs n h = at_some xs n x.now h.3.0 h.1
