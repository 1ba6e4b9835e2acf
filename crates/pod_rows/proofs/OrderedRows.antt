-- Finding a row among rows in byte order of their paths.
use Rattle.std.proofs.Common.{subst, ◌≡◌, ℕ, Bool, true, false, cond, List, [], ◌∷◌, ◌++◌, filter, Some, None, refl, sym, ap, ◌∙◌, bytes_eq}
use Rattle.std.specs.List.{find, AllByRecursion}
use Rattle.std.specs.List.Sorted.{IsStrictlySortedBy}
use Rattle.std.specs.Ordering.{is_eq, is_lt, ordering_reverse}
use Rattle.std.specs.declared.cmp.Ordering.{Ordering}
use Rattle.std.specs.declared.cmp.Ordering.TheVariants.{Less, Equal, Greater}
use Rattle.std.proofs.lemmas.Cmp.{nat_list_cmp_total, tied_itself}
use Rattle.std.proofs.lemmas.Slice.Eq.{bytes_eq-Decides}
use Rattle.std.proofs.lemmas.Map.Text.{is_eq-slice_cmp}
use Rattle.rdf_graph.specs.Triple.{bytes_cmp}
use Rattle.pod_command.specs.Encodable.{AreInOrder}
use Rattle.pod_command.specs.declared.row.Row.{Row}
use Rattle.pod_rows.specs.Pod.{is_at, row_at}
use Rattle.pod_rows.specs.Apply.{is_before, put_row}

-- all rows are after the path
abbrev pub After : List ℕ → List Row → Type 0
After p rs = AllByRecursion (λ (r : Row). bytes_cmp p r.path ≡ Less) rs

pub order_first : (r : Row) (rs : List Row) → AreInOrder (r ∷ rs) → After r.path rs
unfolding IsStrictlySortedBy
order_first r rs h = h.0

pub order_rest : (r : Row) (rs : List Row) → AreInOrder (r ∷ rs) → AreInOrder rs
unfolding IsStrictlySortedBy
order_rest r rs h = h.1

pub order_nil : AreInOrder []
unfolding IsStrictlySortedBy
order_nil = tt

pub order_cons : (r : Row) (rs : List Row) → After r.path rs → AreInOrder rs → AreInOrder (r ∷ rs)
unfolding IsStrictlySortedBy
order_cons r rs a o = (a, o)

-- neither of two paths in order is the other
pub other_less : (p q : List ℕ) → bytes_cmp p q ≡ Less → bytes_eq q p ≡ false
other_less p q h = sym (is_eq-slice_cmp q p) ∙ ap is_eq (nat_list_cmp_total.antisymm q p ∙ ap ordering_reverse h)

pub other_more : (p q : List ℕ) → bytes_cmp q p ≡ Less → bytes_eq q p ≡ false
other_more p q h = sym (is_eq-slice_cmp q p) ∙ ap is_eq h

pub itself : (p : List ℕ) → bytes_eq p p ≡ true
itself p = sym (is_eq-slice_cmp p p) ∙ ap is_eq (tied_itself nat_list_cmp_total p)

after_at : (p : List ℕ) (xs : List Row) (r : Row) (ys : List Row) → After p (xs ++ r ∷ ys) → bytes_cmp p r.path ≡ Less
after_at p [] r ys h = h.0
after_at p (x ∷ xs) r ys h = after_at p xs r ys h.1

after_left : (p : List ℕ) (xs ys : List Row) → After p (xs ++ ys) → After p xs
after_left p [] ys h = tt
after_left p (x ∷ xs) ys h = (h.0, after_left p xs ys h.1)

pub order_left : (xs ys : List Row) → AreInOrder (xs ++ ys) → AreInOrder xs
order_left [] ys h = order_nil
order_left (x ∷ xs) ys h = order_cons x xs (after_left x.path xs ys (order_first x (xs ++ ys) h)) (order_left xs ys (order_rest x (xs ++ ys) h))

pub order_behind : (xs : List Row) (r : Row) (ys : List Row) → AreInOrder (xs ++ r ∷ ys) → AreInOrder ys
order_behind [] r ys h = order_rest r ys h
order_behind (x ∷ xs) r ys h = order_behind xs r ys (order_rest x (xs ++ r ∷ ys) h)

pub after_further : (p q : List ℕ) (rs : List Row) → bytes_cmp p q ≡ Less → After q rs → After p rs
after_further p q [] h b = tt
after_further p q (r ∷ rs) h b = (nat_list_cmp_total.trans p q r.path h b.0, after_further p q rs h b.1)

pub none_after : (p : List ℕ) (rs : List Row) → After p rs → row_at rs p ≡ None
none_after p [] h = refl
none_after p (r ∷ rs) h = ap (λ b. cond b (Some r) (find (is_at p) rs)) (other_less p r.path h.0) ∙ none_after p rs h.1

-- where the middle is after the path, its row is in front
find_front : (p : List ℕ) (xs : List Row) (r : Row) (ys : List Row) → bytes_cmp p r.path ≡ Less → AreInOrder (xs ++ r ∷ ys) → row_at (xs ++ r ∷ ys) p ≡ row_at xs p
find_front p [] r ys h s = none_after p (r ∷ ys) (h, after_further p r.path ys h (order_first r ys s))
find_front p (x ∷ xs) r ys h s = ap (cond (is_at p x) (Some x)) (find_front p xs r ys h (order_rest x (xs ++ r ∷ ys) s))

find_rest : (p : List ℕ) (xs : List Row) (r : Row) (ys : List Row) → bytes_cmp r.path p ≡ Less → AreInOrder (xs ++ r ∷ ys) → row_at (xs ++ r ∷ ys) p ≡ row_at ys p
find_rest p [] r ys h s = ap (λ b. cond b (Some r) (find (is_at p) ys)) (other_more p r.path h)
find_rest p (x ∷ xs) r ys h s =
    ap (λ b. cond b (Some x) (find (is_at p) (xs ++ r ∷ ys))) (other_more p x.path (nat_list_cmp_total.trans x.path r.path p (after_at x.path xs r ys (order_first x (xs ++ r ∷ ys) s)) h))
    ∙ find_rest p xs r ys h (order_rest x (xs ++ r ∷ ys) s)

find_here : (xs : List Row) (r : Row) (ys : List Row) → AreInOrder (xs ++ r ∷ ys) → row_at (xs ++ r ∷ ys) r.path ≡ Some r
find_here [] r ys s = ap (λ b. cond b (Some r) (find (is_at r.path) ys)) (itself r.path)
find_here (x ∷ xs) r ys s =
    ap (λ b. cond b (Some x) (find (is_at r.path) (xs ++ r ∷ ys))) (other_more r.path x.path (after_at x.path xs r ys (order_first x (xs ++ r ∷ ys) s)))
    ∙ find_here xs r ys (order_rest x (xs ++ r ∷ ys) s)

-- the same, of a list that is split there
pub found_front : (rs : List Row) (p : List ℕ) (xs : List Row) (r : Row) (ys : List Row) → rs ≡ xs ++ (r ∷ ys) → bytes_cmp p r.path ≡ Less → AreInOrder rs → row_at rs p ≡ row_at xs p
found_front rs p xs r ys whole h s = ap (find (is_at p)) whole ∙ find_front p xs r ys h (subst AreInOrder whole s)

pub found_rest : (rs : List Row) (p : List ℕ) (xs : List Row) (r : Row) (ys : List Row) → rs ≡ xs ++ (r ∷ ys) → bytes_cmp p r.path ≡ Greater → AreInOrder rs → row_at rs p ≡ row_at ys p
found_rest rs p xs r ys whole h s =
    ap (find (is_at p)) whole ∙ find_rest p xs r ys (nat_list_cmp_total.antisymm r.path p ∙ ap ordering_reverse h) (subst AreInOrder whole s)

pub same_path : (p q : List ℕ) → bytes_cmp p q ≡ Equal → p ≡ q
same_path p q h = (bytes_eq-Decides p q).0 (sym (is_eq-slice_cmp p q) ∙ ap is_eq h)

pub found_here : (rs : List Row) (p : List ℕ) (xs : List Row) (r : Row) (ys : List Row) → rs ≡ xs ++ (r ∷ ys) → bytes_cmp p r.path ≡ Equal → AreInOrder rs → row_at rs p ≡ Some r
found_here rs p xs r ys whole h s =
    ap (find (is_at p)) whole ∙ ap (λ q. find (is_at q) (xs ++ r ∷ ys)) (same_path p r.path h) ∙ find_here xs r ys (subst AreInOrder whole s)

-- rows that are kept of rows in order

after_filter : (p : List ℕ) (keep : Row → Bool) (rs : List Row) → After p rs → After p (filter keep rs)
after_filter p keep [] h = tt
after_filter p keep (r ∷ rs) h = elim (keep r) as (λ b. After p (cond b (r ∷ filter keep rs) (filter keep rs))) [ true ↦ (h.0, after_filter p keep rs h.1) | false ↦ after_filter p keep rs h.1 ]

pub order_filter : (keep : Row → Bool) (rs : List Row) → AreInOrder rs → AreInOrder (filter keep rs)
order_filter keep [] h = order_nil
order_filter keep (r ∷ rs) h = elim (keep r) as (λ b. AreInOrder (cond b (r ∷ filter keep rs) (filter keep rs))) [ true ↦ order_cons r (filter keep rs) (after_filter r.path keep rs (order_first r rs h)) (order_filter keep rs (order_rest r rs h)) | false ↦ order_filter keep rs (order_rest r rs h) ]

after_step : (p : List ℕ) (r : Row) (rest : List Row) (o : Ordering) → bytes_cmp p r.path ≡ o → After p rest → After p (cond (is_lt o) (r ∷ rest) rest)
after_step p r rest Less e h = (e, h)
after_step p r rest Equal e h = h
after_step p r rest Greater e h = h

after_kept : (p : List ℕ) (rs : List Row) → After p (filter (λ r. is_before p r.path) rs)
after_kept p [] = tt
after_kept p (r ∷ rs) = after_step p r (filter (λ s. is_before p s.path) rs) (bytes_cmp p r.path) refl (after_kept p rs)

after_join : (p : List ℕ) (xs : List Row) (r : Row) (ys : List Row) → After p xs → bytes_cmp p r.path ≡ Less → After r.path ys → After p (xs ++ r ∷ ys)
after_join p [] r ys h e b = (e, after_further p r.path ys e b)
after_join p (x ∷ xs) r ys h e b = (h.0, after_join p xs r ys h.1 e b)

order_step : (x : Row) (r : Row) (xs ys : List Row) (o : Ordering) → bytes_cmp x.path r.path ≡ o → After x.path xs → After r.path ys → AreInOrder (xs ++ r ∷ ys) → AreInOrder (cond (is_lt o) (x ∷ xs) xs ++ r ∷ ys)
order_step x r xs ys Less e h b s = order_cons x (xs ++ r ∷ ys) (after_join x.path xs r ys h e b) s
order_step x r xs ys Equal e h b s = s
order_step x r xs ys Greater e h b s = s

order_around : (r : Row) (rs ys : List Row) → AreInOrder rs → After r.path ys → AreInOrder ys → AreInOrder (filter (λ s. is_before s.path r.path) rs ++ r ∷ ys)
order_around r [] ys h b s = order_cons r ys b s
order_around r (x ∷ rs) ys h b s =
    order_step x r (filter (λ s. is_before s.path r.path) rs) ys (bytes_cmp x.path r.path) refl
    (after_filter x.path (λ s. is_before s.path r.path) rs (order_first x rs h)) b (order_around r rs ys (order_rest x rs h) b s)

pub order_put : (rs : List Row) (r : Row) → AreInOrder rs → AreInOrder (put_row rs r)
order_put rs r h = order_around r rs (filter (λ s. is_before r.path s.path) rs) h (after_kept r.path rs) (order_filter (λ s. is_before r.path s.path) rs h)
