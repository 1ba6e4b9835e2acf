-- The place of a new path, and twins in its way.
use Rattle.std.proofs.Common.{◌≡◌, ◌<◌, ◌≤◌, ◌+◌, ◌-◌, ℕ, zero, suc, Bool, true, false, not, cond, ◌||◌, List, [], ◌∷◌, ◌++◌, length, take, drop, get_or, filter, reverse, map, Option, Some, None, refl, sym, ap, ◌∙◌, arith, append_assoc}
use Rattle.std.specs.Prelude.{nat_lt}
use Rattle.std.specs.List.{find, list_any, list_all}
use Rattle.std.proofs.lemmas.Bool.{and_parts, false≢true, true≢false, false_from_ne_true, or_left, or_right, lt-ltb, ltb-true}
use Rattle.std.proofs.lemmas.List.{append-nil, reverse-append, take_more, take-append-drop, take_all}
use Rattle.std.proofs.lemmas.List.Folds.{list_any-append}
use Rattle.std.proofs.lemmas.Slice.Eq.{bytes_eq-Decides}
use Rattle.iri_ref.specs.Characters.{slash}
use Rattle.iri_ref.specs.Resolution.{up_to_last_slash}
use Rattle.pod_path.specs.Hierarchy.{root, is_root, is_container, is_auxiliary, without_last_slash, parent_of, twin_of}
use Rattle.pod_path.specs.Norm.{IsPath, norm}
use Rattle.pod_path.proofs.Ancestors.{parent_some}
use Rattle.pod_path.proofs.Twins.{closed_twin}
use Rattle.pod_command.specs.declared.row.Row.{Row}
use Rattle.pod_rows.specs.Pod.{Pod, is_row, is_row_of}
use Rattle.pod_rows.specs.Tree.{ancestors, has_child, is_child_of, is_the_path}
use Rattle.pod_rows.specs.WellFormed.{WellFormed, has_normal_path}
use Rattle.pod_rows.proofs.Tests.{parse_is, same_test}
use Rattle.pod_command.specs.declared.edit.Edit.TheVariants as edits
use Rattle.pod_edits.specs.Edits.{creation_edits, put_container, touch_if}
use Rattle.pod_edits.specs.Places.{nearest_of, missing_of, IsPlaceOf}
use Rattle.pod_edits.specs.Refusals.{meets_twin, has_children, has_some}
use Rattle.pod_edits.specs.declared.new_row_place.Place.{Place}
use Rattle.pod_edits.proofs.Transfer.{placed_at, root_row}
use Rattle.pod_edits.proofs.Trees.{ancestors_step, parent_is_path, parent_shorter, parent_closed, path_of_norm}

-- is it no row?
abbrev pub is_missing : List Row → List ℕ → Bool
is_missing rows path = not (is_row rows path)

-- ---- the walk up

pub no_parent : (path : List ℕ) → parent_of path ≡ None → path ≡ root
no_parent path e = by_root (is_root path) refl
  where
    by_root : (b : Bool) → is_root path ≡ b → path ≡ root
    by_root true r = (bytes_eq-Decides path root).0 r
    by_root false r = let both : Some (up_to_last_slash (without_last_slash path)) ≡ None = sym (parent_some path r) ∙ e in absurd cc

-- what is no row has a parent
pub has_a_parent : (p : Pod) (path : List ℕ) → WellFormed p → is_row p.rows path ≡ false → parent_of path ≡ None → ⊥
has_a_parent p path w absent e = true≢false (sym (root_row p w) ∙ ap (is_row p.rows) (sym (no_parent path e)) ∙ absent)

pub parent_row : (p : Pod) (path q : List ℕ) → WellFormed p → is_row p.rows path ≡ true → parent_of path ≡ Some q → is_row p.rows q ≡ true
parent_row p path q w h e = by_root (is_root path) refl (placed_at p path w h).parent
  where
    by_root : (b : Bool) → is_root path ≡ b → (b || is_row_of p.rows (parent_of path)) ≡ true → is_row p.rows q ≡ true
    by_root true r k = let none : None ≡ Some q = sym (ap (λ (c : Bool). cond c None (Some (up_to_last_slash (without_last_slash path)))) r) ∙ e in absurd cc
    by_root false r k = ap (is_row_of p.rows) (sym e) ∙ k

-- above a row there are rows alone
none_missing : (p : Pod) → WellFormed p → (n : ℕ) (path : List ℕ) → length path < n → IsPath path → is_row p.rows path ≡ true → filter (is_missing p.rows) (ancestors path) ≡ []
none_missing p w zero path low h here = absurd (omega (arith, low))
none_missing p w (suc n) path low h here = by_parent (parent_of path) refl (none_missing p w n)
  where
    by_parent : (o : Option (List ℕ)) → parent_of path ≡ o
        → ((q : List ℕ) → length q < n → IsPath q → is_row p.rows q ≡ true → filter (is_missing p.rows) (ancestors q) ≡ [])
        → filter (is_missing p.rows) (ancestors path) ≡ []
    by_parent None e more = ap (λ (x : List ℕ). filter (is_missing p.rows) (ancestors x)) (no_parent path e)
    by_parent (Some q) e more =
        let above = parent_row p path q w here e in
        ap (filter (is_missing p.rows)) (ancestors_step path q h e)
        ∙ ap (λ (b : Bool). cond (not b) (q ∷ filter (is_missing p.rows) (ancestors q)) (filter (is_missing p.rows) (ancestors q))) above
        ∙ more q (omega (arith, low, parent_shorter path q h e)) (parent_is_path path q h e) above

pub rows_above : (p : Pod) (path : List ℕ) → WellFormed p → IsPath path → is_row p.rows path ≡ true → filter (is_missing p.rows) (ancestors path) ≡ []
rows_above p path w h here = none_missing p w (suc (length path)) path (omega arith) h here

-- what the walk has found, and what is left of it
pub record Walk (rows : List Row) (path above : List ℕ) (missing : List (List ℕ)) : Type 0 where
  pub rest : filter (is_missing rows) (ancestors path) ≡ missing ++ filter (is_missing rows) (above ∷ ancestors above)
  pub near : find (is_row rows) (ancestors path) ≡ find (is_row rows) (above ∷ ancestors above)
  pub is_path : IsPath above

pub walk_first : (rows : List Row) (path above : List ℕ) → IsPath path → parent_of path ≡ Some above → IsPath above → Walk rows path above []
walk_first rows path above h e ha = record {
  rest = ap (filter (is_missing rows)) (ancestors_step path above h e);
  near = ap (find (is_row rows)) (ancestors_step path above h e);
  is_path = ha;
}

pub walk_step : (rows : List Row) (path above next : List ℕ) (missing : List (List ℕ)) → Walk rows path above missing → is_row rows above ≡ false → parent_of above ≡ Some next → IsPath next
    → Walk rows path next (missing ++ above ∷ [])
walk_step rows path above next missing w absent e hn =
    let step = ancestors_step above next w.is_path e in
    record {
      rest = w.rest
          ∙ ap (λ (b : Bool). missing ++ cond (not b) (above ∷ filter (is_missing rows) (ancestors above)) (filter (is_missing rows) (ancestors above))) absent
          ∙ ap (λ (xs : List (List ℕ)). missing ++ above ∷ filter (is_missing rows) xs) step
          ∙ sym (append_assoc missing (above ∷ []) (filter (is_missing rows) (next ∷ ancestors next)));
      near = w.near
          ∙ ap (λ (b : Bool). cond b (Some above) (find (is_row rows) (ancestors above))) absent
          ∙ ap (find (is_row rows)) step;
      is_path = hn;
    }

pub walk_end : (p : Pod) (path above : List ℕ) (missing : List (List ℕ)) (place : Place) → WellFormed p → Walk p.rows path above missing → is_row p.rows above ≡ true
    → place.nearest ≡ above → place.missing.items ≡ reverse missing → IsPlaceOf p.rows path place
unfolding nearest_of missing_of
walk_end p path above missing place wf w here nearest items = record {
  nearest = w.near ∙ ap (λ (b : Bool). cond b (Some above) (find (is_row p.rows) (ancestors above))) here ∙ ap (λ (x : List ℕ). Some x) (sym nearest);
  missing = ap reverse (w.rest
      ∙ ap (λ (b : Bool). missing ++ cond (not b) (above ∷ filter (is_missing p.rows) (ancestors above)) (filter (is_missing p.rows) (ancestors above))) here
      ∙ ap (λ (xs : List (List ℕ)). missing ++ xs) (rows_above p above wf w.is_path here)
      ∙ append-nil missing) ∙ sym items;
}

-- the missing containers of a path, by its parent
pub missing_none : (p : Pod) (path above : List ℕ) → WellFormed p → IsPath path → parent_of path ≡ Some above → is_row p.rows above ≡ true → missing_of p.rows path ≡ []
unfolding missing_of
missing_none p path above w h e here =
    ap reverse (ap (filter (is_missing p.rows)) (ancestors_step path above h e)
    ∙ ap (λ (b : Bool). cond (not b) (above ∷ filter (is_missing p.rows) (ancestors above)) (filter (is_missing p.rows) (ancestors above))) here
    ∙ rows_above p above w (parent_is_path path above h e) here)

pub missing_more : (rows : List Row) (path above : List ℕ) → IsPath path → parent_of path ≡ Some above → is_row rows above ≡ false → missing_of rows path ≡ missing_of rows above ++ above ∷ []
unfolding missing_of
missing_more rows path above h e absent =
    ap reverse (ap (filter (is_missing rows)) (ancestors_step path above h e)
    ∙ ap (λ (b : Bool). cond (not b) (above ∷ filter (is_missing rows) (ancestors above)) (filter (is_missing rows) (ancestors above))) absent)
    ∙ reverse-append (above ∷ []) (filter (is_missing rows) (ancestors above))

pub nearest_here : (rows : List Row) (path above : List ℕ) → IsPath path → parent_of path ≡ Some above → is_row rows above ≡ true → nearest_of rows path ≡ Some above
unfolding nearest_of
nearest_here rows path above h e here =
    ap (find (is_row rows)) (ancestors_step path above h e) ∙ ap (λ (b : Bool). cond b (Some above) (find (is_row rows) (ancestors above))) here

found_is : (rows : List Row) (xs : List (List ℕ)) (q : List ℕ) → find (is_row rows) xs ≡ Some q → is_row rows q ≡ true
found_is rows [] q e = absurd cc
found_is rows (x ∷ xs) q e = by_test (is_row rows x) refl e (found_is rows xs q)
  where
    by_test : (b : Bool) → is_row rows x ≡ b → cond b (Some x) (find (is_row rows) xs) ≡ Some q → (find (is_row rows) xs ≡ Some q → is_row rows q ≡ true) → is_row rows q ≡ true
    by_test true h k more = let same : x ≡ q = cc in ap (is_row rows) (sym same) ∙ h
    by_test false h k more = more k

pub nearest_row : (rows : List Row) (path q : List ℕ) → nearest_of rows path ≡ Some q → is_row rows q ≡ true
unfolding nearest_of
nearest_row rows path q e = found_is rows (ancestors path) q e

-- ---- twins

-- is the twin of the path a row?
abbrev pub has_twin_row : List Row → List ℕ → Bool
has_twin_row rows path = is_row_of rows (twin_of path)

any_reverse : (p : List ℕ → Bool) (xs : List (List ℕ)) → list_any p (reverse xs) ≡ list_any p xs
any_reverse p [] = refl
any_reverse p (x ∷ xs) =
    ap (list_any p) (reverse-append (x ∷ []) xs) ∙ list_any-append p (reverse xs) (x ∷ []) ∙ ap (λ (b : Bool). b || list_any p (x ∷ [])) (any_reverse p xs) ∙ turned (p x) (list_any p xs)
  where
    turned : (a b : Bool) → (b || (a || false)) ≡ (a || b)
    turned true true = refl
    turned true false = refl
    turned false true = refl
    turned false false = refl

any_kept : (p keep : List ℕ → Bool) → ((x : List ℕ) → keep x ≡ false → p x ≡ false) → (xs : List (List ℕ)) → list_any p (filter keep xs) ≡ list_any p xs
any_kept p keep f [] = refl
any_kept p keep f (x ∷ xs) = by_test (keep x) refl (any_kept p keep f xs)
  where
    by_test : (b : Bool) → keep x ≡ b → list_any p (filter keep xs) ≡ list_any p xs → list_any p (cond b (x ∷ filter keep xs) (filter keep xs)) ≡ (p x || list_any p xs)
    by_test true h more = ap (λ (b : Bool). p x || b) more
    by_test false h more = more ∙ sym (ap (λ (b : Bool). b || list_any p xs) (f x h))

any_upto : (p : List ℕ → Bool) (xs : List (List ℕ)) (i : ℕ) (d : List ℕ) → i < length xs → list_any p (take (i + 1) xs) ≡ (list_any p (take i xs) || (p (get_or xs i d) || false))
any_upto p xs i d h = ap (list_any p) (take_more xs i d h) ∙ list_any-append p (take i xs) (get_or xs i d ∷ [])

pub any_more : (p : List ℕ → Bool) (xs : List (List ℕ)) (i : ℕ) (d : List ℕ) → i < length xs → d ≡ get_or xs i d → list_any p (take i xs) ≡ false → p d ≡ false → list_any p (take (i + 1) xs) ≡ false
any_more p xs i d h is none off =
    any_upto p xs i d h ∙ ap (λ (b : Bool). b || (p (get_or xs i d) || false)) none ∙ ap (λ (x : List ℕ). p x || false) (sym is) ∙ ap (λ (b : Bool). b || false) off

pub any_at : (p : List ℕ → Bool) (xs : List (List ℕ)) (i : ℕ) (d : List ℕ) → i < length xs → d ≡ get_or xs i d → p d ≡ true → list_any p xs ≡ true
any_at p xs i d h is on =
    ap (list_any p) (sym (take-append-drop (i + 1) xs)) ∙ list_any-append p (take (i + 1) xs) (drop (i + 1) xs)
    ∙ or_left (list_any p (take (i + 1) xs)) (list_any p (drop (i + 1) xs))
    (any_upto p xs i d h ∙ or_right (list_any p (take i xs)) (p (get_or xs i d) || false) (ap (λ (x : List ℕ). p x || false) (sym is) ∙ ap (λ (b : Bool). b || false) on))

pub any_all : (p : List ℕ → Bool) (xs : List (List ℕ)) (i : ℕ) → length xs ≤ i → list_any p (take i xs) ≡ false → list_any p xs ≡ false
any_all p xs i h e = ap (list_any p) (sym (take_all i xs h)) ∙ e

-- no twin of a row is a row, so the missing containers tell of all
twins_missing : (p : Pod) (path : List ℕ) → WellFormed p → list_any (has_twin_row p.rows) (missing_of p.rows path) ≡ list_any (has_twin_row p.rows) (ancestors path)
unfolding missing_of
twins_missing p path w =
    any_reverse (has_twin_row p.rows) (filter (is_missing p.rows) (ancestors path))
    ∙ any_kept (has_twin_row p.rows) (is_missing p.rows) (λ x h. (placed_at p x w (row (is_row p.rows x) h)).twin) (ancestors path)
  where
    row : (b : Bool) → not b ≡ false → b ≡ true
    row true h = refl
    row false h = absurd (true≢false h)

pub twin_here : (p : Pod) (path : List ℕ) (own : Bool) → own ≡ has_twin_row p.rows path → own ≡ true → true ≡ meets_twin p.rows path
unfolding meets_twin
twin_here p path own e h = sym (ap (λ (b : Bool). b || list_any (has_twin_row p.rows) (ancestors path)) (sym e ∙ h))

pub twin_above : (p : Pod) (path : List ℕ) (place : Place) (own met : Bool) → WellFormed p → IsPlaceOf p.rows path place → own ≡ has_twin_row p.rows path → own ≡ false
    → list_any (has_twin_row p.rows) place.missing.items ≡ met → met ≡ meets_twin p.rows path
unfolding meets_twin
twin_above p path place own met w i e h all =
    sym (ap (λ (b : Bool). b || list_any (has_twin_row p.rows) (ancestors path)) (sym e ∙ h)
    ∙ sym (twins_missing p path w) ∙ ap (list_any (has_twin_row p.rows)) i.missing ∙ all)

-- the twin of a container, by its text
pub closed_twin_of : (path text : List ℕ) → path ≡ text ++ slash ∷ [] → is_root path ≡ false → twin_of path ≡ Some text
closed_twin_of path text e other = ap twin_of e ∙ closed_twin text (some text e)
  where
    some : (t : List ℕ) → path ≡ t ++ slash ∷ [] → 0 < length t
    some [] k = absurd (true≢false (sym (ap is_root k) ∙ other))
    some (c ∷ cs) k = omega arith

pub root_twin : (path : List ℕ) → is_root path ≡ true → twin_of path ≡ None
root_twin path h = ap twin_of ((bytes_eq-Decides path root).0 h)

-- ---- children

pub closed_parent : (rows : List Row) (path : List ℕ) → list_all has_normal_path rows ≡ true → is_container path ≡ false → filter (is_child_of path) rows ≡ []
unfolding has_normal_path
closed_parent [] path h e = refl
closed_parent (x ∷ xs) path h e =
    ap (λ (b : Bool). cond b (x ∷ filter (is_child_of path) xs) (filter (is_child_of path) xs)) none ∙ closed_parent xs path parts.1 e
  where
    parts : (has_normal_path x ≡ true) × (list_all has_normal_path xs ≡ true)
    parts = and_parts (has_normal_path x) (list_all has_normal_path xs) h

    is_path : IsPath x.path
    is_path = path_of_norm x.path (parse_is (norm x.path) x.path parts.0)

    by_parent : (o : Option (List ℕ)) → parent_of x.path ≡ o → is_the_path path o ≡ true → ⊥
    by_parent None k t = false≢true t
    by_parent (Some q) k t = true≢false (sym (parent_closed x.path q is_path k) ∙ ap is_container ((bytes_eq-Decides q path).0 t) ∙ e)

    none : is_child_of path x ≡ false
    none = false_from_ne_true (is_child_of path x) (λ t. by_parent (parent_of x.path) refl (and_parts (not (is_auxiliary x.path)) (is_the_path path (parent_of x.path)) t).1)

pub no_children : (p : Pod) (path : List ℕ) → WellFormed p → is_container path ≡ false → false ≡ has_children p.rows path
unfolding has_children
no_children p path w e = sym (ap (λ (rs : List Row). has_some (map (λ (row : Row). row.path) rs)) (closed_parent p.rows path w.paths e))

-- ---- a member of a container

pub member_edits : (p : Pod) (r : Row) (above : List ℕ) → WellFormed p → IsPath r.path → parent_of r.path ≡ Some above → is_row p.rows above ≡ true
    → creation_edits p.rows r ≡ edits.Put r ∷ edits.Touch above r.modified ∷ []
unfolding creation_edits
member_edits p r above w h e here =
    ap (λ (ps : List (List ℕ)). map (put_container r.modified) ps ++ (edits.Put r ∷ touch_if (nearest_of p.rows r.path) r.modified)) (missing_none p r.path above w h e here)
    ∙ ap (λ (o : Option (List ℕ)). edits.Put r ∷ touch_if o r.modified) (nearest_here p.rows r.path above h e here)

-- ---- room for rows

pub room_test : (limit count added : ℕ) → count ≤ limit → nat_lt (limit - count) added ≡ nat_lt limit (count + added)
room_test limit count added h =
    same_test (nat_lt (limit - count) added) (nat_lt limit (count + added))
    (λ t. (let l = ltb-true (limit - count) added t in lt-ltb limit (count + added) (omega (arith, h, l))))
    (λ t. (let l = ltb-true limit (count + added) t in lt-ltb (limit - count) added (omega (arith, h, l))))

-- is there a child, by a test of each row
pub some_child : (rows : List Row) (path : List ℕ) → has_child rows path ≡ has_children rows path
unfolding has_children
some_child [] path = refl
some_child (r ∷ rows) path = by_test (is_child_of path r) (some_child rows path)
  where
    by_test : (b : Bool) → has_child rows path ≡ has_some (map (λ (row : Row). row.path) (filter (is_child_of path) rows))
        → (b || has_child rows path) ≡ has_some (map (λ (row : Row). row.path) (cond b (r ∷ filter (is_child_of path) rows) (filter (is_child_of path) rows)))
    by_test true e = refl
    by_test false e = e

pub member_twin : (p : Pod) (path above : List ℕ) → WellFormed p → IsPath path → parent_of path ≡ Some above → is_row p.rows above ≡ true → meets_twin p.rows path ≡ has_twin_row p.rows path
unfolding meets_twin
member_twin p path above w h e here =
    ap (λ (b : Bool). has_twin_row p.rows path || b) (sym (twins_missing p path w) ∙ ap (list_any (has_twin_row p.rows)) (missing_none p path above w h e here)) ∙ alone (has_twin_row p.rows path)
  where
    alone : (b : Bool) → (b || false) ≡ b
    alone true = refl
    alone false = refl

pub member_is : (p : Pod) (path above : List ℕ) (place : Place) → WellFormed p → IsPath path → parent_of path ≡ Some above → is_row p.rows above ≡ true → place.nearest ≡ above → place.missing.items ≡ [] → IsPlaceOf p.rows path place
member_is p path above place w h e here nearest items = record {
  nearest = nearest_here p.rows path above h e here ∙ ap (λ (x : List ℕ). Some x) (sym nearest);
  missing = missing_none p path above w h e here ∙ sym items;
}
