-- One more edit.
use Rattle.std.proofs.Common.{◌≡◌, ◌+◌, ◌<◌, ◌≤◌, ℕ, Bool, true, false, not, cond, List, [], ◌∷◌, ◌++◌, length, take, get_or, Option, Some, None, refl, sym, ap, ◌∙◌, subst, arith}
use Rattle.std.specs.Prelude.{is_some, bytes_eq}
use Rattle.std.proofs.lemmas.Bool.{false_from_ne_true, true≢false}
use Rattle.std.proofs.lemmas.List.{take_more, take_all}
use Rattle.std.proofs.lemmas.Slice.Eq.{bytes_eq-Decides}
use Rattle.pod_base.specs.declared.moment.Moment.{Moment}
use Rattle.pod_command.specs.Encodable.{AreInOrder}
use Rattle.pod_command.specs.declared.edit.Edit.{Edit}
use Rattle.pod_command.specs.declared.edit.Edit.TheVariants as edits
use Rattle.pod_command.specs.declared.row.Content.{Content}
use Rattle.pod_command.specs.declared.row.Content.TheVariants as contents
use Rattle.pod_command.specs.declared.row.Row.{Row}
use Rattle.rdf_graph.specs.declared.change.Change.{Change}
use Rattle.pod_rows.specs.Apply.{after_edits, edited, edited_if, put_row, remove_row, with_moment, with_content, changed_row, put_found as found_put, change_found, touch_found, remove_found}
use Rattle.pod_rows.specs.GraphSets.{changed_graph, has_triples}
use Rattle.pod_rows.specs.Pod.{row_at, is_row}
use Rattle.pod_rows.proofs.OrderedRows.{order_put, order_filter}
use Rattle.pod_rows.proofs.Steps.{edits_append, edits_more, edits_stopped}
use Rattle.pod_edits.proofs.FoundRows.{found_path, is_found, put_found, removed_found}
use Rattle.pod_records.specs.Made.{HasMade, added, gone, found_in, made_by, made_by_change, made_by_touch, made_by_removal, made_of, path_of, replaced}
use Rattle.pod_records.specs.declared.edited_rows.Made.{Made}
use Rattle.pod_records.proofs.Counts.{one_if, put_count, removed_count, added_more, gone_more}
use Rattle.pod_records.proofs.Latest.{found_more}

-- ---- an edit by what it makes

abbrev rows_with : List Row → List ℕ → Option Row → List Row
rows_with rows path None = remove_row rows path
rows_with rows path (Some row) = put_row rows row

abbrev rows_if : List Row → Option Made → Option (List Row)
rows_if rows None = None
rows_if rows (Some one) = Some (rows_with rows one.path one.row)

change_is : (rows : List Row) (path : List ℕ) (change : Change) (modified : Moment) (o : Option Row) → change_found rows change modified o ≡ rows_if rows (made_by_change path change modified o)
change_is rows path change modified None = refl
change_is rows path change modified (Some row) = by_new (changed_row change modified row row.content)
  where
    by_new : (n : Option Row) → found_put rows n ≡ rows_if rows (replaced path n)
    by_new None = refl
    by_new (Some new) = refl

touch_is : (rows : List Row) (path : List ℕ) (modified : Moment) (o : Option Row) → touch_found rows modified o ≡ rows_if rows (made_by_touch path modified o)
touch_is rows path modified None = refl
touch_is rows path modified (Some row) = refl

removal_is : (rows : List Row) (path : List ℕ) (o : Option Row) → row_at rows path ≡ o → remove_found rows o ≡ rows_if rows (made_by_removal path o)
removal_is rows path None e = refl
removal_is rows path (Some row) e = ap (λ (p : List ℕ). Some (remove_row rows p)) (found_path rows path row e)

edited_is : (rows : List Row) (edit : Edit) → edited rows edit ≡ rows_if rows (made_by edit (row_at rows (path_of edit)))
edited_is rows (edits.Put row) = refl
edited_is rows (edits.Change path change modified) = change_is rows path change modified (row_at rows path)
edited_is rows (edits.Touch path modified) = touch_is rows path modified (row_at rows path)
edited_is rows (edits.Remove path) = removal_is rows path (row_at rows path) refl

-- ---- what is made is of the rows

record IsOf (rows : List Row) (one : Made) : Type 0 where
  was : one.was ≡ is_row rows one.path
  path : (r : Row) → one.row ≡ Some r → r.path ≡ one.path

of_replaced : (rows : List Row) (path : List ℕ) (new : Row) (one : Made) → is_row rows path ≡ true → new.path ≡ path → Some (made_of path (Some new) true) ≡ Some one → IsOf rows one
of_replaced rows path new one here at e =
    let same : made_of path (Some new) true ≡ one = cc in
    subst (IsOf rows) same (record { was = sym here; path = λ r k. (let is : new ≡ r = cc in ap (λ (x : Row). x.path) (sym is) ∙ at) })

changed_path : (change : Change) (modified : Moment) (r new : Row) (content : Content) → changed_row change modified r content ≡ Some new → new.path ≡ r.path
changed_path change modified r new (contents.Graph triples) h = by_test (has_triples triples change.removed) h
  where
    by_test : (t : Bool) → cond t (Some (with_content r (contents.Graph (changed_graph triples change.removed change.added)) modified)) None ≡ Some new → new.path ≡ r.path
    by_test true k = let same : with_content r (contents.Graph (changed_graph triples change.removed change.added)) modified ≡ new = cc in ap (λ (x : Row). x.path) (sym same)
    by_test false k = absurd cc
changed_path change modified r new (contents.Bytes ctype bytes) h = absurd cc

of_change : (rows : List Row) (path : List ℕ) (change : Change) (modified : Moment) (o : Option Row) (one : Made) → row_at rows path ≡ o → made_by_change path change modified o ≡ Some one → IsOf rows one
of_change rows path change modified None one f e = absurd cc
of_change rows path change modified (Some row) one f e = by_new (changed_row change modified row row.content) refl e
  where
    by_new : (n : Option Row) → changed_row change modified row row.content ≡ n → replaced path n ≡ Some one → IsOf rows one
    by_new None c k = absurd cc
    by_new (Some new) c k = of_replaced rows path new one (is_found rows path row f) (changed_path change modified row new row.content c ∙ found_path rows path row f) k

of_touch : (rows : List Row) (path : List ℕ) (modified : Moment) (o : Option Row) (one : Made) → row_at rows path ≡ o → made_by_touch path modified o ≡ Some one → IsOf rows one
of_touch rows path modified None one f e = absurd cc
of_touch rows path modified (Some row) one f e = of_replaced rows path (with_moment row modified) one (is_found rows path row f) (found_path rows path row f) e

of_removal : (rows : List Row) (path : List ℕ) (o : Option Row) (one : Made) → row_at rows path ≡ o → made_by_removal path o ≡ Some one → IsOf rows one
of_removal rows path None one f e = absurd cc
of_removal rows path (Some row) one f e =
    let same : made_of path None true ≡ one = cc in
    subst (IsOf rows) same (record { was = sym (is_found rows path row f); path = λ r k. absurd cc })

of_edit : (rows : List Row) (edit : Edit) (one : Made) → made_by edit (row_at rows (path_of edit)) ≡ Some one → IsOf rows one
of_edit rows (edits.Put new) one e =
    let same : made_of new.path (Some new) (is_some (row_at rows new.path)) ≡ one = cc in
    subst (IsOf rows) same (record { was = refl; path = λ r k. (let is : new ≡ r = cc in ap (λ (x : Row). x.path) (sym is)) })
of_edit rows (edits.Change path change modified) one e = of_change rows path change modified (row_at rows path) one refl e
of_edit rows (edits.Touch path modified) one e = of_touch rows path modified (row_at rows path) one refl e
of_edit rows (edits.Remove path) one e = of_removal rows path (row_at rows path) one refl e

-- ---- the rows with it

other_way : (p q : List ℕ) → bytes_eq p q ≡ bytes_eq q p
other_way p q = by_test (bytes_eq q p) refl
  where
    by_test : (b : Bool) → bytes_eq q p ≡ b → bytes_eq p q ≡ b
    by_test true t = (bytes_eq-Decides p q).1 (sym ((bytes_eq-Decides q p).0 t))
    by_test false t = false_from_ne_true (bytes_eq p q) (λ s. true≢false (sym ((bytes_eq-Decides q p).1 (sym ((bytes_eq-Decides p q).0 s))) ∙ t))

with_found : (rows : List Row) (path : List ℕ) (o : Option Row) (q : List ℕ) → ((r : Row) → o ≡ Some r → r.path ≡ path) → row_at (rows_with rows path o) q ≡ cond (bytes_eq path q) o (row_at rows q)
with_found rows path None q f = removed_found rows path q ∙ ap (λ (b : Bool). cond b None (row_at rows q)) (other_way q path)
with_found rows path (Some r) q f = put_found rows r q ∙ ap (λ (p : List ℕ). cond (bytes_eq p q) (Some r) (row_at rows q)) (f r refl)

with_order : (rows : List Row) (path : List ℕ) (o : Option Row) → AreInOrder rows → AreInOrder (rows_with rows path o)
with_order rows path None h = order_filter (λ row. not (bytes_eq row.path path)) rows h
with_order rows path (Some r) h = order_put rows r h

with_count : (rows : List Row) (path : List ℕ) (o : Option Row) → AreInOrder rows → ((r : Row) → o ≡ Some r → r.path ≡ path) → length (rows_with rows path o) + one_if (is_row rows path) ≡ length rows + one_if (is_some o)
with_count rows path None h f = omega (arith, removed_count rows path h)
with_count rows path (Some r) h f = subst (λ (p : List ℕ). length (put_row rows r) + one_if (is_row rows p) ≡ length rows + 1) (f r refl) (put_count rows r h)

-- ---- steps

made_first : (old : List Row) → AreInOrder old → HasMade old [] []
unfolding added gone
made_first old h = record { rows = old; after = refl; order = h; found = λ path. refl; count = refl }

pub made_none : (old : List Row) (made : List Made) → AreInOrder old → made ≡ [] → HasMade old [] made
made_none old made h m = subst (HasMade old []) (sym m) (made_first old h)

made_more : (old : List Row) (steps : List Edit) (made : List Made) (edit : Edit) (one : Made) → HasMade old steps made → made_by edit (found_in old made (path_of edit)) ≡ Some one → HasMade old (steps ++ edit ∷ []) (one ∷ made)
made_more old steps made edit one h e = record {
  rows = rows_with h.rows one.path one.row;
  after = edits_append (Some old) steps (edit ∷ []) ∙ ap (λ (o : Option (List Row)). edited_if o edit) h.after ∙ edited_is h.rows edit ∙ ap (rows_if h.rows) is_made;
  order = with_order h.rows one.path one.row h.order;
  found = λ q. with_found h.rows one.path one.row q is_of.path ∙ ap (cond (bytes_eq one.path q) one.row) (h.found q) ∙ sym (found_more old made one q);
  count = omega (arith, with_count h.rows one.path one.row h.order is_of.path, ap one_if is_of.was, h.count, added_more one made, gone_more one made);
}
  where
    is_made : made_by edit (row_at h.rows (path_of edit)) ≡ Some one
    is_made = ap (made_by edit) (h.found (path_of edit)) ∙ e

    is_of : IsOf h.rows one
    is_of = of_edit h.rows edit one is_made

-- an edit of a loop
pub made_next : (old : List Row) (steps : List Edit) (i : ℕ) (edit : Edit) (made more : List Made) (one : Made) → i < length steps → edit ≡ get_or steps i edit
    → HasMade old (take i steps) made → made_by edit (found_in old made (path_of edit)) ≡ Some one → more ≡ one ∷ made → HasMade old (take (i + 1) steps) more
made_next old steps i edit made more one l is h e all =
    subst (λ (xs : List Edit). HasMade old xs more) (ap (λ (x : Edit). take i steps ++ x ∷ []) is ∙ sym (take_more steps i edit l))
    (subst (HasMade old (take i steps ++ edit ∷ [])) (sym all) (made_more old (take i steps) made edit one h e))

pub made_stopped : (old : List Row) (steps : List Edit) (i : ℕ) (edit : Edit) (made : List Made) → i < length steps → edit ≡ get_or steps i edit
    → HasMade old (take i steps) made → made_by edit (found_in old made (path_of edit)) ≡ None → after_edits (Some old) steps ≡ None
made_stopped old steps i edit made l is h e =
    edits_stopped (Some old) steps (i + 1)
    (edits_more (Some old) steps i edit l ∙ ap (λ (o : Option (List Row)). edited_if o (get_or steps i edit)) h.after ∙ ap (edited h.rows) (sym is)
    ∙ edited_is h.rows edit ∙ ap (rows_if h.rows) (ap (made_by edit) (h.found (path_of edit)) ∙ e))

pub made_all : (old : List Row) (steps : List Edit) (i : ℕ) (made : List Made) → length steps ≤ i → HasMade old (take i steps) made → HasMade old steps made
made_all old steps i made l h = subst (λ (xs : List Edit). HasMade old xs made) (take_all i steps l) h
