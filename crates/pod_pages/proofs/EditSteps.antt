-- Edits one after another, and their effects.
use Rattle.std.proofs.Common.{◌≡◌, ◌+◌, ◌<◌, ℕ, Bool, true, false, cond, List, [], ◌∷◌, ◌++◌, length, take, get_or, filter, map, Option, Some, None, refl, sym, ap, ◌∙◌, subst, append_assoc}
use Rattle.std.specs.Prelude.{bytes_eq, nat_le}
use Rattle.std.proofs.lemmas.Bool.{true≢false, or_parts}
use Rattle.std.proofs.lemmas.List.{take_more}
use Rattle.pod_base.specs.declared.moment.Moment.{Moment}
use Rattle.rdf_graph.specs.declared.change.Change.{Change}
use Rattle.pod_command.specs.declared.edit.Edit.{Edit}
use Rattle.pod_command.specs.declared.edit.Edit.TheVariants as edits
use Rattle.pod_command.specs.declared.row.Content.{Content}
use Rattle.pod_command.specs.declared.row.Content.TheVariants as contents
use Rattle.pod_command.specs.declared.row.Row.{Row}
use Rattle.pod_rows.specs.Apply.{after_edits, edited, edited_if, put_row, remove_row, with_moment, with_content, changed_row, change_found, touch_found, remove_found, put_found as found_put}
use Rattle.pod_rows.specs.GraphSets.{changed_graph, has_triples}
use Rattle.pod_rows.specs.Pod.{row_at}
use Rattle.pod_rows.proofs.Steps.{edits_none, edits_more}
use Rattle.access_index.specs.Listing.{is_listed}
use Rattle.row_pages.specs.Items.{Placed, item_at, put_item, remove_item, rows_of}
use Rattle.pod_pages.specs.Edited.{AreMarkedBy, placed_by, list_if, own_mark_if, rows_if}
use Rattle.pod_pages.specs.Versions.{path_of_edit}
use Rattle.pod_pages.specs.Effects.{effects_if, effects_of, effect_of, kept_effects}
use Rattle.pod_pages.specs.declared.entry_effects.Effect.{Effect}
use Rattle.pod_pages.proofs.Found.{put_found, removed_found, found_path}
use Rattle.pod_pages.proofs.Placing.{marked_put, marked_removed, rows_put, rows_removed}

-- ---- one item

pub placed_some : (old : List Placed) (row : Row) (i x : Placed) (n : ℕ) (b : Bool) → item_at old row.path ≡ Some i → n ≡ i.list → b ≡ i.own → x ≡ (record { row = row; list = n; own = b }) → x ≡ placed_by old row
placed_some old row i x n b e en eb is =
    let with_own : Bool → Placed = λ y. record { row = row; list = n; own = y } in
    let with_list : ℕ → Placed = λ y. record { row = row; list = y; own = i.own } in
    let with_item : Option Placed → Placed = λ o. record { row = row; list = list_if o; own = own_mark_if o } in
    is ∙ ap with_own eb ∙ ap with_list en ∙ ap with_item (sym e)

pub placed_none : (old : List Placed) (row : Row) (x : Placed) → item_at old row.path ≡ None → x ≡ (record { row = row; list = 0; own = false }) → x ≡ placed_by old row
placed_none old row x e is =
    let with_item : Option Placed → Placed = λ o. record { row = row; list = list_if o; own = own_mark_if o } in
    is ∙ ap with_item (sym e)

pub put_rows : (old rows next : List Placed) (i : Placed) (row : Row) → i ≡ placed_by old row → next ≡ put_item rows i → rows_of next ≡ put_row (rows_of rows) row
put_rows old rows next i row is_i is_next = ap rows_of (is_next ∙ ap (put_item rows) is_i) ∙ rows_put rows (placed_by old row)

pub put_marks : (old rows next : List Placed) (i : Placed) (row : Row) → i ≡ placed_by old row → next ≡ put_item rows i → AreMarkedBy old rows → AreMarkedBy old next
put_marks old rows next i row is_i is_next h = subst (AreMarkedBy old) (sym (is_next ∙ ap (put_item rows) is_i)) (marked_put old rows row h)

pub removed_rows : (rows next : List Placed) (row : Row) (o : Option Row) → Some row ≡ o → next ≡ remove_item rows row.path → rows_if (Some next) ≡ remove_found (rows_of rows) o
removed_rows rows next row o e is = ap (λ (xs : List Row). Some xs) (ap rows_of is ∙ rows_removed rows row.path) ∙ ap (remove_found (rows_of rows)) e

pub removed_marks : (old rows next : List Placed) (p : List ℕ) → next ≡ remove_item rows p → AreMarkedBy old rows → AreMarkedBy old next
removed_marks old rows next p is h = subst (AreMarkedBy old) (sym is) (marked_removed old rows p h)

-- ---- effects of more edits

pub effects_append : (seq : ℕ) (o : Option (List Row)) (xs ys : List Edit) → effects_of seq o (xs ++ ys) ≡ effects_of seq o xs ++ effects_of seq (after_edits o xs) ys
effects_append seq o [] ys = refl
effects_append seq o (x ∷ xs) ys = ap (λ (es : List Effect). effects_if seq o x ++ es) (effects_append seq (edited_if o x) xs ys) ∙ sym (append_assoc (effects_if seq o x) (effects_of seq (edited_if o x) xs) (effects_of seq (after_edits (edited_if o x) xs) ys))

pub effects_more : (seq : ℕ) (rows now : List Row) (list : List Edit) (i : ℕ) (edit : Edit) (effect : Effect) (first old new : List Effect) → i < length list → edit ≡ get_or list i edit
    → after_edits (Some rows) (take i list) ≡ Some now → effect ≡ effect_of seq now edit → old ≡ first ++ effects_of seq (Some rows) (take i list) → new ≡ old ++ effect ∷ []
    → new ≡ first ++ effects_of seq (Some rows) (take (i + 1) list)
effects_more seq rows now list i edit effect first old new lt e done is before pushed =
    let more : effects_of seq (Some rows) (take (i + 1) list) ≡ effects_of seq (Some rows) (take i list) ++ (effect ∷ []) =
    ap (effects_of seq (Some rows)) (take_more list i edit lt ∙ ap (λ (x : Edit). take i list ++ x ∷ []) (sym e))
    ∙ effects_append seq (Some rows) (take i list) (edit ∷ [])
    ∙ ap (λ (o : Option (List Row)). effects_of seq (Some rows) (take i list) ++ (effects_if seq o edit ++ [])) done
    ∙ ap (λ (x : Effect). effects_of seq (Some rows) (take i list) ++ x ∷ []) (sym is) in
    pushed ∙ ap (λ (xs : List Effect). xs ++ effect ∷ []) before ∙ append_assoc first (effects_of seq (Some rows) (take i list)) (effect ∷ []) ∙ ap (λ (xs : List Effect). first ++ xs) (sym more)

pub rows_more : (rows now next : List Row) (list : List Edit) (i : ℕ) (edit : Edit) → i < length list → edit ≡ get_or list i edit
    → after_edits (Some rows) (take i list) ≡ Some now → edited now edit ≡ Some next → after_edits (Some rows) (take (i + 1) list) ≡ Some next
rows_more rows now next list i edit lt e done step =
    edits_more (Some rows) list i edit lt ∙ ap (λ (o : Option (List Row)). edited_if o (get_or list i edit)) done ∙ ap (edited now) (sym e) ∙ step

pub rows_stopped : (rows now : List Row) (list : List Edit) (i : ℕ) (edit : Edit) → i < length list → edit ≡ get_or list i edit
    → after_edits (Some rows) (take i list) ≡ Some now → edited now edit ≡ None → None ≡ after_edits (Some rows) list
rows_stopped rows now list i edit lt e done step =
    sym (Rattle.pod_rows.proofs.Steps.edits_stopped (Some rows) list (i + 1)
    (edits_more (Some rows) list i edit lt ∙ ap (λ (o : Option (List Row)). edited_if o (get_or list i edit)) done ∙ ap (edited now) (sym e) ∙ step))

-- ---- what edits leave

beside_put : (rows : List Row) (r : Row) (path q : List ℕ) → r.path ≡ path → bytes_eq path q ≡ false → row_at (put_row rows r) q ≡ row_at rows q
beside_put rows r path q e h =
    put_found (λ (x : Row). x.path) rows r q ∙ ap (λ (p : List ℕ). cond (bytes_eq p q) (Some r) (row_at rows q)) e ∙ ap (λ (b : Bool). cond b (Some r) (row_at rows q)) h

not_equal : (p q : List ℕ) → bytes_eq p q ≡ false → bytes_eq q p ≡ false
not_equal p q h = by_test (bytes_eq q p) refl
  where
    by_test : (b : Bool) → bytes_eq q p ≡ b → b ≡ false
    by_test true e = absurd (true≢false (sym ((Rattle.std.proofs.lemmas.Slice.Eq.bytes_eq-Decides p q).1 (sym ((Rattle.std.proofs.lemmas.Slice.Eq.bytes_eq-Decides q p).0 e))) ∙ h))
    by_test false e = refl

row_path : (rows : List Row) (q : List ℕ) (r : Row) → row_at rows q ≡ Some r → r.path ≡ q
row_path rows q r e = found_path (λ (x : Row). x.path) rows q r e

beside_change : (rows x : List Row) (path q : List ℕ) (change : Change) (modified : Moment) (o : Option Row) → row_at rows path ≡ o → change_found rows change modified o ≡ Some x → bytes_eq path q ≡ false → row_at x q ≡ row_at rows q
beside_change rows x path q change modified None f e h = absurd cc
beside_change rows x path q change modified (Some row) f e h = by_content row.content refl e
  where
    by_fit : (triples : List _) (b : Bool) → found_put rows (cond b (Some (with_content row (contents.Graph (changed_graph triples change.removed change.added)) modified)) None) ≡ Some x → row_at x q ≡ row_at rows q
    by_fit triples true k =
        let new : put_row rows (with_content row (contents.Graph (changed_graph triples change.removed change.added)) modified) ≡ x = cc in
        ap (λ (rs : List Row). row_at rs q) (sym new) ∙ beside_put rows (with_content row (contents.Graph (changed_graph triples change.removed change.added)) modified) path q (row_path rows path row f) h
    by_fit triples false k = absurd cc

    by_content : (content : Content) → row.content ≡ content → found_put rows (changed_row change modified row content) ≡ Some x → row_at x q ≡ row_at rows q
    by_content (contents.Graph triples) e k = by_fit triples (has_triples triples change.removed) k
    by_content (contents.Bytes ctype bytes) e k = absurd cc

beside_touch : (rows x : List Row) (path q : List ℕ) (modified : Moment) (o : Option Row) → row_at rows path ≡ o → touch_found rows modified o ≡ Some x → bytes_eq path q ≡ false → row_at x q ≡ row_at rows q
beside_touch rows x path q modified None f e h = absurd cc
beside_touch rows x path q modified (Some row) f e h =
    let new : put_row rows (with_moment row modified) ≡ x = cc in
    ap (λ (rs : List Row). row_at rs q) (sym new) ∙ beside_put rows (with_moment row modified) path q (row_path rows path row f) h

beside_remove : (rows x : List Row) (path q : List ℕ) (o : Option Row) → row_at rows path ≡ o → remove_found rows o ≡ Some x → bytes_eq path q ≡ false → row_at x q ≡ row_at rows q
beside_remove rows x path q None f e h = absurd cc
beside_remove rows x path q (Some row) f e h =
    let new : remove_row rows row.path ≡ x = cc in
    ap (λ (rs : List Row). row_at rs q) (sym new)
    ∙ removed_found (λ (r : Row). r.path) rows row.path q
    ∙ ap (λ (b : Bool). cond b None (row_at rows q)) (ap (bytes_eq q) (row_path rows path row f) ∙ not_equal path q h)

beside_edit : (rows x : List Row) (edit : Edit) (q : List ℕ) → edited rows edit ≡ Some x → bytes_eq (path_of_edit edit) q ≡ false → row_at x q ≡ row_at rows q
beside_edit rows x (edits.Put row) q e h =
    let new : put_row rows row ≡ x = cc in
    ap (λ (rs : List Row). row_at rs q) (sym new) ∙ beside_put rows row row.path q refl h
beside_edit rows x (edits.Change path change modified) q e h = beside_change rows x path q change modified (row_at rows path) refl e h
beside_edit rows x (edits.Touch path modified) q e h = beside_touch rows x path q modified (row_at rows path) refl e h
beside_edit rows x (edits.Remove path) q e h = beside_remove rows x path q (row_at rows path) refl e h

-- rows at other paths stay
pub beside_edits : (list : List Edit) (rows x : List Row) (q : List ℕ) → after_edits (Some rows) list ≡ Some x → is_listed (map path_of_edit list) q ≡ false → row_at x q ≡ row_at rows q
beside_edits [] rows x q e h = let same : rows ≡ x = cc in ap (λ (rs : List Row). row_at rs q) (sym same)
beside_edits (edit ∷ more) rows x q e h = by_first (edited rows edit) refl e (λ u. beside_edits more u x q)
  where
    parts : (bytes_eq (path_of_edit edit) q ≡ false) × (is_listed (map path_of_edit more) q ≡ false)
    parts = or_parts (bytes_eq (path_of_edit edit) q) (is_listed (map path_of_edit more) q) h

    by_first : (o : Option (List Row)) → edited rows edit ≡ o → after_edits o more ≡ Some x → ((u : List Row) → after_edits (Some u) more ≡ Some x → is_listed (map path_of_edit more) q ≡ false → row_at x q ≡ row_at u q) → row_at x q ≡ row_at rows q
    by_first None f k rest = let none : None ≡ Some x = sym (edits_none more) ∙ k in absurd cc
    by_first (Some u) f k rest = rest u k parts.1 ∙ beside_edit rows u edit q f parts.0

-- ---- effects that are kept

pub filter_append : (p : Effect → Bool) (xs ys : List Effect) → filter p (xs ++ ys) ≡ filter p xs ++ filter p ys
filter_append p [] ys = refl
filter_append p (x ∷ xs) ys = by_test (p x) (filter_append p xs ys)
  where
    by_test : (b : Bool) → filter p (xs ++ ys) ≡ filter p xs ++ filter p ys → cond b (x ∷ filter p (xs ++ ys)) (filter p (xs ++ ys)) ≡ cond b (x ∷ filter p xs) (filter p xs) ++ filter p ys
    by_test true more = ap (λ (zs : List Effect). x ∷ zs) more
    by_test false more = more

one_seq : (seq : ℕ) (rows : List Row) (edit : Edit) → (effect_of seq rows edit).seq ≡ seq
one_seq seq rows (edits.Put row) = refl
one_seq seq rows (edits.Change path change modified) = refl
one_seq seq rows (edits.Touch path modified) = refl
one_seq seq rows (edits.Remove path) = refl

pub all_new : (oldest seq : ℕ) → nat_le oldest seq ≡ true → (o : Option (List Row)) (list : List Edit) → kept_effects oldest (effects_of seq o list) ≡ effects_of seq o list
all_new oldest seq h o [] = refl
all_new oldest seq h None (edit ∷ more) = all_new oldest seq h None more
all_new oldest seq h (Some rows) (edit ∷ more) =
    ap (λ (b : Bool). cond b (effect_of seq rows edit ∷ kept_effects oldest (effects_of seq (edited rows edit) more)) (kept_effects oldest (effects_of seq (edited rows edit) more))) (ap (nat_le oldest) (one_seq seq rows edit) ∙ h)
    ∙ ap (λ (xs : List Effect). effect_of seq rows edit ∷ xs) (all_new oldest seq h (edited rows edit) more)

pub kept_all : (oldest seq : ℕ) (old : List Effect) (o : Option (List Row)) (list : List Edit) → nat_le oldest seq ≡ true
    → kept_effects oldest old ++ effects_of seq o list ≡ kept_effects oldest (old ++ effects_of seq o list)
kept_all oldest seq old o list h =
    ap (λ (xs : List Effect). kept_effects oldest old ++ xs) (sym (all_new oldest seq h o list)) ∙ sym (filter_append (λ (e : Effect). nat_le oldest e.seq) old (effects_of seq o list))
