-- The edits of each kind of change apply where nothing is in the way.
use Rattle.std.proofs.Common.{◌≡◌, ◌<◌, ◌≤◌, ◌+◌, ◌^◌, ℕ, zero, suc, Bool, true, false, not, cond, ◌||◌, ◌&&◌, List, [], ◌∷◌, ◌++◌, length, map, Option, Some, None, Ok, refl, sym, ap, ◌∙◌, arith, ⊎_elim, inl, inr, ◌⊎◌, length-append}
use Rattle.std.specs.Prelude.{is_some, bytes_eq, nat_lt, codes}
use Rattle.std.specs.List.{list_any}
use Rattle.std.proofs.lemmas.Bool.{and_parts, and_from, or_parts, or_left, or_right, false≢true, true≢false, false_from_ne_true, le-leb, cases_lt, lt-ltb}
use Rattle.std.proofs.lemmas.List.{map-append}
use Rattle.std.proofs.lemmas.Slice.Eq.{bytes_eq-Decides}
use Rattle.pod_base.specs.declared.moment.Moment.{Moment}
use Rattle.pod_command.specs.declared.edit.Edit.{Edit}
use Rattle.pod_command.specs.declared.edit.Edit.TheVariants as edits
use Rattle.pod_command.specs.declared.entry.Entry.{Entry}
use Rattle.pod_command.specs.declared.row.Content.{Content}
use Rattle.pod_command.specs.declared.row.Content.TheVariants as contents
use Rattle.pod_command.specs.declared.row.Kind.{Kind}
use Rattle.pod_command.specs.declared.row.Kind.TheVariants as kinds
use Rattle.pod_command.specs.declared.row.Row.{Row}
use Rattle.pod_path.specs.Hierarchy.{root, is_root, is_container, is_auxiliary, parent_of, twin_of}
use Rattle.pod_path.specs.Norm.{IsPath, norm}
use Rattle.pod_path.proofs.Ancestors.{parent_front, parent_normal}
use Rattle.pod_path.proofs.NormalPaths.{parts_of}
use Rattle.rdf_graph.specs.declared.triple.Triple.{Triple}
use Rattle.pod_rows.specs.Apply.{Applies, applied, after_edits, edited_if, with_rows, with_rows_if, put_row, with_moment, touch_found}
use Rattle.pod_rows.specs.Pod.{Pod, row_at, is_row, is_row_of}
use Rattle.pod_rows.specs.Tree.{ancestors}
use Rattle.pod_rows.specs.View.{triples_in}
use Rattle.pod_rows.specs.WellFormed.{WellFormed, fits_kind, is_container_kind, is_subject_row, lacks_contained, lacks_containment, guards_content}
use Rattle.pod_rows.specs.declared.limits.TheConstants.{ROWS_LIMIT}
use Rattle.pod_rows.proofs.Steps.{edits_append}
use Rattle.pod_edits.specs.Allowed.{HasNumber, IsFitting, CanCreate}
use Rattle.pod_edits.specs.Edits.{container_row, put_container, touch_if, creation_edits}
use Rattle.pod_edits.specs.Places.{nearest_of, missing_of, IsPlaceOf}
use Rattle.pod_edits.specs.declared.new_row_place.Place.{Place}
use Rattle.pod_edits.specs.Refusals.{added_rows, breaks_guard, exceeds_rows, is_root_list, lacks_number, meets_twin, states_containment}
use Rattle.pod_edits.proofs.FoundRows.{found_path, is_found, found_row, put_found, put_here, put_beside, one_more}
use Rattle.pod_edits.proofs.Places.{has_twin_row, has_a_parent, no_parent, missing_none, missing_more, nearest_row}
use Rattle.pod_edits.proofs.Transfer.{IsPlaced, IsRight, put_new, touched}
use Rattle.pod_edits.proofs.Trees.{ancestors_step, parent_is_path, parent_shorter, parent_closed, path_of_norm, container_plain, no_subject, twin_longer}

-- ---- tests as facts

pub room_left : (rows : List Row) (added : ℕ) → exceeds_rows rows added ≡ false → length rows + added ≤ ROWS_LIMIT
unfolding exceeds_rows
room_left rows added h = ⊎_elim (λ (l : ROWS_LIMIT < length rows + added). absurd (true≢false (sym (lt_test l) ∙ h))) (λ (l : length rows + added ≤ ROWS_LIMIT). l) (cases_lt ROWS_LIMIT (length rows + added))
  where
    lt_test : ROWS_LIMIT < length rows + added → nat_lt ROWS_LIMIT (length rows + added) ≡ true
    lt_test l = lt-ltb ROWS_LIMIT (length rows + added) l

number_left : (next : ℕ) → lacks_number next ≡ false → next < 2 ^ 63
unfolding lacks_number
number_left next h = ⊎_elim (λ (l : next < 2 ^ 63). l) (λ (l : 2 ^ 63 ≤ next). absurd (true≢false (sym (le-leb (2 ^ 63) next l) ∙ h))) (cases_lt next (2 ^ 63))

pub plain_added : (rows : List Row) (path : List ℕ) → is_auxiliary path ≡ false → added_rows rows path ≡ suc (length (missing_of rows path))
unfolding added_rows
plain_added rows path h = ap (λ (b : Bool). cond b 1 (suc (length (missing_of rows path)))) h

pub auxiliary_added : (rows : List Row) (path : List ℕ) → is_auxiliary path ≡ true → added_rows rows path ≡ 1
unfolding added_rows
auxiliary_added rows path h = ap (λ (b : Bool). cond b 1 (suc (length (missing_of rows path)))) h

pub member_added : (p : Pod) (path above : List ℕ) → WellFormed p → IsPath path → parent_of path ≡ Some above → is_row p.rows above ≡ true → added_rows p.rows path ≡ 1
unfolding added_rows
member_added p path above w h e here =
    ap (λ (n : ℕ). cond (is_auxiliary path) 1 (suc n)) (ap length (missing_none p path above w h e here)) ∙ one (is_auxiliary path)
  where
    one : (b : Bool) → cond b 1 (suc 0) ≡ 1
    one true = refl
    one false = refl

pub place_added : (rows : List Row) (path : List ℕ) (place : Place) → is_auxiliary path ≡ false → IsPlaceOf rows path place → length place.missing.items + 1 ≡ added_rows rows path
place_added rows path place plain i = omega (arith, ap length i.missing, plain_added rows path plain)

-- a container's row has a container's path
pub container_path : (path : List ℕ) (kind : Kind) (content : Content) → fits_kind path kind content ≡ true → is_container_kind kind ≡ true → is_container path ≡ true
container_path path kinds.Container content h c = (and_parts (is_container path) _ h).0
container_path path kinds.Acl content h c = absurd (false≢true c)
container_path path kinds.Meta content h c = absurd (false≢true c)
container_path path kinds.Graph content h c = absurd (false≢true c)
container_path path kinds.Bytes content h c = absurd (false≢true c)

pub no_statement : (path : List ℕ) (triples : List Triple) → states_containment path triples ≡ false → is_container path ≡ true → lacks_containment triples ≡ true
unfolding states_containment
no_statement path triples h c = negated (lacks_containment triples) (sym (ap (λ (b : Bool). b && not (lacks_containment triples)) c) ∙ h)
  where
    negated : (b : Bool) → not b ≡ false → b ≡ true
    negated true e = refl
    negated false e = absurd (true≢false e)

pub right_row : (r : Row) → IsFitting r → IsRight r
right_row r f = record { kind = f.kind; containment = by_kind (is_container_kind r.kind) refl }
  where
    by_content : (content : Content) → states_containment r.path (triples_in content) ≡ false → is_container r.path ≡ true → lacks_contained content ≡ true
    by_content (contents.Graph triples) h c = no_statement r.path triples h c
    by_content (contents.Bytes ctype bytes) h c = refl

    by_kind : (b : Bool) → is_container_kind r.kind ≡ b → (not b || lacks_contained r.content) ≡ true
    by_kind true e = by_content r.content f.containment (container_path r.path r.kind r.content f.kind e)
    by_kind false e = refl

pub guard_kept : (p : Pod) (path : List ℕ) (content : Content) → breaks_guard p path (triples_in content) ≡ false → (fits : (kind : Kind) × (fits_kind path kind content ≡ true)) → is_root_list path ≡ true → guards_content p content ≡ true
unfolding breaks_guard
guard_kept p path (contents.Graph triples) h fits is = negated (guards_content p (contents.Graph triples)) (sym (ap (λ (b : Bool). b && not (guards_content p (contents.Graph triples))) is) ∙ h)
  where
    negated : (b : Bool) → not b ≡ false → b ≡ true
    negated true e = refl
    negated false e = absurd (true≢false e)
guard_kept p path (contents.Bytes ctype bytes) h (kind, fits) is = absurd (no_bytes kind (ap (λ (q : List ℕ). fits_kind q kind (contents.Bytes ctype bytes)) (sym ((bytes_eq-Decides path (codes "/.acl")).0 is)) ∙ fits))
  where
    no_bytes : (kind : Kind) → fits_kind (codes "/.acl") kind (contents.Bytes ctype bytes) ≡ true → ⊥
    no_bytes kinds.Container e = false≢true e
    no_bytes kinds.Acl e = false≢true e
    no_bytes kinds.Meta e = false≢true e
    no_bytes kinds.Graph e = false≢true e
    no_bytes kinds.Bytes e = false≢true e

-- ---- an entry of edits

-- the edits of an entry lead to these rows
pub record LeadsTo (p : Pod) (list : List Edit) (rows : List Row) : Type 0 where
  pub edits : after_edits (Some p.rows) list ≡ Some rows
  pub well_formed : WellFormed (with_rows p rows)

pub entry_applies : (p : Pod) (next : ℕ) (entry : Entry) (list : List Edit) (rows : List Row) → HasNumber next entry → entry.edits.items ≡ list → LeadsTo p list rows → Applies p next entry
entry_applies p next entry list rows n e l = record {
  number = n.seq;
  numbered = number_left next n.number;
  rows = rows;
  edits = ap (after_edits (Some p.rows)) e ∙ l.edits;
  well_formed = l.well_formed;
}

pub entry_rows : (p : Pod) (entry : Entry) (list : List Edit) (rows : List Row) → entry.edits.items ≡ list → LeadsTo p list rows → (applied p entry).rows ≡ rows
entry_rows p entry list rows e l = ap (λ (o : Option (List Row)). (with_rows_if p o).rows) (ap (after_edits (Some p.rows)) e ∙ l.edits)

-- ---- missing containers

-- the rows with the missing containers above a path
record HasAbove (p : Pod) (path : List ℕ) (rows : List Row) (modified : Moment) : Type 0 where
  leads : LeadsTo p (map (put_container modified) (missing_of p.rows path)) rows
  from : (q : List ℕ) → is_row rows q ≡ true → (is_row p.rows q ≡ true) ⊎ ((is_container q ≡ true) × (length q < length path))
  kept : (q : List ℕ) (r : Row) → row_at p.rows q ≡ Some r → row_at rows q ≡ Some r
  above : (q : List ℕ) → parent_of path ≡ Some q → is_row rows q ≡ true
  size : length rows ≤ length p.rows + length (missing_of p.rows path)

-- no twin of an ancestor is a row
no_twin_above : (rows : List Row) (path above : List ℕ) → IsPath path → parent_of path ≡ Some above → list_any (has_twin_row rows) (ancestors path) ≡ false → (has_twin_row rows above ≡ false) × (list_any (has_twin_row rows) (ancestors above) ≡ false)
no_twin_above rows path above h e none = or_parts (has_twin_row rows above) (list_any (has_twin_row rows) (ancestors above)) (sym (ap (list_any (has_twin_row rows)) (ancestors_step path above h e)) ∙ none)

-- a new row is placed among the rows with its missing containers
new_placed : (p : Pod) (path : List ℕ) (rows : List Row) (modified : Moment) → WellFormed p → norm path ≡ Ok path → is_auxiliary path ≡ false → has_twin_row p.rows path ≡ false → HasAbove p path rows modified → IsPlaced rows path
new_placed p path rows modified w normal plain twin h = record {
  normal = normal;
  parent = by_parent (parent_of path) refl;
  twin = by_twin (twin_of path) refl twin;
  subject = ap (is_subject_row rows) (no_subject path plain);
}
  where
    is_path : IsPath path
    is_path = path_of_norm path normal

    by_parent : (o : Option (List ℕ)) → parent_of path ≡ o → (is_root path || is_row_of rows o) ≡ true
    by_parent None e = or_left (is_root path) false ((bytes_eq-Decides path root).1 (no_parent path e))
    by_parent (Some q) e = or_right (is_root path) (is_row rows q) (h.above q e)

    by_twin : (o : Option (List ℕ)) → twin_of path ≡ o → is_row_of p.rows o ≡ false → is_row_of rows o ≡ false
    by_twin None e none = refl
    by_twin (Some q) e none = false_from_ne_true (is_row rows q) (λ t. by_from (h.from q t))
      where
        by_from : (is_row p.rows q ≡ true) ⊎ ((is_container q ≡ true) × (length q < length path)) → ⊥
        by_from (inl old) = true≢false (sym old ∙ none)
        by_from (inr new) = absurd (omega (arith, new.1, twin_longer path q is_path e new.0))

container_right : (modified : Moment) (path : List ℕ) → is_container path ≡ true → IsRight (container_row modified path)
container_right modified path c = record { kind = and_from (is_container path) true c refl; containment = refl }

-- no containers are missing
none_above : (p : Pod) (path above : List ℕ) (modified : Moment) → WellFormed p → IsPath path → parent_of path ≡ Some above → is_row p.rows above ≡ true → HasAbove p path p.rows modified
none_above p path above modified w h e here =
    let none = missing_none p path above w h e here in
    record {
      leads = record { edits = ap (λ (ps : List (List ℕ)). after_edits (Some p.rows) (map (put_container modified) ps)) none; well_formed = w };
      from = λ q t. inl t;
      kept = λ q r f. f;
      above = λ q f. (let both : Some above ≡ Some q = sym e ∙ f in let same : above ≡ q = cc in ap (is_row p.rows) (sym same) ∙ here);
      size = omega (arith, ap length none);
    }

-- one more container
one_above : (p : Pod) (path above : List ℕ) (rows : List Row) (modified : Moment) → WellFormed p → IsPath path → parent_of path ≡ Some above → is_row p.rows above ≡ false
    → norm above ≡ Ok above → has_twin_row p.rows above ≡ false → length p.rows + length (missing_of p.rows path) ≤ ROWS_LIMIT
    → HasAbove p above rows modified → HasAbove p path (put_row rows (container_row modified above)) modified
one_above p path above rows modified w h e absent normal twin room i = record {
  leads = record {
    edits = ap (λ (ps : List (List ℕ)). after_edits (Some p.rows) (map (put_container modified) ps)) more
        ∙ ap (after_edits (Some p.rows)) (map-append (put_container modified) (missing_of p.rows above) (above ∷ []))
        ∙ edits_append (Some p.rows) (map (put_container modified) (missing_of p.rows above)) (put_container modified above ∷ [])
        ∙ ap (λ (o : Option (List Row)). edited_if o (put_container modified above)) i.leads.edits;
    well_formed = put_new (with_rows p rows) new i.leads.well_formed other
        (new_placed p above rows modified w normal (container_plain above closed) twin i) (container_right modified above closed) (omega (arith, i.size, long, room));
  };
  from = from;
  kept = λ q r f. put_beside rows new q (beside q (is_found p.rows q r f)) ∙ i.kept q r f;
  above = λ q f. (let both : Some above ≡ Some q = sym e ∙ f in let same : above ≡ q = cc in ap (is_row (put_row rows new)) (sym same) ∙ ap is_some (put_here rows new));
  size = omega (arith, one_more rows new, i.size, long);
}
  where
    new : Row
    new = container_row modified above

    closed : is_container above ≡ true
    closed = parent_closed path above h e

    more : missing_of p.rows path ≡ missing_of p.rows above ++ above ∷ []
    more = missing_more p.rows path above h e absent

    long : length (missing_of p.rows path) ≡ length (missing_of p.rows above) + 1
    long = ap length more ∙ length-append (missing_of p.rows above) (above ∷ [])

    not_same : (q : List ℕ) → (above ≡ q → ⊥) → bytes_eq above q ≡ false
    not_same q f = false_from_ne_true (bytes_eq above q) (λ t. f ((bytes_eq-Decides above q).0 t))

    beside : (q : List ℕ) → is_row p.rows q ≡ true → bytes_eq above q ≡ false
    beside q t = not_same q (λ same. true≢false (sym t ∙ ap (is_row p.rows) (sym same) ∙ absent))

    other : is_row rows above ≡ false
    other = false_from_ne_true (is_row rows above) (λ t. by_from (i.from above t))
      where
        by_from : (is_row p.rows above ≡ true) ⊎ ((is_container above ≡ true) × (length above < length above)) → ⊥
        by_from (inl old) = true≢false (sym old ∙ absent)
        by_from (inr less) = absurd (omega (arith, less.1))

    from : (q : List ℕ) → is_row (put_row rows new) q ≡ true → (is_row p.rows q ≡ true) ⊎ ((is_container q ≡ true) × (length q < length path))
    from q t = by_test (bytes_eq above q) refl (sym (ap is_some (put_found rows new q)) ∙ t)
      where
        shorter : length above < length path
        shorter = parent_shorter path above h e

        by_from : (is_row p.rows q ≡ true) ⊎ ((is_container q ≡ true) × (length q < length above)) → (is_row p.rows q ≡ true) ⊎ ((is_container q ≡ true) × (length q < length path))
        by_from (inl old) = inl old
        by_from (inr less) = inr (less.0, omega (arith, less.1, shorter))

        by_test : (b : Bool) → bytes_eq above q ≡ b → is_some (cond b (Some new) (row_at rows q)) ≡ true → (is_row p.rows q ≡ true) ⊎ ((is_container q ≡ true) × (length q < length path))
        by_test true same k = let is = (bytes_eq-Decides above q).0 same in inr (ap is_container (sym is) ∙ closed, omega (arith, ap length is, shorter))
        by_test false same k = by_from (i.from q k)

record AboveRows (p : Pod) (path : List ℕ) (modified : Moment) : Type 0 where
  rows : List Row
  has : HasAbove p path rows modified

built : (p : Pod) (modified : Moment) → WellFormed p → (n : ℕ) (path : List ℕ) → length path < n → norm path ≡ Ok path → is_row p.rows path ≡ false
    → list_any (has_twin_row p.rows) (ancestors path) ≡ false → length p.rows + length (missing_of p.rows path) ≤ ROWS_LIMIT → AboveRows p path modified
built p modified w zero path low normal absent none room = absurd (omega (arith, low))
built p modified w (suc n) path low normal absent none room = by_parent (parent_of path) refl (built p modified w n)
  where
    is_path : IsPath path
    is_path = path_of_norm path normal

    by_parent : (o : Option (List ℕ)) → parent_of path ≡ o
        → ((above : List ℕ) → length above < n → norm above ≡ Ok above → is_row p.rows above ≡ false → list_any (has_twin_row p.rows) (ancestors above) ≡ false
        → length p.rows + length (missing_of p.rows above) ≤ ROWS_LIMIT → AboveRows p above modified)
        → AboveRows p path modified
    by_parent None e more = absurd (has_a_parent p path w absent e)
    by_parent (Some above) e more = by_row (is_row p.rows above) refl
      where
        by_row : (b : Bool) → is_row p.rows above ≡ b → AboveRows p path modified
        by_row true here = record { rows = p.rows; has = none_above p path above modified w is_path e here }
        by_row false off =
            let ha = parent_is_path path above is_path e in
            let na = parent_normal path above is_path ha (parent_front path above (parts_of path is_path).characters e) normal in
            let twins = no_twin_above p.rows path above is_path e none in
            let long : length (missing_of p.rows path) ≡ length (missing_of p.rows above) + 1 = ap length (missing_more p.rows path above is_path e off) ∙ length-append (missing_of p.rows above) (above ∷ []) in
            let further = more above (omega (arith, low, parent_shorter path above is_path e)) na off twins.1 (omega (arith, room, long)) in
            record { rows = put_row further.rows (container_row modified above); has = one_above p path above further.rows modified w is_path e off na twins.0 room further.has }

-- ---- a new row

pub record Creates (p : Pod) (r : Row) : Type 0 where
  pub rows : List Row
  pub leads : LeadsTo p (creation_edits p.rows r) rows
  pub there : row_at rows r.path ≡ Some r

twin_parts : (rows : List Row) (path : List ℕ) → meets_twin rows path ≡ false → (has_twin_row rows path ≡ false) × (list_any (has_twin_row rows) (ancestors path) ≡ false)
unfolding meets_twin
twin_parts rows path h = or_parts (has_twin_row rows path) (list_any (has_twin_row rows) (ancestors path)) h

created : (p : Pod) (r : Row) (rows : List Row) → HasAbove p r.path rows r.modified → WellFormed (with_rows p (put_row rows r)) → is_row p.rows r.path ≡ false → Creates p r
unfolding creation_edits
created p r rows h w absent = by_nearest (nearest_of p.rows r.path) refl
  where
    first : List Edit
    first = map (put_container r.modified) (missing_of p.rows r.path)

    run : (rest : List Edit) → after_edits (Some p.rows) (first ++ edits.Put r ∷ rest) ≡ after_edits (Some (put_row rows r)) rest
    run rest = edits_append (Some p.rows) first (edits.Put r ∷ rest) ∙ ap (λ (o : Option (List Row)). after_edits o (edits.Put r ∷ rest)) h.leads.edits

    by_nearest : (o : Option (List ℕ)) → nearest_of p.rows r.path ≡ o → Creates p r
    by_nearest None e = record {
      rows = put_row rows r;
      leads = record { edits = ap (λ (o : Option (List ℕ)). after_edits (Some p.rows) (first ++ edits.Put r ∷ touch_if o r.modified)) e ∙ run []; well_formed = w };
      there = put_here rows r;
    }
    by_nearest (Some q) e =
        let here = nearest_row p.rows r.path q e in
        let old = found_row p.rows q here in
        let apart : bytes_eq r.path q ≡ false = false_from_ne_true (bytes_eq r.path q) (λ t. true≢false (sym here ∙ ap (is_row p.rows) (sym ((bytes_eq-Decides r.path q).0 t)) ∙ absent)) in
        let found : row_at (put_row rows r) q ≡ Some old.0 = put_beside rows r q apart ∙ h.kept q old.0 old.1 in
        let new = with_moment old.0 r.modified in
        let is : old.0.path ≡ q = found_path p.rows q old.0 old.1 in
        let other : bytes_eq old.0.path r.path ≡ false = false_from_ne_true (bytes_eq old.0.path r.path) (λ t. true≢false (sym here ∙ ap (is_row p.rows) (sym is ∙ (bytes_eq-Decides old.0.path r.path).0 t) ∙ absent)) in
        record {
          rows = put_row (put_row rows r) new;
          leads = record {
            edits = ap (λ (o : Option (List ℕ)). after_edits (Some p.rows) (first ++ edits.Put r ∷ touch_if o r.modified)) e
                ∙ run (edits.Touch q r.modified ∷ []) ∙ ap (touch_found (put_row rows r) r.modified) found;
            well_formed = touched (with_rows p (put_row rows r)) q old.0 r.modified w found;
          };
          there = put_beside (put_row rows r) new r.path other ∙ put_here rows r;
        }

pub creates : (p : Pod) (r : Row) → WellFormed p → CanCreate p r → Creates p r
creates p r w can =
    let twins = twin_parts p.rows r.path can.twin in
    let room = room_left p.rows (added_rows p.rows r.path) can.room in
    let added = plain_added p.rows r.path can.plain in
    let b = built p r.modified w (suc (length r.path)) r.path (omega arith) can.fitting.path can.absent twins.1 (omega (arith, room, added)) in
    let is = new_placed p r.path b.rows r.modified w can.fitting.path can.plain twins.0 b.has in
    created p r b.rows b.has
    (put_new (with_rows p b.rows) r b.has.leads.well_formed (other b) is (right_row r can.fitting) (omega (arith, b.has.size, room, added))) can.absent
  where
    other : (b : AboveRows p r.path r.modified) → is_row b.rows r.path ≡ false
    other b = false_from_ne_true (is_row b.rows r.path) (λ t. by_from (b.has.from r.path t))
      where
        by_from : (is_row p.rows r.path ≡ true) ⊎ ((is_container r.path ≡ true) × (length r.path < length r.path)) → ⊥
        by_from (inl old) = true≢false (sym old ∙ can.absent)
        by_from (inr less) = absurd (omega (arith, less.1))
