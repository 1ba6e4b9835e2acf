-- The edits of the other kinds of change apply where nothing is in the way.
use Rattle.std.proofs.Common.{◌≡◌, ◌<◌, ◌≤◌, ℕ, Bool, true, false, not, cond, ◌||◌, ◌&&◌, List, [], ◌∷◌, ◌++◌, length, filter, map, Option, Some, None, Ok, refl, sym, ap, ◌∙◌, subst, arith, ⊎_elim, inl, inr, ◌⊎◌, length-append}
use Rattle.std.specs.Prelude.{is_some, bytes_eq, codes}
use Rattle.std.specs.List.{Contains}
use Rattle.std.proofs.lemmas.Bool.{and_parts, and_from, or_left, or_right, false≢true, true≢false, false_from_ne_true}
use Rattle.std.proofs.lemmas.List.{append_cancel_right}
use Rattle.std.proofs.lemmas.Slice.Eq.{bytes_eq-Decides}
use Rattle.iri_ref.specs.Characters.{slash}
use Rattle.rdf_graph.proofs.Members.{contains_cases, contains_here, contains_there, contains_none, contains_filter}
use Rattle.rdf_graph.specs.Term.{term_eq}
use Rattle.rdf_graph.specs.declared.change.Change.{Change}
use Rattle.rdf_graph.specs.declared.term.Term.TheVariants as terms
use Rattle.rdf_graph.specs.declared.triple.Triple.{Triple}
use Rattle.pod_base.specs.declared.moment.Moment.{Moment}
use Rattle.pod_command.specs.Encodable.{AreInOrder}
use Rattle.pod_command.specs.declared.edit.Edit.{Edit}
use Rattle.pod_command.specs.declared.edit.Edit.TheVariants as edits
use Rattle.pod_command.specs.declared.row.Content.{Content}
use Rattle.pod_command.specs.declared.row.Content.TheVariants as contents
use Rattle.pod_command.specs.declared.row.Kind.{Kind}
use Rattle.pod_command.specs.declared.row.Kind.TheVariants as kinds
use Rattle.pod_command.specs.declared.row.Row.{Row}
use Rattle.pod_path.specs.Hierarchy.{root, is_root, is_container, is_acl, is_meta, is_auxiliary, without_end, parent_of, twin_of, subject_of, acl_of, meta_of}
use Rattle.pod_path.specs.Norm.{IsPath, norm}
use Rattle.pod_path.proofs.Names.{ends_append}
use Rattle.pod_path.proofs.Suffixes.{meta_is_no_acl}
use Rattle.pod_rows.specs.Apply.{put_found as apply_found, after_edits, edited_if, with_rows, put_row, remove_row, with_moment, with_content, changed_row, change_found, touch_found, remove_found}
use Rattle.pod_rows.specs.GraphSets.{changed_graph, has_triple}
use Rattle.pod_rows.specs.Pod.{Pod, row_at, is_row, is_row_of}
use Rattle.pod_rows.specs.Tree.{is_child_of, is_the_path}
use Rattle.pod_rows.specs.View.{triples_in}
use Rattle.pod_rows.specs.Vocabulary.{ldp_contains}
use Rattle.pod_rows.specs.WellFormed.{WellFormed, has_right_kind, fits_kind, is_container_kind, is_document, is_subject_row, lacks_contained, lacks_containment, guards_content}
use Rattle.pod_rows.proofs.OrderedRows.{order_filter, itself}
use Rattle.pod_rows.proofs.Steps.{edits_append}
use Rattle.pod_rows.proofs.Sets.{graph_to}
use Rattle.pod_edits.specs.Allowed.{triples_of, CanAdd, CanReplace, CanChange, CanDelete, CanRemove}
use Rattle.pod_edits.specs.Edits.{touch_if, put_edits, change_edits, remove_if, deletion_edits, removal_edits}
use Rattle.pod_edits.specs.Refusals.{added_rows, breaks_guard, has_children, has_some, is_bytes, is_root_list, lacks_subject}
use Rattle.pod_edits.proofs.FoundRows.{found_path, is_found, found_row, not_found, put_here, put_beside, removed_found, fewer}
use Rattle.pod_edits.proofs.Places.{no_parent, parent_row}
use Rattle.pod_edits.proofs.Transfer.{IsPlaced, IsRight, placed_at, right_at, put_new, put_same, touched, gone_well}
use Rattle.pod_edits.proofs.Trees.{parent_closed, parent_shorter, path_of_norm, container_plain, auxiliary_parent, subject_plain, two_auxiliaries}
use Rattle.pod_edits.proofs.Built.{LeadsTo, room_left, auxiliary_added, no_statement, right_row, guard_kept, container_path}

-- rows with one at its path
pub record Puts (p : Pod) (list : List Edit) (r : Row) : Type 0 where
  pub rows : List Row
  pub leads : LeadsTo p list rows
  pub there : row_at rows r.path ≡ Some r

-- ---- a row in place of another

pub replaces : (p : Pod) (r : Row) → WellFormed p → CanReplace p r → Puts p (put_edits r) r
replaces p r w can = record {
  rows = put_row p.rows r;
  leads = record {
    edits = refl;
    well_formed = put_same p r w can.present (right_row r can.fitting) (guard_kept p r.path r.content can.guard (r.kind, can.fitting.kind));
  };
  there = put_here p.rows r;
}

-- ---- a new access list or description

subject_there : (rows : List Row) (path : List ℕ) → lacks_subject rows path ≡ false → is_subject_row rows (subject_of path) ≡ true
unfolding lacks_subject
subject_there rows path h = negated (is_subject_row rows (subject_of path)) h
  where
    negated : (b : Bool) → not b ≡ false → b ≡ true
    negated true e = refl
    negated false e = absurd (true≢false e)

auxiliary_has : (t : List ℕ) → is_auxiliary t ≡ true → (s : List ℕ) × (subject_of t ≡ Some s)
auxiliary_has t h = by_tests (is_acl t) (is_meta t) h refl
  where
    by_tests : (a b : Bool) → (a || b) ≡ true → subject_of t ≡ cond a (Some (without_end 4 t)) (cond b (Some (without_end 5 t)) None) → (s : List ℕ) × (subject_of t ≡ Some s)
    by_tests true b k e = (without_end 4 t, e)
    by_tests false true k e = (without_end 5 t, e)
    by_tests false false k e = absurd (false≢true k)

no_twin : (t : List ℕ) → is_auxiliary t ≡ true → twin_of t ≡ None
no_twin t h = ap (λ (b : Bool). cond b None (cond (is_container t) (Some (without_end 1 t)) (Some (t ++ slash ∷ [])))) (or_right (is_root t) (is_auxiliary t) h)

-- what has a row above it for its subject has a row for its parent
auxiliary_placed : (p : Pod) (t : List ℕ) → WellFormed p → norm t ≡ Ok t → is_auxiliary t ≡ true → is_subject_row p.rows (subject_of t) ≡ true → IsPlaced p.rows t
auxiliary_placed p t w normal h subject = record {
  normal = normal;
  parent = by_parent (parent_of t) refl;
  twin = ap (is_row_of p.rows) (no_twin t h);
  subject = subject;
}
  where
    is_path : IsPath t
    is_path = path_of_norm t normal

    by_subject : (q : List ℕ) → parent_of t ≡ Some q → (a : (s : List ℕ) × (subject_of t ≡ Some s)) → is_row p.rows q ≡ true
    by_subject q e (s, k) = by_end (auxiliary_parent t s is_path k)
      where
        here : is_row p.rows s ≡ true
        here = ap (is_subject_row p.rows) (sym k) ∙ subject

        by_end : ((is_container s ≡ true) × (parent_of t ≡ Some s)) ⊎ ((is_container s ≡ false) × (parent_of t ≡ parent_of s)) → is_row p.rows q ≡ true
        by_end (inl a) = let both : Some s ≡ Some q = sym a.1 ∙ e in let same : s ≡ q = cc in ap (is_row p.rows) (sym same) ∙ here
        by_end (inr a) = parent_row p s q w here (sym a.1 ∙ e)

    by_parent : (o : Option (List ℕ)) → parent_of t ≡ o → (is_root t || is_row_of p.rows o) ≡ true
    by_parent None e = or_left (is_root t) false ((bytes_eq-Decides t root).1 (no_parent t e))
    by_parent (Some q) e = or_right (is_root t) (is_row p.rows q) (by_subject q e (auxiliary_has t h))

pub adds : (p : Pod) (r : Row) → WellFormed p → CanAdd p r → Puts p (put_edits r) r
adds p r w can = record {
  rows = put_row p.rows r;
  leads = record {
    edits = refl;
    well_formed = put_new p r w can.absent (auxiliary_placed p r.path w can.fitting.path can.auxiliary (subject_there p.rows r.path can.subject)) (right_row r can.fitting)
        (omega (arith, room_left p.rows (added_rows p.rows r.path) can.room, auxiliary_added p.rows r.path can.auxiliary));
  };
  there = put_here p.rows r;
}

-- ---- a change of a row

-- the graph of a row that is not of bytes
graph_of_row : (path : List ℕ) (kind : Kind) (content : Content) → is_bytes kind ≡ false → fits_kind path kind content ≡ true → content ≡ contents.Graph (triples_in content)
graph_of_row path kind (contents.Graph triples) b f = refl
graph_of_row path kinds.Container (contents.Bytes ctype bytes) b f = absurd (false≢true (sym (off (is_container path)) ∙ f))
  where
    off : (x : Bool) → (x && false) ≡ false
    off true = refl
    off false = refl
graph_of_row path kinds.Acl (contents.Bytes ctype bytes) b f = absurd (false≢true (sym (off (is_acl path)) ∙ f))
  where
    off : (x : Bool) → (x && false) ≡ false
    off true = refl
    off false = refl
graph_of_row path kinds.Meta (contents.Bytes ctype bytes) b f = absurd (false≢true (sym (off (is_meta path)) ∙ f))
  where
    off : (x : Bool) → (x && false) ≡ false
    off true = refl
    off false = refl
graph_of_row path kinds.Graph (contents.Bytes ctype bytes) b f = absurd (false≢true (sym (off (is_document path)) ∙ f))
  where
    off : (x : Bool) → (x && false) ≡ false
    off true = refl
    off false = refl
graph_of_row path kinds.Bytes (contents.Bytes ctype bytes) b f = absurd (true≢false b)

-- a graph in place of a graph fits the kind
other_graph : (path : List ℕ) (kind : Kind) (old new : List Triple) → fits_kind path kind (contents.Graph old) ≡ true → fits_kind path kind (contents.Graph new) ≡ true
other_graph path kinds.Container old new h = h
other_graph path kinds.Acl old new h = h
other_graph path kinds.Meta old new h = h
other_graph path kinds.Graph old new h = h
other_graph path kinds.Bytes old new h = h

lacks_each : (triples : List Triple) (t : Triple) → lacks_containment triples ≡ true → Contains triples t → not (term_eq t.p (terms.Iri ldp_contains)) ≡ true
lacks_each [] t h c = absurd (contains_none t c)
lacks_each (x ∷ xs) t h c =
    let parts = and_parts (not (term_eq x.p (terms.Iri ldp_contains))) (lacks_containment xs) h in
    ⊎_elim (λ (e : x ≡ t). subst (λ (y : Triple). not (term_eq y.p (terms.Iri ldp_contains)) ≡ true) e parts.0) (λ (d : Contains xs t). lacks_each xs t parts.1 d) (contains_cases x xs t c)

lacks_from : (triples : List Triple) → ((t : Triple) → Contains triples t → not (term_eq t.p (terms.Iri ldp_contains)) ≡ true) → lacks_containment triples ≡ true
lacks_from [] f = refl
lacks_from (x ∷ xs) f = and_from (not (term_eq x.p (terms.Iri ldp_contains))) (lacks_containment xs) (f x (contains_here x xs)) (lacks_from xs (λ t c. f t (contains_there x xs t c)))

contains_join : (xs ys : List Triple) (t : Triple) → Contains (xs ++ ys) t → Contains xs t ⊎ Contains ys t
contains_join [] ys t c = inr c
contains_join (x ∷ xs) ys t c =
    ⊎_elim (λ (e : x ≡ t). inl (subst (λ (y : Triple). Contains (x ∷ xs) y) e (contains_here x xs)))
    (λ (d : Contains (xs ++ ys) t). ⊎_elim (λ (l : Contains xs t). inl (contains_there x xs t l)) (λ (r : Contains ys t). inr r) (contains_join xs ys t d))
    (contains_cases x (xs ++ ys) t c)

changed_lacks : (triples removed added : List Triple) → lacks_containment triples ≡ true → lacks_containment added ≡ true → lacks_containment (changed_graph triples removed added) ≡ true
changed_lacks triples removed added a b =
    lacks_from (changed_graph triples removed added)
    (λ t c. ⊎_elim
    (λ (l : Contains (filter (λ x. not (has_triple removed x)) triples) t). lacks_each triples t a ((contains_filter (λ x. not (has_triple removed x)) triples t).0 l).0)
    (λ (r : Contains added t). lacks_each added t b r)
    (contains_join (filter (λ x. not (has_triple removed x)) triples) added t (graph_to (filter (λ x. not (has_triple removed x)) triples ++ added) t c)))

pub changes : (p : Pod) (path : List ℕ) (change : Change) (modified : Moment) (row : Row) → WellFormed p → CanChange p path change row
    → Puts p (change_edits path change modified) (with_content row (contents.Graph (changed_graph (triples_of row) change.removed change.added)) modified)
changes p path change modified row w can = record {
  rows = put_row p.rows new;
  leads = record {
    edits = ap (change_found p.rows change modified) can.found ∙ ap (apply_found p.rows) new_is;
    well_formed = put_same p new w here (record { kind = kind; containment = by_kind (is_container_kind row.kind) refl }) guarded;
  };
  there = put_here p.rows new;
}
  where
    new : Row
    new = with_content row (contents.Graph (changed_graph (triples_of row) change.removed change.added)) modified

    right : IsRight row
    right = right_at p path row w can.found

    graph : row.content ≡ contents.Graph (triples_of row)
    graph = graph_of_row row.path row.kind row.content can.graph right.kind

    at : row.path ≡ path
    at = found_path p.rows path row can.found

    here : is_row p.rows row.path ≡ true
    here = ap (is_row p.rows) at ∙ is_found p.rows path row can.found

    new_is : changed_row change modified row row.content ≡ Some new
    new_is =
        ap (changed_row change modified row) graph
        ∙ ap (λ (b : Bool). cond b (Some new) None) can.removed

    kind : has_right_kind new ≡ true
    kind = other_graph row.path row.kind (triples_of row) (changed_graph (triples_of row) change.removed change.added) (ap (fits_kind row.path row.kind) (sym graph) ∙ right.kind)

    by_kind : (b : Bool) → is_container_kind row.kind ≡ b → (not b || lacks_containment (changed_graph (triples_of row) change.removed change.added)) ≡ true
    by_kind false e = refl
    by_kind true e =
        let closed : is_container path ≡ true = ap is_container (sym at) ∙ container_path row.path row.kind row.content right.kind e in
        let old : lacks_contained row.content ≡ true = sym (ap (λ (b : Bool). not b || lacks_contained row.content) e) ∙ right.containment in
        changed_lacks (triples_of row) change.removed change.added (ap lacks_contained (sym graph) ∙ old) (no_statement path change.added can.containment closed)

    guarded : is_root_list row.path ≡ true → guards_content p (contents.Graph (changed_graph (triples_of row) change.removed change.added)) ≡ true
    guarded h =
        guard_kept p row.path (contents.Graph (changed_graph (triples_of row) change.removed change.added))
        (ap (λ (x : List ℕ). breaks_guard p x (changed_graph (triples_of row) change.removed change.added)) at ∙ can.guard) (row.kind, kind) h

-- ---- removals

-- rows from which these paths have gone
record HasGone (p : Pod) (gone : List ℕ → Bool) (rows : List Row) : Type 0 where
  order : AreInOrder rows
  number : length rows ≤ length p.rows
  found : (q : List ℕ) → row_at rows q ≡ cond (gone q) None (row_at p.rows q)

gone_first : (p : Pod) (path : List ℕ) → WellFormed p → HasGone p (λ q. bytes_eq q path) (remove_row p.rows path)
gone_first p path w = record {
  order = order_filter (λ row. not (bytes_eq row.path path)) p.rows w.order;
  number = fewer (λ row. not (bytes_eq row.path path)) p.rows;
  found = removed_found p.rows path;
}

gone_more : (p : Pod) (gone : List ℕ → Bool) (rows : List Row) (path : List ℕ) → HasGone p gone rows → HasGone p (λ q. gone q || bytes_eq q path) (remove_row rows path)
gone_more p gone rows path h = record {
  order = order_filter (λ row. not (bytes_eq row.path path)) rows h.order;
  number = omega (arith, fewer (λ row. not (bytes_eq row.path path)) rows, h.number);
  found = λ q. removed_found rows path q ∙ ap (cond (bytes_eq q path) None) (h.found q) ∙ both (gone q) (bytes_eq q path) (row_at p.rows q);
}
  where
    both : (a b : Bool) (o : Option Row) → cond b None (cond a None o) ≡ cond (a || b) None o
    both true true o = refl
    both true false o = refl
    both false b o = refl

gone_none : (p : Pod) (gone : List ℕ → Bool) (rows : List Row) (path : List ℕ) → HasGone p gone rows → is_row p.rows path ≡ false → HasGone p (λ q. gone q || bytes_eq q path) rows
gone_none p gone rows path h absent = record {
  order = h.order;
  number = h.number;
  found = λ q. h.found q ∙ by_test (gone q) (bytes_eq q path) q refl;
}
  where
    by_test : (a b : Bool) (q : List ℕ) → bytes_eq q path ≡ b → cond a None (row_at p.rows q) ≡ cond (a || b) None (row_at p.rows q)
    by_test true b q e = refl
    by_test false false q e = refl
    by_test false true q e = ap (row_at p.rows) ((bytes_eq-Decides q path).0 e) ∙ not_found p.rows path absent

-- the removal of a path that may be a row, after others
record Removes (p : Pod) (gone : List ℕ → Bool) (rows : List Row) (path : List ℕ) : Type 0 where
  left : List Row
  edits : after_edits (Some rows) (remove_if p.rows (Some path)) ≡ Some left
  has : HasGone p (λ q. gone q || bytes_eq q path) left

removes_if : (p : Pod) (gone : List ℕ → Bool) (rows : List Row) (path : List ℕ) → HasGone p gone rows → gone path ≡ false → Removes p gone rows path
removes_if p gone rows path h other = by_row (is_row p.rows path) refl
  where
    by_row : (b : Bool) → is_row p.rows path ≡ b → Removes p gone rows path
    by_row false e = record {
      left = rows;
      edits = ap (λ (b : Bool). after_edits (Some rows) (cond b (edits.Remove path ∷ []) [])) e;
      has = gone_none p gone rows path h e;
    }
    by_row true e =
        let f = found_row p.rows path e in
        let found : row_at rows path ≡ Some f.0 = h.found path ∙ ap (λ (b : Bool). cond b None (row_at p.rows path)) other ∙ f.1 in
        record {
          left = remove_row rows path;
          edits = ap (λ (b : Bool). after_edits (Some rows) (cond b (edits.Remove path ∷ []) [])) e
              ∙ ap (remove_found rows) found ∙ ap (λ (x : List ℕ). Some (remove_row rows x)) (found_path p.rows path f.0 f.1);
          has = gone_more p gone rows path h;
        }

-- ---- the removal of an access list or a description

differ : (a b : List ℕ) → (a ≡ b → ⊥) → bytes_eq a b ≡ false
differ a b f = false_from_ne_true (bytes_eq a b) (λ e. f ((bytes_eq-Decides a b).0 e))

-- what is no auxiliary is not one
plain_other : (a b : List ℕ) → is_auxiliary a ≡ false → is_auxiliary b ≡ true → bytes_eq a b ≡ false
plain_other a b ha hb = differ a b (λ e. true≢false (sym hb ∙ ap is_auxiliary (sym e) ∙ ha))

-- rows without one, and nothing at its path
pub record TakesAway (p : Pod) (list : List Edit) (path : List ℕ) : Type 0 where
  pub rows : List Row
  pub leads : LeadsTo p list rows
  pub gone : is_row rows path ≡ false

removed_first : (p : Pod) (path : List ℕ) → is_row p.rows path ≡ true → edited_if (Some p.rows) (edits.Remove path) ≡ Some (remove_row p.rows path)
removed_first p path here = (let f = found_row p.rows path here in ap (remove_found p.rows) f.1 ∙ ap (λ (x : List ℕ). Some (remove_row p.rows x)) (found_path p.rows path f.0 f.1))

pub takes_away : (p : Pod) (path : List ℕ) → WellFormed p → CanRemove p path → TakesAway p (removal_edits path) path
takes_away p path w can =
    let gone : List ℕ → Bool = λ q. bytes_eq q path in
    let h = gone_first p path w in
    record {
      rows = remove_row p.rows path;
      leads = record {
        edits = removed_first p path can.present;
        well_formed = gone_well p (remove_row p.rows path) gone w h.order h.number h.found
            (plain_other root path refl can.auxiliary)
            (differ (codes "/.acl") path (λ e. true≢false (sym ((bytes_eq-Decides path (codes "/.acl")).1 (sym e)) ∙ can.list)))
            (λ q a here k e. plain_other a path (container_plain a (parent_closed q a (path_of_norm q (placed_at p q w here).normal) e)) can.auxiliary)
            (λ q a here k e. plain_other a path (subject_plain q a (path_of_norm q (placed_at p q w here).normal) e) can.auxiliary);
      };
      gone = ap is_some (h.found path ∙ ap (λ (b : Bool). cond b None (row_at p.rows path)) (itself path));
    }

-- ---- the removal of what is no access list and no description

-- a row of a kind of path is kept by a test
some_kept : (test : Row → Bool) (rows : List Row) (q : List ℕ) (r : Row) → row_at rows q ≡ Some r → test r ≡ true → has_some (map (λ (row : Row). row.path) (filter test rows)) ≡ true
some_kept test [] q r e t = absurd cc
some_kept test (x ∷ xs) q r e t = by_test (test x) refl (some_kept test xs q r)
  where
    by_here : (b : Bool) → test x ≡ false → cond b (Some x) (row_at xs q) ≡ Some r → (row_at xs q ≡ Some r → test r ≡ true → has_some (map (λ (row : Row). row.path) (filter test xs)) ≡ true)
        → has_some (map (λ (row : Row). row.path) (filter test xs)) ≡ true
    by_here true off k more = let same : x ≡ r = cc in absurd (true≢false (sym t ∙ ap test (sym same) ∙ off))
    by_here false off k more = more k t

    by_test : (b : Bool) → test x ≡ b → (row_at xs q ≡ Some r → test r ≡ true → has_some (map (λ (row : Row). row.path) (filter test xs)) ≡ true)
        → has_some (map (λ (row : Row). row.path) (cond b (x ∷ filter test xs) (filter test xs))) ≡ true
    by_test true h more = refl
    by_test false h more = by_here (bytes_eq x.path q) h e more

child_there : (p : Pod) (path q : List ℕ) → is_row p.rows q ≡ true → is_auxiliary q ≡ false → parent_of q ≡ Some path → has_children p.rows path ≡ true
unfolding has_children
child_there p path q here plain e =
    let f = found_row p.rows q here in
    let at = found_path p.rows q f.0 f.1 in
    some_kept (is_child_of path) p.rows q f.0 f.1
    (and_from (not (is_auxiliary f.0.path)) (is_the_path path (parent_of f.0.path)) (ap not (ap is_auxiliary at ∙ plain)) (ap (λ (x : List ℕ). is_the_path path (parent_of x)) at ∙ ap (is_the_path path) e ∙ itself path))

-- a row above which the path is, is one of the two auxiliaries of the path
below : (p : Pod) (path q : List ℕ) → WellFormed p → has_children p.rows path ≡ false → is_row p.rows q ≡ true → parent_of q ≡ Some path → subject_of q ≡ Some path
below p path q w none here e = by_kind (is_auxiliary q) refl
  where
    is_path : IsPath q
    is_path = path_of_norm q (placed_at p q w here).normal

    by_subject : (a : (s : List ℕ) × (subject_of q ≡ Some s)) → subject_of q ≡ Some path
    by_subject (s, k) = by_end (auxiliary_parent q s is_path k)
      where
        s_here : is_row p.rows s ≡ true
        s_here = ap (is_subject_row p.rows) (sym k) ∙ (placed_at p q w here).subject

        by_end : ((is_container s ≡ true) × (parent_of q ≡ Some s)) ⊎ ((is_container s ≡ false) × (parent_of q ≡ parent_of s)) → subject_of q ≡ Some path
        by_end (inl a) = k ∙ sym a.1 ∙ e
        by_end (inr a) = absurd (true≢false (sym (child_there p path s s_here (subject_plain q s is_path k) (sym a.1 ∙ e)) ∙ none))

    by_kind : (b : Bool) → is_auxiliary q ≡ b → subject_of q ≡ Some path
    by_kind false plain = absurd (true≢false (sym (child_there p path q here plain e) ∙ none))
    by_kind true aux = by_subject (auxiliary_has q aux)

abbrev pub three_gone : List ℕ → List ℕ → Bool
three_gone path q = (bytes_eq q path || bytes_eq q (path ++ codes ".acl")) || bytes_eq q (path ++ codes ".meta")

three_off : (path q : List ℕ) → bytes_eq q path ≡ false → bytes_eq q (path ++ codes ".acl") ≡ false → bytes_eq q (path ++ codes ".meta") ≡ false → three_gone path q ≡ false
three_off path q a b c = ap (λ (x : Bool). (x || bytes_eq q (path ++ codes ".acl")) || bytes_eq q (path ++ codes ".meta")) a ∙ ap (λ (x : Bool). x || bytes_eq q (path ++ codes ".meta")) b ∙ c

acl_is : (path : List ℕ) → is_auxiliary path ≡ false → acl_of path ≡ Some (path ++ codes ".acl")
acl_is path plain = ap (λ (b : Bool). cond b None (Some (path ++ codes ".acl"))) plain

meta_is : (path : List ℕ) → is_auxiliary path ≡ false → meta_of path ≡ Some (path ++ codes ".meta")
meta_is path plain = ap (λ (b : Bool). cond b None (Some (path ++ codes ".meta"))) plain

acl_auxiliary : (path : List ℕ) → is_auxiliary (path ++ codes ".acl") ≡ true
acl_auxiliary path = or_left (is_acl (path ++ codes ".acl")) (is_meta (path ++ codes ".acl")) (ends_append path (codes ".acl"))

meta_auxiliary : (path : List ℕ) → is_auxiliary (path ++ codes ".meta") ≡ true
meta_auxiliary path = or_right (is_acl (path ++ codes ".meta")) (is_meta (path ++ codes ".meta")) (ends_append path (codes ".meta"))

meta_no_acl : (path : List ℕ) → bytes_eq (path ++ codes ".meta") (path ++ codes ".acl") ≡ false
meta_no_acl path = differ (path ++ codes ".meta") (path ++ codes ".acl") (λ e. true≢false (sym (ends_append path (codes ".acl")) ∙ ap is_acl (sym e) ∙ meta_is_no_acl path))

-- what is no auxiliary and other than the path doesn't go
plain_stays : (path q : List ℕ) → is_auxiliary q ≡ false → bytes_eq q path ≡ false → three_gone path q ≡ false
plain_stays path q plain other = three_off path q other (plain_other q (path ++ codes ".acl") plain (acl_auxiliary path)) (plain_other q (path ++ codes ".meta") plain (meta_auxiliary path))

-- what has the path for its subject goes
auxiliary_goes : (path q : List ℕ) → IsPath q → is_auxiliary path ≡ false → subject_of q ≡ Some path → three_gone path q ≡ true
auxiliary_goes path q h plain e = by_kind (two_auxiliaries q path h e)
  where
    acl_case : acl_of path ≡ Some q → three_gone path q ≡ true
    acl_case k =
        let both : Some (path ++ codes ".acl") ≡ Some q = sym (acl_is path plain) ∙ k in
        let same : path ++ codes ".acl" ≡ q = cc in
        or_left (bytes_eq q path || bytes_eq q (path ++ codes ".acl")) (bytes_eq q (path ++ codes ".meta")) (or_right (bytes_eq q path) (bytes_eq q (path ++ codes ".acl")) ((bytes_eq-Decides q (path ++ codes ".acl")).1 (sym same)))

    meta_case : meta_of path ≡ Some q → three_gone path q ≡ true
    meta_case k =
        let both : Some (path ++ codes ".meta") ≡ Some q = sym (meta_is path plain) ∙ k in
        let same : path ++ codes ".meta" ≡ q = cc in
        or_right (bytes_eq q path || bytes_eq q (path ++ codes ".acl")) (bytes_eq q (path ++ codes ".meta")) ((bytes_eq-Decides q (path ++ codes ".meta")).1 (sym same))

    by_kind : (acl_of path ≡ Some q) ⊎ (meta_of path ≡ Some q) → three_gone path q ≡ true
    by_kind (inl k) = acl_case k
    by_kind (inr k) = meta_case k

root_stays : (path : List ℕ) → is_root path ≡ false → three_gone path root ≡ false
root_stays path other = plain_stays path root refl (differ root path (λ e. true≢false (sym ((bytes_eq-Decides path root).1 (sym e)) ∙ other)))

list_stays : (path : List ℕ) → is_auxiliary path ≡ false → is_root path ≡ false → three_gone path (codes "/.acl") ≡ false
list_stays path plain other =
    three_off path (codes "/.acl")
    (differ (codes "/.acl") path (λ e. (let aux : is_auxiliary (codes "/.acl") ≡ true = refl in true≢false (sym aux ∙ ap is_auxiliary e ∙ plain))))
    (differ (codes "/.acl") (path ++ codes ".acl") (λ e. true≢false (sym ((bytes_eq-Decides path root).1 (sym (append_cancel_right root path (codes ".acl") e))) ∙ other)))
    (differ (codes "/.acl") (path ++ codes ".meta") (λ e. (let off : is_meta (codes "/.acl") ≡ false = refl in true≢false (sym (ends_append path (codes ".meta")) ∙ ap is_meta (sym e) ∙ off))))

-- the rows that are left are well-formed
rest_well : (p : Pod) (path : List ℕ) (rows : List Row) → WellFormed p → CanDelete p path → HasGone p (three_gone path) rows → WellFormed (with_rows p rows)
rest_well p path rows w can h =
    gone_well p rows (three_gone path) w h.order h.number h.found (root_stays path can.root) (list_stays path can.plain can.root) parents subjects
  where
    path_at : (q : List ℕ) → is_row p.rows q ≡ true → IsPath q
    path_at q here = path_of_norm q (placed_at p q w here).normal

    stays : (q a : List ℕ) → is_row p.rows q ≡ true → three_gone path q ≡ false → is_auxiliary a ≡ false → (a ≡ path → subject_of q ≡ Some path) → three_gone path a ≡ false
    stays q a here k plain f = plain_stays path a plain (differ a path (λ e. true≢false (sym (auxiliary_goes path q (path_at q here) can.plain (f e)) ∙ k)))

    parents : (q a : List ℕ) → is_row p.rows q ≡ true → three_gone path q ≡ false → parent_of q ≡ Some a → three_gone path a ≡ false
    parents q a here k e =
        stays q a here k (container_plain a (parent_closed q a (path_at q here) e))
        (λ same. below p path q w can.children here (e ∙ ap (λ (x : List ℕ). Some x) same))

    subjects : (q a : List ℕ) → is_row p.rows q ≡ true → three_gone path q ≡ false → subject_of q ≡ Some a → three_gone path a ≡ false
    subjects q a here k e = stays q a here k (subject_plain q a (path_at q here) e) (λ same. e ∙ ap (λ (x : List ℕ). Some x) same)

-- the rows without the path and its auxiliaries
record Emptied (p : Pod) (path : List ℕ) (modified : Moment) : Type 0 where
  rows : List Row
  edits : (rest : List Edit) → after_edits (Some p.rows) (edits.Remove path ∷ (remove_if p.rows (acl_of path) ++ (remove_if p.rows (meta_of path) ++ rest))) ≡ after_edits (Some rows) rest
  has : HasGone p (three_gone path) rows

longer : (path e : List ℕ) → 0 < length e → bytes_eq (path ++ e) path ≡ false
longer path e some = differ (path ++ e) path (λ same. absurd (omega (arith, ap length same, length-append path e, some)))

emptied : (p : Pod) (path : List ℕ) (modified : Moment) → WellFormed p → CanDelete p path → Emptied p path modified
emptied p path modified w can =
    let first = gone_first p path w in
    let one = removes_if p (λ q. bytes_eq q path) (remove_row p.rows path) (path ++ codes ".acl") first (longer path (codes ".acl") (omega arith)) in
    let two = removes_if p (λ q. bytes_eq q path || bytes_eq q (path ++ codes ".acl")) one.left (path ++ codes ".meta") one.has
    (ap (λ (b : Bool). b || bytes_eq (path ++ codes ".meta") (path ++ codes ".acl")) (longer path (codes ".meta") (omega arith)) ∙ meta_no_acl path) in
    record {
      rows = two.left;
      edits = λ rest.
          ap (λ (o : Option (List Row)). after_edits o (remove_if p.rows (acl_of path) ++ (remove_if p.rows (meta_of path) ++ rest))) (removed_first p path can.present)
          ∙ edits_append (Some (remove_row p.rows path)) (remove_if p.rows (acl_of path)) (remove_if p.rows (meta_of path) ++ rest)
          ∙ ap (λ (o : Option (List Row)). after_edits o (remove_if p.rows (meta_of path) ++ rest)) (ap (λ (a : Option (List ℕ)). after_edits (Some (remove_row p.rows path)) (remove_if p.rows a)) (acl_is path can.plain) ∙ one.edits)
          ∙ edits_append (Some one.left) (remove_if p.rows (meta_of path)) rest
          ∙ ap (λ (o : Option (List Row)). after_edits o rest) (ap (λ (a : Option (List ℕ)). after_edits (Some one.left) (remove_if p.rows a)) (meta_is path can.plain) ∙ two.edits);
      has = two.has;
    }

-- rows without a path and its auxiliaries
pub record Deletes (p : Pod) (path : List ℕ) (modified : Moment) : Type 0 where
  pub rows : List Row
  pub leads : LeadsTo p (deletion_edits p.rows path modified) rows
  pub gone : (q : List ℕ) → three_gone path q ≡ true → is_row rows q ≡ false

pub deletes : (p : Pod) (path : List ℕ) (modified : Moment) → WellFormed p → CanDelete p path → Deletes p path modified
unfolding deletion_edits
deletes p path modified w can = by_parent (parent_of path) refl
  where
    e : Emptied p path modified
    e = emptied p path modified w can

    well : WellFormed (with_rows p e.rows)
    well = rest_well p path e.rows w can e.has

    gone : (q : List ℕ) → three_gone path q ≡ true → row_at e.rows q ≡ None
    gone q g = e.has.found q ∙ ap (λ (b : Bool). cond b None (row_at p.rows q)) g

    is_path : IsPath path
    is_path = path_of_norm path (placed_at p path w can.present).normal

    by_parent : (o : Option (List ℕ)) → parent_of path ≡ o → Deletes p path modified
    by_parent None k = record {
      rows = e.rows;
      leads = record { edits = e.edits (touch_if (parent_of path) modified) ∙ ap (λ (o : Option (List ℕ)). after_edits (Some e.rows) (touch_if o modified)) k; well_formed = well };
      gone = λ q g. ap is_some (gone q g);
    }
    by_parent (Some a) k =
        let here = parent_row p path a w can.present k in
        let f = found_row p.rows a here in
        let other : bytes_eq a path ≡ false = differ a path (λ same. absurd (omega (arith, parent_shorter path a is_path k, ap length same))) in
        let stays = plain_stays path a (container_plain a (parent_closed path a is_path k)) other in
        let found : row_at e.rows a ≡ Some f.0 = e.has.found a ∙ ap (λ (b : Bool). cond b None (row_at p.rows a)) stays ∙ f.1 in
        let at = found_path p.rows a f.0 f.1 in
        record {
          rows = put_row e.rows (with_moment f.0 modified);
          leads = record {
            edits = e.edits (touch_if (parent_of path) modified) ∙ ap (λ (o : Option (List ℕ)). after_edits (Some e.rows) (touch_if o modified)) k ∙ ap (touch_found e.rows modified) found;
            well_formed = touched (with_rows p e.rows) a f.0 modified well found;
          };
          gone = λ q g. ap is_some (put_beside e.rows (with_moment f.0 modified) q
              (ap (λ (x : List ℕ). bytes_eq x q) at ∙ differ a q (λ same. true≢false (sym g ∙ ap (three_gone path) (sym same) ∙ stays))) ∙ gone q g);
        }

-- the three that go
pub path_goes : (path : List ℕ) → three_gone path path ≡ true
path_goes path = or_left (bytes_eq path path || bytes_eq path (path ++ codes ".acl")) (bytes_eq path (path ++ codes ".meta")) (or_left (bytes_eq path path) (bytes_eq path (path ++ codes ".acl")) (itself path))

pub acl_goes : (p : Pod) (path : List ℕ) (modified : Moment) (d : Deletes p path modified) → is_auxiliary path ≡ false → is_row_of d.rows (acl_of path) ≡ false
acl_goes p path modified d plain =
    let acl = path ++ codes ".acl" in
    ap (is_row_of d.rows) (acl_is path plain)
    ∙ d.gone acl (or_left (bytes_eq acl path || bytes_eq acl acl) (bytes_eq acl (path ++ codes ".meta")) (or_right (bytes_eq acl path) (bytes_eq acl acl) (itself acl)))

pub meta_goes : (p : Pod) (path : List ℕ) (modified : Moment) (d : Deletes p path modified) → is_auxiliary path ≡ false → is_row_of d.rows (meta_of path) ≡ false
meta_goes p path modified d plain =
    let meta = path ++ codes ".meta" in
    ap (is_row_of d.rows) (meta_is path plain)
    ∙ d.gone meta (or_right (bytes_eq meta path || bytes_eq meta (path ++ codes ".acl")) (bytes_eq meta meta) (itself meta))
