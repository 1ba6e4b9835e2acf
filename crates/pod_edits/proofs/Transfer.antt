-- Well-formed pods by what is found in them, and which of them stay well-formed.
use Rattle.std.proofs.Common.{◌≡◌, ◌<◌, ◌≤◌, ℕ, Bool, true, false, not, cond, ◌||◌, List, length, Option, Some, None, Ok, Result, refl, sym, ap, ◌∙◌, subst, arith}
use Rattle.std.specs.Prelude.{is_some, bytes_eq, codes}
use Rattle.std.specs.List.{list_all}
use Rattle.std.proofs.lemmas.Bool.{and_parts, and_from, or_right, false≢true, true≢false, not-true, false_from_ne_true}
use Rattle.std.proofs.lemmas.Slice.Eq.{bytes_eq-Decides}
use Rattle.acl_rules.specs.Documents.{is_parse}
use Rattle.pod_path.specs.Hierarchy.{root, is_root, parent_of, twin_of, subject_of}
use Rattle.pod_path.specs.Norm.{norm}
use Rattle.pod_path.specs.declared.fault.PathFault.{PathFault}
use Rattle.pod_path.proofs.Twins.{twin_back}
use Rattle.pod_command.specs.Encodable.{AreInOrder}
use Rattle.pod_command.specs.declared.row.Content.{Content}
use Rattle.pod_command.specs.declared.row.Kind.{Kind}
use Rattle.pod_command.specs.declared.row.Kind.TheVariants as kinds
use Rattle.pod_command.specs.declared.row.Row.{Row}
use Rattle.pod_base.specs.declared.moment.Moment.{Moment}
use Rattle.pod_rows.specs.Apply.{put_row, with_rows, with_moment}
use Rattle.pod_rows.specs.Pod.{Pod, row_at, is_row, is_row_of}
use Rattle.pod_rows.specs.WellFormed.{WellFormed, has_normal_path, has_right_kind, fits_kind, is_container_kind, is_container_row, guards_content, guards_row, has_first_rows, has_parent, lacks_twin, has_subject, is_subject_row, lacks_stored_containment}
use Rattle.pod_rows.specs.declared.limits.TheConstants.{ROWS_LIMIT}
use Rattle.pod_rows.proofs.OrderedRows.{order_put, itself}
use Rattle.pod_rows.proofs.Tests.{parse_is}
use Rattle.pod_edits.specs.Refusals.{is_root_list}
use Rattle.pod_edits.proofs.FoundRows.{found_path, is_found, found_row, not_found, all_found, all_from, put_found, put_beside, one_more, no_more}
use Rattle.pod_edits.proofs.Trees.{path_of_norm, twin_other}

-- ---- what a well-formed pod has at each row

-- the path of a row, and what it needs among the rows
pub record IsPlaced (rows : List Row) (path : List ℕ) : Type 0 where
  pub normal : norm path ≡ Ok path
  pub parent : (is_root path || is_row_of rows (parent_of path)) ≡ true
  pub twin : is_row_of rows (twin_of path) ≡ false
  pub subject : is_subject_row rows (subject_of path) ≡ true

-- the row by itself
pub record IsRight (r : Row) : Type 0 where
  pub kind : has_right_kind r ≡ true
  pub containment : lacks_stored_containment r ≡ true

parse_of : (r : Result (List ℕ) PathFault) (p : List ℕ) → r ≡ Ok p → is_parse r p ≡ true
parse_of r p h = subst (λ (x : Result (List ℕ) PathFault). is_parse x p ≡ true) (sym h) (itself p)

normal_of : (rows : List Row) (q : List ℕ) (r : Row) (p : Pod) → WellFormed p → row_at p.rows q ≡ Some r → norm r.path ≡ Ok r.path
unfolding has_normal_path
normal_of rows q r p w e = parse_is (norm r.path) r.path (all_found has_normal_path p.rows q r w.paths e)

parent_at : (p : Pod) (q : List ℕ) (r : Row) → WellFormed p → row_at p.rows q ≡ Some r → (is_root r.path || is_row_of p.rows (parent_of r.path)) ≡ true
unfolding has_parent
parent_at p q r w e = all_found (has_parent p.rows) p.rows q r w.parents e

twin_at : (p : Pod) (q : List ℕ) (r : Row) → WellFormed p → row_at p.rows q ≡ Some r → is_row_of p.rows (twin_of r.path) ≡ false
unfolding lacks_twin
twin_at p q r w e = not-true (is_row_of p.rows (twin_of r.path)) (all_found (lacks_twin p.rows) p.rows q r w.twins e)

subject_at : (p : Pod) (q : List ℕ) (r : Row) → WellFormed p → row_at p.rows q ≡ Some r → is_subject_row p.rows (subject_of r.path) ≡ true
unfolding has_subject
subject_at p q r w e = all_found (has_subject p.rows) p.rows q r w.subjects e

pub placed : (p : Pod) (q : List ℕ) (r : Row) → WellFormed p → row_at p.rows q ≡ Some r → IsPlaced p.rows r.path
placed p q r w e = record {
  normal = normal_of p.rows q r p w e;
  parent = parent_at p q r w e;
  twin = twin_at p q r w e;
  subject = subject_at p q r w e;
}

pub placed_at : (p : Pod) (q : List ℕ) → WellFormed p → is_row p.rows q ≡ true → IsPlaced p.rows q
placed_at p q w h = let f = found_row p.rows q h in subst (IsPlaced p.rows) (found_path p.rows q f.0 f.1) (placed p q f.0 w f.1)

pub right_at : (p : Pod) (q : List ℕ) (r : Row) → WellFormed p → row_at p.rows q ≡ Some r → IsRight r
right_at p q r w e = record {
  kind = all_found has_right_kind p.rows q r w.kinds e;
  containment = all_found lacks_stored_containment p.rows q r w.containment e;
}

-- ---- well-formed by what is found

first_parts : (p : Pod) → has_first_rows p ≡ true → (is_container_row (row_at p.rows root) ≡ true) × (guards_row p (row_at p.rows (codes "/.acl")) ≡ true)
unfolding has_first_rows
first_parts p h = and_parts (is_container_row (row_at p.rows root)) (guards_row p (row_at p.rows (codes "/.acl"))) h

first_from : (p : Pod) → is_container_row (row_at p.rows root) ≡ true → guards_row p (row_at p.rows (codes "/.acl")) ≡ true → has_first_rows p ≡ true
unfolding has_first_rows
first_from p a b = and_from (is_container_row (row_at p.rows root)) (guards_row p (row_at p.rows (codes "/.acl"))) a b

paths_from : (rows : List Row) → AreInOrder rows → ((q : List ℕ) (r : Row) → row_at rows q ≡ Some r → norm r.path ≡ Ok r.path) → list_all has_normal_path rows ≡ true
unfolding has_normal_path
paths_from rows o f = all_from has_normal_path rows o (λ q r e. parse_of (norm r.path) r.path (f q r e))

parents_from : (rows : List Row) → AreInOrder rows → ((q : List ℕ) (r : Row) → row_at rows q ≡ Some r → IsPlaced rows r.path) → list_all (has_parent rows) rows ≡ true
unfolding has_parent
parents_from rows o f = all_from (has_parent rows) rows o (λ q r e. (f q r e).parent)

twins_from : (rows : List Row) → AreInOrder rows → ((q : List ℕ) (r : Row) → row_at rows q ≡ Some r → IsPlaced rows r.path) → list_all (lacks_twin rows) rows ≡ true
unfolding lacks_twin
twins_from rows o f = all_from (lacks_twin rows) rows o (λ q r e. ap not ((f q r e).twin))

subjects_from : (rows : List Row) → AreInOrder rows → ((q : List ℕ) (r : Row) → row_at rows q ≡ Some r → IsPlaced rows r.path) → list_all (has_subject rows) rows ≡ true
unfolding has_subject
subjects_from rows o f = all_from (has_subject rows) rows o (λ q r e. (f q r e).subject)

-- other rows in a pod: each is placed and right, and the first two are there
pub well_formed_by : (p : Pod) (rows : List Row) → WellFormed p → AreInOrder rows → length rows ≤ ROWS_LIMIT
    → ((q : List ℕ) (r : Row) → row_at rows q ≡ Some r → IsPlaced rows r.path × IsRight r)
    → is_container_row (row_at rows root) ≡ true → guards_row p (row_at rows (codes "/.acl")) ≡ true → WellFormed (with_rows p rows)
well_formed_by p rows w order number each first guarded = record {
  order = order;
  paths = paths_from rows order (λ q r e. (each q r e).0.normal);
  first_rows = first_from (with_rows p rows) first guarded;
  kinds = all_from has_right_kind rows order (λ q r e. (each q r e).1.kind);
  parents = parents_from rows order (λ q r e. (each q r e).0);
  twins = twins_from rows order (λ q r e. (each q r e).0);
  subjects = subjects_from rows order (λ q r e. (each q r e).0);
  containment = all_from lacks_stored_containment rows order (λ q r e. (each q r e).1.containment);
  number = number;
  base = w.base;
}

-- ---- the first rows

some_container : (o : Option Row) → is_container_row o ≡ true → is_some o ≡ true
some_container None h = absurd (false≢true h)
some_container (Some r) h = refl

some_guard : (p : Pod) (o : Option Row) → guards_row p o ≡ true → is_some o ≡ true
some_guard p None h = absurd (false≢true h)
some_guard p (Some r) h = refl

pub root_row : (p : Pod) → WellFormed p → is_row p.rows root ≡ true
root_row p w = some_container (row_at p.rows root) (first_parts p w.first_rows).0

pub list_row : (p : Pod) → WellFormed p → is_row p.rows (codes "/.acl") ≡ true
list_row p w = some_guard p (row_at p.rows (codes "/.acl")) (first_parts p w.first_rows).1

pub root_is : (p : Pod) → WellFormed p → is_container_row (row_at p.rows root) ≡ true
root_is p w = (first_parts p w.first_rows).0

pub list_guards : (p : Pod) → WellFormed p → guards_row p (row_at p.rows (codes "/.acl")) ≡ true
list_guards p w = (first_parts p w.first_rows).1

-- ---- the same place among other rows

row_of_more : (rows other : List Row) (o : Option (List ℕ)) → ((q : List ℕ) → o ≡ Some q → is_row rows q ≡ true → is_row other q ≡ true) → is_row_of rows o ≡ true → is_row_of other o ≡ true
row_of_more rows other None f h = h
row_of_more rows other (Some q) f h = f q refl h

row_of_less : (rows other : List Row) (o : Option (List ℕ)) → ((q : List ℕ) → o ≡ Some q → is_row rows q ≡ false → is_row other q ≡ false) → is_row_of rows o ≡ false → is_row_of other o ≡ false
row_of_less rows other None f h = h
row_of_less rows other (Some q) f h = f q refl h

subject_more : (rows other : List Row) (o : Option (List ℕ)) → ((q : List ℕ) → o ≡ Some q → is_row rows q ≡ true → is_row other q ≡ true) → is_subject_row rows o ≡ true → is_subject_row other o ≡ true
subject_more rows other None f h = h
subject_more rows other (Some q) f h = f q refl h

-- the parent, if it is a row, stays one; the twin, if it is none, stays none; the subject stays a row
pub still_placed : (rows other : List Row) (path : List ℕ) → IsPlaced rows path
    → ((q : List ℕ) → parent_of path ≡ Some q → is_row rows q ≡ true → is_row other q ≡ true)
    → ((q : List ℕ) → twin_of path ≡ Some q → is_row rows q ≡ false → is_row other q ≡ false)
    → ((q : List ℕ) → subject_of path ≡ Some q → is_row rows q ≡ true → is_row other q ≡ true)
    → IsPlaced other path
still_placed rows other path i parent twin subject = record {
  normal = i.normal;
  parent = by_root (is_root path) i.parent;
  twin = row_of_less rows other (twin_of path) twin i.twin;
  subject = subject_more rows other (subject_of path) subject i.subject;
}
  where
    by_root : (b : Bool) → (b || is_row_of rows (parent_of path)) ≡ true → (b || is_row_of other (parent_of path)) ≡ true
    by_root true h = refl
    by_root false h = row_of_more rows other (parent_of path) parent h

-- ---- a new row

-- what is a row after a put
put_is : (rows : List Row) (r : Row) (q : List ℕ) → is_row (put_row rows r) q ≡ (bytes_eq r.path q || is_row rows q)
put_is rows r q = ap is_some (put_found rows r q) ∙ by_test (bytes_eq r.path q)
  where
    by_test : (b : Bool) → is_some (cond b (Some r) (row_at rows q)) ≡ (b || is_row rows q)
    by_test true = refl
    by_test false = refl

pub put_keeps : (rows : List Row) (r : Row) (q : List ℕ) → is_row rows q ≡ true → is_row (put_row rows r) q ≡ true
put_keeps rows r q h = put_is rows r q ∙ or_right (bytes_eq r.path q) (is_row rows q) h

put_lacks : (rows : List Row) (r : Row) (q : List ℕ) → bytes_eq r.path q ≡ false → is_row rows q ≡ false → is_row (put_row rows r) q ≡ false
put_lacks rows r q a b = put_is rows r q ∙ ap (λ (x : Bool). x || is_row rows q) a ∙ b

not_same : (p q : List ℕ) → (p ≡ q → ⊥) → bytes_eq p q ≡ false
not_same p q f = false_from_ne_true (bytes_eq p q) (λ e. f ((bytes_eq-Decides p q).0 e))

-- a row beside one that is none
apart : (rows : List Row) (p q : List ℕ) → is_row rows p ≡ false → is_row rows q ≡ true → bytes_eq p q ≡ false
apart rows p q a b = not_same p q (λ e. true≢false (sym b ∙ ap (is_row rows) (sym e) ∙ a))

pub put_new : (p : Pod) (r : Row) → WellFormed p → is_row p.rows r.path ≡ false → IsPlaced p.rows r.path → IsRight r → length p.rows < ROWS_LIMIT → WellFormed (with_rows p (put_row p.rows r))
put_new p r w absent new right room =
    well_formed_by p all w (order_put p.rows r w.order) (omega (arith, one_more p.rows r, room)) each
    (ap is_container_row (put_beside p.rows r root (apart p.rows r.path root absent (root_row p w))) ∙ root_is p w)
    (ap (guards_row p) (put_beside p.rows r (codes "/.acl") (apart p.rows r.path (codes "/.acl") absent (list_row p w))) ∙ list_guards p w)
  where
    all : List Row
    all = put_row p.rows r

    old : (q : List ℕ) (x : Row) → row_at p.rows q ≡ Some x → IsPlaced all x.path
    old q x e =
        let i = placed p q x w e in
        let here : is_row p.rows x.path ≡ true = ap (is_row p.rows) (found_path p.rows q x e) ∙ is_found p.rows q x e in
        still_placed p.rows all x.path i (λ a f h. put_keeps p.rows r a h)
        (λ a f h. put_lacks p.rows r a (not_same r.path a (λ same.
        let back : twin_of r.path ≡ Some x.path = twin_back x.path r.path (path_of_norm x.path i.normal) (f ∙ ap (λ (y : List ℕ). Some y) (sym same)) in
        let lacks : is_row p.rows x.path ≡ false = ap (is_row_of p.rows) (sym back) ∙ new.twin in
        true≢false (sym here ∙ lacks))) h)
        (λ a f h. put_keeps p.rows r a h)

    mine : IsPlaced all r.path
    mine = still_placed p.rows all r.path new (λ a f h. put_keeps p.rows r a h)
        (λ a f h. put_lacks p.rows r a (not_same r.path a (λ same. twin_other r.path (path_of_norm r.path new.normal) (f ∙ ap (λ (y : List ℕ). Some y) (sym same)))) h)
        (λ a f h. put_keeps p.rows r a h)

    each : (q : List ℕ) (x : Row) → row_at all q ≡ Some x → IsPlaced all x.path × IsRight x
    each q x e = by_test (bytes_eq r.path q) (sym (put_found p.rows r q) ∙ e)
      where
        by_test : (b : Bool) → cond b (Some r) (row_at p.rows q) ≡ Some x → IsPlaced all x.path × IsRight x
        by_test true k = let same : r ≡ x = cc in (subst (λ (y : Row). IsPlaced all y.path) same mine, subst IsRight same right)
        by_test false k = (old q x k, right_at p q x w k)

-- ---- a row in place of another

-- a row at the root of a right kind is a container
root_kind : (kind : Kind) (content : Content) → fits_kind root kind content ≡ true → is_container_kind kind ≡ true
root_kind kinds.Container content h = refl
root_kind kinds.Acl content h = absurd (false≢true h)
root_kind kinds.Meta content h = absurd (false≢true h)
root_kind kinds.Graph content h = absurd (false≢true h)
root_kind kinds.Bytes content h = absurd (false≢true h)

pub put_same : (p : Pod) (r : Row) → WellFormed p → is_row p.rows r.path ≡ true → IsRight r → (is_root_list r.path ≡ true → guards_content p r.content ≡ true)
    → WellFormed (with_rows p (put_row p.rows r))
put_same p r w present right guarded =
    well_formed_by p all w (order_put p.rows r w.order) (omega (arith, no_more p.rows r present, w.number)) each
    (ap is_container_row (put_found p.rows r root) ∙ at_root (bytes_eq r.path root) refl)
    (ap (guards_row p) (put_found p.rows r (codes "/.acl")) ∙ at_list (bytes_eq r.path (codes "/.acl")) refl)
  where
    all : List Row
    all = put_row p.rows r

    same_rows : (q : List ℕ) → is_row all q ≡ is_row p.rows q
    same_rows q = put_is p.rows r q ∙ by_test (bytes_eq r.path q) refl
      where
        by_test : (b : Bool) → bytes_eq r.path q ≡ b → (b || is_row p.rows q) ≡ is_row p.rows q
        by_test true e = sym (ap (is_row p.rows) (sym ((bytes_eq-Decides r.path q).0 e)) ∙ present)
        by_test false e = refl

    still : (x : List ℕ) → IsPlaced p.rows x → IsPlaced all x
    still x i = still_placed p.rows all x i (λ q f h. same_rows q ∙ h) (λ q f h. same_rows q ∙ h) (λ q f h. same_rows q ∙ h)

    each : (q : List ℕ) (x : Row) → row_at all q ≡ Some x → IsPlaced all x.path × IsRight x
    each q x e = by_test (bytes_eq r.path q) (sym (put_found p.rows r q) ∙ e)
      where
        by_test : (b : Bool) → cond b (Some r) (row_at p.rows q) ≡ Some x → IsPlaced all x.path × IsRight x
        by_test true k =
            let same : r ≡ x = cc in
            (subst (λ (y : Row). IsPlaced all y.path) same (still r.path (placed_at p r.path w present)), subst IsRight same right)
        by_test false k = (still x.path (placed p q x w k), right_at p q x w k)

    at_root : (b : Bool) → bytes_eq r.path root ≡ b → is_container_row (cond b (Some r) (row_at p.rows root)) ≡ true
    at_root true e = root_kind r.kind r.content (ap (λ (path : List ℕ). fits_kind path r.kind r.content) (sym ((bytes_eq-Decides r.path root).0 e)) ∙ right.kind)
    at_root false e = root_is p w

    at_list : (b : Bool) → bytes_eq r.path (codes "/.acl") ≡ b → guards_row p (cond b (Some r) (row_at p.rows (codes "/.acl"))) ≡ true
    at_list true e = guarded e
    at_list false e = list_guards p w

-- a row at another moment
pub touched : (p : Pod) (q : List ℕ) (r : Row) (modified : Moment) → WellFormed p → row_at p.rows q ≡ Some r
    → WellFormed (with_rows p (put_row p.rows (with_moment r modified)))
touched p q r modified w e =
    let right = right_at p q r w e in
    put_same p (with_moment r modified) w (ap (is_row p.rows) (found_path p.rows q r e) ∙ is_found p.rows q r e) (record { kind = right.kind; containment = right.containment }) guarded
  where
    guarded : is_root_list r.path ≡ true → guards_content p r.content ≡ true
    guarded h =
        let at : r.path ≡ codes "/.acl" = (bytes_eq-Decides r.path (codes "/.acl")).0 h in
        let found : row_at p.rows (codes "/.acl") ≡ Some r = ap (row_at p.rows) (sym at ∙ found_path p.rows q r e) ∙ e in
        ap (guards_row p) (sym found) ∙ list_guards p w

-- ---- rows that go

pub gone_well : (p : Pod) (rows : List Row) (gone : List ℕ → Bool) → WellFormed p → AreInOrder rows → length rows ≤ length p.rows
    → ((q : List ℕ) → row_at rows q ≡ cond (gone q) None (row_at p.rows q))
    → gone root ≡ false → gone (codes "/.acl") ≡ false
    → ((q a : List ℕ) → is_row p.rows q ≡ true → gone q ≡ false → parent_of q ≡ Some a → gone a ≡ false)
    → ((q a : List ℕ) → is_row p.rows q ≡ true → gone q ≡ false → subject_of q ≡ Some a → gone a ≡ false)
    → WellFormed (with_rows p rows)
gone_well p rows gone w order number found first guarded parents subjects =
    well_formed_by p rows w order (omega (arith, number, w.number)) each
    (ap is_container_row (stays root first) ∙ root_is p w) (ap (guards_row p) (stays (codes "/.acl") guarded) ∙ list_guards p w)
  where
    stays : (q : List ℕ) → gone q ≡ false → row_at rows q ≡ row_at p.rows q
    stays q h = found q ∙ ap (λ (b : Bool). cond b None (row_at p.rows q)) h

    fewer_rows : (q : List ℕ) → is_row p.rows q ≡ false → is_row rows q ≡ false
    fewer_rows q h = ap is_some (found q ∙ ap (cond (gone q) None) (not_found p.rows q h)) ∙ none (gone q)
      where
        none : (b : Bool) → is_some (cond {A = Option Row} b None None) ≡ false
        none true = refl
        none false = refl

    each : (q : List ℕ) (x : Row) → row_at rows q ≡ Some x → IsPlaced rows x.path × IsRight x
    each q x e = by_test (gone q) refl (sym (found q) ∙ e)
      where
        by_test : (b : Bool) → gone q ≡ b → cond b None (row_at p.rows q) ≡ Some x → IsPlaced rows x.path × IsRight x
        by_test true g k = absurd cc
        by_test false g k =
            let at = found_path p.rows q x k in
            let here : is_row p.rows x.path ≡ true = ap (is_row p.rows) at ∙ is_found p.rows q x k in
            let kept : gone x.path ≡ false = ap gone at ∙ g in (
              still_placed p.rows rows x.path (placed p q x w k)
                  (λ a f h. ap is_some (stays a (parents x.path a here kept f)) ∙ h)
                  (λ a f h. fewer_rows a h)
                  (λ a f h. ap is_some (stays a (subjects x.path a here kept f)) ∙ h),
              right_at p q x w k,
            )
