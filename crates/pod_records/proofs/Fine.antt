-- A pod is well-formed after edits exactly where it is so at each path of an edit.
use Rattle.std.proofs.Common.{◌≡◌, ◌+◌, ◌≤◌, ◌-◌, ℕ, Bool, true, false, not, cond, ◌||◌, ◌&&◌, List, [], ◌∷◌, ◌++◌, length, filter, map, Option, Some, None, Ok, refl, sym, ap, ◌∙◌, subst, arith, ⊎_elim, inl, inr, ◌⊎◌}
use Rattle.std.specs.Prelude.{is_some, bytes_eq, codes}
use Rattle.std.specs.List.{list_all}
use Rattle.std.proofs.lemmas.Bool.{and_parts, and_from, false≢true, true≢false, not-true, false_from_ne_true, le-leb, leb-true}
use Rattle.std.proofs.lemmas.Slice.Eq.{bytes_eq-Decides}
use Rattle.pod_command.specs.declared.row.Content.{Content}
use Rattle.pod_command.specs.declared.row.Kind.{Kind}
use Rattle.pod_command.specs.declared.row.Kind.TheVariants as kinds
use Rattle.pod_command.specs.declared.row.Row.{Row}
use Rattle.pod_command.specs.declared.edit.Edit.{Edit}
use Rattle.pod_path.specs.Hierarchy.{root, is_root, is_container, is_acl, is_meta, is_auxiliary, without_end, parent_of, twin_of, subject_of, acl_of, meta_of}
use Rattle.pod_path.specs.Norm.{IsPath, norm}
use Rattle.pod_path.proofs.Subjects.{acl_back, meta_back}
use Rattle.pod_path.proofs.Twins.{twin_back}
use Rattle.pod_rows.specs.Apply.{after_edits, with_rows, with_rows_if}
use Rattle.pod_rows.specs.Pod.{Pod, row_at, is_row, is_row_of}
use Rattle.pod_rows.specs.Tree.{children_of, is_child_of, is_the_path}
use Rattle.pod_rows.specs.WellFormed.{WellFormed, has_normal_path, has_right_kind, fits_kind, lacks_stored_containment, is_container_kind, is_container_row, is_subject_row, guards_content, guards_row}
use Rattle.pod_rows.specs.declared.limits.TheConstants.{ROWS_LIMIT}
use Rattle.pod_rows.proofs.Tests.{parse_is}
use Rattle.pod_edits.specs.Refusals.{is_root_list, has_children, has_some}
use Rattle.pod_edits.proofs.FoundRows.{found_path, is_found, found_row, not_found, all_found}
use Rattle.pod_edits.proofs.Places.{no_children}
use Rattle.pod_edits.proofs.Transfer.{IsPlaced, IsRight, placed, placed_at, right_at, well_formed_by, root_row, list_row, root_is, list_guards, still_placed}
use Rattle.pod_edits.proofs.Trees.{path_of_norm, auxiliary_parent, subject_plain, two_auxiliaries}
use Rattle.pod_records.specs.Made.{HasMade, added, gone, latest, row_now, found_in}
use Rattle.pod_records.specs.Touched.{is_there, is_there_of, is_subject_there, is_placed, none_there, lacks_children, lacks_auxiliaries, is_kept, is_free, is_right, keeps_guard, is_row_fine, is_fine_with, is_fine, has_room}
use Rattle.pod_records.specs.declared.edited_rows.Made.{Made}
use Rattle.pod_records.proofs.Latest.{latest_all}

-- ---- tests of what is found, as tests of rows

there_is : (rows : List Row) (at : List ℕ → Option Row) → ((q : List ℕ) → row_at rows q ≡ at q) → (q : List ℕ) → is_there at q ≡ is_row rows q
there_is rows at f q = ap is_some (sym (f q))

there_of_is : (rows : List Row) (at : List ℕ → Option Row) → ((q : List ℕ) → row_at rows q ≡ at q) → (o : Option (List ℕ)) → is_there_of at o ≡ is_row_of rows o
there_of_is rows at f None = refl
there_of_is rows at f (Some q) = there_is rows at f q

subject_is : (rows : List Row) (at : List ℕ → Option Row) → ((q : List ℕ) → row_at rows q ≡ at q) → (o : Option (List ℕ)) → is_subject_there at o ≡ is_subject_row rows o
subject_is rows at f None = refl
subject_is rows at f (Some q) = there_is rows at f q

-- a row is placed
placed_from : (rows : List Row) (at : List ℕ → Option Row) → ((q : List ℕ) → row_at rows q ≡ at q) → (path : List ℕ) → is_placed at path ≡ true → norm path ≡ Ok path → IsPlaced rows path
unfolding is_placed
placed_from rows at f path h n =
    let one = and_parts (is_root path || is_there_of at (parent_of path)) (not (is_there_of at (twin_of path)) && is_subject_there at (subject_of path)) h in
    let two = and_parts (not (is_there_of at (twin_of path))) (is_subject_there at (subject_of path)) one.1 in
    record {
      normal = n;
      parent = ap (λ (b : Bool). is_root path || b) (sym (there_of_is rows at f (parent_of path))) ∙ one.0;
      twin = sym (there_of_is rows at f (twin_of path)) ∙ not-true (is_there_of at (twin_of path)) two.0;
      subject = sym (subject_is rows at f (subject_of path)) ∙ two.1;
    }

placed_to : (rows : List Row) (at : List ℕ → Option Row) → ((q : List ℕ) → row_at rows q ≡ at q) → (path : List ℕ) → IsPlaced rows path → is_placed at path ≡ true
unfolding is_placed
placed_to rows at f path i =
    and_from (is_root path || is_there_of at (parent_of path)) (not (is_there_of at (twin_of path)) && is_subject_there at (subject_of path))
    (ap (λ (b : Bool). is_root path || b) (there_of_is rows at f (parent_of path)) ∙ i.parent)
    (and_from (not (is_there_of at (twin_of path))) (is_subject_there at (subject_of path)) (ap not (there_of_is rows at f (twin_of path) ∙ i.twin)) (subject_is rows at f (subject_of path) ∙ i.subject))

-- a row is right by itself
right_normal : (r : Row) → is_right r ≡ true → norm r.path ≡ Ok r.path
unfolding is_right has_normal_path
right_normal r h = parse_is (norm r.path) r.path (and_parts (has_normal_path r) (has_right_kind r && lacks_stored_containment r) h).0

pub right_from : (r : Row) → is_right r ≡ true → IsRight r
unfolding is_right
right_from r h =
    let parts = and_parts (has_right_kind r) (lacks_stored_containment r) (and_parts (has_normal_path r) (has_right_kind r && lacks_stored_containment r) h).1 in
    record { kind = parts.0; containment = parts.1 }

pub right_to : (p : Pod) (q : List ℕ) (r : Row) → WellFormed p → row_at p.rows q ≡ Some r → is_right r ≡ true
unfolding is_right
right_to p q r w e =
    let i = right_at p q r w e in
    and_from (has_normal_path r) (has_right_kind r && lacks_stored_containment r) (all_found has_normal_path p.rows q r w.paths e) (and_from (has_right_kind r) (lacks_stored_containment r) i.kind i.containment)

-- the guard of the root's access list
pub guard_from : (p : Pod) (path : List ℕ) (c : Content) → keeps_guard p path c ≡ true → is_root_list path ≡ true → guards_content p c ≡ true
unfolding keeps_guard
guard_from p path c h l = ap (λ (b : Bool). not b || guards_content p c) (sym l) ∙ h

guard_to : (p : Pod) (path : List ℕ) (c : Content) → (is_root_list path ≡ true → guards_content p c ≡ true) → keeps_guard p path c ≡ true
unfolding keeps_guard
guard_to p path c f = by_test (is_root_list path) refl
  where
    by_test : (b : Bool) → is_root_list path ≡ b → (not b || guards_content p c) ≡ true
    by_test true t = f t
    by_test false t = refl

-- ---- a path without a row

record IsFree (old rows : List Row) (at : List ℕ → Option Row) (path : List ℕ) : Type 0 where
  kept : is_kept path ≡ false
  children : none_there at (children_of old path) ≡ true
  acl : is_row_of rows (acl_of path) ≡ false
  meta : is_row_of rows (meta_of path) ≡ false

children_parts : (old : List Row) (at : List ℕ → Option Row) (path : List ℕ) → lacks_children old at path ≡ true → none_there at (children_of old path) ≡ true
unfolding lacks_children
children_parts old at path h = h

auxiliary_parts : (at : List ℕ → Option Row) (path : List ℕ) → lacks_auxiliaries at path ≡ true → (is_there_of at (acl_of path) ≡ false) × (is_there_of at (meta_of path) ≡ false)
unfolding lacks_auxiliaries
auxiliary_parts at path h =
    let parts = and_parts (not (is_there_of at (acl_of path))) (not (is_there_of at (meta_of path))) h in
    (not-true (is_there_of at (acl_of path)) parts.0, not-true (is_there_of at (meta_of path)) parts.1)

free_from : (old rows : List Row) (at : List ℕ → Option Row) → ((q : List ℕ) → row_at rows q ≡ at q) → (path : List ℕ) → is_free old at path ≡ true → IsFree old rows at path
unfolding is_free
free_from old rows at f path h =
    let one = and_parts (not (is_kept path)) (lacks_children old at path && lacks_auxiliaries at path) h in
    let two = and_parts (lacks_children old at path) (lacks_auxiliaries at path) one.1 in
    let auxiliaries = auxiliary_parts at path two.1 in
    record {
      kept = not-true (is_kept path) one.0;
      children = children_parts old at path two.0;
      acl = sym (there_of_is rows at f (acl_of path)) ∙ auxiliaries.0;
      meta = sym (there_of_is rows at f (meta_of path)) ∙ auxiliaries.1;
    }

free_to : (old : List Row) (at : List ℕ → Option Row) (path : List ℕ) → is_kept path ≡ false → none_there at (children_of old path) ≡ true → is_there_of at (acl_of path) ≡ false → is_there_of at (meta_of path) ≡ false
    → is_free old at path ≡ true
unfolding is_free lacks_children lacks_auxiliaries
free_to old at path k c a m =
    and_from (not (is_kept path)) (lacks_children old at path && lacks_auxiliaries at path) (ap not k)
    (and_from (lacks_children old at path) (lacks_auxiliaries at path) c (and_from (not (is_there_of at (acl_of path))) (not (is_there_of at (meta_of path))) (ap not a) (ap not m)))

-- a row that a test keeps is among those that all pass
kept_found : (t : List ℕ → Bool) (test : Row → Bool) (rows : List Row) (q : List ℕ) (x : Row) → list_all t (map (λ (r : Row). r.path) (filter test rows)) ≡ true → row_at rows q ≡ Some x → test x ≡ true → t x.path ≡ true
kept_found t test [] q x h e k = absurd cc
kept_found t test (y ∷ ys) q x h e k = by_test (bytes_eq y.path q) (test y) refl h e (kept_found t test ys q x)
  where
    by_test : (a b : Bool) → test y ≡ b → list_all t (map (λ (r : Row). r.path) (cond b (y ∷ filter test ys) (filter test ys))) ≡ true → cond a (Some y) (row_at ys q) ≡ Some x
        → (list_all t (map (λ (r : Row). r.path) (filter test ys)) ≡ true → row_at ys q ≡ Some x → test x ≡ true → t x.path ≡ true) → t x.path ≡ true
    by_test true true u g i more =
        let same : y ≡ x = cc in
        ap (λ (r : Row). t r.path) (sym same) ∙ (and_parts (t y.path) (list_all t (map (λ (r : Row). r.path) (filter test ys))) g).0
    by_test true false u g i more = let same : y ≡ x = cc in absurd (true≢false (sym k ∙ ap test (sym same) ∙ u))
    by_test false true u g i more = more (and_parts (t y.path) (list_all t (map (λ (r : Row). r.path) (filter test ys))) g).1 i k
    by_test false false u g i more = more g i k

kept_all : (t : List ℕ → Bool) (test : Row → Bool) (rows : List Row) → ((x : Row) → test x ≡ true → t x.path ≡ true) → list_all t (map (λ (r : Row). r.path) (filter test rows)) ≡ true
kept_all t test [] f = refl
kept_all t test (y ∷ ys) f = by_test (test y) refl (kept_all t test ys f)
  where
    by_test : (b : Bool) → test y ≡ b → list_all t (map (λ (r : Row). r.path) (filter test ys)) ≡ true → list_all t (map (λ (r : Row). r.path) (cond b (y ∷ filter test ys) (filter test ys))) ≡ true
    by_test true u h = and_from (t y.path) (list_all t (map (λ (r : Row). r.path) (filter test ys))) (f y u) h
    by_test false u h = h

child_parent : (path : List ℕ) (x : Row) → is_child_of path x ≡ true → parent_of x.path ≡ Some path
child_parent path x h = by_parent (parent_of x.path) refl (and_parts (not (is_auxiliary x.path)) (is_the_path path (parent_of x.path)) h).1
  where
    by_parent : (o : Option (List ℕ)) → parent_of x.path ≡ o → is_the_path path o ≡ true → parent_of x.path ≡ Some path
    by_parent None e k = absurd (false≢true k)
    by_parent (Some q) e k = e ∙ ap (λ (y : List ℕ). Some y) ((bytes_eq-Decides q path).0 k)

child_is : (path : List ℕ) (x : Row) → is_auxiliary x.path ≡ false → parent_of x.path ≡ Some path → is_child_of path x ≡ true
child_is path x a e = and_from (not (is_auxiliary x.path)) (is_the_path path (parent_of x.path)) (ap not a) (ap (is_the_path path) e ∙ (bytes_eq-Decides path path).1 refl)

root_has_none : (path q : List ℕ) → is_root path ≡ true → parent_of path ≡ Some q → ⊥
root_has_none path q r e = let none : None ≡ Some q = sym (ap parent_of ((bytes_eq-Decides path root).0 r)) ∙ e in absurd cc

-- a row at the root of a right kind is a container
root_kind : (kind : Kind) (content : Content) → fits_kind root kind content ≡ true → is_container_kind kind ≡ true
root_kind kinds.Container content h = refl
root_kind kinds.Acl content h = absurd (false≢true h)
root_kind kinds.Meta content h = absurd (false≢true h)
root_kind kinds.Graph content h = absurd (false≢true h)
root_kind kinds.Bytes content h = absurd (false≢true h)

-- ---- sound

-- a pod, what edits made of it, and that each path of an edit is fine
record AreFine (p : Pod) (made : List Made) (rows : List Row) : Type 0 where
  well_formed : WellFormed p
  found : (q : List ℕ) → row_at rows q ≡ found_in p.rows made q
  fine : list_all (λ (one : Made). is_fine p (found_in p.rows made) one.path) made ≡ true

fine_with : (p : Pod) (at : List ℕ → Option Row) (q : List ℕ) (o : Option Row) → at q ≡ o → is_fine p at q ≡ true → is_fine_with p at q o ≡ true
unfolding is_fine
fine_with p at q o e h = ap (is_fine_with p at q) (sym e) ∙ h

fine_to : (p : Pod) (at : List ℕ → Option Row) (q : List ℕ) (o : Option Row) → at q ≡ o → is_fine_with p at q o ≡ true → is_fine p at q ≡ true
unfolding is_fine
fine_to p at q o e h = ap (is_fine_with p at q) e ∙ h

-- a path is as before, or it is fine
fine_at : (p : Pod) (made : List Made) (rows : List Row) → AreFine p made rows → (q : List ℕ) → (row_at rows q ≡ row_at p.rows q) ⊎ (is_fine_with p (found_in p.rows made) q (row_at rows q) ≡ true)
fine_at p made rows a q = by_made (latest made q) refl
  where
    by_made : (o : Option Made) → latest made q ≡ o → (row_at rows q ≡ row_at p.rows q) ⊎ (is_fine_with p (found_in p.rows made) q (row_at rows q) ≡ true)
    by_made None e = inl (a.found q ∙ ap (λ (m : Option Made). row_now m (row_at p.rows q)) e)
    by_made (Some m) e =
        inr (fine_with p (found_in p.rows made) q (row_at rows q) (sym (a.found q)) (latest_all (is_fine p (found_in p.rows made)) made q m a.fine e))

-- what has gone is free
gone_free : (p : Pod) (made : List Made) (rows : List Row) → AreFine p made rows → (q : List ℕ) → is_row p.rows q ≡ true → is_row rows q ≡ false → IsFree p.rows rows (found_in p.rows made) q
gone_free p made rows a q here off =
    ⊎_elim (λ (same : row_at rows q ≡ row_at p.rows q). absurd (true≢false (sym here ∙ sym (ap is_some same) ∙ off)))
    (λ (h : is_fine_with p (found_in p.rows made) q (row_at rows q) ≡ true). free_from p.rows rows (found_in p.rows made) a.found q (ap (is_fine_with p (found_in p.rows made) q) (sym (not_found rows q off)) ∙ h))
    (fine_at p made rows a q)

-- what has gone has no access list and no description
no_auxiliary : (p : Pod) (made : List Made) (rows : List Row) → AreFine p made rows → (t s : List ℕ) → IsPath t → subject_of t ≡ Some s → is_row p.rows s ≡ true → is_row rows s ≡ false → is_row rows t ≡ false
no_auxiliary p made rows a t s path e here off =
    let free = gone_free p made rows a s here off in
    ⊎_elim (λ (l : acl_of s ≡ Some t). sym (ap (is_row_of rows) l) ∙ free.acl) (λ (m : meta_of s ≡ Some t). sym (ap (is_row_of rows) m) ∙ free.meta) (two_auxiliaries t s path e)

-- what has gone has no children
no_child : (p : Pod) (made : List Made) (rows : List Row) → AreFine p made rows → (q c : List ℕ) → is_row p.rows q ≡ true → is_row rows q ≡ false → is_row p.rows c ≡ true → is_auxiliary c ≡ false → parent_of c ≡ Some q
    → is_row rows c ≡ false
no_child p made rows a q c here off child plain e =
    let free = gone_free p made rows a q here off in
    let x = found_row p.rows c child in
    let is : x.0.path ≡ c = found_path p.rows c x.0 x.1 in
    let none : not (is_there (found_in p.rows made) x.0.path) ≡ true =
    kept_found (λ (r : List ℕ). not (is_there (found_in p.rows made) r)) (is_child_of q) p.rows c x.0 free.children x.1 (child_is q x.0 (ap is_auxiliary is ∙ plain) (ap parent_of is ∙ e)) in
    sym (there_is rows (found_in p.rows made) a.found c) ∙ ap (is_there (found_in p.rows made)) (sym is) ∙ not-true (is_there (found_in p.rows made) x.0.path) none

-- a row of both has its subject in both
subject_kept : (p : Pod) (made : List Made) (rows : List Row) → AreFine p made rows → (t s : List ℕ) → IsPath t → subject_of t ≡ Some s → is_row rows t ≡ true → is_row p.rows s ≡ true → is_row rows s ≡ true
subject_kept p made rows a t s path e there here = by_row (is_row rows s) refl
  where
    by_row : (b : Bool) → is_row rows s ≡ b → b ≡ true
    by_row true k = refl
    by_row false k = absurd (true≢false (sym there ∙ no_auxiliary p made rows a t s path e here k))

auxiliary_has : (t : List ℕ) → is_auxiliary t ≡ true → (s : List ℕ) × (subject_of t ≡ Some s)
auxiliary_has t h = by_tests (is_acl t) (is_meta t) h refl
  where
    by_tests : (a b : Bool) → (a || b) ≡ true → subject_of t ≡ cond a (Some (without_end 4 t)) (cond b (Some (without_end 5 t)) None) → (s : List ℕ) × (subject_of t ≡ Some s)
    by_tests true b k e = (without_end 4 t, e)
    by_tests false true k e = (without_end 5 t, e)
    by_tests false false k e = absurd (false≢true k)

-- a row of both has its parent in both
parent_kept : (p : Pod) (made : List Made) (rows : List Row) → AreFine p made rows → (t q : List ℕ) → IsPlaced p.rows t → is_row p.rows t ≡ true → is_row rows t ≡ true → parent_of t ≡ Some q → is_row p.rows q ≡ true → is_row rows q ≡ true
parent_kept p made rows a t q i old there e here = by_row (is_row rows q) refl
  where
    path : IsPath t
    path = path_of_norm t i.normal

    by_end : is_row rows q ≡ false → (s : List ℕ) → subject_of t ≡ Some s → is_row p.rows s ≡ true → ((is_container s ≡ true) × (parent_of t ≡ Some s)) ⊎ ((is_container s ≡ false) × (parent_of t ≡ parent_of s)) → ⊥
    by_end off s f h (inl c) =
        let both : Some s ≡ Some q = sym c.1 ∙ e in
        let same : s ≡ q = cc in
        true≢false (sym there ∙ no_auxiliary p made rows a t s path f h (ap (is_row rows) same ∙ off))
    by_end off s f h (inr c) = true≢false (sym there ∙ no_auxiliary p made rows a t s path f h (no_child p made rows a q s here off h (subject_plain t s path f) (sym c.1 ∙ e)))

    by_subject : is_row rows q ≡ false → ((s : List ℕ) × (subject_of t ≡ Some s)) → ⊥
    by_subject off (s, f) = by_end off s f (ap (is_subject_row p.rows) (sym f) ∙ i.subject) (auxiliary_parent t s path f)

    by_kind : is_row rows q ≡ false → (b : Bool) → is_auxiliary t ≡ b → ⊥
    by_kind off true x = by_subject off (auxiliary_has t x)
    by_kind off false x = true≢false (sym there ∙ no_child p made rows a q t here off old x e)

    by_row : (b : Bool) → is_row rows q ≡ b → b ≡ true
    by_row true k = refl
    by_row false k = absurd (by_kind k (is_auxiliary t) refl)

-- a row that is there at a path of an edit
record IsNew (rows : List Row) (p : Pod) (r : Row) : Type 0 where
  placed : IsPlaced rows r.path
  right : IsRight r
  guard : keeps_guard p r.path r.content ≡ true

new_from : (p : Pod) (made : List Made) (rows : List Row) → AreFine p made rows → (q : List ℕ) (r : Row) → row_at rows q ≡ Some r → is_fine_with p (found_in p.rows made) q (row_at rows q) ≡ true → IsNew rows p r
new_from p made rows a q r e h =
    let at = found_path rows q r e in
    let one = and_parts (is_right r) (keeps_guard p q r.content && is_placed (found_in p.rows made) q) (ap (is_fine_with p (found_in p.rows made) q) (sym e) ∙ h) in
    let two = and_parts (keeps_guard p q r.content) (is_placed (found_in p.rows made) q) one.1 in
    record {
      placed = placed_from rows (found_in p.rows made) a.found r.path (ap (is_placed (found_in p.rows made)) at ∙ two.1) (right_normal r one.0);
      right = right_from r one.0;
      guard = ap (λ (x : List ℕ). keeps_guard p x r.content) at ∙ two.0;
    }

-- no twin of a row is a row
twin_kept : (p : Pod) (made : List Made) (rows : List Row) → AreFine p made rows → (t q : List ℕ) → IsPath t → is_row rows t ≡ true → twin_of t ≡ Some q → is_row p.rows q ≡ false → is_row rows q ≡ false
twin_kept p made rows a t q path there e off = false_from_ne_true (is_row rows q) (λ k. by_row (found_row rows q k))
  where
    by_row : ((r : Row) × (row_at rows q ≡ Some r)) → ⊥
    by_row (r, f) =
        ⊎_elim (λ (same : row_at rows q ≡ row_at p.rows q). true≢false (sym (is_found rows q r f) ∙ ap is_some same ∙ off))
        (λ (h : is_fine_with p (found_in p.rows made) q (row_at rows q) ≡ true).
        let back : twin_of r.path ≡ Some t = ap twin_of (found_path rows q r f) ∙ twin_back t q path e in
        true≢false (sym there ∙ ap (is_row_of rows) (sym back) ∙ (new_from p made rows a q r f h).placed.twin))
        (fine_at p made rows a q)

each_fine : (p : Pod) (made : List Made) (rows : List Row) → AreFine p made rows → (q : List ℕ) (r : Row) → row_at rows q ≡ Some r → IsPlaced rows r.path × IsRight r
each_fine p made rows a q r e =
    ⊎_elim old (λ (h : is_fine_with p (found_in p.rows made) q (row_at rows q) ≡ true). let n = new_from p made rows a q r e h in (n.placed, n.right)) (fine_at p made rows a q)
  where
    old : row_at rows q ≡ row_at p.rows q → IsPlaced rows r.path × IsRight r
    old same =
        let was : row_at p.rows q ≡ Some r = sym same ∙ e in
        let at : r.path ≡ q = found_path rows q r e in
        let i = placed p q r a.well_formed was in
        let path = path_of_norm r.path i.normal in
        let here : is_row p.rows r.path ≡ true = ap (is_row p.rows) at ∙ is_found p.rows q r was in
        let there : is_row rows r.path ≡ true = ap (is_row rows) at ∙ is_found rows q r e in (
          still_placed p.rows rows r.path i
              (λ x f h. parent_kept p made rows a r.path x i here there f h)
              (λ x f h. twin_kept p made rows a r.path x path there f h)
              (λ x f h. subject_kept p made rows a r.path x path f there h),
          right_at p q r a.well_formed was,
        )

-- a row that every pod has
kept_there : (p : Pod) (made : List Made) (rows : List Row) → AreFine p made rows → (q : List ℕ) → is_kept q ≡ true → is_fine_with p (found_in p.rows made) q (row_at rows q) ≡ true → (r : Row) × (row_at rows q ≡ Some r)
kept_there p made rows a q k h = by_row (row_at rows q) refl h
  where
    by_row : (o : Option Row) → row_at rows q ≡ o → is_fine_with p (found_in p.rows made) q o ≡ true → (r : Row) × (row_at rows q ≡ Some r)
    by_row None e f = absurd (true≢false (sym k ∙ (free_from p.rows rows (found_in p.rows made) a.found q f).kept))
    by_row (Some r) e f = (r, e)

root_fine : (p : Pod) (made : List Made) (rows : List Row) → AreFine p made rows → is_container_row (row_at rows root) ≡ true
root_fine p made rows a =
    ⊎_elim (λ (same : row_at rows root ≡ row_at p.rows root). ap is_container_row same ∙ root_is p a.well_formed)
    (λ (h : is_fine_with p (found_in p.rows made) root (row_at rows root) ≡ true).
    let r = kept_there p made rows a root refl h in
    let right = (new_from p made rows a root r.0 r.1 h).right in
    ap is_container_row r.1 ∙ root_kind r.0.kind r.0.content (ap (λ (x : List ℕ). fits_kind x r.0.kind r.0.content) (sym (found_path rows root r.0 r.1)) ∙ right.kind))
    (fine_at p made rows a root)

list_fine : (p : Pod) (made : List Made) (rows : List Row) → AreFine p made rows → guards_row p (row_at rows (codes "/.acl")) ≡ true
list_fine p made rows a =
    ⊎_elim (λ (same : row_at rows (codes "/.acl") ≡ row_at p.rows (codes "/.acl")). ap (guards_row p) same ∙ list_guards p a.well_formed)
    (λ (h : is_fine_with p (found_in p.rows made) (codes "/.acl") (row_at rows (codes "/.acl")) ≡ true).
    let r = kept_there p made rows a (codes "/.acl") refl h in
    ap (guards_row p) r.1 ∙ guard_from p r.0.path r.0.content (new_from p made rows a (codes "/.acl") r.0 r.1 h).guard (ap is_root_list (found_path rows (codes "/.acl") r.0 r.1)))
    (fine_at p made rows a (codes "/.acl"))

-- ---- how many

room_from : (old : List Row) (made : List Made) (n : ℕ) → length old ≤ ROWS_LIMIT → n + gone made ≡ length old + added made → has_room old made ≡ true → n ≤ ROWS_LIMIT
unfolding has_room
room_from old made n most count h = omega (arith, most, count, leb-true (added made - gone made) (ROWS_LIMIT - length old) h)

room_to : (old : List Row) (made : List Made) (n : ℕ) → length old ≤ ROWS_LIMIT → n + gone made ≡ length old + added made → n ≤ ROWS_LIMIT → has_room old made ≡ true
unfolding has_room
room_to old made n most count h = le-leb (added made - gone made) (ROWS_LIMIT - length old) (omega (arith, most, count, h))

-- ---- the pod after the edits

after_rows : (p : Pod) (steps : List Edit) (made : List Made) (h : HasMade p.rows steps made) → with_rows_if p (after_edits (Some p.rows) steps) ≡ with_rows p h.rows
after_rows p steps made h = ap (with_rows_if p) h.after

pub sound : (p : Pod) (steps : List Edit) (made : List Made) → WellFormed p → HasMade p.rows steps made → has_room p.rows made ≡ true → list_all (λ (one : Made). is_fine p (found_in p.rows made) one.path) made ≡ true
    → WellFormed (with_rows_if p (after_edits (Some p.rows) steps))
sound p steps made w h room fine =
    let a : AreFine p made h.rows = record { well_formed = w; found = h.found; fine = fine } in
    subst WellFormed (sym (after_rows p steps made h))
    (well_formed_by p h.rows w h.order (room_from p.rows made (length h.rows) w.number h.count room) (each_fine p made h.rows a) (root_fine p made h.rows a) (list_fine p made h.rows a))

-- ---- complete

free_here : (p : Pod) (rows : List Row) (at : List ℕ → Option Row) → ((q : List ℕ) → row_at rows q ≡ at q) → WellFormed (with_rows p rows) → (q : List ℕ) → row_at rows q ≡ None → is_free p.rows at q ≡ true
free_here p rows at f w q none =
    free_to p.rows at q (false_from_ne_true (is_kept q) kept) (kept_all (λ (x : List ℕ). not (is_there at x)) (is_child_of q) p.rows child)
    (there_of_is rows at f (acl_of q) ∙ list (is_auxiliary q))
    (there_of_is rows at f (meta_of q) ∙ description (is_auxiliary q))
  where
    off : is_row rows q ≡ false
    off = ap is_some none

    kept : is_kept q ≡ true → ⊥
    kept k = by_root (is_root q) refl k
      where
        by_root : (b : Bool) → is_root q ≡ b → (b || is_root_list q) ≡ true → ⊥
        by_root true r j = true≢false (sym (root_row (with_rows p rows) w) ∙ ap (is_row rows) (sym ((bytes_eq-Decides q root).0 r)) ∙ off)
        by_root false r j = true≢false (sym (list_row (with_rows p rows) w) ∙ ap (is_row rows) (sym ((bytes_eq-Decides q (codes "/.acl")).0 j)) ∙ off)

    no_row : (x : List ℕ) → (is_row rows x ≡ true → ⊥) → not (is_there at x) ≡ true
    no_row x g = ap not (there_is rows at f x ∙ false_from_ne_true (is_row rows x) g)

    child : (x : Row) → is_child_of q x ≡ true → not (is_there at x.path) ≡ true
    child x c = no_row x.path (λ here. by_root (is_root x.path) refl (placed_at (with_rows p rows) x.path w here).parent)
      where
        above : parent_of x.path ≡ Some q
        above = child_parent q x c

        by_root : (b : Bool) → is_root x.path ≡ b → (b || is_row_of rows (parent_of x.path)) ≡ true → ⊥
        by_root true r h = root_has_none x.path q r above
        by_root false r h = true≢false (sym h ∙ ap (is_row_of rows) above ∙ off)

    no_subject_row : (x : List ℕ) → subject_of x ≡ Some q → is_row rows x ≡ false
    no_subject_row x s = false_from_ne_true (is_row rows x) (λ here. true≢false (sym (placed_at (with_rows p rows) x w here).subject ∙ ap (is_subject_row rows) s ∙ off))

    list : (b : Bool) → is_row_of rows (cond b None (Some (q ++ codes ".acl"))) ≡ false
    list true = refl
    list false = no_subject_row (q ++ codes ".acl") (acl_back q)

    description : (b : Bool) → is_row_of rows (cond b None (Some (q ++ codes ".meta"))) ≡ false
    description true = refl
    description false = no_subject_row (q ++ codes ".meta") (meta_back q)

pub row_here : (p : Pod) (rows : List Row) (at : List ℕ → Option Row) → ((q : List ℕ) → row_at rows q ≡ at q) → WellFormed (with_rows p rows) → (q : List ℕ) (r : Row) → row_at rows q ≡ Some r → is_row_fine p at q r ≡ true
row_here p rows at f w q r e =
    and_from (is_right r) (keeps_guard p q r.content && is_placed at q) (right_to (with_rows p rows) q r w e)
    (and_from (keeps_guard p q r.content) (is_placed at q) (guard_to p q r.content guard) (placed_to rows at f q (placed_at (with_rows p rows) q w (is_found rows q r e))))
  where
    guard : is_root_list q ≡ true → guards_content p r.content ≡ true
    guard l = ap (guards_row p) (sym (ap (row_at rows) (sym ((bytes_eq-Decides q (codes "/.acl")).0 l)) ∙ e)) ∙ list_guards (with_rows p rows) w

fine_here : (p : Pod) (rows : List Row) (at : List ℕ → Option Row) → ((q : List ℕ) → row_at rows q ≡ at q) → WellFormed (with_rows p rows) → (q : List ℕ) → is_fine p at q ≡ true
fine_here p rows at f w q = by_row (row_at rows q) refl
  where
    by_row : (o : Option Row) → row_at rows q ≡ o → is_fine p at q ≡ true
    by_row None e = fine_to p at q None (sym (f q) ∙ e) (free_here p rows at f w q e)
    by_row (Some r) e = fine_to p at q (Some r) (sym (f q) ∙ e) (row_here p rows at f w q r e)

all_fine : (test : List ℕ → Bool) (made : List Made) → ((q : List ℕ) → test q ≡ true) → list_all (λ (one : Made). test one.path) made ≡ true
all_fine test [] f = refl
all_fine test (m ∷ more) f = and_from (test m.path) (list_all (λ (one : Made). test one.path) more) (f m.path) (all_fine test more f)

pub complete_fine : (p : Pod) (steps : List Edit) (made : List Made) → HasMade p.rows steps made → WellFormed (with_rows_if p (after_edits (Some p.rows) steps)) → list_all (λ (one : Made). is_fine p (found_in p.rows made) one.path) made ≡ true
complete_fine p steps made h w =
    all_fine (is_fine p (found_in p.rows made)) made (fine_here p h.rows (found_in p.rows made) h.found (subst WellFormed (after_rows p steps made h) w))

pub complete_room : (p : Pod) (steps : List Edit) (made : List Made) → WellFormed p → HasMade p.rows steps made → WellFormed (with_rows_if p (after_edits (Some p.rows) steps)) → has_room p.rows made ≡ true
complete_room p steps made old h w = room_to p.rows made (length h.rows) old.number h.count (subst WellFormed (after_rows p steps made h) w).number

-- ---- children of what is no container

pub children_none : (p : Pod) (at : List ℕ → Option Row) (path : List ℕ) → WellFormed p → is_container path ≡ false → true ≡ lacks_children p.rows at path
unfolding lacks_children has_children
children_none p at path w c = by_children (children_of p.rows path) (no_children p path w c)
  where
    by_children : (xs : List (List ℕ)) → false ≡ has_some xs → true ≡ none_there at xs
    by_children [] h = refl
    by_children (x ∷ xs) h = absurd (false≢true h)

-- ---- the test of a path

pub fine_row : (p : Pod) (at : List ℕ → Option Row) (path : List ℕ) (o : Option Row) (b : Bool) → o ≡ at path → b ≡ is_fine_with p at path o → b ≡ is_fine p at path
unfolding is_fine
fine_row p at path o b e h = h ∙ ap (is_fine_with p at path) e
