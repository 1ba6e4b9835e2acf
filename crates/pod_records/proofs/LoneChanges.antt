-- A change of one graph alone: it can be carried out exactly where the pod stays well-formed with it.
use Rattle.std.proofs.Common.{◌≡◌, ℕ, Bool, true, false, not, cond, ◌||◌, ◌&&◌, List, [], ◌∷◌, Option, Some, None, refl, sym, ap, ◌∙◌}
use Rattle.std.specs.Prelude.{◌↔◌, IsTrue}
use Rattle.std.specs.List.{All, Contains}
use Rattle.std.proofs.lemmas.Bool.{and_parts, and_from, false≢true}
use Rattle.pod_base.specs.declared.moment.Moment.{Moment}
use Rattle.pod_command.specs.declared.edit.Edit.{Edit}
use Rattle.pod_command.specs.declared.edit.Edit.TheVariants as edits
use Rattle.pod_command.specs.declared.row.Content.{Content}
use Rattle.pod_command.specs.declared.row.Content.TheVariants as contents
use Rattle.pod_command.specs.declared.row.Kind.{Kind}
use Rattle.pod_command.specs.declared.row.Kind.TheVariants as kinds
use Rattle.pod_command.specs.declared.row.Row.{Row}
use Rattle.rdf_graph.specs.declared.change.Change.{Change}
use Rattle.rdf_graph.specs.declared.triple.Triple.{Triple}
use Rattle.pod_rows.specs.Apply.{after_edits, change_found, changed_row, put_found, put_row, with_content}
use Rattle.pod_rows.specs.GraphSets.{changed_graph, has_triples}
use Rattle.pod_rows.specs.Pod.{Pod, is_row, row_at}
use Rattle.pod_rows.specs.WellFormed.{WellFormed, fits_kind, has_normal_path, has_right_kind, is_container_kind, lacks_containment, lacks_stored_containment}
use Rattle.pod_rows.proofs.Sets.{have_from, have_to}
use Rattle.pod_rows.proofs.Tests.{same_test}
use Rattle.pod_edits.specs.Refusals.{is_root_list}
use Rattle.pod_edits.proofs.FoundRows.{found_path, is_found}
use Rattle.pod_edits.proofs.Transfer.{put_same}
use Rattle.pod_records.specs.LoneChanges.{fits_alone, fits_row, has_removed, takes_any_graph}
use Rattle.pod_records.specs.Made.{EditsFit}
use Rattle.pod_records.specs.Touched.{is_right}
use Rattle.pod_records.proofs.Fine.{right_from, right_to}

-- ---- what a change removes

pub has_removed_is : (change : Change) (g : List Triple) (b : Bool) → IsTrue b ↔ All (Contains g) change.removed → b ≡ has_removed change (contents.Graph g)
has_removed_is change g b h =
    same_test b (has_triples g change.removed) (λ e. have_from g change.removed (h.0 e)) (λ e. h.1 (have_to g change.removed e))

-- ---- a row that may hold any graph is right with each

both_false : (a b : Bool) → not (a || b) ≡ true → (a ≡ false) × (b ≡ false)
both_false true b h = absurd cc
both_false false true h = absurd cc
both_false false false h = (refl, refl)

each_graph : (path : List ℕ) (kind : Kind) (g new : List Triple) → fits_kind path kind (contents.Graph g) ≡ fits_kind path kind (contents.Graph new)
each_graph path kinds.Container g new = refl
each_graph path kinds.Acl g new = refl
each_graph path kinds.Meta g new = refl
each_graph path kinds.Graph g new = refl
each_graph path kinds.Bytes g new = refl

right_with : (row : Row) (g new : List Triple) (modified : Moment) → is_container_kind row.kind ≡ false → row.content ≡ contents.Graph g → is_right row ≡ true → is_right (with_content row (contents.Graph new) modified) ≡ true
unfolding is_right has_normal_path
right_with row g new modified plain is h =
    let path = and_parts (has_normal_path row) (has_right_kind row && lacks_stored_containment row) h in
    let kind = and_parts (has_right_kind row) (lacks_stored_containment row) path.1 in
    and_from (has_normal_path row) (fits_kind row.path row.kind (contents.Graph new) && (not (is_container_kind row.kind) || lacks_containment new)) path.0
    (and_from (fits_kind row.path row.kind (contents.Graph new)) (not (is_container_kind row.kind) || lacks_containment new)
    (sym (ap (fits_kind row.path row.kind) is ∙ each_graph row.path row.kind g new) ∙ kind.0)
    (ap (λ (b : Bool). not b || lacks_containment new) plain))

-- ---- the change of such a row

after_change : (rows : List Row) (path : List ℕ) (change : Change) (modified : Moment) (row : Row) (c : Content) → row_at rows path ≡ Some row → row.content ≡ c
    → after_edits (Some rows) (edits.Change path change modified ∷ []) ≡ put_found rows (changed_row change modified row c)
after_change rows path change modified row c at is =
    ap (change_found rows change modified) at ∙ ap (λ (x : Content). put_found rows (changed_row change modified row x)) is

abbrev new_row : Change → Moment → Row → List Triple → Row
new_row change modified row g = with_content row (contents.Graph (changed_graph g change.removed change.added)) modified

chosen : (rows : List Row) (change : Change) (modified : Moment) (row : Row) (g : List Triple) (b : Bool) → has_triples g change.removed ≡ b
    → put_found rows (changed_row change modified row (contents.Graph g)) ≡ put_found rows (cond b (Some (new_row change modified row g)) None)
chosen rows change modified row g b e = ap (λ (x : Bool). put_found rows (cond x (Some (new_row change modified row g)) None)) e

fits_from : (p : Pod) (path : List ℕ) (change : Change) (modified : Moment) (row : Row) (g : List Triple) → WellFormed p → row_at p.rows path ≡ Some row → row.content ≡ contents.Graph g → takes_any_graph row ≡ true → has_triples g change.removed ≡ true
    → EditsFit p (edits.Change path change modified ∷ [])
fits_from p path change modified row g w at is any has =
    let free = both_false (is_container_kind row.kind) (is_root_list row.path) any in
    record {
      rows = put_row p.rows (new_row change modified row g);
      after = after_change p.rows path change modified row (contents.Graph g) at is ∙ chosen p.rows change modified row g true has;
      well_formed = put_same p (new_row change modified row g) w (ap (is_row p.rows) (found_path p.rows path row at) ∙ is_found p.rows path row at)
          (right_from (new_row change modified row g) (right_with row g (changed_graph g change.removed change.added) modified free.0 is (right_to p path row w at)))
          (λ h. absurd (false≢true (sym free.1 ∙ h)));
    }

none_after : (rows new : List Row) → None ≡ Some new → ⊥
none_after rows new e = absurd cc

fits_to : (p : Pod) (path : List ℕ) (change : Change) (modified : Moment) (row : Row) (g : List Triple) → row_at p.rows path ≡ Some row → row.content ≡ contents.Graph g → EditsFit p (edits.Change path change modified ∷ [])
    → has_triples g change.removed ≡ true
fits_to p path change modified row g at is e = by_test (has_triples g change.removed) refl
  where
    by_test : (b : Bool) → has_triples g change.removed ≡ b → b ≡ true
    by_test true h = refl
    by_test false h = absurd (none_after p.rows e.rows (sym (after_change p.rows path change modified row (contents.Graph g) at is ∙ chosen p.rows change modified row g false h) ∙ e.after))

by_content : (p : Pod) (path : List ℕ) (change : Change) (modified : Moment) (row : Row) (fit : Bool) → WellFormed p → row_at p.rows path ≡ Some row → takes_any_graph row ≡ true → (c : Content) → row.content ≡ c → has_removed change c ≡ fit
    → (fit ≡ true → EditsFit p (edits.Change path change modified ∷ [])) × (EditsFit p (edits.Change path change modified ∷ []) → fit ≡ true)
by_content p path change modified row fit w at any (contents.Graph g) is e =
    ((λ t. fits_from p path change modified row g w at is any (e ∙ t)), (λ f. sym e ∙ fits_to p path change modified row g at is f))
by_content p path change modified row fit w at any (contents.Bytes ctype bytes) is e =
    ((λ t. absurd (false≢true (e ∙ t))), (λ f. absurd (none_after p.rows f.rows (sym (after_change p.rows path change modified row (contents.Bytes ctype bytes) at is) ∙ f.after))))

by_row : (p : Pod) (path : List ℕ) (change : Change) (modified : Moment) (row : Row) (fit : Bool) → WellFormed p → row_at p.rows path ≡ Some row → (b : Bool) → takes_any_graph row ≡ b → cond b (Some (has_removed change row.content)) None ≡ Some fit
    → (fit ≡ true → EditsFit p (edits.Change path change modified ∷ [])) × (EditsFit p (edits.Change path change modified ∷ []) → fit ≡ true)
by_row p path change modified row fit w at true any h =
    let e : has_removed change row.content ≡ fit = cc in by_content p path change modified row fit w at any row.content refl e
by_row p path change modified row fit w at false any h = absurd cc

at_path : (p : Pod) (path : List ℕ) (change : Change) (modified : Moment) (fit : Bool) → WellFormed p → (o : Option Row) → row_at p.rows path ≡ o → fits_row change o ≡ Some fit
    → (fit ≡ true → EditsFit p (edits.Change path change modified ∷ [])) × (EditsFit p (edits.Change path change modified ∷ []) → fit ≡ true)
at_path p path change modified fit w None at h = absurd cc
at_path p path change modified fit w (Some row) at h = by_row p path change modified row fit w at (takes_any_graph row) refl h

-- edits that are one change alone of a row that may hold any graph
pub fits_alone_is : (p : Pod) (steps : List Edit) (fit : Bool) → WellFormed p → fits_alone p.rows steps ≡ Some fit → (fit ≡ true → EditsFit p steps) × (EditsFit p steps → fit ≡ true)
fits_alone_is p [] fit w h = absurd cc
fits_alone_is p (edits.Put row ∷ more) fit w h = absurd cc
fits_alone_is p (edits.Touch path modified ∷ more) fit w h = absurd cc
fits_alone_is p (edits.Remove path ∷ more) fit w h = absurd cc
fits_alone_is p (edits.Change path change modified ∷ next ∷ more) fit w h = absurd cc
fits_alone_is p (edits.Change path change modified ∷ []) fit w h = at_path p path change modified fit w (row_at p.rows path) refl h
