-- What edits make of a path is decided by what was at it.
use Rattle.std.proofs.Common.{◌≡◌, ℕ, Bool, true, false, cond, List, [], ◌∷◌, Option, Some, None, refl, sym, ap, ◌∙◌}
use Rattle.std.specs.Prelude.{bytes_eq}
use Rattle.std.proofs.lemmas.Slice.Eq.{bytes_eq-Decides}
use Rattle.rdf_graph.specs.declared.change.Change.{Change}
use Rattle.pod_base.specs.declared.moment.Moment.{Moment}
use Rattle.pod_command.specs.declared.edit.Edit.{Edit}
use Rattle.pod_command.specs.declared.edit.Edit.TheVariants as edits
use Rattle.pod_command.specs.declared.row.Content.{Content}
use Rattle.pod_command.specs.declared.row.Content.TheVariants as contents
use Rattle.pod_command.specs.declared.row.Row.{Row}
use Rattle.pod_rows.specs.Apply.{after_edits, edited, put_row, remove_row, with_moment, with_content, changed_row, put_found as found_put, change_found, touch_found, remove_found}
use Rattle.pod_rows.specs.GraphSets.{changed_graph, has_triples}
use Rattle.pod_rows.specs.Pod.{row_at}
use Rattle.pod_rows.proofs.Steps.{edits_none}
use Rattle.pod_edits.proofs.FoundRows.{found_path, put_found, removed_found}

-- a row that is put in both: the same, or at another path
both_put : (a b : List Row) (r s : Row) (path q : List ℕ) → r.path ≡ path → s.path ≡ path → (path ≡ q → r ≡ s) → row_at a q ≡ row_at b q → row_at (put_row a r) q ≡ row_at (put_row b s) q
both_put a b r s path q er es same e =
    put_found a r q ∙ ap (λ (x : List ℕ). cond (bytes_eq x q) (Some r) (row_at a q)) er ∙ by_test (bytes_eq path q) refl
    ∙ sym (put_found b s q ∙ ap (λ (x : List ℕ). cond (bytes_eq x q) (Some s) (row_at b q)) es)
  where
    by_test : (t : Bool) → bytes_eq path q ≡ t → cond t (Some r) (row_at a q) ≡ cond t (Some s) (row_at b q)
    by_test true h = ap (λ (x : Row). Some x) (same ((bytes_eq-Decides path q).0 h))
    by_test false h = e

-- the row at a path that is this one is the same in both
same_row : (a b : List Row) (path q : List ℕ) (r s : Row) → row_at a q ≡ row_at b q → row_at a path ≡ Some r → row_at b path ≡ Some s → path ≡ q → r ≡ s
same_row a b path q r s e fr fs is = let both : Some r ≡ Some s = sym fr ∙ ap (row_at a) is ∙ e ∙ ap (row_at b) (sym is) ∙ fs in cc

changed_path : (change : Change) (modified : Moment) (r new : Row) (content : Content) → changed_row change modified r content ≡ Some new → new.path ≡ r.path
changed_path change modified r new (contents.Graph triples) h = by_test (has_triples triples change.removed) h
  where
    by_test : (t : Bool) → cond t (Some (with_content r (contents.Graph (changed_graph triples change.removed change.added)) modified)) None ≡ Some new → new.path ≡ r.path
    by_test true k = let same : with_content r (contents.Graph (changed_graph triples change.removed change.added)) modified ≡ new = cc in ap (λ (x : Row). x.path) (sym same)
    by_test false k = absurd cc
changed_path change modified r new (contents.Bytes ctype bytes) h = absurd cc

change_once : (a b x y : List Row) (path q : List ℕ) (change : Change) (modified : Moment) (o p : Option Row) → row_at a path ≡ o → row_at b path ≡ p
    → change_found a change modified o ≡ Some x → change_found b change modified p ≡ Some y → row_at a q ≡ row_at b q → row_at x q ≡ row_at y q
change_once a b x y path q change modified None p fo fp hx hy e = absurd cc
change_once a b x y path q change modified (Some r) None fo fp hx hy e = absurd cc
change_once a b x y path q change modified (Some r) (Some s) fo fp hx hy e =
    by_rows (changed_row change modified r r.content) (changed_row change modified s s.content) refl refl hx hy
  where
    by_rows : (u v : Option Row) → changed_row change modified r r.content ≡ u → changed_row change modified s s.content ≡ v → found_put a u ≡ Some x → found_put b v ≡ Some y → row_at x q ≡ row_at y q
    by_rows None v eu ev ku kv = absurd cc
    by_rows (Some m) None eu ev ku kv = absurd cc
    by_rows (Some m) (Some n) eu ev ku kv =
        let sx : put_row a m ≡ x = cc in
        let sy : put_row b n ≡ y = cc in
        let new_same : path ≡ q → m ≡ n = (λ is. (let one : r ≡ s = same_row a b path q r s e fo fp is in let both : Some m ≡ Some n = sym eu ∙ ap (λ (z : Row). changed_row change modified z z.content) one ∙ ev in cc)) in
        ap (λ (rows : List Row). row_at rows q) (sym sx)
        ∙ both_put a b m n path q (changed_path change modified r m r.content eu ∙ found_path a path r fo) (changed_path change modified s n s.content ev ∙ found_path b path s fp) new_same e
        ∙ ap (λ (rows : List Row). row_at rows q) sy

touch_once : (a b x y : List Row) (path q : List ℕ) (modified : Moment) (o p : Option Row) → row_at a path ≡ o → row_at b path ≡ p
    → touch_found a modified o ≡ Some x → touch_found b modified p ≡ Some y → row_at a q ≡ row_at b q → row_at x q ≡ row_at y q
touch_once a b x y path q modified None p fo fp hx hy e = absurd cc
touch_once a b x y path q modified (Some r) None fo fp hx hy e = absurd cc
touch_once a b x y path q modified (Some r) (Some s) fo fp hx hy e =
    let sx : put_row a (with_moment r modified) ≡ x = cc in
    let sy : put_row b (with_moment s modified) ≡ y = cc in
    ap (λ (rows : List Row). row_at rows q) (sym sx)
    ∙ both_put a b (with_moment r modified) (with_moment s modified) path q (found_path a path r fo) (found_path b path s fp)
    (λ is. ap (λ (z : Row). with_moment z modified) (same_row a b path q r s e fo fp is)) e
    ∙ ap (λ (rows : List Row). row_at rows q) sy

remove_once : (a b x y : List Row) (path q : List ℕ) (o p : Option Row) → row_at a path ≡ o → row_at b path ≡ p → remove_found a o ≡ Some x → remove_found b p ≡ Some y → row_at a q ≡ row_at b q → row_at x q ≡ row_at y q
remove_once a b x y path q None p fo fp hx hy e = absurd cc
remove_once a b x y path q (Some r) None fo fp hx hy e = absurd cc
remove_once a b x y path q (Some r) (Some s) fo fp hx hy e =
    let sx : remove_row a r.path ≡ x = cc in
    let sy : remove_row b s.path ≡ y = cc in
    ap (λ (rows : List Row). row_at rows q) (sym sx)
    ∙ removed_found a r.path q ∙ ap (cond (bytes_eq q r.path) None) e ∙ ap (λ (z : List ℕ). cond (bytes_eq q z) None (row_at b q)) (found_path a path r fo ∙ sym (found_path b path s fp))
    ∙ sym (removed_found b s.path q)
    ∙ ap (λ (rows : List Row). row_at rows q) sy

one_edit : (a b x y : List Row) (edit : Edit) (q : List ℕ) → edited a edit ≡ Some x → edited b edit ≡ Some y → row_at a q ≡ row_at b q → row_at x q ≡ row_at y q
one_edit a b x y (edits.Put row) q hx hy e =
    let sx : put_row a row ≡ x = cc in
    let sy : put_row b row ≡ y = cc in
    ap (λ (rows : List Row). row_at rows q) (sym sx) ∙ both_put a b row row row.path q refl refl (λ is. refl) e ∙ ap (λ (rows : List Row). row_at rows q) sy
one_edit a b x y (edits.Change path change modified) q hx hy e = change_once a b x y path q change modified (row_at a path) (row_at b path) refl refl hx hy e
one_edit a b x y (edits.Touch path modified) q hx hy e = touch_once a b x y path q modified (row_at a path) (row_at b path) refl refl hx hy e
one_edit a b x y (edits.Remove path) q hx hy e = remove_once a b x y path q (row_at a path) (row_at b path) refl refl hx hy e

-- where edits can be carried out on both, what was the same at a path is the same there afterwards
pub same_after : (list : List Edit) (a b x y : List Row) (q : List ℕ) → after_edits (Some a) list ≡ Some x → after_edits (Some b) list ≡ Some y → row_at a q ≡ row_at b q → row_at x q ≡ row_at y q
same_after [] a b x y q hx hy e =
    let sx : a ≡ x = cc in
    let sy : b ≡ y = cc in
    ap (λ (rows : List Row). row_at rows q) (sym sx) ∙ e ∙ ap (λ (rows : List Row). row_at rows q) sy
same_after (edit ∷ more) a b x y q hx hy e = by_first (edited a edit) (edited b edit) refl refl hx hy (λ u v. same_after more u v x y q)
  where
    by_first : (o p : Option (List Row)) → edited a edit ≡ o → edited b edit ≡ p → after_edits o more ≡ Some x → after_edits p more ≡ Some y
        → ((u v : List Row) → after_edits (Some u) more ≡ Some x → after_edits (Some v) more ≡ Some y → row_at u q ≡ row_at v q → row_at x q ≡ row_at y q) → row_at x q ≡ row_at y q
    by_first None p eo ep ko kp rest = let none : None ≡ Some x = sym (edits_none more) ∙ ko in absurd cc
    by_first (Some u) None eo ep ko kp rest = let none : None ≡ Some y = sym (edits_none more) ∙ kp in absurd cc
    by_first (Some u) (Some v) eo ep ko kp rest = rest u v ko kp (one_edit a b u v edit q eo ep e)
