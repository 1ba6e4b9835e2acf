-- Rows after edits, and rows without marks, are ready to be marked.
use Rattle.std.proofs.Common.{◌≡◌, ◌||◌, ℕ, Bool, true, false, cond, List, [], ◌∷◌, filter, map, Option, Some, None, refl, sym, ap, ◌∙◌, subst, option_map}
use Rattle.std.specs.Prelude.{is_some, bytes_eq}
use Rattle.std.proofs.lemmas.Bool.{true≢false, false≢true, or_parts}
use Rattle.std.proofs.lemmas.Slice.Eq.{bytes_eq-Decides}
use Rattle.pod_path.specs.Hierarchy.{subject_of}
use Rattle.pod_command.specs.declared.row.Row.{Row}
use Rattle.pod_rows.specs.Access.{effective_of, governed, has_own_list, list_path, rules_of_row}
use Rattle.pod_rows.specs.Pod.{row_at, is_row}
use Rattle.access_index.specs.Governing.{effective_among, has_list}
use Rattle.access_index.specs.Listing.{is_listed}
use Rattle.access_index.specs.Reach.{AgreeBeside, is_reached}
use Rattle.access_index.specs.Tables.{list_subjects}
use Rattle.access_index.proofs.Governance.{listed_rows, unreached}
use Rattle.access_index.proofs.Kept.{subjects_listed}
use Rattle.row_pages.specs.Items.{Placed, item_at, rows_of}
use Rattle.pod_pages.specs.Edited.{AreMarkedBy, placed_by, list_if, own_mark_if}
use Rattle.pod_pages.specs.Lists.{list_at}
use Rattle.pod_pages.specs.Marks.{how_of, own_if, own_of, own_number}
use Rattle.pod_pages.specs.Numbering.{AreReady, AreResolved, HasRightMark, IsTree, Places, changed_of, differ, is_changed}
use Rattle.pod_pages.specs.Versions.{unmarked}
use Rattle.pod_pages.specs.declared.list_table.AccessList.{AccessList}
use Rattle.pod_pages.proofs.Placing.{found_is, marked_found}
use Rattle.pod_pages.proofs.Resolution.{governing_has, resolved_has, resolved_lists, some_is, none_is}
use Rattle.pod_pages.proofs.Trees.{row_path}

-- ---- subjects whose lists came or went

kept_out : (f : List ℕ → Bool) (xs : List (List ℕ)) (q : List ℕ) → is_listed (filter f xs) q ≡ false → is_listed xs q ≡ true → f q ≡ false
kept_out f [] q h k = absurd (false≢true k)
kept_out f (x ∷ xs) q h k = by_test (f x) refl h (kept_out f xs q)
  where
    by_equal : (b : Bool) → bytes_eq x q ≡ b → (b || is_listed xs q) ≡ true → is_listed (filter f xs) q ≡ false → f x ≡ false → (is_listed (filter f xs) q ≡ false → is_listed xs q ≡ true → f q ≡ false) → f q ≡ false
    by_equal true e z g n more = ap f (sym ((bytes_eq-Decides x q).0 e)) ∙ n
    by_equal false e z g n more = more g z

    by_test : (b : Bool) → f x ≡ b → is_listed (cond b (x ∷ filter f xs) (filter f xs)) q ≡ false → (is_listed (filter f xs) q ≡ false → is_listed xs q ≡ true → f q ≡ false) → f q ≡ false
    by_test true e g more =
        let parts = or_parts (bytes_eq x q) (is_listed (filter f xs) q) g in
        more parts.1 (ap (λ (b : Bool). b || is_listed xs q) (sym parts.0) ∙ k)
    by_test false e g more = by_equal (bytes_eq x q) refl k g e more

same_of : (a b : Bool) → differ a b ≡ false → a ≡ b
same_of true true h = refl
same_of true false h = absurd (true≢false h)
same_of false true h = absurd (true≢false h)
same_of false false h = refl

-- lists at paths that aren't touched stay
agree : (before after : List Row) (touched : List (List ℕ)) → ((q : List ℕ) → is_listed touched q ≡ false → row_at after q ≡ row_at before q)
    → AgreeBeside (is_row before) (is_row after) (changed_of before after (list_subjects touched))
agree before after touched beside q h = by_touched (is_listed (list_subjects touched) q) refl
  where
    by_touched : (b : Bool) → is_listed (list_subjects touched) q ≡ b → has_list (is_row before) q ≡ has_list (is_row after) q
    by_touched true e = same_of (has_own_list before q) (has_own_list after q) (kept_out (is_changed before after) (list_subjects touched) q h e)
    by_touched false e = ap is_some (sym (beside (list_path q) (sym (subjects_listed touched q) ∙ e)))

effective_is : (rows : List Row) (path : List ℕ) → effective_of rows path ≡ effective_among (is_row rows) path
effective_is rows path = refl

-- ---- numbers of rows that have the old marks

no_item : (first : List Placed) (q : List ℕ) → is_row (rows_of first) q ≡ false → own_number first q ≡ None
no_item first q h = ap own_of (none_is (item_at first q) (found_is first q ∙ h))

-- the item of a row with the old marks
pub record Marked (old first : List Placed) (q : List ℕ) : Type 0 where
  pub row : Row
  pub found : row_at (rows_of first) q ≡ Some row
  pub path : row.path ≡ q
  pub item : item_at first q ≡ Some (placed_by old row)

marked_at : (old first : List Placed) (q : List ℕ) → AreMarkedBy old first → is_row (rows_of first) q ≡ true → Marked old first q
marked_at old first q m h =
    let r = some_is (row_at (rows_of first) q) h in
    record {
      row = r.0;
      found = r.1;
      path = row_path (rows_of first) q r.0 r.1;
      item = ap (λ (is : List Placed). item_at is q) m ∙ marked_found old (rows_of first) q ∙ ap (option_map (placed_by old)) r.1;
    }

own_by : (o : Option Placed) → own_if (own_mark_if o) (list_if o) ≡ own_of o
own_by None = refl
own_by (Some i) = refl

same_number : (old first : List Placed) (q : List ℕ) → AreMarkedBy old first → is_row (rows_of first) q ≡ true → own_number first q ≡ own_number old q
same_number old first q m h =
    let k = marked_at old first q m h in
    ap own_of k.item ∙ own_by (item_at old k.row.path) ∙ ap (λ (p : List ℕ). own_number old p) k.path

-- ---- rows after edits

pub ready_after : (base : List ℕ) (old : List Placed) (places : Places) (first : List Placed) (touched : List (List ℕ)) → IsTree (rows_of old) → AreResolved base old places
    → IsTree (rows_of first) → AreMarkedBy old first → ((q : List ℕ) → is_listed touched q ≡ false → row_at (rows_of first) q ≡ row_at (rows_of old) q)
    → AreReady base old places first touched
ready_after base old places first touched before r tree m beside = record {
  tree = tree;
  has = by_has;
  marks = by_marks;
  back = λ q k e h. same_number old first q m h ∙ e;
  lists = λ q k plain e. resolved_lists base old places r q k plain e;
  numbers = r.numbers;
  owners = λ k l e h. ap is_some (beside (list_path l.at) h) ∙ r.owners k l e;
  rules = λ k l e h. r.rules k l e ∙ ap (rules_of_row base) (sym (beside (list_path l.at) h));
  kept = by_kept;
}
  where
    by_has : (q : List ℕ) → subject_of q ≡ None → is_listed touched (list_path q) ≡ false → has_own_list (rows_of first) q ≡ is_some (own_number first q)
    by_has q plain h = by_row (is_row (rows_of first) q) refl
      where
        was : has_own_list (rows_of first) q ≡ is_some (own_number old q)
        was = ap is_some (beside (list_path q) h) ∙ resolved_has base old places before r q plain

        by_own : (b : Bool) → has_own_list (rows_of first) q ≡ b → is_row (rows_of first) q ≡ false → b ≡ false
        by_own true e n = absurd (true≢false (sym (tree.subjects q e) ∙ n))
        by_own false e n = refl

        by_row : (b : Bool) → is_row (rows_of first) q ≡ b → has_own_list (rows_of first) q ≡ is_some (own_number first q)
        by_row true e = was ∙ ap is_some (sym (same_number old first q m e))
        by_row false e = by_own (has_own_list (rows_of first) q) refl e ∙ ap is_some (sym (no_item first q e))

    by_marks : (q : List ℕ) (k : ℕ) → own_number first q ≡ Some k → own_number old q ≡ Some k
    by_marks q k e = by_row (is_row (rows_of first) q) refl
      where
        by_row : (b : Bool) → is_row (rows_of first) q ≡ b → own_number old q ≡ Some k
        by_row true h = sym (same_number old first q m h) ∙ e
        by_row false h = let none : None ≡ Some k = sym (no_item first q h) ∙ e in absurd cc

    by_kept : (p : List ℕ) (i : Placed) → item_at first p ≡ Some i → is_listed touched p ≡ false → is_reached (changed_of (rows_of old) (rows_of first) (list_subjects touched)) p ≡ false → HasRightMark first p i
    by_kept p i e untouched reach =
        let k = marked_at old first p m (sym (found_is first p) ∙ ap is_some e) in
        let is : Some (placed_by old k.row) ≡ Some i = sym k.item ∙ e in
        let one : placed_by old k.row ≡ i = cc in
        let j = some_is (item_at old p) (found_is old p ∙ ap is_some (sym (beside p untouched) ∙ k.found)) in
        let marks : item_at old k.row.path ≡ Some j.0 = ap (item_at old) k.path ∙ j.1 in
        let list : j.0.list ≡ i.list = sym (ap list_if marks) ∙ ap (λ (x : Placed). x.list) one in
        let own : j.0.own ≡ i.own = sym (ap own_mark_if marks) ∙ ap (λ (x : Placed). x.own) one in
        let g = r.governed p j.0 j.1 in
        let now : effective_of (rows_of first) p ≡ Some (governed g.list.at (how_of i.own)) =
        sym (unreached (is_row (rows_of old)) (is_row (rows_of first)) (changed_of (rows_of old) (rows_of first) (list_subjects touched)) p (agree (rows_of old) (rows_of first) touched beside) reach)
        ∙ g.governs ∙ ap (λ (b : Bool). Some (governed g.list.at (how_of b))) own in
        let has = governing_has (rows_of first) p (governed g.list.at (how_of i.own)) now in
        record {
          at = g.list.at;
          governs = now;
          number = same_number old first g.list.at m (tree.subjects g.list.at has) ∙ r.numbers j.0.list g.list g.found ∙ ap (λ (n : ℕ). Some n) list;
        }

-- ---- rows without marks

unmarked_own : (rows : List Row) (q : List ℕ) → own_number (map unmarked rows) q ≡ None
unmarked_own [] q = refl
unmarked_own (r ∷ rs) q = by_test (bytes_eq r.path q) (unmarked_own rs q)
  where
    by_test : (b : Bool) → own_number (map unmarked rs) q ≡ None → own_of (cond b (Some (unmarked r)) (item_at (map unmarked rs) q)) ≡ None
    by_test true more = refl
    by_test false more = more

pub unmarked_rows : (rows : List Row) → rows_of (map unmarked rows) ≡ rows
unmarked_rows [] = refl
unmarked_rows (r ∷ rs) = ap (λ (xs : List Row). r ∷ xs) (unmarked_rows rs)

no_place : (k : ℕ) (l : AccessList) → list_at [] k ≡ Some l → ⊥
no_place k l e = none_some (sym nothing ∙ e)
  where
    nothing : list_at [] k ≡ None
    nothing = refl

    none_some : None ≡ Some l → ⊥
    none_some z = absurd cc

pub ready_first : (base : List ℕ) (rows : List Row) (items : List Placed) (touched : List (List ℕ)) → IsTree rows → items ≡ map unmarked rows → touched ≡ map (λ (r : Row). r.path) rows
    → AreReady base items [] items touched
ready_first base rows items touched tree is all = record {
  tree = subst IsTree (sym same) tree;
  has = λ q plain h. ap (λ rs. is_row rs (list_path q)) same ∙ listed_rows rows (list_path q) ∙ ap (λ (xs : List (List ℕ)). is_listed xs (list_path q)) (sym all) ∙ h ∙ ap is_some (sym (none q));
  marks = λ q k e. absurd (never q k e);
  back = λ q k e h. absurd (never q k e);
  lists = λ q k plain e. absurd (never q k e);
  numbers = λ k l e. absurd (no_place k l e);
  owners = λ k l e h. absurd (no_place k l e);
  rules = λ k l e h. absurd (no_place k l e);
  kept = λ p i e h reach. absurd (true≢false (sym (ap is_some e) ∙ found_is items p ∙ ap (λ rs. is_row rs p) same ∙ listed_rows rows p ∙ ap (λ (xs : List (List ℕ)). is_listed xs p) (sym all) ∙ h));
}
  where
    same : rows_of items ≡ rows
    same = ap rows_of is ∙ unmarked_rows rows

    none : (q : List ℕ) → own_number items q ≡ None
    none q = ap (λ (xs : List Placed). own_number xs q) is ∙ unmarked_own rows q

    never : (q : List ℕ) (k : ℕ) → own_number items q ≡ Some k → ⊥
    never q k e = none_some (sym (none q) ∙ e)
      where
        none_some : None ≡ Some k → ⊥
        none_some z = absurd cc
