-- Rows that are marked anew are resolved.
use Rattle.std.proofs.Common.{◌≡◌, ◌||◌, ℕ, Bool, true, false, cond, List, [], ◌∷◌, ◌++◌, length, take, Option, Some, None, refl, sym, ap, ◌∙◌, subst, inl, inr, ◌⊎◌, ⊎_elim, append_assoc, arith}
use Rattle.std.specs.Prelude.{is_some, nat_eq, codes}
use Rattle.std.specs.List.{starts_with}
use Rattle.std.proofs.lemmas.Bool.{true≢false, or_parts}
use Rattle.std.proofs.lemmas.List.{append-nil, take_at}
use Rattle.std.proofs.lemmas.Slice.Eq.{bytes_eq-Decides}
use Rattle.pod_path.specs.Hierarchy.{is_acl, is_meta, subject_of, without_end}
use Rattle.pod_path.proofs.Names.{ends_is}
use Rattle.pod_rows.specs.Access.{about, effective_of, governed, has_own_list}
use Rattle.pod_rows.specs.Pod.{is_row}
use Rattle.access_index.specs.Listing.{is_listed}
use Rattle.access_index.specs.Reach.{is_reached, is_within}
use Rattle.access_index.specs.Tables.{ArePlain, list_subjects}
use Rattle.access_index.proofs.Within.{within_is}
use Rattle.row_pages.specs.Items.{Placed, item_at, rows_of}
use Rattle.pod_pages.specs.Lists.{list_at}
use Rattle.pod_pages.specs.Marks.{how_of, mark, mark_by, own_if, own_of, own_number, first_number, text_mark, path_mark}
use Rattle.pod_pages.specs.Numbering.{is_freed, AreMarked, AreNumbered, AreReady, AreResolved, HaveMarks, IsGoverned, IsListOf, IsMarked, IsTree, Places, changed_of, is_below, list_rules}
use Rattle.pod_pages.specs.declared.list_table.AccessList.{AccessList}
use Rattle.pod_pages.specs.declared.row_marks.Mark.{Mark}
use Rattle.pod_pages.proofs.Placing.{found_is}
use Rattle.pod_pages.proofs.Freeing.{ready}
use Rattle.pod_pages.proofs.Marking.{none_done}
use Rattle.pod_pages.proofs.Resolution.{Has, resolve, governing_has, some_is}

-- ---- what is reached begins with a subject

record Front (path front : List ℕ) : Type 0 where
  rest : List ℕ
  whole : path ≡ front ++ rest

about_front : (path : List ℕ) → Front path (about path (subject_of path))
about_front path = by_tests (is_acl path) (is_meta path) refl refl
  where
    by_tests : (a b : Bool) → is_acl path ≡ a → is_meta path ≡ b → Front path (about path (subject_of path))
    by_tests true b ea eb =
        subst (λ (o : Option (List ℕ)). Front path (about path o)) (sym (ap (λ (t : Bool). cond t (Some (without_end 4 path)) (cond (is_meta path) (Some (without_end 5 path)) None)) ea))
        (record { rest = codes ".acl"; whole = ends_is path (codes ".acl") ea })
    by_tests false true ea eb =
        subst (λ (o : Option (List ℕ)). Front path (about path o))
        (sym (ap (λ (t : Bool). cond t (Some (without_end 4 path)) (cond (is_meta path) (Some (without_end 5 path)) None)) ea ∙ ap (λ (t : Bool). cond t (Some (without_end 5 path)) None) eb))
        (record { rest = codes ".meta"; whole = ends_is path (codes ".meta") eb })
    by_tests false false ea eb =
        subst (λ (o : Option (List ℕ)). Front path (about path o))
        (sym (ap (λ (t : Bool). cond t (Some (without_end 4 path)) (cond (is_meta path) (Some (without_end 5 path)) None)) ea ∙ ap (λ (t : Bool). cond t (Some (without_end 5 path)) None) eb))
        (record { rest = []; whole = sym (append-nil path) })

within_front : (text s : List ℕ) → is_within text s ≡ true → Front text s
within_front text s h =
    ⊎_elim (λ e. record { rest = []; whole = e ∙ sym (append-nil s) }) (λ i. record { rest = i.rest; whole = i.whole }) ((within_is text s).0 h)

front_starts : (path s rest : List ℕ) → path ≡ s ++ rest → starts_with nat_eq path s ≡ true
front_starts path s rest e = (bytes_eq-Decides s (take (length s) path)).1 (sym (ap (take (length s)) e ∙ take_at s rest (length s) refl))

within_starts : (path s : List ℕ) → is_within (about path (subject_of path)) s ≡ true → starts_with nat_eq path s ≡ true
within_starts path s h =
    let a = about_front path in
    let w = within_front (about path (subject_of path)) s h in
    front_starts path s (w.rest ++ a.rest) (a.whole ∙ ap (λ (x : List ℕ). x ++ a.rest) w.whole ∙ append_assoc s w.rest a.rest)

pub not_reached : (subjects : List (List ℕ)) (path : List ℕ) → is_below subjects path ≡ false → is_reached subjects path ≡ false
not_reached [] path h = refl
not_reached (s ∷ ss) path h =
    let parts = or_parts (starts_with nat_eq path s) (is_below ss path) h in
    ap (λ (b : Bool). b || is_reached ss path) (by_within (is_within (about path (subject_of path)) s) refl parts.0) ∙ not_reached ss path parts.1
  where
    by_within : (b : Bool) → is_within (about path (subject_of path)) s ≡ b → starts_with nat_eq path s ≡ false → b ≡ false
    by_within true e k = absurd (true≢false (sym (within_starts path s e) ∙ k))
    by_within false e k = refl

-- ---- rows that are numbered have marks

pub numbered_has : (base : List ℕ) (first numbers : List Placed) (places : Places) → AreNumbered base first [] numbers places → Has (rows_of first) numbers
numbered_has base first numbers places n path plain = n.has path plain refl

pub numbered_marks : (base : List ℕ) (first numbers : List Placed) (places : Places) → IsTree (rows_of first) → AreNumbered base first [] numbers places → HaveMarks numbers
numbered_marks base first numbers places tree n path h =
    ap is_some (resolve (rows_of first) numbers (numbered_has base first numbers places n) tree.rooted path (tree.paths path (ap (λ rs. is_row rs path) (sym n.rows) ∙ h))).mark

-- ---- all is resolved

own_true : (number : ℕ) → own_if true number ≡ Some number
own_true number = refl

pub assembled : (base : List ℕ) (old : List Placed) (places : Places) (first : List Placed) (touched subjects changed : List (List ℕ)) (numbers : List Placed) (now : Places) (items : List Placed)
    → AreReady base old places first touched → subjects ≡ list_subjects touched → changed ≡ changed_of (rows_of old) (rows_of first) subjects
    → AreNumbered base first [] numbers now → ((p : List ℕ) → is_listed subjects p ≡ false → item_at numbers p ≡ item_at first p)
    → AreMarked numbers (λ p. is_below changed p || (is_listed subjects p || (is_listed touched p || false))) items
    → AreResolved base items now
assembled base old places first touched subjects changed numbers now items a is turned n others m = record {
  governed = λ p i e. by_mark p i e (m.marks p i e);
  numbers = by_number;
  owners = λ k l e. ap (λ rs. has_own_list rs l.at) same ∙ n.owners k l e;
  rules = λ k l e. n.rules k l e refl ∙ ap (λ rs. list_rules base rs l.at) (sym same);
}
  where
    same : rows_of items ≡ rows_of first
    same = m.rows ∙ n.rows

    path_here : (p : List ℕ) (i : Placed) → item_at items p ≡ Some i → is_row (rows_of first) p ≡ true
    path_here p i e = ap (λ rs. is_row rs p) (sym same) ∙ sym (found_is items p) ∙ ap is_some e

    governed_at : (p : List ℕ) (i : Placed) (at : List ℕ) (number : ℕ) (is_own : Bool) → effective_of (rows_of first) p ≡ Some (governed at (how_of is_own)) → IsListOf now number at
        → number ≡ i.list → is_own ≡ i.own → IsGoverned items now p i
    governed_at p i at number is_own g l en eo = record {
      list = l.list;
      found = ap (list_at now) (sym en) ∙ l.found;
      governs = ap (λ rs. effective_of rs p) same ∙ g ∙ ap (λ (x : List ℕ). Some (governed x (how_of is_own))) (sym l.is) ∙ ap (λ (b : Bool). Some (governed l.list.at (how_of b))) eo;
    }

    by_mark : (p : List ℕ) (i : Placed) → item_at items p ≡ Some i
        → IsMarked numbers p i ⊎ (((is_below changed p || (is_listed subjects p || (is_listed touched p || false))) ≡ false) × (item_at numbers p ≡ Some i)) → IsGoverned items now p i
    by_mark p i e (inl k) =
        let r = resolve (rows_of first) numbers (numbered_has base first numbers now n) a.tree.rooted p (a.tree.paths p (path_here p i e)) in
        let both : Some (mark r.number r.is_own) ≡ Some (mark i.list i.own) = sym r.mark ∙ k in
        let one : mark r.number r.is_own ≡ mark i.list i.own = cc in
        governed_at p i r.at r.number r.is_own r.governs (n.lists r.at r.number r.plain r.own r.has) (ap (λ (x : Mark). x.list) one) (ap (λ (x : Mark). x.own) one)
    by_mark p i e (inr k) =
        let below = or_parts (is_below changed p) (is_listed subjects p || (is_listed touched p || false)) k.0 in
        let listed = or_parts (is_listed subjects p) (is_listed touched p || false) below.1 in
        let touch = or_parts (is_listed touched p) false listed.1 in
        let reach : is_reached (changed_of (rows_of old) (rows_of first) (list_subjects touched)) p ≡ false =
        ap (λ (xs : List (List ℕ)). is_reached xs p) (sym (turned ∙ ap (changed_of (rows_of old) (rows_of first)) is)) ∙ not_reached changed p below.0 in
        let kept = a.kept p i (sym (others p listed.0) ∙ k.1) touch.0 reach in
        let has = governing_has (rows_of first) p (governed kept.at (how_of i.own)) kept.governs in
        governed_at p i kept.at i.list i.own kept.governs (n.lists kept.at i.list (a.tree.plain kept.at has) (n.stable kept.at i.list kept.number has) has) refl refl

    by_number : (k : ℕ) (l : AccessList) → list_at now k ≡ Some l → own_number items l.at ≡ Some k
    by_number k l e =
        let has = n.owners k l e in
        let row : is_row (rows_of items) l.at ≡ true = ap (λ rs. is_row rs l.at) same ∙ a.tree.subjects l.at has in
        let i = some_is (item_at items l.at) (found_is items l.at ∙ row) in
        by_item i.0 i.1 (m.marks l.at i.0 i.1)
      where
        marked : path_mark numbers l.at ≡ Some (mark k true)
        marked =
            ap (λ (o : Option (List ℕ)). text_mark numbers (about l.at o)) (a.tree.plain l.at (n.owners k l e))
            ∙ ap (λ (o : Option ℕ). mark_by o (first_number numbers (Rattle.pod_rows.specs.Tree.ancestors l.at))) (n.numbers k l e)

        by_item : (i : Placed) → item_at items l.at ≡ Some i
            → IsMarked numbers l.at i ⊎ (((is_below changed l.at || (is_listed subjects l.at || (is_listed touched l.at || false))) ≡ false) × (item_at numbers l.at ≡ Some i)) → own_number items l.at ≡ Some k
        by_item i f (inl z) =
            let both : Some (mark k true) ≡ Some (mark i.list i.own) = sym marked ∙ z in
            let one : mark k true ≡ mark i.list i.own = cc in
            ap own_of f ∙ ap (λ (x : Mark). own_if x.own x.list) (sym one)
        by_item i f (inr z) = ap own_of f ∙ sym (ap own_of z.1) ∙ n.numbers k l e

-- ---- after new numbers, and without any

pub relisted_all : (base : List ℕ) (old : List Placed) (places : Places) (first : List Placed) (touched subjects changed : List (List ℕ)) (freed now : Places) (numbers items : List Placed)
    → ((k : ℕ) → list_at freed k ≡ cond (is_freed (rows_of first) old subjects k) None (list_at places k))
    → (IsTree (rows_of first) → AreNumbered base first subjects first freed → AreNumbered base first [] numbers now)
    → ((p : List ℕ) → is_listed subjects p ≡ false → item_at numbers p ≡ item_at first p)
    → changed ≡ changed_of (rows_of old) (rows_of first) subjects
    → (HaveMarks numbers → AreMarked numbers (λ p. is_below changed p || (is_listed subjects p || (is_listed touched p || false))) items)
    → AreReady base old places first touched → subjects ≡ list_subjects touched → ArePlain subjects
    → (rows_of items ≡ rows_of first) × AreResolved base items now
relisted_all base old places first touched subjects changed freed now numbers items set step others turned marks a is plain =
    let n = step a.tree (ready base old places first touched subjects freed a is plain set) in
    let m = marks (numbered_marks base first numbers now a.tree n) in
    (m.rows ∙ n.rows, assembled base old places first touched subjects changed numbers now items a is turned n others m)

pub kept_all : (base : List ℕ) (old : List Placed) (places : Places) (first : List Placed) (touched : List (List ℕ)) (items : List Placed)
    → ((done : List ℕ → Bool) → HaveMarks first → AreMarked first done first → AreMarked first (λ p. is_listed touched p || done p) items)
    → [] ≡ list_subjects touched → AreReady base old places first touched → (rows_of items ≡ rows_of first) × AreResolved base items places
kept_all base old places first touched items marks is a =
    let n : AreNumbered base first [] first places = ready base old places first touched [] places a is tt (λ k. refl) in
    let m = marks (λ p. false) (numbered_marks base first first places a.tree n) (none_done first) in
    (m.rows, assembled base old places first touched [] [] first places items a is refl n (λ p h. refl) m)

pub nil_of : (xs ys : List (List ℕ)) → length xs ≡ 0 → xs ≡ ys → [] ≡ ys
nil_of [] ys h e = e
nil_of (x ∷ xs) ys h e = absurd (omega (arith, h))
