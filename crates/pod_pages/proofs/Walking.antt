-- Items that are all marked anew, in one walk.
use Rattle.std.proofs.Common.{◌≡◌, ◌<◌, ℕ, zero, suc, Bool, true, false, cond, List, [], ◌∷◌, length, get_or, arith, map, option_map, Option, Some, None, refl, sym, ap, ◌∙◌, subst, inl}
use Rattle.std.specs.Prelude.{is_some, bytes_eq}
use Rattle.std.specs.List.{AllByRecursion}
use Rattle.std.proofs.lemmas.Bool.{false≢true}
use Rattle.pod_path.specs.Hierarchy.{is_root, parent_of, subject_of}
use Rattle.pod_path.specs.Norm.{IsPath}
use Rattle.rdf_graph.specs.Triple.{bytes_cmp}
use Rattle.pod_command.specs.declared.row.Row.{Row}
use Rattle.pod_rows.specs.Access.{about}
use Rattle.pod_rows.specs.Tree.{ancestors}
use Rattle.access_index.proofs.AncestorLists.{parent_first}
use Rattle.row_pages.specs.Borders.{AreAfter}
use Rattle.row_pages.specs.Items.{Placed, AreItemsInOrder, item_at, items_below, rows_of}
use Rattle.row_pages.proofs.Ordered.{order_cons, order_first, order_nil, order_rest}
use Rattle.pod_pages.specs.Marks.{first_number, mark, mark_by, marked_by, number_within, own_number, own_of, path_mark, text_above, text_mark, with_mark}
use Rattle.pod_pages.specs.Numbering.{AreMarked, HaveMarks, IsMarked}
use Rattle.pod_pages.specs.declared.row_marks.Mark.{Mark}
use Rattle.pod_pages.proofs.Found.{found_path}
use Rattle.pod_pages.proofs.Listing.{path_of}
use Rattle.pod_pages.proofs.Placing.{found_is, self_found}

-- each path begins with the empty text
pub below_all : (items : List Placed) → items_below items [] ≡ items
below_all [] = refl
below_all (i ∷ is) = ap (λ (xs : List Placed). i ∷ xs) (below_all is)

-- ---- an item keeps its row

with_row : (i : Placed) (o : Option Mark) → (with_mark i o).row ≡ i.row
with_row i None = refl
with_row i (Some m) = refl

marked_row : (numbers : List Placed) (i : Placed) → (marked_by numbers i).row ≡ i.row
marked_row numbers i = with_row i (path_mark numbers i.row.path)

marked_rows : (numbers items : List Placed) → rows_of (map (marked_by numbers) items) ≡ rows_of items
marked_rows numbers [] = refl
marked_rows numbers (i ∷ is) =
    ap (λ (r : Row). r ∷ rows_of (map (marked_by numbers) is)) (marked_row numbers i)
    ∙ ap (λ (rs : List Row). i.row ∷ rs) (marked_rows numbers is)

marked_after : (numbers : List Placed) (p : List ℕ) (is : List Placed) → AreAfter p is → AreAfter p (map (marked_by numbers) is)
marked_after numbers p [] h = tt
marked_after numbers p (i ∷ is) h = (ap (λ (r : Row). bytes_cmp p r.path) (marked_row numbers i) ∙ h.0, marked_after numbers p is h.1)

pub marked_order : (numbers items : List Placed) → AreItemsInOrder items → AreItemsInOrder (map (marked_by numbers) items)
marked_order numbers [] o = order_nil
marked_order numbers (i ∷ is) o =
    order_cons (marked_by numbers i) (map (marked_by numbers) is)
    (subst (λ (r : Row). AreAfter r.path (map (marked_by numbers) is)) (sym (marked_row numbers i)) (marked_after numbers i.row.path is (order_first i is o)))
    (marked_order numbers is (order_rest i is o))

-- ---- what is found

marked_found : (numbers items : List Placed) (p : List ℕ) → item_at (map (marked_by numbers) items) p ≡ option_map (marked_by numbers) (item_at items p)
marked_found numbers [] p = refl
marked_found numbers (i ∷ is) p =
    ap (λ (r : Row). cond (bytes_eq r.path p) (Some (marked_by numbers i)) (item_at (map (marked_by numbers) is) p)) (marked_row numbers i)
    ∙ by_test (bytes_eq i.row.path p) (marked_found numbers is p)
  where
    by_test : (b : Bool) → item_at (map (marked_by numbers) is) p ≡ option_map (marked_by numbers) (item_at is p)
        → cond b (Some (marked_by numbers i)) (item_at (map (marked_by numbers) is) p) ≡ option_map (marked_by numbers) (cond b (Some i) (item_at is p))
    by_test true more = refl
    by_test false more = more

-- the items of a walk over all are marked, whatever was to be marked
pub marked_all : (numbers : List Placed) (done : List ℕ → Bool) (items : List Placed) → HaveMarks numbers → items ≡ map (marked_by numbers) numbers → AreMarked numbers done items
marked_all numbers done items have is =
    subst (AreMarked numbers done) (sym is)
    (record {
      rows = marked_rows numbers numbers;
      marks = λ p x f. inl (by_item p x (item_at numbers p) refl (sym (marked_found numbers numbers p) ∙ f));
    })
  where
    by_mark : (p : List ℕ) (i x : Placed) (o : Option Mark) → path_mark numbers p ≡ o → is_some o ≡ true → with_mark i o ≡ x → IsMarked numbers p x
    by_mark p i x None e h k = absurd (false≢true h)
    by_mark p i x (Some m) e h k = e ∙ ap (λ (y : Placed). Some (mark y.list y.own)) k

    by_item : (p : List ℕ) (x : Placed) (o : Option Placed) → item_at numbers p ≡ o → option_map (marked_by numbers) o ≡ Some x → IsMarked numbers p x
    by_item p x None e k = absurd cc
    by_item p x (Some i) e k =
        let one : marked_by numbers i ≡ x = cc in
        let here : i.row.path ≡ p = found_path path_of numbers p i e in
        by_mark p i x (path_mark numbers p) refl (have p (sym (found_is numbers p) ∙ ap is_some e)) (ap (λ (q : List ℕ). with_mark i (path_mark numbers q)) (sym here) ∙ one)

-- ---- the mark of an item, by what its container hands down

all_nth : {X : Type 0} (P : X → Type 0) (xs : List X) (i : ℕ) (d : X) → i < length xs → AllByRecursion P xs → P (get_or xs i d)
all_nth P [] i d lt a = absurd (omega (arith, lt))
all_nth P (x ∷ xs) zero d lt a = a.0
all_nth P (x ∷ xs) (suc i) d lt a = all_nth P xs i d (omega (arith, lt)) a.1

-- the item at an index is found at its path
pub nth_found : (items : List Placed) (i : ℕ) (x : Placed) → AreItemsInOrder items → i < length items → x ≡ get_or items i x → item_at items x.row.path ≡ Some x
nth_found items i x o lt e =
    subst (λ (y : Placed). item_at items y.row.path ≡ Some y) (sym e)
    (all_nth (λ (y : Placed). item_at items y.row.path ≡ Some y) items i x lt (self_found items o))

-- a path that is no auxiliary, below the root
pub mark_below : (numbers : List Placed) (path : List ℕ) (i : Placed) (above : Option ℕ) → IsPath path → is_root path ≡ false → subject_of path ≡ None → item_at numbers path ≡ Some i
    → above ≡ number_within numbers (text_above path) → mark_by (own_of (Some i)) above ≡ path_mark numbers path
mark_below numbers path i above h below plain e is =
    ap (λ (o : Option ℕ). mark_by o above) (sym (ap own_of e))
    ∙ ap (mark_by (own_number numbers path)) (is ∙ sym first)
    ∙ ap (λ (o : Option (List ℕ)). text_mark numbers (about path o)) (sym plain)
  where
    parent : parent_of path ≡ Some (text_above path)
    parent = ap (λ (t : Bool). cond t None (Some (text_above path))) below

    first : first_number numbers (ancestors path) ≡ number_within numbers (text_above path)
    first = ap (first_number numbers) (parent_first path (text_above path) h parent)
