-- How many rows there are after an edit, and how many were made.
use Rattle.std.proofs.Common.{◌≡◌, ◌+◌, ℕ, suc, Bool, true, false, not, cond, List, [], ◌∷◌, length, filter, Option, Some, None, refl, sym, ap, ◌∙◌, subst, arith, length-append}
use Rattle.std.specs.Prelude.{is_some}
use Rattle.std.specs.Ordering.{is_eq, is_lt, ordering_reverse}
use Rattle.std.specs.declared.cmp.Ordering.{Ordering}
use Rattle.std.specs.declared.cmp.Ordering.TheVariants.{Less, Equal, Greater}
use Rattle.std.proofs.lemmas.Cmp.{nat_list_cmp_total}
use Rattle.std.proofs.lemmas.Slice.Eq.{bytes_eq-Decides}
use Rattle.std.proofs.lemmas.Map.Text.{is_eq-slice_cmp}
use Rattle.rdf_graph.specs.Triple.{bytes_cmp}
use Rattle.pod_command.specs.Encodable.{AreInOrder}
use Rattle.pod_command.specs.declared.row.Row.{Row}
use Rattle.pod_rows.specs.Apply.{is_before, put_row, remove_row}
use Rattle.pod_rows.specs.Pod.{is_at, row_at, is_row}
use Rattle.pod_rows.proofs.OrderedRows.{order_first, order_rest, none_after}
use Rattle.pod_records.specs.Made.{added, gone, is_added, is_gone}
use Rattle.pod_records.specs.declared.edited_rows.Made.{Made}

abbrev pub one_if : Bool → ℕ
one_if true = 1
one_if false = 0

-- ---- rows at a path

at_count : (path : List ℕ) (rows : List Row) → AreInOrder rows → length (filter (is_at path) rows) ≡ one_if (is_row rows path)
at_count path [] o = refl
at_count path (x ∷ xs) o = by_test (is_at path x) refl (at_count path xs (order_rest x xs o))
  where
    by_test : (b : Bool) → is_at path x ≡ b → length (filter (is_at path) xs) ≡ one_if (is_row xs path) → length (cond b (x ∷ filter (is_at path) xs) (filter (is_at path) xs)) ≡ one_if (is_some (cond b (Some x) (row_at xs path)))
    by_test true t h =
        let none : row_at xs path ≡ None = subst (λ (q : List ℕ). row_at xs q ≡ None) ((bytes_eq-Decides x.path path).0 t) (none_after x.path xs (order_first x xs o)) in
        ap suc (h ∙ ap (λ (r : Option Row). one_if (is_some r)) none)
    by_test false t h = h

-- ---- a put

-- how many rows three lists have, each with one more or not
abbrev sum_of : Row → List Row → List Row → List Row → Bool → Bool → Bool → ℕ
sum_of x before after at a b c = length (cond a (x ∷ before) before) + (length (cond b (x ∷ after) after) + length (cond c (x ∷ at) at))

parts_whole : (p : List ℕ) (rows : List Row) → length (filter (λ r. is_before r.path p) rows) + (length (filter (λ r. is_before p r.path) rows) + length (filter (is_at p) rows)) ≡ length rows
parts_whole p [] = refl
parts_whole p (x ∷ xs) = chosen (bytes_cmp x.path p) refl (parts_whole p xs)
  where
    by_order : (o : Ordering) → length (filter (λ r. is_before r.path p) xs) + (length (filter (λ r. is_before p r.path) xs) + length (filter (is_at p) xs)) ≡ length xs → sum_of x (filter (λ r. is_before r.path p) xs) (filter (λ r. is_before p r.path) xs) (filter (is_at p) xs) (is_lt o) (is_lt (ordering_reverse o)) (is_eq o) ≡ suc (length xs)
    by_order Less h = omega (arith, h)
    by_order Equal h = omega (arith, h)
    by_order Greater h = omega (arith, h)

    chosen : (o : Ordering) → bytes_cmp x.path p ≡ o → length (filter (λ r. is_before r.path p) xs) + (length (filter (λ r. is_before p r.path) xs) + length (filter (is_at p) xs)) ≡ length xs → sum_of x (filter (λ r. is_before r.path p) xs) (filter (λ r. is_before p r.path) xs) (filter (is_at p) xs) (is_before x.path p) (is_before p x.path) (is_at p x) ≡ suc (length xs)
    chosen o e h =
        ap (λ (b : Bool). sum_of x (filter (λ r. is_before r.path p) xs) (filter (λ r. is_before p r.path) xs) (filter (is_at p) xs) b (is_before p x.path) (is_at p x)) (ap is_lt e)
        ∙ ap (λ (b : Bool). sum_of x (filter (λ r. is_before r.path p) xs) (filter (λ r. is_before p r.path) xs) (filter (is_at p) xs) (is_lt o) b (is_at p x)) (ap is_lt (nat_list_cmp_total.antisymm p x.path) ∙ ap (λ (y : Ordering). is_lt (ordering_reverse y)) e)
        ∙ ap (sum_of x (filter (λ r. is_before r.path p) xs) (filter (λ r. is_before p r.path) xs) (filter (is_at p) xs) (is_lt o) (is_lt (ordering_reverse o))) (sym (is_eq-slice_cmp x.path p) ∙ ap is_eq e)
        ∙ by_order o h

put_length : (rows : List Row) (r : Row) → length (put_row rows r) ≡ length (filter (λ other. is_before other.path r.path) rows) + suc (length (filter (λ other. is_before r.path other.path) rows))
put_length rows r = length-append (filter (λ other. is_before other.path r.path) rows) (r ∷ filter (λ other. is_before r.path other.path) rows)

pub put_count : (rows : List Row) (r : Row) → AreInOrder rows → length (put_row rows r) + one_if (is_row rows r.path) ≡ length rows + 1
put_count rows r o = omega (arith, put_length rows r, parts_whole r.path rows, at_count r.path rows o)

-- ---- a removal

kept_count : (p : List ℕ) (rows : List Row) → length (remove_row rows p) + length (filter (is_at p) rows) ≡ length rows
kept_count p [] = refl
kept_count p (x ∷ xs) = by_test (is_at p x) (kept_count p xs)
  where
    by_test : (b : Bool) → length (remove_row xs p) + length (filter (is_at p) xs) ≡ length xs
        → length (cond (not b) (x ∷ remove_row xs p) (remove_row xs p)) + length (cond b (x ∷ filter (is_at p) xs) (filter (is_at p) xs)) ≡ suc (length xs)
    by_test true h = omega (arith, h)
    by_test false h = omega (arith, h)

pub removed_count : (rows : List Row) (p : List ℕ) → AreInOrder rows → length (remove_row rows p) + one_if (is_row rows p) ≡ length rows
removed_count rows p o = omega (arith, kept_count p rows, at_count p rows o)

-- ---- what was made

count_more : (p : Made → Bool) (one : Made) (made : List Made) → length (filter p (one ∷ made)) ≡ length (filter p made) + one_if (p one)
count_more p one made = by_test (p one)
  where
    by_test : (b : Bool) → length (cond b (one ∷ filter p made) (filter p made)) ≡ length (filter p made) + one_if b
    by_test true = omega arith
    by_test false = omega arith

pub added_more : (one : Made) (made : List Made) → added (one ∷ made) ≡ added made + one_if (is_added one)
unfolding added
added_more one made = count_more is_added one made

pub gone_more : (one : Made) (made : List Made) → gone (one ∷ made) ≡ gone made + one_if (is_gone one)
unfolding gone
gone_more one made = count_more is_gone one made
