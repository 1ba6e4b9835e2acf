-- What is found among rows after a put and after removals, and how many rows there are.
use Rattle.std.proofs.Common.{◌≡◌, ◌<◌, ◌≤◌, ◌+◌, ℕ, suc, Bool, true, false, not, cond, List, [], ◌∷◌, ◌++◌, length, filter, Option, Some, None, refl, sym, ap, ◌∙◌, subst, arith, length-append}
use Rattle.std.specs.Prelude.{is_some, bytes_eq}
use Rattle.std.specs.List.{find, list_all, Contains}
use Rattle.std.specs.Ordering.{is_eq, is_lt, ordering_reverse}
use Rattle.std.specs.declared.cmp.Ordering.{Ordering}
use Rattle.std.specs.declared.cmp.Ordering.TheVariants.{Less, Equal, Greater}
use Rattle.std.proofs.lemmas.Bool.{and_parts, and_from, false≢true, true≢false}
use Rattle.std.proofs.lemmas.Cmp.{nat_list_cmp_total}
use Rattle.std.proofs.lemmas.Slice.Eq.{bytes_eq-Decides}
use Rattle.std.proofs.lemmas.Map.Text.{is_eq-slice_cmp}
use Rattle.rdf_graph.specs.Triple.{bytes_cmp}
use Rattle.rdf_graph.proofs.Members.{contains_here, contains_there}
use Rattle.pod_command.specs.Encodable.{AreInOrder}
use Rattle.pod_command.specs.declared.row.Row.{Row}
use Rattle.pod_rows.specs.Apply.{is_before, put_row, remove_row}
use Rattle.pod_rows.specs.Pod.{is_at, row_at, is_row}
use Rattle.pod_rows.proofs.DefinitionLaws.{row_found}
use Rattle.pod_rows.proofs.OrderedRows.{itself}

-- ---- searches

abbrev either : Option Row → Option Row → Option Row
either None other = other
either (Some row) other = Some row

either_none : (o : Option Row) → either o None ≡ o
either_none None = refl
either_none (Some row) = refl

find_append : (p : Row → Bool) (xs ys : List Row) → find p (xs ++ ys) ≡ either (find p xs) (find p ys)
find_append p [] ys = refl
find_append p (x ∷ xs) ys = elim (p x) as (λ b. cond b (Some x) (find p (xs ++ ys)) ≡ either (cond b (Some x) (find p xs)) (find p ys)) [ true ↦ refl | false ↦ find_append p xs ys ]

none_kept : (k : Bool) → cond {A = Option Row} k None None ≡ None
none_kept true = refl
none_kept false = refl

-- rows that are kept by their paths
find_kept : (keep : List ℕ → Bool) (q : List ℕ) (rows : List Row) → row_at (filter (λ r. keep r.path) rows) q ≡ cond (keep q) (row_at rows q) None
find_kept keep q [] = sym (none_kept (keep q))
find_kept keep q (x ∷ xs) = step (is_at q x) (keep x.path) refl refl (find_kept keep q xs)
  where
    step : (a k : Bool) → is_at q x ≡ a → keep x.path ≡ k → row_at (filter (λ r. keep r.path) xs) q ≡ cond (keep q) (row_at xs q) None → find (is_at q) (cond k (x ∷ (filter (λ r. keep r.path) xs)) (filter (λ r. keep r.path) xs)) ≡ cond (keep q) (cond a (Some x) (row_at xs q)) None
    step true true ea ek more =
        ap (λ (b : Bool). cond b (Some x) (find (is_at q) (filter (λ r. keep r.path) xs))) ea
        ∙ sym (ap (λ (b : Bool). cond b (Some x) None) (ap keep (sym ((bytes_eq-Decides x.path q).0 ea)) ∙ ek))
    step true false ea ek more =
        let off : keep q ≡ false = ap keep (sym ((bytes_eq-Decides x.path q).0 ea)) ∙ ek in
        more ∙ ap (λ (b : Bool). cond b (row_at xs q) None) off ∙ sym (ap (λ (b : Bool). cond b (Some x) None) off)
    step false true ea ek more = ap (λ (b : Bool). cond b (Some x) (find (is_at q) (filter (λ r. keep r.path) xs))) ea ∙ more
    step false false ea ek more = more

-- the path of a row that is found
pub found_path : (rows : List Row) (q : List ℕ) (r : Row) → row_at rows q ≡ Some r → r.path ≡ q
found_path [] q r e = absurd cc
found_path (x ∷ xs) q r e = by_test (is_at q x) refl e (found_path xs q r)
  where
    by_test : (b : Bool) → is_at q x ≡ b → cond b (Some x) (row_at xs q) ≡ Some r → (row_at xs q ≡ Some r → r.path ≡ q) → r.path ≡ q
    by_test true h k more = let same : x ≡ r = cc in ap (λ (y : Row). y.path) (sym same) ∙ (bytes_eq-Decides x.path q).0 h
    by_test false h k more = more k

pub is_found : (rows : List Row) (q : List ℕ) (r : Row) → row_at rows q ≡ Some r → is_row rows q ≡ true
is_found rows q r e = ap is_some e

-- what is a row is found
pub found_row : (rows : List Row) (q : List ℕ) → is_row rows q ≡ true → (r : Row) × (row_at rows q ≡ Some r)
found_row rows q h = by_row (row_at rows q) h refl
  where
    by_row : (o : Option Row) → is_some o ≡ true → row_at rows q ≡ o → (r : Row) × (row_at rows q ≡ Some r)
    by_row None s e = absurd (false≢true s)
    by_row (Some r) s e = (r, e)

pub not_found : (rows : List Row) (q : List ℕ) → is_row rows q ≡ false → row_at rows q ≡ None
not_found rows q h = by_row (row_at rows q) h
  where
    by_row : (o : Option Row) → is_some o ≡ false → o ≡ None
    by_row None s = refl
    by_row (Some r) s = absurd (true≢false s)

-- ---- a test of all rows, by what is found

pub all_found : (p : Row → Bool) (rows : List Row) (q : List ℕ) (r : Row) → list_all p rows ≡ true → row_at rows q ≡ Some r → p r ≡ true
all_found p [] q r h e = absurd cc
all_found p (x ∷ xs) q r h e = by_test (is_at q x) e (all_found p xs q r)
  where
    parts : (p x ≡ true) × (list_all p xs ≡ true)
    parts = and_parts (p x) (list_all p xs) h

    by_test : (b : Bool) → cond b (Some x) (row_at xs q) ≡ Some r → (list_all p xs ≡ true → row_at xs q ≡ Some r → p r ≡ true) → p r ≡ true
    by_test true k more = let same : x ≡ r = cc in subst (λ (y : Row). p y ≡ true) same parts.0
    by_test false k more = more parts.1 k

all_members : (p : Row → Bool) (rows : List Row) → ((r : Row) → Contains rows r → p r ≡ true) → list_all p rows ≡ true
all_members p [] f = refl
all_members p (x ∷ xs) f = and_from (p x) (list_all p xs) (f x (contains_here x xs)) (all_members p xs (λ r c. f r (contains_there x xs r c)))

pub all_from : (p : Row → Bool) (rows : List Row) → AreInOrder rows → ((q : List ℕ) (r : Row) → row_at rows q ≡ Some r → p r ≡ true) → list_all p rows ≡ true
all_from p rows o f = all_members p rows (λ r c. f r.path r (row_found rows r o c))

-- ---- a put

abbrev put_of : List Row → Row → List ℕ → Option Row
put_of rows r q = either (cond (is_before q r.path) (row_at rows q) None) (cond (is_at q r) (Some r) (cond (is_before r.path q) (row_at rows q) None))

pub put_found : (rows : List Row) (r : Row) (q : List ℕ) → row_at (put_row rows r) q ≡ cond (is_at q r) (Some r) (row_at rows q)
put_found rows r q =
    find_append (is_at q) (filter (λ other. is_before other.path r.path) rows) (r ∷ filter (λ other. is_before r.path other.path) rows)
    ∙ ap (λ (o : Option Row). either o (row_at (r ∷ filter (λ other. is_before r.path other.path) rows) q)) (find_kept (λ p. is_before p r.path) q rows)
    ∙ ap (λ (o : Option Row). either (cond (is_before q r.path) (row_at rows q) None) (cond (is_at q r) (Some r) o)) (find_kept (is_before r.path) q rows)
    ∙ by_order (bytes_cmp r.path q) refl
  where
    back : is_before q r.path ≡ is_lt (ordering_reverse (bytes_cmp r.path q))
    back = ap is_lt (nat_list_cmp_total.antisymm q r.path)

    here : is_at q r ≡ is_eq (bytes_cmp r.path q)
    here = sym (is_eq-slice_cmp r.path q)

    chosen : (o : Ordering) → bytes_cmp r.path q ≡ o
        → put_of rows r q ≡ either (cond (is_lt (ordering_reverse o)) (row_at rows q) None) (cond (is_eq o) (Some r) (cond (is_lt o) (row_at rows q) None))
    chosen o e =
        ap (λ (b : Bool). either (cond b (row_at rows q) None) (cond (is_at q r) (Some r) (cond (is_before r.path q) (row_at rows q) None))) (back ∙ ap (λ (x : Ordering). is_lt (ordering_reverse x)) e)
        ∙ ap (λ (b : Bool). either (cond (is_lt (ordering_reverse o)) (row_at rows q) None) (cond b (Some r) (cond (is_before r.path q) (row_at rows q) None))) (here ∙ ap is_eq e)
        ∙ ap (λ (x : Ordering). either (cond (is_lt (ordering_reverse o)) (row_at rows q) None) (cond (is_eq o) (Some r) (cond (is_lt x) (row_at rows q) None))) e

    result : (o : Ordering) → bytes_cmp r.path q ≡ o → cond (is_at q r) (Some r) (row_at rows q) ≡ cond (is_eq o) (Some r) (row_at rows q)
    result o e = ap (λ (b : Bool). cond b (Some r) (row_at rows q)) (here ∙ ap is_eq e)

    by_order : (o : Ordering) → bytes_cmp r.path q ≡ o → put_of rows r q ≡ cond (is_at q r) (Some r) (row_at rows q)
    by_order Less e = chosen Less e ∙ sym (result Less e)
    by_order Equal e = chosen Equal e ∙ sym (result Equal e)
    by_order Greater e = chosen Greater e ∙ either_none (row_at rows q) ∙ sym (result Greater e)

pub put_here : (rows : List Row) (r : Row) → row_at (put_row rows r) r.path ≡ Some r
put_here rows r = put_found rows r r.path ∙ ap (λ (b : Bool). cond b (Some r) (row_at rows r.path)) (itself r.path)

pub put_beside : (rows : List Row) (r : Row) (q : List ℕ) → bytes_eq r.path q ≡ false → row_at (put_row rows r) q ≡ row_at rows q
put_beside rows r q h = put_found rows r q ∙ ap (λ (b : Bool). cond b (Some r) (row_at rows q)) h

-- ---- a removal

not_cond : (b : Bool) (o : Option Row) → cond (not b) o None ≡ cond b None o
not_cond true o = refl
not_cond false o = refl

pub removed_found : (rows : List Row) (p q : List ℕ) → row_at (remove_row rows p) q ≡ cond (bytes_eq q p) None (row_at rows q)
removed_found rows p q = find_kept (λ x. not (bytes_eq x p)) q rows ∙ not_cond (bytes_eq q p) (row_at rows q)

-- ---- how many

pub fewer : (keep : Row → Bool) (rows : List Row) → length (filter keep rows) ≤ length rows
fewer keep [] = omega arith
fewer keep (x ∷ xs) = by_test (keep x) (fewer keep xs)
  where
    by_test : (b : Bool) → length (filter keep xs) ≤ length xs → length (cond b (x ∷ filter keep xs) (filter keep xs)) ≤ suc (length xs)
    by_test true h = omega (arith, h)
    by_test false h = omega (arith, h)

-- how many rows three lists have, each with one more or not
abbrev sum_of : Row → List Row → List Row → List Row → Bool → Bool → Bool → ℕ
sum_of x before after at a b c = length (cond a (x ∷ before) before) + (length (cond b (x ∷ after) after) + length (cond c (x ∷ at) at))

parts_at_most : (p : List ℕ) (rows : List Row) → length (filter (λ r. is_before r.path p) rows) + (length (filter (λ r. is_before p r.path) rows) + length (filter (is_at p) rows)) ≤ length rows
parts_at_most p [] = omega arith
parts_at_most p (x ∷ xs) = chosen (bytes_cmp x.path p) refl (parts_at_most p xs)
  where
    by_order : (o : Ordering) → length (filter (λ r. is_before r.path p) xs) + (length (filter (λ r. is_before p r.path) xs) + length (filter (is_at p) xs)) ≤ length xs → sum_of x (filter (λ r. is_before r.path p) xs) (filter (λ r. is_before p r.path) xs) (filter (is_at p) xs) (is_lt o) (is_lt (ordering_reverse o)) (is_eq o) ≤ suc (length xs)
    by_order Less h = omega (arith, h)
    by_order Equal h = omega (arith, h)
    by_order Greater h = omega (arith, h)

    chosen : (o : Ordering) → bytes_cmp x.path p ≡ o → length (filter (λ r. is_before r.path p) xs) + (length (filter (λ r. is_before p r.path) xs) + length (filter (is_at p) xs)) ≤ length xs → sum_of x (filter (λ r. is_before r.path p) xs) (filter (λ r. is_before p r.path) xs) (filter (is_at p) xs) (is_before x.path p) (is_before p x.path) (is_at p x) ≤ suc (length xs)
    chosen o e h =
        let one : sum_of x (filter (λ r. is_before r.path p) xs) (filter (λ r. is_before p r.path) xs) (filter (is_at p) xs) (is_before x.path p) (is_before p x.path) (is_at p x) ≡ sum_of x (filter (λ r. is_before r.path p) xs) (filter (λ r. is_before p r.path) xs) (filter (is_at p) xs) (is_lt o) (is_lt (ordering_reverse o)) (is_eq o) =
        ap (λ (b : Bool). sum_of x (filter (λ r. is_before r.path p) xs) (filter (λ r. is_before p r.path) xs) (filter (is_at p) xs) b (is_before p x.path) (is_at p x)) (ap is_lt e)
        ∙ ap (λ (b : Bool). sum_of x (filter (λ r. is_before r.path p) xs) (filter (λ r. is_before p r.path) xs) (filter (is_at p) xs) (is_lt o) b (is_at p x)) (ap is_lt (nat_list_cmp_total.antisymm p x.path) ∙ ap (λ (y : Ordering). is_lt (ordering_reverse y)) e)
        ∙ ap (sum_of x (filter (λ r. is_before r.path p) xs) (filter (λ r. is_before p r.path) xs) (filter (is_at p) xs) (is_lt o) (is_lt (ordering_reverse o))) (sym (is_eq-slice_cmp x.path p) ∙ ap is_eq e) in
        subst (λ (n : ℕ). n ≤ suc (length xs)) (sym one) (by_order o h)

put_length : (rows : List Row) (r : Row) → length (put_row rows r) ≡ length (filter (λ other. is_before other.path r.path) rows) + suc (length (filter (λ other. is_before r.path other.path) rows))
put_length rows r = length-append (filter (λ other. is_before other.path r.path) rows) (r ∷ filter (λ other. is_before r.path other.path) rows)

pub one_more : (rows : List Row) (r : Row) → length (put_row rows r) ≤ suc (length rows)
one_more rows r = omega (arith, put_length rows r, parts_at_most r.path rows)

hit : (p : List ℕ) (rows : List Row) → is_row rows p ≡ true → 0 < length (filter (is_at p) rows)
hit p [] h = absurd (false≢true h)
hit p (x ∷ xs) h = by_test (is_at p x) h (hit p xs)
  where
    by_test : (b : Bool) → is_some (cond b (Some x) (row_at xs p)) ≡ true → (is_row xs p ≡ true → 0 < length (filter (is_at p) xs)) → 0 < length (cond b (x ∷ filter (is_at p) xs) (filter (is_at p) xs))
    by_test true k more = omega arith
    by_test false k more = more k

pub no_more : (rows : List Row) (r : Row) → is_row rows r.path ≡ true → length (put_row rows r) ≤ length rows
no_more rows r h = omega (arith, put_length rows r, parts_at_most r.path rows, hit r.path rows h)
