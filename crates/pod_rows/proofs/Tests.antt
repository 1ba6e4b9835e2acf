-- The tests of well-formed pods are what the definition says.
use Rattle.std.proofs.Common.{◌≡◌, ℕ, Bool, true, false, ◌&&◌, List, [], ◌∷◌, length, refl, sym, ap, ◌∙◌, subst, Result, Ok, Err}
use Rattle.std.specs.Prelude.{IsTrue, nat_le, ◌↔◌}
use Rattle.std.specs.List.{list_all}
use Rattle.std.specs.Ordering.{is_lt}
use Rattle.std.specs.declared.cmp.Ordering.{Ordering}
use Rattle.std.specs.declared.cmp.Ordering.TheVariants.{Less, Equal, Greater}
use Rattle.std.proofs.lemmas.Bool.{and_parts, and_from, false≢true, le-leb, leb-true}
use Rattle.std.proofs.lemmas.Slice.Eq.{bytes_eq-Decides}
use Rattle.rdf_graph.specs.Triple.{bytes_cmp}
use Rattle.acl_rules.specs.Documents.{is_parse}
use Rattle.pod_path.specs.Norm.{norm}
use Rattle.pod_path.specs.declared.fault.PathFault.{PathFault}
use Rattle.pod_command.specs.Encodable.{AreInOrder}
use Rattle.pod_command.specs.declared.row.Row.{Row}
use Rattle.pod_rows.specs.Apply.{is_before}
use Rattle.pod_rows.specs.Base.{is_base}
use Rattle.pod_rows.specs.Pod.{Pod}
use Rattle.pod_rows.specs.WellFormed.{WellFormed, has_normal_path, has_right_kind, lacks_stored_containment, has_first_rows, has_parent, lacks_twin, has_subject}
use Rattle.pod_rows.specs.WellFormedTests.{in_order, are_rows_right, are_rows_related, is_pod_right}
use Rattle.pod_rows.specs.declared.limits.TheConstants.{ROWS_LIMIT}
use Rattle.pod_rows.proofs.OrderedRows.{order_nil, order_cons, order_first, order_rest, after_further}

pub less_of : (o : Ordering) → is_lt o ≡ true → o ≡ Less
less_of Less h = refl
less_of Equal h = absurd (false≢true h)
less_of Greater h = absurd (false≢true h)

pub in_order_sound : (rows : List Row) → in_order rows ≡ true → AreInOrder rows
in_order_sound [] h = order_nil
in_order_sound (r ∷ []) h = order_cons r [] tt order_nil
in_order_sound (r ∷ s ∷ rest) h =
    let parts = and_parts (is_before r.path s.path) (in_order (s ∷ rest)) h in
    let less = less_of (bytes_cmp r.path s.path) parts.0 in
    let more = in_order_sound (s ∷ rest) parts.1 in
    order_cons r (s ∷ rest) (less, after_further r.path s.path rest less (order_first s rest more)) more

pub in_order_complete : (rows : List Row) → AreInOrder rows → in_order rows ≡ true
in_order_complete [] h = refl
in_order_complete (r ∷ []) h = refl
in_order_complete (r ∷ s ∷ rest) h =
    and_from (is_before r.path s.path) (in_order (s ∷ rest)) (ap is_lt ((order_first r (s ∷ rest) h).0)) (in_order_complete (s ∷ rest) (order_rest r (s ∷ rest) h))

pub well_formed_from : (pod : Pod) → AreInOrder pod.rows → IsTrue (are_rows_right pod.rows) → IsTrue (is_pod_right pod) → IsTrue (are_rows_related pod.rows) → WellFormed pod
unfolding are_rows_right is_pod_right are_rows_related
well_formed_from pod order right whole related =
    let r = and_parts (list_all has_normal_path pod.rows) (list_all has_right_kind pod.rows && list_all lacks_stored_containment pod.rows) right in
    let k = and_parts (list_all has_right_kind pod.rows) (list_all lacks_stored_containment pod.rows) r.1 in
    let w = and_parts (nat_le (length pod.rows) ROWS_LIMIT) (is_base pod.base && has_first_rows pod) whole in
    let b = and_parts (is_base pod.base) (has_first_rows pod) w.1 in
    let e = and_parts (list_all (has_parent pod.rows) pod.rows) (list_all (lacks_twin pod.rows) pod.rows && list_all (has_subject pod.rows) pod.rows) related in
    let s = and_parts (list_all (lacks_twin pod.rows) pod.rows) (list_all (has_subject pod.rows) pod.rows) e.1 in
    record {
      order = order;
      paths = r.0;
      first_rows = b.1;
      kinds = k.0;
      parents = e.0;
      twins = s.0;
      subjects = s.1;
      containment = k.1;
      number = leb-true (length pod.rows) ROWS_LIMIT w.0;
      base = b.0;
    }

-- rows that are right have normal paths
pub right_paths : (rows : List Row) → are_rows_right rows ≡ true → IsTrue (list_all has_normal_path rows)
unfolding are_rows_right
right_paths rows h = (and_parts (list_all has_normal_path rows) (list_all has_right_kind rows && list_all lacks_stored_containment rows) h).0

pub right_rows : (pod : Pod) → WellFormed pod → IsTrue (are_rows_right pod.rows)
unfolding are_rows_right
right_rows pod w =
    and_from (list_all has_normal_path pod.rows) (list_all has_right_kind pod.rows && list_all lacks_stored_containment pod.rows) w.paths
    (and_from (list_all has_right_kind pod.rows) (list_all lacks_stored_containment pod.rows) w.kinds w.containment)

pub right_pod : (pod : Pod) → WellFormed pod → IsTrue (is_pod_right pod)
unfolding is_pod_right
right_pod pod w =
    and_from (nat_le (length pod.rows) ROWS_LIMIT) (is_base pod.base && has_first_rows pod) (le-leb (length pod.rows) ROWS_LIMIT w.number)
    (and_from (is_base pod.base) (has_first_rows pod) w.base w.first_rows)

pub related_rows : (pod : Pod) → WellFormed pod → IsTrue (are_rows_related pod.rows)
unfolding are_rows_related
related_rows pod w =
    and_from (list_all (has_parent pod.rows) pod.rows) (list_all (lacks_twin pod.rows) pod.rows && list_all (has_subject pod.rows) pod.rows) w.parents
    (and_from (list_all (lacks_twin pod.rows) pod.rows) (list_all (has_subject pod.rows) pod.rows) w.twins w.subjects)

-- two tests that are true at once are one
pub same_test : (a b : Bool) → (a ≡ true → b ≡ true) → (b ≡ true → a ≡ true) → a ≡ b
same_test true true f g = refl
same_test true false f g = absurd (false≢true (f refl))
same_test false true f g = absurd (false≢true (g refl))
same_test false false f g = refl

-- a path is normal where it parses to itself
pub parse_is : (r : Result (List ℕ) PathFault) (p : List ℕ) → is_parse r p ≡ true → r ≡ Ok p
parse_is (Ok q) p h = ap (λ (x : List ℕ). Ok x) ((bytes_eq-Decides q p).0 h)
parse_is (Err f) p h = absurd (false≢true h)

parse_of : (r : Result (List ℕ) PathFault) (p : List ℕ) → r ≡ Ok p → is_parse r p ≡ true
parse_of r p h = subst (λ (x : Result (List ℕ) PathFault). is_parse x p ≡ true) (sym h) ((bytes_eq-Decides p p).1 refl)

pub normal_path : (row : Row) (b : Bool) → IsTrue b ↔ norm row.path ≡ Ok row.path → b ≡ has_normal_path row
unfolding has_normal_path
normal_path row b h =
    same_test b (is_parse (norm row.path) row.path) (λ t. parse_of (norm row.path) row.path (h.0 t)) (λ t. h.1 (parse_is (norm row.path) row.path t))

-- three tests that hold where three others do
pub three : (a b c x y z : Bool) → a ≡ x → b ≡ y → c ≡ z → (a && (b && c)) ≡ (x && (y && z))
three a b c x y z e f g = ap (λ (t : Bool). t && (b && c)) e ∙ ap (λ (t : Bool). x && (t && c)) f ∙ ap (λ (t : Bool). x && (y && t)) g
