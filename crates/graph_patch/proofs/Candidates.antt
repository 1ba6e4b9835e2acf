-- The triples that a condition may be: from a graph in its order, or from an index.
use Rattle.std.proofs.Common.{ℕ, ◌+◌, ◌<◌, ◌≡◌, ◌≢◌, List, [], ◌∷◌, Option, None, Some, Bool, true, false, cond, not, eqb, length, map, take, drop, get_or, refl, sym, ap, ◌∙◌, subst, arith, ⊎_elim}
use Rattle.std.specs.Prelude.{slice_get}
use Rattle.std.specs.List.{Contains, IsDistinct}
use Rattle.std.specs.List.Sorted.{IsNonDecreasingBy, IsPartitionedBy, IsPartitionPoint, IsSortedByKey}
use Rattle.std.specs.Ordering.{eq_by_cmp, is_lt, is_le, ordering_index, ordering_then}
use Rattle.std.specs.Cmp.{Equal-is, IsTotalOrder, eq_by_cmp_equiv}
use Rattle.std.specs.declared.cmp.Ordering.{Ordering}
use Rattle.std.specs.declared.cmp.Ordering.TheVariants.{Less, Equal, Greater}
use Rattle.std.proofs.lemmas.Bool.{false≢true, ne_eqb, true≢false}
use Rattle.std.proofs.lemmas.Cmp.{nat_cmp_total, nat_list_cmp_total, on_total, then_total, tied_itself}
use Rattle.std.proofs.lemmas.List.{get_or-take, get_or-drop, get_or-map, length-take, length-drop, length-map, take-map, drop-map}
use Rattle.std.proofs.lemmas.List.Elements.{All-contains}
use Rattle.std.proofs.lemmas.List.Sorted.{Contains-permutation, IsNonDecreasingBy-drop, IsPermutation-sym, searchable_from_sorted}
use Rattle.std.proofs.lemmas.Map.Keys.{apart_from_distinct, IsDistinct-from_apart, IsDistinct-from_sorted, IsDistinct-IsPermutation}
use Rattle.std.proofs.lemmas.Option.{slice_get_within, get_or_from_slice_get}
use denote.Ref.{Bor}
use Rattle.rdf_graph.specs.Graph.{IsOrdered}
use Rattle.graph_patch.specs.Lookup.{AreCandidates, IsIndex, IsKeyRange, first_text, indexed_or, key, key_cmp, key_order, kind, parts_cmp, second_text}
use Rattle.rdf_graph.specs.SubjectRange.{IsSubjectRange}
use Rattle.rdf_graph.specs.Triple.{IsGivenTerm, triple_cmp}
use Rattle.rdf_graph.specs.TripleLaws.{triple_cmp_total}
use Rattle.graph_patch.specs.declared.triple_index.KeyOrder.{KeyOrder}
use Rattle.graph_patch.specs.declared.triple_index.KeyOrder.TheVariants.{PredicateObject, ObjectSubject}
use Rattle.rdf_graph.specs.declared.term.Term.{Term}
use Rattle.rdf_graph.specs.declared.triple.Triple.{Triple}
use Rattle.rdf_graph.proofs.Prefixes.{lt-falls, le-falls}
use Rattle.rdf_graph.proofs.Members.{contains_cases, contains_here, contains_there, contains_none, contains_split, contains_take, contains_drop, All-take_within, All-drop_within}

-- ---- lists without repeats

-- what is at a position isn't among those before
pub not_before : (xs : List Triple) (i : ℕ) (t : Triple) → IsDistinct (eq_by_cmp triple_cmp) xs → slice_get xs i ≡ Some t → Contains (take i xs) t → ⊥
not_before xs i t once here among =
    let within : i < length xs = slice_get_within xs i t here in
    let earlier : among.0 < i = omega (arith, among.1, length-take i xs) in
    let same : get_or xs among.0 t ≡ t = sym (get_or-take i xs among.0 t earlier) ∙ among.2 in
    let apart : eq_by_cmp triple_cmp (get_or xs among.0 t) (get_or xs i t) ≡ false = apart_from_distinct (eq_by_cmp triple_cmp) xs among.0 i t once earlier within in
    let not_itself : eq_by_cmp triple_cmp t t ≡ false =
    subst (λ x. eq_by_cmp triple_cmp x t ≡ false) same
    (subst (λ x. eq_by_cmp triple_cmp (get_or xs among.0 t) x ≡ false) (get_or_from_slice_get xs i t t here) apart) in
    false≢true (sym not_itself ∙ (Equal-is (triple_cmp t t)).1 (tied_itself triple_cmp_total t))

part_once : (same : Triple → Triple → Bool) (low n : ℕ) (xs : List Triple) → IsDistinct same xs → IsDistinct same (take n (drop low xs))
part_once same low n xs once =
    IsDistinct-from_apart same (take n (drop low xs))
    (λ i j d l m.
    let first : get_or (take n (drop low xs)) i d ≡ get_or xs (low + i) d =
    get_or-take n (drop low xs) i d (omega (arith, l, m, length-take n (drop low xs))) ∙ get_or-drop low xs i d in
    let second : get_or (take n (drop low xs)) j d ≡ get_or xs (low + j) d =
    get_or-take n (drop low xs) j d (omega (arith, m, length-take n (drop low xs))) ∙ get_or-drop low xs j d in
    subst (λ x. same x (get_or (take n (drop low xs)) j d) ≡ false) (sym first)
    (subst (λ y. same (get_or xs (low + i) d) y ≡ false) (sym second)
    (apart_from_distinct same xs (low + i) (low + j) d once (omega (arith, l)) (omega (arith, m, length-take n (drop low xs), length-drop low xs)))))

-- ---- what is read through references

pub contains_read : {X Y : Type 0} (f : X → Y) (xs : List X) (y : Y) → Contains (map f xs) y → (x : X) × Contains xs x × (f x ≡ y)
contains_read f [] y h = absurd (contains_none y h)
contains_read f (x ∷ xs) y h =
    ⊎_elim
    (λ same. (x, contains_here x xs, same))
    (λ there. let rest = contains_read f xs y there in (rest.0, contains_there x xs rest.0 rest.1, rest.2))
    (contains_cases (f x) (map f xs) y h)

pub contains_map : {X Y : Type 0} (f : X → Y) (xs : List X) (x : X) → Contains xs x → Contains (map f xs) (f x)
contains_map f xs x h =
    (h.0, omega (arith, h.1, length-map xs f), get_or-map f xs h.0 x (f x) h.1 ∙ ap f h.2)

-- which list the candidates are
pub chosen : (index : List (Bor Triple)) (in_order : List Triple) (none : Bool) → none ≡ eqb (length index) 0
    → indexed_or (map (λ (r : Bor Triple). r.now) index) in_order ≡ cond (not none) (map (λ (r : Bor Triple). r.now) index) in_order
chosen [] in_order none e = ap (λ b. cond (not b) [] in_order) (sym e)
chosen (r ∷ index) in_order none e = ap (λ b. cond (not b) (map (λ (r : Bor Triple). r.now) (r ∷ index)) in_order)
    (sym (e ∙ ne_eqb (length (r ∷ index)) 0 (λ z. omega (arith, z))))

pub not_empty : {X : Type 0} (xs : List X) (none : Bool) → none ≡ eqb (length xs) 0 → none ≡ false → xs ≢ []
not_empty xs none e is empty = true≢false (sym (e ∙ ap (λ ys. eqb (length ys) 0) empty) ∙ is)

pub index_alone : (index : List (Bor Triple)) → indexed_or (map (λ (r : Bor Triple). r.now) index) [] ≡ map (λ (r : Bor Triple). r.now) index
index_alone [] = refl
index_alone (r ∷ index) = refl

-- ---- in the order of the graph

pub all_candidates : (s p o : Option Term) (triples : List Triple) → IsOrdered triples → AreCandidates s p o triples triples
all_candidates s p o triples ordered =
    record { within = λ x h. h; complete = λ x h a b c. h; once = IsDistinct-from_sorted triple_cmp triples ordered }

pub range_candidates : (s p o : Option Term) (triples subject_range : List Triple) → IsSubjectRange s triples subject_range → AreCandidates s p o triples subject_range
range_candidates s p o triples subject_range is =
    record { within = is.within; complete = λ x h a b c. is.complete x h a; once = IsDistinct-from_sorted triple_cmp subject_range is.ordered }

-- a triple of these terms
same_triple : (t x : Triple) → x.s ≡ t.s → x.p ≡ t.p → x.o ≡ t.o → t ≡ x
same_triple t x a b c = sym (λ i. record { s = a i; p = b i; o = c i })

alone_once : (t : Triple) → IsDistinct (eq_by_cmp triple_cmp) (t ∷ [])
alone_once t = IsDistinct-from_apart (eq_by_cmp triple_cmp) (t ∷ []) (λ i j d l m. absurd (omega (arith, l, m)))

pub one_candidate : (t : Triple) (triples : List Triple) → Contains triples t → AreCandidates (Some t.s) (Some t.p) (Some t.o) triples (t ∷ [])
one_candidate t triples there =
    record {
      within = λ x h. ⊎_elim (λ same. subst (Contains triples) same there) (λ none. absurd (contains_none x none)) (contains_cases t [] x h);
      complete = λ x h a b c. subst (Contains (t ∷ [])) (same_triple t x a b c) (contains_here t []);
      once = alone_once t;
    }

pub no_candidate : (t : Triple) (triples : List Triple) → (Contains triples t → ⊥) → AreCandidates (Some t.s) (Some t.p) (Some t.o) triples []
no_candidate t triples absent =
    record {
      within = λ x h. absurd (contains_none x h);
      complete = λ x h a b c. absurd (absent (subst (Contains triples) (sym (same_triple t x a b c)) h));
      once = IsDistinct-from_apart (eq_by_cmp triple_cmp) [] (λ i j d l m. absurd (omega (arith, m)));
    }

-- ---- in the order of keys

parts_cmp_total : IsTotalOrder parts_cmp
unfolding parts_cmp
parts_cmp_total = then_total (on_total kind nat_cmp_total) (then_total (on_total first_text nat_list_cmp_total) (on_total second_text nat_list_cmp_total))

pub key_cmp_total : IsTotalOrder key_cmp
unfolding key_cmp
key_cmp_total = then_total (on_total (λ k. k.0) parts_cmp_total) (on_total (λ k. k.1) parts_cmp_total)

first_not_lt : (a b : Ordering) → is_lt (ordering_then a b) ≡ false → is_lt a ≡ false
first_not_lt Less b e = e
first_not_lt Equal b e = refl
first_not_lt Greater b e = refl

-- a key of these terms
equal_key : (first : Term) (second : Option Term) (a b : Term) → IsGivenTerm (Some first) a → IsGivenTerm second b → key_order second first (a, b) ≡ Equal
unfolding key_order key_cmp
equal_key first None a b h k = subst (λ t. parts_cmp a t ≡ Equal) h (tied_itself parts_cmp_total a)
equal_key first (Some second) a b h k =
    ap (λ r. ordering_then r (parts_cmp b second)) (subst (λ t. parts_cmp a t ≡ Equal) h (tied_itself parts_cmp_total a))
    ∙ subst (λ t. parts_cmp b t ≡ Equal) k (tied_itself parts_cmp_total b)

pub predicate_candidates : (p : Term) (o : Option Term) (triples part : List Triple) → IsKeyRange PredicateObject p o triples part → AreCandidates None (Some p) o triples part
predicate_candidates p o triples part is =
    record { within = is.within; complete = λ x h a b c. is.complete x h (equal_key p o x.p x.o b c); once = is.once }

pub object_candidates : (s : Option Term) (p : Option Term) (o : Term) (triples part : List Triple) → IsKeyRange ObjectSubject o s triples part → AreCandidates s p (Some o) triples part
object_candidates s p o triples part is =
    record { within = is.within; complete = λ x h a b c. is.complete x h (equal_key o s x.o x.s c a); once = is.once }

-- along an index keys compare higher and higher with given terms
pub keys_rise : (order : KeyOrder) (index : List (Bor Triple)) (first : Term) (second : Option Term) → IsSortedByKey (λ (r : Bor Triple). key order r.now) key_cmp index
    → IsNonDecreasingBy (λ (r : Bor Triple). ordering_index (key_order second first (key order r.now))) index
unfolding key_order key_cmp
keys_rise order index first None sorted =
    searchable_from_sorted parts_cmp_total (λ (r : Bor Triple). (key order r.now).0) index first (λ k d l m. first_not_lt _ _ (sorted k d l m))
keys_rise order index first (Some second) sorted =
    searchable_from_sorted key_cmp_total (λ (r : Bor Triple). key order r.now) index (first, second) sorted

module _ (cmp : Triple → Ordering) (index : List (Bor Triple)) (rise : IsNonDecreasingBy (λ (r : Bor Triple). ordering_index (cmp r.now)) index) where
  pub keys_before : IsPartitionedBy (λ (r : Bor Triple). is_lt (cmp r.now)) index
  keys_before i j d h l e = lt-falls _ _ (rise i j d h l) e

  pub keys_upto : (low : ℕ) → IsPartitionedBy (λ (r : Bor Triple). is_le (cmp r.now)) (drop low index)
  keys_upto low i j d h l e =
      le-falls _ _ (IsNonDecreasingBy-drop (λ (r : Bor Triple). ordering_index (cmp r.now)) low index rise i j d h l) e

  -- what is between the smaller keys and the greater ones has these terms
  between : (low n : ℕ)
      → IsPartitionPoint (λ (r : Bor Triple). is_lt (cmp r.now) ≡ true) (λ (r : Bor Triple). is_lt (cmp r.now) ≡ false) index low
      → IsPartitionPoint (λ (r : Bor Triple). is_le (cmp r.now) ≡ true) (λ (r : Bor Triple). is_le (cmp r.now) ≡ false) (drop low index) n
      → (r : Bor Triple) → Contains index r → cmp r.now ≡ Equal → Contains (take n (drop low index)) r
  between low n before upto r there own =
      ⊎_elim
      (λ front. absurd (false≢true (sym (ap is_lt own) ∙ All-contains (λ (r : Bor Triple). is_lt (cmp r.now) ≡ true) (take low index) r (All-take_within (λ (r : Bor Triple). is_lt (cmp r.now) ≡ true) index low before.0) front)))
      (λ rest. ⊎_elim
      (λ among. among)
      (λ behind. absurd (true≢false (sym (ap is_le own) ∙ All-contains (λ (r : Bor Triple). is_le (cmp r.now) ≡ false) (drop n (drop low index)) r (All-drop_within (λ (r : Bor Triple). is_le (cmp r.now) ≡ false) (drop low index) n upto.1) behind)))
      (contains_split n (drop low index) r rest))
      (contains_split low index r there)

pub key_range : (order : KeyOrder) (first : Term) (second : Option Term) (triples : List Triple) (index : List (Bor Triple)) → IsOrdered triples → IsIndex order triples index → (low n : ℕ)
    → IsPartitionPoint (λ (r : Bor Triple). is_lt (key_order second first (key order r.now)) ≡ true) (λ (r : Bor Triple). is_lt (key_order second first (key order r.now)) ≡ false) index low
    → IsPartitionPoint (λ (r : Bor Triple). is_le (key_order second first (key order r.now)) ≡ true) (λ (r : Bor Triple). is_le (key_order second first (key order r.now)) ≡ false) (drop low index) n
    → IsKeyRange order first second triples (map (λ (r : Bor Triple). r.now) (take n (drop low index)))
key_range order first second triples index ordered is low n before upto =
    let cmp : Triple → Ordering = λ t. key_order second first (key order t) in
    let rise : IsNonDecreasingBy (λ (r : Bor Triple). ordering_index (cmp r.now)) index = keys_rise order index first second is.sorted in
    let cut : map (λ (r : Bor Triple). r.now) (take n (drop low index)) ≡ take n (drop low (map (λ (r : Bor Triple). r.now) index)) =
    sym (ap (take n) (drop-map (λ (r : Bor Triple). r.now) low index) ∙ take-map (λ (r : Bor Triple). r.now) n (drop low index)) in
    record {
      within = λ x h.
          Contains-permutation (map (λ (r : Bor Triple). r.now) index) triples x (IsPermutation-sym triples (map (λ (r : Bor Triple). r.now) index) is.moved)
          (contains_drop low (map (λ (r : Bor Triple). r.now) index) x (contains_take n (drop low (map (λ (r : Bor Triple). r.now) index)) x (subst (λ zs. Contains zs x) cut h)));
      complete = λ x h has.
          let found = contains_read (λ (r : Bor Triple). r.now) index x (Contains-permutation triples (map (λ (r : Bor Triple). r.now) index) x is.moved h) in
          let own : cmp found.0.now ≡ Equal = subst (λ t. cmp t ≡ Equal) (sym found.2) has in
          subst (Contains (map (λ (r : Bor Triple). r.now) (take n (drop low index)))) found.2
          (contains_map (λ (r : Bor Triple). r.now) (take n (drop low index)) found.0 (between cmp index rise low n before upto found.0 found.1 own));
      once = subst (IsDistinct (eq_by_cmp triple_cmp)) (sym cut)
          (part_once (eq_by_cmp triple_cmp) low n (map (λ (r : Bor Triple). r.now) index)
          (IsDistinct-IsPermutation (eq_by_cmp triple_cmp) (eq_by_cmp_equiv triple_cmp_total).symm triples (map (λ (r : Bor Triple). r.now) index) is.moved (IsDistinct-from_sorted triple_cmp triples ordered)));
    }
