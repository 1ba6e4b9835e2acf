-- What is found by its path among values after a put and after a removal.
use Rattle.std.proofs.Common.{◌≡◌, ℕ, Bool, true, false, not, cond, List, [], ◌∷◌, ◌++◌, filter, Option, Some, None, refl, sym, ap, ◌∙◌}
use Rattle.std.specs.Prelude.{bytes_eq}
use Rattle.std.specs.List.{find}
use Rattle.std.specs.Ordering.{is_eq, is_lt, ordering_reverse}
use Rattle.std.specs.declared.cmp.Ordering.{Ordering}
use Rattle.std.specs.declared.cmp.Ordering.TheVariants.{Less, Equal, Greater}
use Rattle.std.proofs.lemmas.Cmp.{nat_list_cmp_total}
use Rattle.std.proofs.lemmas.Slice.Eq.{bytes_eq-Decides}
use Rattle.std.proofs.lemmas.Map.Text.{is_eq-slice_cmp}
use Rattle.rdf_graph.specs.Triple.{bytes_cmp}
use Rattle.pod_rows.specs.Apply.{is_before}

-- Is the value at the path?
abbrev pub is_at : {X : Type 0} → (X → List ℕ) → List ℕ → X → Bool
is_at path q x = bytes_eq (path x) q

abbrev pub put : {X : Type 0} → (X → List ℕ) → List X → X → List X
put path xs x = filter (λ o. is_before (path o) (path x)) xs ++ x ∷ filter (λ o. is_before (path x) (path o)) xs

abbrev pub removed : {X : Type 0} → (X → List ℕ) → List X → List ℕ → List X
removed path xs p = filter (λ o. not (bytes_eq (path o) p)) xs

abbrev either : {X : Type 0} → Option X → Option X → Option X
either None other = other
either (Some x) other = Some x

either_none : {X : Type 0} (o : Option X) → either o None ≡ o
either_none None = refl
either_none (Some x) = refl

find_append : {X : Type 0} (p : X → Bool) (xs ys : List X) → find p (xs ++ ys) ≡ either (find p xs) (find p ys)
find_append p [] ys = refl
find_append p (x ∷ xs) ys = elim (p x) as (λ b. cond b (Some x) (find p (xs ++ ys)) ≡ either (cond b (Some x) (find p xs)) (find p ys)) [ true ↦ refl | false ↦ find_append p xs ys ]

none_kept : {X : Type 0} (k : Bool) → cond {A = Option X} k None None ≡ None
none_kept true = refl
none_kept false = refl

-- values that are kept by their paths
pub find_kept : {X : Type 0} (path : X → List ℕ) (keep : List ℕ → Bool) (q : List ℕ) (xs : List X) → find (is_at path q) (filter (λ r. keep (path r)) xs) ≡ cond (keep q) (find (is_at path q) xs) None
find_kept path keep q [] = sym (none_kept (keep q))
find_kept path keep q (x ∷ xs) = step (is_at path q x) (keep (path x)) refl refl (find_kept path keep q xs)
  where
    step : (a k : Bool) → is_at path q x ≡ a → keep (path x) ≡ k → find (is_at path q) (filter (λ r. keep (path r)) xs) ≡ cond (keep q) (find (is_at path q) xs) None → find (is_at path q) (cond k (x ∷ (filter (λ r. keep (path r)) xs)) (filter (λ r. keep (path r)) xs)) ≡ cond (keep q) (cond a (Some x) (find (is_at path q) xs)) None
    step true true ea ek more =
        ap (λ (b : Bool). cond b (Some x) (find (is_at path q) (filter (λ r. keep (path r)) xs))) ea
        ∙ sym (ap (λ (b : Bool). cond b (Some x) None) (ap keep (sym ((bytes_eq-Decides (path x) q).0 ea)) ∙ ek))
    step true false ea ek more =
        let off : keep q ≡ false = ap keep (sym ((bytes_eq-Decides (path x) q).0 ea)) ∙ ek in
        more ∙ ap (λ (b : Bool). cond b (find (is_at path q) xs) None) off ∙ sym (ap (λ (b : Bool). cond b (Some x) None) off)
    step false true ea ek more = ap (λ (b : Bool). cond b (Some x) (find (is_at path q) (filter (λ r. keep (path r)) xs))) ea ∙ more
    step false false ea ek more = more

abbrev put_of : {X : Type 0} → (X → List ℕ) → List X → X → List ℕ → Option X
put_of path xs r q = either (cond (is_before q (path r)) (find (is_at path q) xs) None) (cond (is_at path q r) (Some r) (cond (is_before (path r) q) (find (is_at path q) xs) None))

pub put_found : {X : Type 0} (path : X → List ℕ) (xs : List X) (r : X) (q : List ℕ) → find (is_at path q) (put path xs r) ≡ cond (is_at path q r) (Some r) (find (is_at path q) xs)
put_found path xs r q =
    find_append (is_at path q) (filter (λ other. is_before (path other) (path r)) xs) (r ∷ filter (λ other. is_before (path r) (path other)) xs)
    ∙ ap (λ o. either o (find (is_at path q) (r ∷ filter (λ other. is_before (path r) (path other)) xs))) (find_kept path (λ p. is_before p (path r)) q xs)
    ∙ ap (λ o. either (cond (is_before q (path r)) (find (is_at path q) xs) None) (cond (is_at path q r) (Some r) o)) (find_kept path (is_before (path r)) q xs)
    ∙ by_order (bytes_cmp (path r) q) refl
  where
    back : is_before q (path r) ≡ is_lt (ordering_reverse (bytes_cmp (path r) q))
    back = ap is_lt (nat_list_cmp_total.antisymm q (path r))

    here : is_at path q r ≡ is_eq (bytes_cmp (path r) q)
    here = sym (is_eq-slice_cmp (path r) q)

    chosen : (o : Ordering) → bytes_cmp (path r) q ≡ o
        → put_of path xs r q ≡ either (cond (is_lt (ordering_reverse o)) (find (is_at path q) xs) None) (cond (is_eq o) (Some r) (cond (is_lt o) (find (is_at path q) xs) None))
    chosen o e =
        ap (λ (b : Bool). either (cond b (find (is_at path q) xs) None) (cond (is_at path q r) (Some r) (cond (is_before (path r) q) (find (is_at path q) xs) None))) (back ∙ ap (λ (x : Ordering). is_lt (ordering_reverse x)) e)
        ∙ ap (λ (b : Bool). either (cond (is_lt (ordering_reverse o)) (find (is_at path q) xs) None) (cond b (Some r) (cond (is_before (path r) q) (find (is_at path q) xs) None))) (here ∙ ap is_eq e)
        ∙ ap (λ (x : Ordering). either (cond (is_lt (ordering_reverse o)) (find (is_at path q) xs) None) (cond (is_eq o) (Some r) (cond (is_lt x) (find (is_at path q) xs) None))) e

    result : (o : Ordering) → bytes_cmp (path r) q ≡ o → cond (is_at path q r) (Some r) (find (is_at path q) xs) ≡ cond (is_eq o) (Some r) (find (is_at path q) xs)
    result o e = ap (λ (b : Bool). cond b (Some r) (find (is_at path q) xs)) (here ∙ ap is_eq e)

    by_order : (o : Ordering) → bytes_cmp (path r) q ≡ o → put_of path xs r q ≡ cond (is_at path q r) (Some r) (find (is_at path q) xs)
    by_order Less e = chosen Less e ∙ sym (result Less e)
    by_order Equal e = chosen Equal e ∙ sym (result Equal e)
    by_order Greater e = chosen Greater e ∙ either_none (find (is_at path q) xs) ∙ sym (result Greater e)

not_cond : {X : Type 0} (b : Bool) (o : Option X) → cond (not b) o None ≡ cond b None o
not_cond true o = refl
not_cond false o = refl

pub removed_found : {X : Type 0} (path : X → List ℕ) (xs : List X) (p q : List ℕ) → find (is_at path q) (removed path xs p) ≡ cond (bytes_eq q p) None (find (is_at path q) xs)
removed_found path xs p q = find_kept path (λ x. not (bytes_eq x p)) q xs ∙ not_cond (bytes_eq q p) (find (is_at path q) xs)

-- the path of what is found
pub found_path : {X : Type 0} (path : X → List ℕ) (xs : List X) (q : List ℕ) (r : X) → find (is_at path q) xs ≡ Some r → path r ≡ q
found_path path [] q r e = absurd cc
found_path path (x ∷ xs) q r e = by_test (is_at path q x) refl e (found_path path xs q r)
  where
    by_test : (b : Bool) → is_at path q x ≡ b → cond b (Some x) (find (is_at path q) xs) ≡ Some r → (find (is_at path q) xs ≡ Some r → path r ≡ q) → path r ≡ q
    by_test true h k more = let same : x ≡ r = cc in ap path (sym same) ∙ (bytes_eq-Decides (path x) q).0 h
    by_test false h k more = more k
