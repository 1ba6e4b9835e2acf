-- Sums of sizes that are given by 64 bits.
use Rattle.std.proofs.Common.{ℕ, ◌+◌, ◌-◌, ◌^◌, ◌≡◌, ◌≤◌, arith, List, [], ◌∷◌, Bool, true, false, cond, ap, subst, min, sum, map}
use Rattle.std.specs.List.{dedup, dedup_from}
use Rattle.std.specs.List.Sorted.{IsPermutation}
use Rattle.std.proofs.lemmas.List.Sorted.{IsPermutation-map, sum_by-IsPermutation}
use Rattle.std.proofs.lemmas.List.Sums.{sum_by-cons}
use Rattle.rdf_graph.specs.Size.{saturated, triple_size, triples_size}
use Rattle.rdf_graph.specs.declared.triple.Triple.{Triple}

min_sum : (top m n a b : ℕ) → a ≡ min m top → b ≡ min n top → min (a + b) top ≡ min (m + n) top
min_sum top m n a b d e = omega (arith, d, e)

pub saturated_sum : (m n a b : ℕ) → a ≡ saturated m → b ≡ saturated n → saturated (a + b) ≡ saturated (m + n)
unfolding saturated
saturated_sum m n a b d e = min_sum (2 ^ 64 - 1) m n a b d e

-- ---- sums over the triples of a list

pub sum_first : (x : ℕ) (xs : List ℕ) → sum (x ∷ xs) ≡ x + sum xs
sum_first x xs = sum_by-cons (λ n. n) x xs

module _ (same : Triple → Triple → Bool) (f : Triple → ℕ) where
  kept_more : (k x : Triple) (xs : List Triple) (b : Bool) → sum (map f (dedup_from same k xs)) ≤ f k + sum (map f xs) → sum (map f (dedup_from same x xs)) ≤ f x + sum (map f xs)
      → sum (map f (cond b (dedup_from same k xs) (k ∷ dedup_from same x xs))) ≤ f k + sum (map f (x ∷ xs))
  kept_more k x xs true h g = omega (arith, sum_first (f x) (map f xs), h)
  kept_more k x xs false h g = omega (arith, sum_first (f k) (map f (dedup_from same x xs)), sum_first (f x) (map f xs), g)

  kept_from : (k : Triple) (xs : List Triple) → sum (map f (dedup_from same k xs)) ≤ f k + sum (map f xs)
  kept_from k [] = omega arith
  kept_from k (x ∷ xs) = kept_more k x xs (same x k) (kept_from k xs) (kept_from x xs)

  pub kept_size : (xs : List Triple) → sum (map f (dedup same xs)) ≤ sum (map f xs)
  kept_size [] = omega arith
  kept_size (x ∷ xs) = omega (arith, sum_first (f x) (map f xs), kept_from x xs)

-- triples in another order, rid of repeats
pub sorted_size : (same : Triple → Triple → Bool) (xs ys : List Triple) → IsPermutation xs ys → triples_size (dedup same ys) ≤ triples_size xs
sorted_size same xs ys moved =
    let alike : sum (map triple_size ys) ≡ sum (map triple_size xs) = sum_by-IsPermutation (λ n. n) (map triple_size xs) (map triple_size ys) (IsPermutation-map triple_size xs ys moved) in
    subst (λ n. triples_size (dedup same ys) ≤ n) alike (kept_size same triple_size ys)
