-- What the comparison of two fronts' lengths shows.
use Rattle.std.proofs.Common.{◌≡◌, ℕ, ◌≤◌, List, ◌++◌, length, arith, length-append, IsTrue, nat_le, true, false}
use Rattle.std.proofs.lemmas.Bool.Decides.{nat_tests}
use Rattle.std.specs.Bool.{OnFalse}
use mathlib.Core.List.{IsPrefix}
use Rattle.pod_base.proofs.Prefixes.{prefix_after, prefix_length, prefix_shorter}

module _ {A : Type 0} where
  -- the comparison of the lengths shows which of two prefixes of one list is a prefix of the other
  pub prefix_tested : (os xs ys both : List A) (m n : ℕ) → m ≡ length xs → n ≡ length ys → IsPrefix xs both → IsPrefix ys both
      → IsTrue (nat_le m n) → IsPrefix (os ++ xs) (os ++ ys)
  prefix_tested os xs ys both m n e f p q h =
      let le : m ≤ n = grind (arith, nat_tests) in
      prefix_after os xs ys (prefix_shorter xs ys both p q (omega arith))

  pub test_of_prefix : (os xs ys : List A) (m n : ℕ) → m ≡ length xs → n ≡ length ys → IsPrefix (os ++ xs) (os ++ ys) → IsTrue (nat_le m n)
  test_of_prefix os xs ys m n e f p =
      let le : m ≤ n = omega (arith, prefix_length (os ++ xs) (os ++ ys) p, length-append os xs, length-append os ys) in
      grind (arith, nat_tests)

  pub prefix_otherwise : (os xs ys both : List A) (m n : ℕ) → m ≡ length xs → n ≡ length ys → IsPrefix xs both → IsPrefix ys both
      → (b : _) → nat_le m n ≡ b → OnFalse b (IsPrefix (os ++ ys) (os ++ xs))
  prefix_otherwise os xs ys both m n e f p q true is = tt
  prefix_otherwise os xs ys both m n e f p q false is =
      let le : n ≤ m = grind (arith, nat_tests) in
      prefix_after os ys xs (prefix_shorter ys xs both q p (omega arith))
