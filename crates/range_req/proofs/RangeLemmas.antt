-- The parts that ranges are, are inside of the body.
use Rattle.std.proofs.Common.{◌≡◌, ℕ, ◌-◌, ◌<◌, ◌≤◌, ◌==◌, Bool, true, false, cond, ◌&&◌, min, nat_lt, nat_le, List, [], ◌∷◌, length, Option, Some, None, refl, arith}
use Rattle.std.proofs.lemmas.Bool.Decides.{nat_tests}
use Rattle.std.specs.List.{list_all, cons_option}
use Rattle.std.specs.Option.{option_and_then}
use Rattle.field_list.specs.Pairs.{Pair, split_pair}
use Rattle.field_list.specs.declared.quoting.Quoting.TheVariants.{Strings}
use Rattle.range_req.specs.ByteRanges.{number, between, range_of_pair, byte_range, part_up_to, part_in, from, last_bytes}
use Rattle.range_req.specs.RangeSets.{is_within, element_part, parts_in}
use Rattle.range_req.specs.declared.byte_range.ByteRange.{ByteRange}
use Rattle.range_req.specs.declared.byte_range.ByteRange.TheVariants.{Between, From, Last}
use Rattle.range_req.specs.declared.byte_range.Part.{Part}

-- the range doesn't end before it begins
abbrev IsOrdered : Option ByteRange → Type 0
IsOrdered None = Unit {0}
IsOrdered (Some (Between first last)) = first ≤ last
IsOrdered (Some (From first)) = Unit {0}
IsOrdered (Some (Last count)) = Unit {0}

le-true : (a b : ℕ) → nat_le a b ≡ true → a ≤ b
le-true a b h = grind (arith, nat_tests)

lt-true : (a b : ℕ) → nat_lt a b ≡ true → a < b
lt-true a b h = grind (arith, nat_tests)

between-ordered : (first last : Option ℕ) → IsOrdered (between first last)
between-ordered None last = tt
between-ordered (Some first) None = tt
between-ordered (Some first) (Some last) = step (nat_le first last) refl
  where
    step : (b : Bool) → nat_le first last ≡ b → IsOrdered (cond b (Some (Between first last)) None)
    step true h = le-true first last h
    step false h = tt

from-ordered : (first : Option ℕ) → IsOrdered (from first)
from-ordered None = tt
from-ordered (Some first) = tt

last-ordered : (count : Option ℕ) → IsOrdered (last_bytes count)
last-ordered None = tt
last-ordered (Some count) = tt

pair-ordered : (a b : Bool) (p : Pair) → IsOrdered (cond a (last_bytes (number p.second)) (cond b (from (number p.first)) (between (number p.first) (number p.second))))
pair-ordered true b p = last-ordered (number p.second)
pair-ordered false true p = from-ordered (number p.first)
pair-ordered false false p = between-ordered (number p.first) (number p.second)

range-ordered : (pair : Option Pair) → IsOrdered (option_and_then range_of_pair pair)
range-ordered None = tt
range-ordered (Some p) = pair-ordered (length p.first == 0) (length p.second == 0) p

abbrev IsInside : ℕ → Option Part → Type 0
IsInside size None = Unit {0}
IsInside size (Some part) = is_within size part ≡ true

within-true : (size first last : ℕ) → first < size → first ≤ last → (nat_le first (min last (size - 1)) && nat_lt (min last (size - 1)) size) ≡ true
within-true size first last inside ordered = grind (arith, nat_tests)

part-inside : (first last size : ℕ) → (first < size → first ≤ last) → IsInside size (part_up_to first last size)
part-inside first last size ordered = step (nat_lt first size) refl
  where
    step : (b : Bool) → nat_lt first size ≡ b → IsInside size (cond b (Some (record { first = first; last = min last (size - 1) })) None)
    step true h = let inside = lt-true first size h in within-true size first last inside (ordered inside)
    step false h = tt

last-inside : (b : Bool) (count size : ℕ) → IsInside size (cond b None (part_up_to (size - count) (size - 1) size))
last-inside true count size = tt
last-inside false count size = part-inside (size - count) (size - 1) size (λ h. omega arith)

range-inside : (size : ℕ) (range : Option ByteRange) → IsOrdered range → IsInside size (option_and_then (part_in size) range)
range-inside size None h = tt
range-inside size (Some (Between first last)) h = part-inside first last size (λ _. h)
range-inside size (Some (From first)) h = part-inside first (size - 1) size (λ h. omega arith)
range-inside size (Some (Last count)) h = last-inside (count == 0) count size

cons-inside : (size : ℕ) (part : Option Part) (parts : List Part) → IsInside size part → list_all (is_within size) parts ≡ true → list_all (is_within size) (cons_option part parts) ≡ true
cons-inside size None parts h rest = rest
cons-inside size (Some part) parts h rest = rw h rest

pub parts-inside : (size : ℕ) (elements : List (List ℕ)) → list_all (is_within size) (parts_in size elements) ≡ true
parts-inside size [] = refl
parts-inside size (element ∷ elements) =
    cons-inside size (element_part size element) (parts_in size elements) (range-inside size (byte_range element) (range-ordered (split_pair Strings 45 element))) (parts-inside size elements)
