-- Bytes of a disk that were read to a buffer.
use Rattle.std.proofs.Common.{◌≡◌, ℕ, ◌+◌, ◌≤◌, List, ◌++◌, length, take, drop, sym, ◌∙◌, ap}
use Rattle.std.proofs.lemmas.List.{take_at, take-take, drop-take, drop-drop}

-- a read to the prefix of a buffer
pub prefix_is : (into rest from : List ℕ) (len : ℕ) → length into ≡ len → into ≡ take len from → take len (into ++ rest) ≡ take len from
prefix_is into rest from len size is = take_at into rest len size ∙ is

-- a part of the buffer is that part of the disk
pub part_is : (buffer disk : List ℕ) (filled from start n at : ℕ) → take filled buffer ≡ take filled (drop from disk) → start + n ≤ filled → at ≡ from + start
    → take n (drop start buffer) ≡ take n (drop at disk)
part_is buffer disk filled from start n at shown within place =
    sym (drop-take start n buffer)
    ∙ ap (λ (l : List ℕ). drop start l) (sym (take-take (start + n) filled buffer within) ∙ ap (λ (l : List ℕ). take (start + n) l) shown ∙ take-take (start + n) filled (drop from disk) within)
    ∙ drop-take start n (drop from disk)
    ∙ ap (λ (l : List ℕ). take n l) (drop-drop start from disk ∙ ap (λ (m : ℕ). drop m disk) (sym place))
