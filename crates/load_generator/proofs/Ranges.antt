-- One request more.
use Rattle.std.proofs.Common.{◌≡◌, ℕ, zero, suc, ◌+◌, List, [], ◌∷◌, ◌++◌, ap, ◌∙◌, arith, refl}
use Rattle.std.proofs.lemmas.List.Concat.{flat_map-append}
use Rattle.std.specs.List.{flat_map, range_with_len}
use Rattle.load_generator.specs.Streams.{request_text, stream}

range_snoc : (from count : ℕ) → range_with_len from (count + 1) ≡ range_with_len from count ++ (from + count) ∷ []
range_snoc from zero = ap (λ n. n ∷ []) (omega arith)
range_snoc from (suc count) =
    let next : suc count + 1 ≡ suc (count + 1) = omega arith in
    ap (range_with_len from) next ∙ ap (λ rest. from ∷ rest) (range_snoc (from + 1) count)
    ∙ ap (λ n. from ∷ (range_with_len (from + 1) count ++ n ∷ [])) (omega arith)

append_nil : (xs : List ℕ) → xs ++ [] ≡ xs
append_nil [] = refl
append_nil (x ∷ xs) = ap (λ ys. x ∷ ys) (append_nil xs)

-- the texts of the numbers up to the next one
pub one_more : (f : ℕ → List ℕ) (k : ℕ) → flat_map f (range_with_len 0 (k + 1)) ≡ flat_map f (range_with_len 0 k) ++ f k
one_more f k =
    let zero_and : 0 + k ≡ k = omega arith in
    ap (flat_map f) (range_snoc 0 k) ∙ flat_map-append f (range_with_len 0 k) ((0 + k) ∷ [])
    ∙ ap (λ n. flat_map f (range_with_len 0 k) ++ n) (append_nil (f (0 + k)) ∙ ap f zero_and)

pub all_texts : (k n : ℕ) → k ≡ n → flat_map request_text (range_with_len 0 k) ≡ stream n
unfolding stream
all_texts k n is = ap (λ m. flat_map request_text (range_with_len 0 m)) is
