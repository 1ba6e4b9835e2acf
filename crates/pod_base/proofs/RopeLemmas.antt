-- Bytes that are copied out of pieces, one after another.
use Rattle.std.proofs.Common.{◌≡◌, ℕ, zero, suc, ◌+◌, ◌-◌, ◌<◌, ◌≤◌, List, [], ◌∷◌, ◌++◌, length, take, drop, get_or, min, refl, subst, sym, ap, ap₂, ◌∙◌, arith, length-append, append_assoc, append-nil}
use Rattle.std.specs.List.{concat}
use Rattle.std.proofs.lemmas.List.{take-append-drop, length-take-le, length-drop, drop_all, drop-drop, take_all, take_more}
use Rattle.std.proofs.lemmas.List.Folds.{concat-append}
use Rattle.std.proofs.Math.Seq.{take-append-add, take-append_seam, drop-append_seam}
use borrow.Rule.Slice.PartMut.{put_mid}

-- the bytes of a text from one on are copied to the beginning of a slice, as far as both go
pub record Copied (text : List ℕ) (offset : ℕ) (old new : List ℕ) (count : ℕ) : Type 0 where
  pub counted : count ≡ min (length text - offset) (length old)
  pub given : new ≡ take count (drop offset text) ++ drop count old

pub copied_nothing : (offset : ℕ) (slice : List ℕ) → Copied [] offset slice slice 0
copied_nothing offset slice = record { counted = omega arith; given = refl }

drop_append : (n : ℕ) (xs ys : List ℕ) → drop n (xs ++ ys) ≡ drop n xs ++ drop (n - length xs) ys
drop_append zero xs ys = ap (λ m. xs ++ drop m ys) {x = 0} {y = 0 - length xs} (omega arith)
drop_append (suc n) [] ys = ap (λ m. drop m ys) {x = suc n} {y = suc n - 0} (omega arith)
drop_append (suc n) (x ∷ xs) ys =
    drop_append n xs ys ∙ ap (λ m. drop n xs ++ drop m ys) {x = n - length xs} {y = suc n - length (x ∷ xs)} (omega arith)

-- Bytes of a text, and then those of the piece after it.
pub copied_more : (text piece old middle new : List ℕ) (offset count more : ℕ) → Copied text offset old middle count
    → Copied piece (offset - length text) (drop count middle) new more
    → Copied (text ++ piece) offset old (take count middle ++ new) (count + more)
copied_more text piece old middle new offset count more x y =
    let a = drop offset text in
    let b = drop (offset - length text) piece in
    let sized = length-drop offset text in
    let fits : count ≤ length a = omega (arith, x.counted, sized) in
    let size = length-take-le count a fits in
    let front : take count middle ≡ take count a =
    ap (λ (t : List ℕ). take count t) x.given
    ∙ ap (λ n. take n (take count a ++ drop count old)) (sym size) ∙ take-append_seam (take count a) (drop count old) in
    let tail : drop count middle ≡ drop count old =
    ap (λ (t : List ℕ). drop count t) x.given
    ∙ ap (λ n. drop n (take count a ++ drop count old)) (sym size) ∙ drop-append_seam (take count a) (drop count old) in
    let room = ap length tail ∙ length-drop count old in
    let sum : take (count + more) (a ++ b) ≡ take count a ++ take more b =
    ap (λ (t : List ℕ). take (count + more) (t ++ b)) (sym (take-append-drop count a))
    ∙ ap (λ (t : List ℕ). take (count + more) t) (append_assoc (take count a) (drop count a) b)
    ∙ ap (λ n. take (n + more) (take count a ++ (drop count a ++ b))) (sym size)
    ∙ take-append-add (take count a) (drop count a ++ b) more
    ∙ ap (λ (t : List ℕ). take count a ++ t) (by_more more y.counted room) in
    record {
      counted = omega (arith, x.counted, y.counted, room, length-append text piece);
      given = ap₂ (λ (s t : List ℕ). s ++ t) front (y.given ∙ ap (λ (t : List ℕ). take more b ++ drop more t) tail
          ∙ ap (λ (t : List ℕ). take more b ++ t) (drop-drop more count old))
          ∙ sym (append_assoc (take count a) (take more b) (drop (count + more) old))
          ∙ ap (λ (t : List ℕ). t ++ drop (count + more) old) (sym sum ∙ ap (λ (t : List ℕ). take (count + more) t) (sym (drop_append offset text piece)));
    }
  where
    by_more : (m : ℕ) → m ≡ min (length piece - (offset - length text)) (length (drop count middle)) → length (drop count middle) ≡ length old - count
        → take m (drop count (drop offset text) ++ drop (offset - length text) piece) ≡ take m (drop (offset - length text) piece)
    by_more zero is room = refl
    by_more (suc m) is room =
        ap (λ (t : List ℕ). take (suc m) (t ++ drop (offset - length text) piece))
        (drop_all count (drop offset text) (omega (arith, is, room, x.counted, length-drop offset text)))

-- what a slice holds once its rest was written
pub put_rest : (at : ℕ) (xs ys : List ℕ) → put_mid at (length xs - at) xs ys ≡ take at xs ++ ys
put_rest at xs ys =
    ap (λ (t : List ℕ). take at xs ++ t)
    (ap (λ (t : List ℕ). ys ++ t) (drop_all (length xs - at) (drop at xs) (omega (arith, length-drop at xs))) ∙ append-nil ys)

pub rest_of : (at : ℕ) (xs : List ℕ) → take (length xs - at) (drop at xs) ≡ drop at xs
rest_of at xs = take_all (length xs - at) (drop at xs) (omega (arith, length-drop at xs))

-- the piece was copied to the rest of the slice
pub copied_into : (text piece old middle new : List ℕ) (offset skip count more : ℕ) → Copied text offset old middle count
    → skip ≡ offset - length text → Copied piece skip (take (length middle - count) (drop count middle)) new more
    → Copied (text ++ piece) offset old (put_mid count (length middle - count) middle new) (count + more)
copied_into text piece old middle new offset skip count more x is y =
    subst (λ t. Copied (text ++ piece) offset old t (count + more)) (sym (put_rest count middle new))
    (copied_more text piece old middle new offset count more x
    (subst (λ n. Copied piece n (drop count middle) new more) is
    (subst (λ t. Copied piece skip t new more) (rest_of count middle) y)))

-- one piece more
pub concat_last : (pieces : List (List ℕ)) (piece : List ℕ) → concat (pieces ++ piece ∷ []) ≡ concat pieces ++ piece
concat_last pieces piece = concat-append pieces (piece ∷ []) ∙ ap (λ (t : List ℕ). concat pieces ++ t) (append-nil piece)

pub concat_more : (pieces : List (List ℕ)) (i : ℕ) (piece : List ℕ) → i < length pieces → piece ≡ get_or pieces i piece
    → concat (take (i + 1) pieces) ≡ concat (take i pieces) ++ piece
concat_more pieces i piece lt e =
    ap concat (take_more pieces i piece lt) ∙ concat_last (take i pieces) (get_or pieces i piece) ∙ ap (λ (t : List ℕ). concat (take i pieces) ++ t) (sym e)
