-- Texts that are written one after the other.
use Rattle.std.proofs.Common.{◌≡◌, ◌<◌, ℕ, ◌+◌, ◌-◌, List, [], ◌++◌, length, length-append, take, drop, Option, Some, None, Result, Ok, Err, IsErr, refl, sym, ap, subst, append_assoc, append-nil, ◌∙◌, rules, arith}
use Rattle.std.specs.Option.{option_map}
use Rattle.std.proofs.Math.Seq.{length-take-le, take-add, take-append_seam}
use Rattle.std.proofs.lemmas.List.{take_rest, take-append-drop}
use Rattle.pod_io.specs.Writing.{ExtendsBy, ExtendsByPart, Writes}

-- what follows a prefix of the text, and the prefix
pub written_more : (old : Option (List ℕ)) (text : List ℕ) (at count : ℕ) → option_map (λ bytes. bytes ++ take count (take (length text - at) (drop at text))) (option_map (λ bytes. bytes ++ take at text) old) ≡ option_map (λ bytes. bytes ++ take (at + count) text) old
written_more None text at count = refl
written_more (Some bytes) text at count =
    ap (λ rest. Some ((bytes ++ take at text) ++ take count rest)) (take_rest text at)
    ∙ ap Some (append_assoc bytes (take at text) (take count (drop at text)) ∙ ap (λ more. bytes ++ more) (sym (take-add at count text)))

pub nothing_added : (old : Option (List ℕ)) → ExtendsBy [] old old
nothing_added None = refl
nothing_added (Some bytes) = ap Some (sym (append-nil bytes))

pub extends_more : (old middle new : Option (List ℕ)) (xs ys : List ℕ) → ExtendsBy xs old middle → ExtendsBy ys middle new → ExtendsBy (xs ++ ys) old new
extends_more None middle new xs ys h k = k ∙ ap (option_map (λ taken. taken ++ ys)) h
extends_more (Some bytes) middle new xs ys h k = k ∙ ap (option_map (λ taken. taken ++ ys)) h ∙ ap Some (append_assoc bytes xs ys)

-- a prefix of a text is one of a longer text
prefix_is : (xs ys : List ℕ) (count : ℕ) → take count xs ≡ take (length (take count xs)) (xs ++ ys)
prefix_is xs ys count =
    let front = take count xs in
    let rest : front ++ (drop count xs ++ ys) ≡ xs ++ ys = sym (append_assoc front (drop count xs) ys) ∙ ap (λ l. l ++ ys) (take-append-drop count xs) in
    sym (take-append_seam front (drop count xs ++ ys)) ∙ ap (take (length front)) rest

-- and so is a text with a prefix of what follows it
prefix_after : (xs ys : List ℕ) (count : ℕ) → xs ++ take count ys ≡ take (length (xs ++ take count ys)) (xs ++ ys)
prefix_after xs ys count =
    let front = xs ++ take count ys in
    let rest : front ++ drop count ys ≡ xs ++ ys = append_assoc xs (take count ys) (drop count ys) ∙ ap (λ l. xs ++ l) (take-append-drop count ys) in
    sym (take-append_seam front (drop count ys)) ∙ ap (take (length front)) rest

-- a part of a text is one of a longer text
pub part_before : (old new : Option (List ℕ)) (xs ys : List ℕ) → ExtendsByPart xs old new → ExtendsByPart (xs ++ ys) old new
part_before old new xs ys h = (
  length (take h.0 xs),
  omega (arith, h.1, length-take-le h.0 xs (omega (arith, h.1)), length-append xs ys),
  subst (λ text. ExtendsBy text old new) (prefix_is xs ys h.0) h.2,
)

-- a text, and a part of what follows it
pub part_after : (old middle new : Option (List ℕ)) (xs ys : List ℕ) → ExtendsBy xs old middle → ExtendsByPart ys middle new → ExtendsByPart (xs ++ ys) old new
part_after old middle new xs ys h k = (
  length (xs ++ take k.0 ys),
  omega (arith, k.1, length-take-le k.0 ys (omega (arith, k.1)), length-append xs (take k.0 ys), length-append xs ys),
  subst (λ text. ExtendsBy text old new) (prefix_after xs ys k.0) (extends_more old middle new xs (take k.0 ys) h k.2),
)

-- A second text after a first one.
pub writes_after : {T E : Type 0} (result : Result T E) (old middle new : Option (List ℕ)) (xs ys : List ℕ) → ExtendsBy xs old middle → Writes result ys middle new → Writes result (xs ++ ys) old new
writes_after (Ok done) old middle new xs ys h k = record { whole = extends_more old middle new xs ys h k.whole; part = tt }
writes_after (Err fault) old middle new xs ys h k = record { whole = tt; part = part_after old middle new xs ys h k.part }

-- a first text of which a part was written, and no more
pub writes_part : {T E : Type 0} (result : Result T E) (old new : Option (List ℕ)) (xs ys : List ℕ) → IsErr result → ExtendsByPart xs old new → Writes result (xs ++ ys) old new
writes_part (Ok done) old new xs ys is h = search (rules, is)
writes_part (Err fault) old new xs ys is h = record { whole = tt; part = part_before old new xs ys h }

-- a text of which a part was written
pub writes_failed : {T E : Type 0} (result : Result T E) (old new : Option (List ℕ)) (text : List ℕ) → IsErr result → ExtendsByPart text old new → Writes result text old new
writes_failed (Ok done) old new text is h = search (rules, is)
writes_failed (Err fault) old new text is h = record { whole = tt; part = h }

-- a text of which nothing was written
pub nothing_written : {T E : Type 0} (result : Result T E) (old : Option (List ℕ)) (text : List ℕ) → 0 < length text → IsErr result → Writes result text old old
nothing_written result old text some is = writes_failed result old old text is (0, some, nothing_added old)
