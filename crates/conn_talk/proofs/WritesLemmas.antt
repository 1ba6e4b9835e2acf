-- Two writes, one behind the other.
use Rattle.std.proofs.Common.{◌≡◌, ℕ, ◌<◌, ◌≤◌, min, List, [], ◌++◌, length, take, drop, Option, Result, Ok, Err, length-append, sym, ap, subst, append_assoc, ◌∙◌, arith}
use Rattle.std.proofs.Math.Seq.{take-length, take-append_seam, length-take-le}
use Rattle.std.proofs.lemmas.List.{take-append-drop}
use Rattle.pod_io.specs.Writing.{ExtendsBy, Writes}
use Rattle.pod_io.proofs.Extending.{nothing_added}
use Rattle.conn_talk.specs.Steps.{WritesBoth}

-- the piece that was given, and what is left behind it
pub given_is : (left old piece : List ℕ) (count : ℕ) → count ≡ min (length left) (length old) → piece ≡ take count left ++ drop count old → take count piece ++ drop count left ≡ left
given_is left old piece count least is =
    let within : count ≤ length left = omega (arith, least) in
    let front : take count piece ≡ take count left =
    ap (take count) is ∙ subst (λ n. take n (take count left ++ drop count old) ≡ take count left) (length-take-le count left within) (take-append_seam (take count left) (drop count old)) in
    ap (λ f. f ++ drop count left) front ∙ take-append-drop count left

-- what is written and given is a front of the whole
pub still_whole : (done given left behind whole : List ℕ) → done ++ left ≡ whole → given ++ behind ≡ left → (done ++ given) ++ behind ≡ whole
still_whole done given left behind whole all is = append_assoc done given behind ∙ ap (λ l. done ++ l) is ∙ all

pub part_is : (done given behind whole : List ℕ) (count : ℕ) → (done ++ given) ++ behind ≡ whole → done ++ take count given ≡ take (length (done ++ take count given)) whole
part_is done given behind whole count all =
    let front = done ++ take count given in
    let rest : front ++ (drop count given ++ behind) ≡ whole =
    append_assoc done (take count given) (drop count given ++ behind)
    ∙ ap (λ l. done ++ l) (sym (append_assoc (take count given) (drop count given) behind) ∙ ap (λ g. g ++ behind) (take-append-drop count given))
    ∙ sym (append_assoc done given behind) ∙ all in
    sym (take-append_seam front (drop count given ++ behind)) ∙ ap (take (length front)) rest

-- and a part of it
pub part_less : (done given behind whole : List ℕ) (count : ℕ) → (done ++ given) ++ behind ≡ whole → count < length given → length (done ++ take count given) < length whole
part_less done given behind whole count all less =
    omega (arith, less, ap length all, length-append (done ++ given) behind, length-append done given, length-append done (take count given), length-take-le count given (omega (arith, less)))

-- a text that one sink has, and nothing that the other has
pub both_of : {T E : Type 0} (result : Result T E) (text : List ℕ) (old new errors : Option (List ℕ)) → Writes result text old new → WritesBoth result text [] old new errors errors
both_of (Ok x) text old new errors w = record { whole = (w.whole, nothing_added errors); part = tt }
both_of (Err e) text old new errors w = record { whole = tt; part = (w.part.0, 0, w.part.2, nothing_added errors) }

-- all of a text was written, and then a front of a line
pub line_stopped : {T S E : Type 0} (failed : E) (text line : List ℕ) (old new errors new_errors : Option (List ℕ)) → ExtendsBy text old new → Writes {T = S} {E = E} (Err failed) line errors new_errors
    → WritesBoth {T = T} {E = E} (Err failed) text line old new errors new_errors
line_stopped failed text line old new errors new_errors all w = record {
  whole = tt;
  part = (length text, w.part.0, subst (λ t. ExtendsBy t old new) (sym (take-length text)) all, w.part.2);
}
