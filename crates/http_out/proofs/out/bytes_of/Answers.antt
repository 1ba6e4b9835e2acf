use Rattle.std.proofs.Common.{◌≡◌, ℕ, ◌++◌, List, [], take, length, sym, ap, ap₂, ◌∙◌, arith, append_assoc, length-drop}
use Rattle.std.proofs.lemmas.List.{append-nil}
use Rattle.std.proofs.lemmas.Result.{IfOk-weaker}
use Rattle.http_out.specs.declared.segment.Segment.TheVariants.{Version}
use Rattle.http_out.specs.Segments.{left_at}
use Rattle.http_out.proofs.SegmentLemmas.{whole_text, gathers, none_left, copies_length}
use Rattle.http_out.proofs.out.bytes_of.Goals as goal

-- the first piece
pub loop-count-init : goal.loop-count-init
loop-count-init c =
    let response = c.args.response.now in
    let head = c.new-head.result in
    let start : List ℕ = left_at response head.date head.close Version 0 in
    let new : List ℕ = left_at response head.date head.close c.fill-count.new.cursor.segment c.fill-count.new.cursor.offset in
    let count = c.fill-count.result in
    let piece : List ℕ = c.fill-count.new.into in
    let copies = c.fill-count.ensures.copies in
    let size = copies_length start new _ piece count copies in (
      ap (λ (t : List ℕ). t ++ (take count piece ++ new)) c.new-text.ensures ∙ gathers start new _ piece count copies,
      omega (arith, size),
      omega (arith, size, copies.room),
      none_left start new _ piece count copies c.fill-count.ensures.count (omega arith),
    )

-- one piece more
pub loop-count-preserved : goal.loop-count-preserved
loop-count-preserved c =
    let response = c.args.response.now in
    let head = c.new-head.result in
    let l = c.loop-count in
    let left : List ℕ = left_at response head.date head.close l.cursor.segment l.cursor.offset in
    let new : List ℕ = left_at response head.date head.close c.fill-count-in-loop-count.new.cursor.segment c.fill-count-in-loop-count.new.cursor.offset in
    let count = c.fill-count-in-loop-count.result in
    let piece : List ℕ = c.fill-count-in-loop-count.new.into in
    let copies = c.fill-count-in-loop-count.ensures.copies in
    let size = copies_length left new l.piece piece count copies in
    let more : List ℕ = take l.count l.piece in (
      ap (λ (t : List ℕ). t ++ (take count piece ++ new)) c.in_ok-append.ensures.appended
          ∙ ap (λ (t : List ℕ). (l.text ++ more) ++ t) (gathers left new l.piece piece count copies)
          ∙ append_assoc l.text more left ∙ l.invariant.0,
      omega (arith, size, l.invariant.1),
      omega (arith, size, copies.room),
      none_left left new l.piece piece count copies c.fill-count-in-loop-count.ensures.count (omega (arith, l.invariant.1)),
    )

pub loop-count-smaller : goal.loop-count-smaller
loop-count-smaller c =
    let response = c.args.response.now in
    let head = c.new-head.result in
    let left : List ℕ = left_at response head.date head.close c.loop-count.cursor.segment c.loop-count.cursor.offset in
    let copies = c.fill-count-in-loop-count.ensures.copies in
    omega (arith, copies.within, ap length copies.left, length-drop c.fill-count-in-loop-count.result left, c.loop-count-test.true)

-- nothing is left
pub returns : goal.returns
returns c =
    let response = c.args.response.now in
    let head = c.new-head.result in
    let l = c.loop-count in
    let left : List ℕ = left_at response head.date head.close l.cursor.segment l.cursor.offset in
    let zero : l.count ≡ 0 = omega (arith, c.loop-count-test.false) in
    let nothing : take l.count l.piece ++ left ≡ [] = ap₂ (λ (n : ℕ) (t : List ℕ). take n l.piece ++ t) zero (l.invariant.3 zero) in
    let text_is = sym (append-nil l.text) ∙ ap (λ (t : List ℕ). l.text ++ t) (sym nothing) ∙ l.invariant.0
    ∙ ap (λ b. left_at response head.date b Version 0) c.new-head.ensures.close ∙ whole_text response head.date c.args.close in
    IfOk-weaker c.freeze.result _ _ (λ bytes is. (head.date, c.new-head.ensures.date, is ∙ text_is)) c.freeze.ensures.ok
