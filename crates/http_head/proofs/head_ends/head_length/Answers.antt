use Rattle.std.proofs.Common.{◌≡◌, ◌<◌, ℕ, ◌+◌, List, length, drop, ap, sym, subst, ◌∙◌, arith}
use Rattle.std.specs.Option.{option_map}
use Rattle.http_head.specs.HeadEnds.{line_end_after_lf, head_length}
use Rattle.http_head.proofs.HeadEndSteps.{pass_line_feed}
use Rattle.http_head.proofs.head_ends.head_length.Goals as goal

-- no head ends at this line feed
pub loop-skipped-preserved : goal.loop-skipped-preserved
loop-skipped-preserved c =
    let bytes : List ℕ = c.args.bytes.now in
    let at : ℕ = c.loop-skipped.at in
    let n : ℕ = c.in-Some.skipped in
    let rest = c.suffix_from.ensures in
    let few : n < length (drop at bytes) = subst (λ r. n < length r) rest c.in-Some.ensures.within in
    let skips = subst (λ r. head_length r ≡ option_map (λ m. m + n) (head_length (drop n r))) rest c.in-Some.ensures.skips in
    let none = ap line_end_after_lf (sym c.suffix_from-in-Some.ensures) ∙ sym c.line_end_after_lf-end.ensures.exact ∙ omega arith in
    pass_line_feed bytes at n c.loop-skipped.invariant.0 c.loop-skipped.invariant.1 few skips none
