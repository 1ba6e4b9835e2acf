use Rattle.std.proofs.Common.{◌∙◌, ap, sym, arith}
use Rattle.http_out.specs.Segments.{text_after}
use Rattle.http_out.proofs.SegmentLemmas.{after_line_end}
use Rattle.http_out.proofs.segment.Segment.next.Goals as goal

pub returns-in-LineEnd-clause-after : goal.returns-in-LineEnd-clause-after
returns-in-LineEnd-clause-after c response date close size =
    after_line_end response date close c.in-LineEnd.i (omega (arith, size, c.if-i-fields-4.true))
    ∙ ap (λ p. text_after response date close p) (sym c.in-LineEnd.is)
