use Rattle.std.proofs.Common.{List, ℕ, ap, ◌∙◌}
use Rattle.http_out.specs.declared.segment.Segment.TheVariants.{Version}
use Rattle.http_out.specs.Segments.{left_at}
use Rattle.http_out.proofs.SegmentLemmas.{whole_text}
use Rattle.http_out.proofs.out.Out.new.Goals as goal

pub returns : goal.returns
returns c =
    let date : List ℕ = c.new.result.date in
    (date, c.new.ensures.date, ap (λ b. left_at c.args.response date b Version 0) c.new.ensures.close ∙ whole_text c.args.response date c.args.close)
