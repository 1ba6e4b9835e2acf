use Rattle.http_out.proofs.SegmentLemmas.{no_body_text}
use Rattle.http_out.proofs.laws.no_body_without_length.Goals as goal

pub returns : goal.returns
returns c = no_body_text
