use Rattle.http_payload.specs.Chunks.{Whole}
use Rattle.http_payload.proofs.LawLemmas.{partial_before, partial_prefix}
use Rattle.http_payload.proofs.laws.partial_before.Goals as goal

pub returns : goal.returns
returns c = record {
  body = λ form text more body whole some. partial_before form text more (Whole body) whole some;
  partial = partial_prefix;
}
