use Rattle.std.proofs.Common.{◌≢◌, []}
use Rattle.std.proofs.lemmas.Result.{IfOk-weaker}
use Rattle.graph_patch.specs.Lookup.{IsIndex}
use Rattle.graph_patch.proofs.triple_lookup.index_for.Goals as goal

pub returns-then-needs_index : goal.returns-then-needs_index
returns-then-needs_index c =
    IfOk-weaker c.index_of.result (λ index. IsIndex c.args.order c.args.triples.now index.items) (λ index. index.items ≢ [] → IsIndex c.args.order c.args.triples.now index.items) (λ index h some. h) c.index_of.ensures

pub returns-else-needs_index : goal.returns-else-needs_index
returns-else-needs_index c some = absurd (some c.new.ensures.items)
