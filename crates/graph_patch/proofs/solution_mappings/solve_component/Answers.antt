use Rattle.std.proofs.Common.{ap, map}
use Rattle.std.proofs.lemmas.Result.{IfOk-weaker}
use Rattle.graph_patch.specs.Pattern.{Extends}
use Rattle.graph_patch.specs.Search.{AnyBinding, IsSearchResult, pairs_of}
use Rattle.graph_patch.proofs.Solving.{result_everything}
use Rattle.graph_patch.proofs.solution_mappings.solve_component.Goals as goal

pub returns : goal.returns
returns c =
    IfOk-weaker c.search.result
    (IsSearchResult c.args.lookup.triples.now (map (λ r. r.now) c.args.conditions.now) (Extends (pairs_of c.new-bound.result.items)))
    (IsSearchResult c.args.lookup.triples.now (map (λ r. r.now) c.args.conditions.now) AnyBinding)
    (λ found h. result_everything c.args.lookup.triples.now (map (λ r. r.now) c.args.conditions.now) (pairs_of c.new-bound.result.items) found (ap pairs_of c.new-bound.ensures.items) h)
    c.search.ensures.found
