use Rattle.std.proofs.Common.{ap}
use Rattle.rdf_graph.specs.declared.triple.Triple.{Triple}
use Rattle.jsonld_expanded.specs.Document.{same_key}
use Rattle.jsonld_expanded.specs.Written.{properties_tokens}
use Rattle.jsonld_expanded.proofs.Adding.{adds_same, less_left, next_property, no_property, none_left, rest_is, rest_within}
use Rattle.jsonld_expanded.proofs.Runs.{map_runs}
use Rattle.jsonld_expanded.proofs.node_writing.put_properties.Goals as goal
use denote.Ref.{Bor}

pub loop-at-preserved : goal.loop-at-preserved
loop-at-preserved c =
    let l = c.loop-at in
    let xs = c.args.triples.now in
    let n = c.key_run-run.result in (
      rest_within xs l.at n l.invariant.0 c.key_run-run.ensures.within,
      less_left c.args.writer.now l.writer c.put_property.new.writer _ _ _ _ (next_property xs l.at n _ (rest_is xs l.at) c.key_run-run.ensures.run) l.invariant.1 c.in_ok-put_property.ensures,
    )

pub returns : goal.returns
returns c =
    let l = c.loop-at in
    let xs = c.args.triples.now in
    adds_same c.args.writer.now l.writer _ _ (ap properties_tokens (map_runs (λ (r : Bor Triple). r.now) same_key xs))
    (none_left c.args.writer.now l.writer _ _ (no_property xs l.at c.loop-at-test.false) l.invariant.1)
