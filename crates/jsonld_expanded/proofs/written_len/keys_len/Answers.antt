use Rattle.std.proofs.Common.{◌+◌, ap, arith, ◌∙◌}
use Rattle.rdf_graph.specs.Size.{saturated}
use Rattle.rdf_graph.specs.declared.triple.Triple.{Triple}
use Rattle.jsonld_expanded.specs.Document.{key_of, same_key}
use Rattle.jsonld_expanded.specs.Widths.{keys_width, quoted_width}
use Rattle.jsonld_expanded.proofs.Adding.{rest_is, rest_within}
use Rattle.jsonld_expanded.proofs.Runs.{map_runs}
use Rattle.jsonld_expanded.proofs.Widths.{all_done, more_done, next_key, no_key, none_done}
use Rattle.jsonld_expanded.proofs.written_len.keys_len.Goals as goal
use denote.Ref.{Bor}

pub loop-at-init : goal.loop-at-init
loop-at-init c = (omega arith, none_done c.len_of-len.result _ c.len_of-len.ensures)

pub loop-at-preserved : goal.loop-at-preserved
loop-at-preserved c =
    let l = c.loop-at in
    let xs = c.args.triples.now in
    let r = c.index-triples-at.result in
    let n = c.key_run-at.result in
    let key = c.sum-key.ensures 3 (quoted_width (key_of r.now)) c.len_of.ensures c.key_len.ensures in (
      rest_within xs l.at n l.invariant.0 c.key_run-at.ensures.within,
      more_done l.len c.sum-len.result (3 + quoted_width (key_of r.now)) _ _ _ (next_key xs l.at n _ r (rest_is xs l.at) c.loop-at-test.true c.key_run-at.ensures.some c.index-triples-at.is c.key_run-at.ensures.run) l.invariant.1
          (λ m is. c.sum-len.ensures m (3 + quoted_width (key_of r.now)) is key),
    )

pub returns : goal.returns
returns c =
    let l = c.loop-at in
    let xs = c.args.triples.now in
    all_done l.len _ _ (no_key xs l.at c.loop-at-test.false) l.invariant.1 ∙ ap (λ rs. saturated (keys_width rs)) (map_runs (λ (r : Bor Triple). r.now) same_key xs)
