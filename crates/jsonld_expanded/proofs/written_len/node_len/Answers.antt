use Rattle.std.proofs.Common.{List, ap, map, sym, ◌∙◌}
use Rattle.rdf_graph.specs.Size.{saturated}
use Rattle.rdf_graph.specs.declared.triple.Triple.{Triple}
use Rattle.jsonld_expanded.specs.Document.{key_below, same_key}
use Rattle.jsonld_expanded.specs.Runs.{runs}
use Rattle.jsonld_expanded.specs.Sorted.{sorted}
use Rattle.jsonld_expanded.specs.Widths.{keys_width, objects_width}
use Rattle.jsonld_expanded.proofs.Widths.{node_width}
use Rattle.jsonld_expanded.proofs.written_len.node_len.Goals as goal
use denote.Ref.{Bor}

pub returns-clause-width : goal.returns-clause-width
returns-clause-width c =
    let ts = c.args.triples.now in
    let d = c.index-triples-0.result in
    let keys = c.keys_len-keys.ensures ∙ ap (λ (us : List Triple). saturated (keys_width (runs same_key us))) (ap (map (λ (r : Bor Triple). r.now)) c.as_slice.ensures.value ∙ c.in_ok-refs.ensures) in
    let parts = c.sum-parts.ensures (keys_width (runs same_key (sorted key_below ts))) (objects_width ts) keys c.objects_len.ensures.width in
    let name = c.sum-name.ensures 8 _ c.len_of.ensures c.name_len.ensures.width in
    c.sum.ensures _ _ name parts ∙ ap saturated (sym (node_width ts d c.requires))
