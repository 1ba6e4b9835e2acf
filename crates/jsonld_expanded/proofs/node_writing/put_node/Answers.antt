use Rattle.std.proofs.Common.{sym}
use Rattle.jsonld_expanded.proofs.Adding.{adds_both, adds_same, node_is, on_ok}
use Rattle.jsonld_expanded.proofs.node_writing.put_node.Goals as goal

pub returns : goal.returns
returns c =
    let a = c.args.writer.now in
    on_ok c.end_object.result _ _ (λ last. adds_same a c.end_object.new.writer _ _ (sym (node_is c.args.triples.now c.index-triples-0.result c.requires))
    (adds_both a c.begin_node.new.writer c.end_object.new.writer _ _ c.in_ok-begin_node.ensures
    (adds_both c.begin_node.new.writer c.put_sorted.new.writer c.end_object.new.writer _ _ c.in_ok-put_sorted.ensures last))) c.end_object.ensures
