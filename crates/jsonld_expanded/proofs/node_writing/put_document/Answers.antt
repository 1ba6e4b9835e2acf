use Rattle.std.proofs.Common.{sym}
use Rattle.jsonld_expanded.proofs.Adding.{adds_both, adds_same, document_is, on_ok}
use Rattle.jsonld_expanded.proofs.node_writing.put_document.Goals as goal

pub returns : goal.returns
returns c =
    let a = c.args.writer.now in
    on_ok c.end_array.result _ _ (λ last. adds_same a c.end_array.new.writer _ _ (sym (document_is c.args.triples.now))
    (adds_both a c.begin_array.new.writer c.end_array.new.writer _ _ c.in_ok-begin_array.ensures
    (adds_both c.begin_array.new.writer c.put_nodes.new.writer c.end_array.new.writer _ _ c.in_ok-put_nodes.ensures last))) c.end_array.ensures
