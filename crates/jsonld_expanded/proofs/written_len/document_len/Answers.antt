use Rattle.std.proofs.Common.{◌≡◌, ◌<◌, ap, length, sym, ◌∙◌}
use Rattle.rdf_graph.specs.Size.{saturated}
use Rattle.jsonld_expanded.specs.Document.{same_subject}
use Rattle.jsonld_expanded.specs.Runs.{runs}
use Rattle.jsonld_expanded.specs.Widths.{nodes_width}
use Rattle.jsonld_expanded.proofs.Widths.{empty_text, is_none, is_some_length, some_text}
use Rattle.jsonld_expanded.proofs.written_len.document_len.Goals as goal

pub returns-then-is_empty-clause-width : goal.returns-then-is_empty-clause-width
returns-then-is_empty-clause-width c =
    let none : length c.args.triples.now ≡ 0 = is_none (length c.args.triples.now) c.is_empty.result c.is_empty.ensures c.if-is_empty.true in
    c.len_of.ensures ∙ ap saturated (sym (empty_text c.args.triples.now none))

pub returns-clause-width : goal.returns-clause-width
returns-clause-width c =
    let some : 0 < length c.args.triples.now = is_some_length (length c.args.triples.now) c.is_empty.result c.is_empty.ensures c.if-is_empty.false in
    c.sum.ensures 1 (nodes_width (runs same_subject c.args.triples.now)) c.len_of-2.ensures c.in_ok-nodes.ensures.width ∙ ap saturated (sym (some_text c.args.triples.now some))
