use Rattle.std.proofs.Common.{◌≤◌, arith, length}
use Rattle.rdf_graph.proofs.Members.{all_more, all_of}
use Rattle.syntax_laws.specs.ReadBack.{TripleHasTexts}
use Rattle.syntax_laws.proofs.text_laws.list_texts.Goals as goal

pub loop-triple-preserved : goal.loop-triple-preserved
loop-triple-preserved c =
    all_more TripleHasTexts c.args.triples.now c.loop-triple.triple-index c.triple-item.result c.loop-triple-test.true c.triple-item.is c.loop-triple.invariant c.triple_texts.ensures

pub returns : goal.returns
returns c =
    let past : length c.args.triples.now ≤ c.loop-triple.triple-index = omega arith in
    all_of TripleHasTexts c.args.triples.now c.loop-triple.triple-index past c.loop-triple.invariant
