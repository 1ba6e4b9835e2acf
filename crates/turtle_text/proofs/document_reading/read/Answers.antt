use Rattle.std.proofs.Common.{rules}
use Rattle.turtle_text.proofs.Spelling.{one_graph, only_handed}
use Rattle.turtle_text.proofs.document_reading.read.Goals as goal

pub returns-in_err-triples-clause-only : goal.returns-in_err-triples-clause-only
returns-in_err-triples-clause-only c =
    only_handed c.args.base.now c.args.bytes.now c.from_residual.result c.in_err-triples.field-0.0 c.from_residual.ensures.1 c.in_err-triples.ensures.fault

pub returns-clause-only : goal.returns-clause-only
returns-clause-only c = λ graph spells within.
    one_graph c.args.base.now c.args.bytes.now c.of.result graph (record {
      triples = c.in_ok-triples.triples.items;
      spells = c.in_ok-triples.ensures.spells;
      is_graph = search rules;
      same = c.of.ensures.members;
    }) spells
