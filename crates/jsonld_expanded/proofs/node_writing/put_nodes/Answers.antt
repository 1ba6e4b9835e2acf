use Rattle.jsonld_expanded.proofs.Adding.{less_left, next_node, no_node, none_left, rest_is, rest_within}
use Rattle.jsonld_expanded.proofs.node_writing.put_nodes.Goals as goal

pub loop-at-preserved : goal.loop-at-preserved
loop-at-preserved c =
    let l = c.loop-at in
    let xs = c.args.triples.now in
    let n = c.subject_run-run.result in (
      rest_within xs l.at n l.invariant.0 c.subject_run-run.ensures.within,
      less_left c.args.writer.now l.writer c.put_node.new.writer _ _ _ _ (next_node xs l.at n _ (rest_is xs l.at) c.subject_run-run.ensures.run) l.invariant.1 c.in_ok-put_node.ensures,
    )

pub returns : goal.returns
returns c =
    let l = c.loop-at in
    none_left c.args.writer.now l.writer _ _ (no_node c.args.triples.now l.at c.loop-at-test.false) l.invariant.1
