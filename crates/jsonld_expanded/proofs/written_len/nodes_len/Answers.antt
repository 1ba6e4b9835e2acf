use Rattle.std.proofs.Common.{arith, sym, take}
use Rattle.std.proofs.lemmas.List.{take_all}
use Rattle.std.proofs.lemmas.List.Elements.{All-nil, All-same}
use Rattle.jsonld_expanded.specs.Written.{HasAbsoluteIris}
use Rattle.jsonld_expanded.proofs.Adding.{rest_is, rest_within}
use Rattle.jsonld_expanded.proofs.Widths.{all_done, all_further, more_done, next_node_width, no_node_width, none_done}
use Rattle.jsonld_expanded.proofs.written_len.nodes_len.Goals as goal

pub loop-at-init : goal.loop-at-init
loop-at-init c = (omega arith, none_done c.len_of-len.result _ c.len_of-len.ensures, All-nil HasAbsoluteIris)

pub loop-at-preserved : goal.loop-at-preserved
loop-at-preserved c =
    let l = c.loop-at in
    let xs = c.args.triples.now in
    let n = c.subject_run-run.result in
    let node = c.in_ok-node.ensures in
    let next = c.sum-next.ensures 1 _ c.len_of.ensures node.width in (
      rest_within xs l.at n l.invariant.0 c.subject_run-run.ensures.within,
      more_done l.len c.sum-len.result _ _ _ _ (next_node_width xs l.at n _ (rest_is xs l.at) c.subject_run-run.ensures.run) l.invariant.1 (λ m is. c.sum-len.ensures m _ is next),
      all_further HasAbsoluteIris xs l.at n _ (rest_is xs l.at) l.invariant.2 node.absolute,
    )

pub returns-clause-width : goal.returns-clause-width
returns-clause-width c =
    let l = c.loop-at in
    all_done l.len _ _ (no_node_width c.args.triples.now l.at c.loop-at-test.false) l.invariant.1

pub returns-clause-absolute : goal.returns-clause-absolute
returns-clause-absolute c =
    let l = c.loop-at in
    let xs = c.args.triples.now in
    All-same HasAbsoluteIris xs (take l.at xs) (sym (take_all l.at xs c.loop-at-test.false)) l.invariant.2
