use Rattle.std.proofs.Common.{◌+◌, arith, subst, sym, take}
use Rattle.std.proofs.lemmas.List.{take_all}
use Rattle.std.proofs.lemmas.List.Elements.{All-more, All-nil, All-same}
use Rattle.jsonld_expanded.specs.Document.{object_of}
use Rattle.jsonld_expanded.specs.Widths.{objects_width, width}
use Rattle.jsonld_expanded.specs.Written.{HasAbsoluteIris}
use Rattle.jsonld_expanded.proofs.Widths.{all_done, more_done, next_object, no_object, none_done}
use Rattle.jsonld_expanded.proofs.written_len.objects_len.Goals as goal

pub loop-triple-init : goal.loop-triple-init
loop-triple-init c = (none_done c.len_of-len.result (objects_width c.args.triples.now) c.len_of-len.ensures, All-nil HasAbsoluteIris)

pub loop-triple-preserved : goal.loop-triple-preserved
loop-triple-preserved c =
    let l = c.loop-triple in
    let xs = c.args.triples.now in
    let x = c.triple-item.result in (
      more_done l.len c.sum-len.result (1 + width (object_of x)) _ _ _ (next_object xs l.triple-index x (omega arith) c.triple-item.is) l.invariant.0
          (λ m is. c.sum-len.ensures m (1 + width (object_of x)) is c.next_object_len.ensures.width),
      All-more HasAbsoluteIris xs l.triple-index x (omega arith) l.invariant.1 (subst HasAbsoluteIris c.triple-item.is c.next_object_len.ensures.absolute),
    )

pub returns-clause-width : goal.returns-clause-width
returns-clause-width c =
    let l = c.loop-triple in
    all_done l.len _ _ (no_object c.args.triples.now l.triple-index (omega arith)) l.invariant.0

pub returns-clause-absolute : goal.returns-clause-absolute
returns-clause-absolute c =
    let l = c.loop-triple in
    let xs = c.args.triples.now in
    All-same HasAbsoluteIris xs (take l.triple-index xs) (sym (take_all l.triple-index xs (omega arith))) l.invariant.1
