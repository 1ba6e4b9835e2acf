use Rattle.jsonld_expanded.specs.Written.{tokens_of}
use Rattle.jsonld_expanded.proofs.Adding.{adds_both, on_ok}
use Rattle.jsonld_expanded.proofs.value_writing.put_named.Goals as goal

pub returns : goal.returns
unfolding tokens_of
returns c =
    let a = c.args.writer.now in
    let first = adds_both a c.begin_object.new.writer c.put_key.new.writer _ _ c.in_ok-begin_object.ensures c.in_ok-put_key.ensures in
    let second = adds_both a c.put_key.new.writer c.put_name.new.writer _ _ first c.in_ok-put_name.ensures in
    on_ok c.end_object.result _ _ (λ last. adds_both a c.put_name.new.writer c.end_object.new.writer _ _ second last) c.end_object.ensures
