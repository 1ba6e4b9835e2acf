use Rattle.std.proofs.Common.{◌≡◌, ◌++◌, ap, sym, ◌∙◌, arith}
use Rattle.load_generator.specs.Streams as spec
use Rattle.load_generator.proofs.Ranges.{all_texts, one_more}
use Rattle.load_generator.proofs.requests.stream.Goals as goal

-- one request more
pub loop-k-preserved : goal.loop-k-preserved
loop-k-preserved c =
    c.in_ok-append_request.ensures ∙ ap (λ text. text ++ spec.request_text c.loop-k.k) c.loop-k.invariant ∙ sym (one_more spec.request_text c.loop-k.k)

-- all requests
pub returns : goal.returns
returns c =
    let all : c.loop-k.k ≡ c.args.requests = omega (arith, c.loop-k-test.false, c.loop-k.auto.k-end) in
    c.loop-k.invariant ∙ all_texts c.loop-k.k c.args.requests all
