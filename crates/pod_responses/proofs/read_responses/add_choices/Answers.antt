use Rattle.std.proofs.Common.{◌++◌, ◌∷◌, [], codes}
use Rattle.pod_responses.specs.Allow.{put_types}
use Rattle.pod_responses.specs.Responses.{choices, accept_post, accept_put, vary, accept_ranges}
use Rattle.pod_responses.proofs.Appending.{then}
use Rattle.pod_responses.proofs.read_responses.add_choices.Goals as goal

pub returns : goal.returns
unfolding choices
returns c = rw (← c.is_container.ensures) (then c.add_accept_ranges.result c.args.fields.now c.add_accept_post.new.fields c.add_accept_ranges.new.fields (accept_post c.is_container.result) ((accept_put (put_types c.args.path.now) ∷ []) ++ ((vary ∷ []) ++ (accept_ranges c.args.ranges)))
    c.in_ok-add_accept_post.ensures (then c.add_accept_ranges.result c.add_accept_post.new.fields c.add_accept_put.new.fields c.add_accept_ranges.new.fields (accept_put (put_types c.args.path.now) ∷ []) ((vary ∷ []) ++ (accept_ranges c.args.ranges))
    c.in_ok-add_accept_put.ensures (then c.add_accept_ranges.result c.add_accept_put.new.fields c.add_vary.new.fields c.add_accept_ranges.new.fields (vary ∷ []) (accept_ranges c.args.ranges)
    c.in_ok-add_vary.ensures (c.add_accept_ranges.ensures))))
