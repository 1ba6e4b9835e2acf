use Rattle.std.proofs.Common.{◌≡◌, ◌-◌, length, drop}
use Rattle.pod_serve.specs.Serving.{IsWrittenTo, taken_with}
use Rattle.pod_serve.proofs.link_output.send_from.Given as goal

-- what is sent and what is left of the text are all of it, and nothing was read
abbrev pub invariant-loop-at : goal.invariant-loop-at
invariant-loop-at g l =
    (taken_with (drop l.at l.text) (g.L.Link.sent l.link) ≡ taken_with (drop l.from l.text) (g.L.Link.sent l.initial.link))
    × IsWrittenTo (g.L.Link.rest l.initial.link) (g.L.Link.rest l.link) (g.L.Link.sent l.initial.link) (g.L.Link.sent l.link) (g.L.Link.counts l.initial.link) (g.L.Link.counts l.link)

abbrev pub decreases-loop-at : goal.decreases-loop-at
decreases-loop-at g l = length l.text - l.at
