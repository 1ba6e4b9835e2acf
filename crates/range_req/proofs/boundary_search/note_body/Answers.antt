use Rattle.range_req.proofs.NoteLemmas.{body_adds, body_none}
use Rattle.range_req.proofs.boundary_search.note_body.Goals as goal

-- one suffix more
pub loop-first-preserved : goal.loop-first-preserved
loop-first-preserved c = λ new h.
    c.loop-first.invariant new (body_adds c.loop-first.noted c.note_delimiters.new.noted new c.loop-first.rest.now c.in-Some.more.now c.in-Some._first.now c.in-Some.ensures.cases.0 c.note_delimiters.ensures h)

-- nothing is left
pub returns : goal.returns
returns c = c.loop-first.invariant c.loop-first.noted (body_none c.loop-first.noted c.loop-first.rest.now c.in_default.ensures.cases)
