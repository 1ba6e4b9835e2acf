use Rattle.std.proofs.Common.{◌≡◌, ◌++◌, ◌≤◌, ◌<◌, List, ℕ, Ok, length}
use Rattle.std.specs.List.{AllByRecursion}
use Rattle.http_conn.specs.Messages.{NothingAfterEnd}
use Rattle.http_conn.specs.declared.events.TheConstants.{REQUEST_LIMIT}
use Rattle.pod_io.specs.Writing.{ExtendsBy}
use Rattle.pod_base.specs.declared.heard.Heard.{Heard}
use Rattle.conn_talk.specs.Agents.{asking_of}
use Rattle.conn_talk.specs.Talks.{MayBeSent, Turns}
use Rattle.conn_talk.proofs.connection_events.Connection.answer_events.Given as goal

-- the events so far were answered, and the others are still to come
abbrev pub invariant-loop-one : goal.invariant-loop-one
invariant-loop-one g l =
    ((done : List Heard) × (done ++ l.rest ≡ l.fn.heard)
    × ((text : List ℕ) × (lines : List ℕ) × ExtendsBy text (g.K.Output.taken l.fn.output) (g.K.Output.taken l.output) × ExtendsBy lines (g.E.Sink.taken l.fn.errors) (g.E.Sink.taken l.errors)
    × Turns (record { conn = l.fn.self.conn; may_give = g.C.Clock.may_give l.clock; asking = asking_of l.agents; trails = l.trail; turns = g.A.Answers.turns; passes = g.A.Answers.passes })
    l.fn.answers l.fn.self.number l.answers l.self.number done text lines (Ok tt)))
    × (l.self.number < REQUEST_LIMIT)
    × NothingAfterEnd l.self.number l.rest
    × AllByRecursion MayBeSent l.rest
    × (g.K.Output.faults l.fn.output ≤ g.K.Output.faults l.output)
    × (g.E.Sink.faults l.fn.errors ≤ g.E.Sink.faults l.errors)
    × g.A.Answers.ready l.answers
    × (l.self.conn ≡ l.fn.self.conn)
    × g.K.Output.follows l.fn.output l.output

abbrev pub decreases-loop-one : goal.decreases-loop-one
decreases-loop-one g l = length l.rest
