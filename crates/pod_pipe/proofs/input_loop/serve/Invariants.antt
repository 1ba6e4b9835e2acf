use Rattle.std.proofs.Common.{◌≡◌, ◌≤◌, ◌<◌, Option}
use Rattle.conn_talk.specs.Agents.{asking_of}
use Rattle.http_conn.specs.declared.events.TheConstants.{REQUEST_LIMIT}
use Rattle.pod_command.specs.declared.entry.Entry.{Entry}
use Rattle.pod_core.specs.History.{History}
use Rattle.pod_pipe.specs.Held.{holder_rules}
use Rattle.pod_pipe.specs.declared.held_answers.Held.{Held}
use Rattle.pod_pipe.proofs.ReadsLemmas.{AreCounted}
use Rattle.pod_pipe.proofs.ServingLemmas.{Serving}
use Rattle.pod_pipe.proofs.input_loop.serve.Given as goal

-- what was read was answered, each read gave a byte, and no fault was forgotten
abbrev pub invariant-reads : goal.invariant-reads
invariant-reads g l =
    Serving (holder_rules g.H.PodHolder.stands g.H.PodHolder.faults g.H.PodHolder.takes (λ (h : Held g.row.H.Denot). h.holder) (g.C.Clock.may_give l.clock) (asking_of l.options.agents) l.options.trail)
    l.fn.held l.conn l.held l.connection.number
    (g.S.Source.rest l.fn.input) (g.S.Source.rest l.input) (g.K.Sink.taken l.fn.output) (g.K.Sink.taken l.output) (g.E.Sink.taken l.fn.errors) (g.E.Sink.taken l.errors) l.counter
    × (g.S.Source.faults l.fn.input ≤ g.S.Source.faults l.input)
    × (g.K.Sink.faults l.fn.output ≤ g.K.Sink.faults l.output)
    × (g.S.Source.reads l.fn.input ≤ g.S.Source.reads l.input)
    × AreCounted (g.S.Source.reads l.fn.input) l.counter (g.S.Source.reads l.input)
    × (g.S.Source.ends l.input ≡ g.S.Source.ends l.fn.input)
    × (g.E.Sink.faults l.fn.errors ≤ g.E.Sink.faults l.errors)
    × (l.connection.number < REQUEST_LIMIT)
    × ((history : History) × (doubt : Option Entry) × g.H.PodHolder.stands l.held.holder history doubt)
    × (l.connection.conn ≡ 1)
