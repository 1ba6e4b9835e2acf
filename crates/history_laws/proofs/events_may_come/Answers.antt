use Rattle.history_laws.proofs.Events.{arrives, reads, refuses, stops}
use Rattle.history_laws.proofs.events_may_come.Goals as goal

pub returns-clause-arrives : goal.returns-clause-arrives
returns-clause-arrives g c = λ asking old conn piece from rest there settles.
    arrives (g.C.Clock.may_give c.args.clock.now) asking old rest conn piece from there settles

pub returns-clause-reads : goal.returns-clause-reads
returns-clause-reads g c = λ asking old conn place moment rest look read settles.
    reads (g.C.Clock.may_give c.args.clock.now) asking old rest conn place moment look read settles

pub returns-clause-refuses : goal.returns-clause-refuses
returns-clause-refuses g c = λ asking old conn place moment status rest look next settles.
    refuses (g.C.Clock.may_give c.args.clock.now) asking old rest conn place moment look status next settles

pub returns-clause-stops : goal.returns-clause-stops
returns-clause-stops g c = λ asking old rest.
    stops (g.C.Clock.may_give c.args.clock.now) asking old rest
