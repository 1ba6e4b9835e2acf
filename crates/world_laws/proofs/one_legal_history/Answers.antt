use Rattle.world_laws.proofs.CrashImages.{ends_fit, image_stands}
use Rattle.world_laws.proofs.RecordedEntries.{ends_record, may_follow}
use Rattle.world_laws.proofs.WorldLaw.{wrote_session, only_grows}
use Rattle.world_laws.proofs.one_legal_history.Goals as goal

pub returns-clause-sessions : goal.returns-clause-sessions
returns-clause-sessions g c = λ asking history numbers events world run conn connection there heard rest m.
    wrote_session (g.C.Clock.may_give c.args.clock.now) asking
    (record { once = λ text one other rest left p q. (c.one_parse.ensures text one other rest left p q).0; stay = c.events_stay.ensures; ends = c.nothing_after_an_end.ensures })
    c.complete.ensures.reads history numbers events world run conn connection there heard rest m

pub returns-clause-grows : goal.returns-clause-grows
returns-clause-grows g c = λ asking history numbers events world run.
    only_grows (g.C.Clock.may_give c.args.clock.now) asking
    (record { once = λ text one other rest left p q. (c.one_parse.ensures text one other rest left p q).0; stay = c.events_stay.ensures; ends = c.nothing_after_an_end.ensures })
    c.complete.ensures.reads history numbers events world run

pub returns-clause-stops : goal.returns-clause-stops
returns-clause-stops g c = λ asking history numbers events world stopped image is_history recordable run appends stops.
    let records = ends_record c.replies_by_rank.ensures.fit (g.C.Clock.may_give c.args.clock.now) asking history numbers recordable events world run appends in
    image_stands world image
    (ends_fit c.applies.ensures.applies (g.C.Clock.may_give c.args.clock.now) asking history numbers is_history events world run)
    (only_grows (g.C.Clock.may_give c.args.clock.now) asking
    (record { once = λ text one other rest left p q. (c.one_parse.ensures text one other rest left p q).0; stay = c.events_stay.ensures; ends = c.nothing_after_an_end.ensures })
    c.complete.ensures.reads history numbers events world run).published
    records.history (λ entry follows. may_follow world.keeper entry records follows) stops.does.allowed

pub returns-clause-ends : goal.returns-clause-ends
returns-clause-ends g c = λ asking history numbers events world stopped image is_history run recordable following stops.
    image_stands world image
    (ends_fit c.applies.ensures.applies (g.C.Clock.may_give c.args.clock.now) asking history numbers is_history events world run)
    (only_grows (g.C.Clock.may_give c.args.clock.now) asking
    (record { once = λ text one other rest left p q. (c.one_parse.ensures text one other rest left p q).0; stay = c.events_stay.ensures; ends = c.nothing_after_an_end.ensures })
    c.complete.ensures.reads history numbers events world run).published
    recordable following stops.does.allowed
