use Rattle.request_history.proofs.Takes.{never_takes_held, never_takes_then, takes_if_any}
use Rattle.request_history.proofs.parts_and_events.Parts.change_from.Goals as goal

pub returns-then-not-is_free : goal.returns-then-not-is_free
returns-then-not-is_free c = never_takes_held c.args.self.now c.args.conn c.args.moment.0 (c.is_free.ensures.no c.if-not-is_free.true)

pub returns-then-not-is_clock_moment : goal.returns-then-not-is_clock_moment
returns-then-not-is_clock_moment c = never_takes_then c.args.self.now c.args.conn c.args.moment.0 (c.is_clock_moment.ensures.no c.if-not-is_clock_moment.true)

pub returns : goal.returns
returns c = takes_if_any c.args.self.now c.args.conn c.args.moment.0 c.args.from.now c.requires (c.is_free.ensures.yes c.if-not-is_free.false) (c.is_clock_moment.ensures.yes c.if-not-is_clock_moment.false)
    c.in_ok-change.change c.in_ok-change.ensures
