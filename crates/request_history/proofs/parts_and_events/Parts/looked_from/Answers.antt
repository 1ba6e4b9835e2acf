use Rattle.std.proofs.Common.{◌≤◌, ℕ, List, suc, Option, sym, subst}
use Rattle.request_history.proofs.Looks.{look_replaces, never_looks, place_is}
use Rattle.request_history.specs.Connections.{SettlesTo, advanced}
use Rattle.request_history.specs.Reads.{LooksAs}
use Rattle.request_history.specs.Worlds.{asking_of}
use Rattle.request_history.specs.declared.answer_bytes.Answer.{Answer}
use Rattle.request_history.proofs.parts_and_events.Parts.looked_from.Goals as goal

pub read_next-requires-clause-place : goal.read_next-requires-clause-place
read_next-requires-clause-place c =
    let may = c.may_look.ensures.yes c.if-not-may_look.false in
    place_is c.args.self.now c.args.conn c.args.place c.args.from.now c.requires.fine c.requires.is_there (subst (λ n. n ≤ c.args.place) c.seen.ensures may.0) may.1

pub answered-requires : goal.answered-requires
answered-requires c =
    let parts = c.args.self.now in
    let k = subst (LooksAs (asking_of parts.tokens) parts.keeper.history (suc c.args.conn) c.args.place c.args.moment.0 c.args.from.now) c.in-Some.is c.in_ok-answer.ensures in
    (k.event, k.next)

pub returns-then-not-may_look : goal.returns-then-not-may_look
returns-then-not-may_look c = never_looks c.args.self.now c.args.conn c.args.place c.args.moment.0 c.args.from.now c.requires.is_there
    (λ seen shown clock to answers. c.may_look.ensures.no c.if-not-may_look.true (subst (λ n. n ≤ c.args.place) (sym c.seen.ensures) seen) shown clock)

pub returns-in_ok-next-in-Some : goal.returns-in_ok-next-in-Some
returns-in_ok-next-in-Some c =
    let parts = c.args.self.now in
    let may = c.may_look.ensures.yes c.if-not-may_look.false in
    let k = subst (LooksAs (asking_of parts.tokens) parts.keeper.history (suc c.args.conn) c.args.place c.args.moment.0 c.args.from.now) c.in-Some.is c.in_ok-answer.ensures in
    look_replaces parts c.args.conn c.args.place c.args.moment.0 c.args.from.now c.requires.is_there c.in-Some.answer c.in_ok-next-in-Some.next c.requires.fine c.requires.runs
    (subst (λ n. n ≤ c.args.place) c.seen.ensures may.0) may.1 may.2 k
    (λ event next. subst (λ (text : List ℕ). SettlesTo (advanced c.args.from.now event text c.in-Some.answer.switched c.args.place) c.in_ok-next-in-Some.next) c.as_slice.ensures (c.in_ok-next-in-Some.ensures event next))

pub returns-in-None : goal.returns-in-None
returns-in-None c =
    let parts = c.args.self.now in
    let none = subst (LooksAs (asking_of parts.tokens) parts.keeper.history (suc c.args.conn) c.args.place c.args.moment.0 c.args.from.now) c.in-None.is c.in_ok-answer.ensures in
    never_looks parts c.args.conn c.args.place c.args.moment.0 c.args.from.now c.requires.is_there (λ seen shown clock to answers. none to answers)
