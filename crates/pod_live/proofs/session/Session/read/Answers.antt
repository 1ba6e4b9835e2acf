use Rattle.std.proofs.Common.{List, subst, ◌∙◌}
use Rattle.pod_command.specs.declared.entry.Entry.{Entry}
use Rattle.pod_live.proofs.EventLemmas.{is_look}
use Rattle.pod_live.proofs.ReadLemmas.{read_at, read_place}
use Rattle.pod_live.specs.Visits.{ReadAt}
use Rattle.pod_live.specs.WorldEvents.{IsLook}
use Rattle.token_table.specs.Credentials.{asked_view}
use Rattle.pod_live.proofs.session.Session.read.Goals as goal

pub returns-in-Ok-answer_at-clause-read : goal.returns-in-Ok-answer_at-clause-read
returns-in-Ok-answer_at-clause-read g c =
    let N = g.N.StoreName in
    read_at N.kept N.opened N.ends c.look.new.self.seen c.deref.result.now c.args.request.now (asked_view c.args.asked.now) c.args.stamp c.in-Ok-answer_at.placed.response
    (c.deref.ensures ∙ c.in-Ok.ensures.version) c.in-Ok-answer_at.ensures.reply

pub returns-in-Ok-answer_at-clause-place : goal.returns-in-Ok-answer_at-clause-place
returns-in-Ok-answer_at-clause-place g c =
    read_place g.N.StoreName.opened c.look.new.self.seen c.deref.result.now c.in-Ok-answer_at.placed.place (c.deref.ensures ∙ c.in-Ok.ensures.version) c.in-Ok-answer_at.ensures.place

pub returns-in-Ok-answer_at-clause-look : goal.returns-in-Ok-answer_at-clause-look
returns-in-Ok-answer_at-clause-look g c =
    let N = g.N.StoreName in
    let asked = asked_view c.args.asked.now in
    let seen = c.look.new.self.seen in
    let response = c.in-Ok-answer_at.placed.response in
    let read : ReadAt N.kept seen c.args.request.now asked c.args.stamp response =
    read_at N.kept N.opened N.ends seen c.deref.result.now c.args.request.now asked c.args.stamp response (c.deref.ensures ∙ c.in-Ok.ensures.version) c.in-Ok-answer_at.ensures.reply in
    subst (λ (given : List Entry). IsLook N.kept c.args.self.now.seen given c.args.request.now asked c.args.stamp response) c.in-Ok.ensures.given
    (is_look N.kept c.args.self.now.seen seen c.args.request.now asked c.args.stamp response c.in-Ok.ensures.looked.later c.requires read)
