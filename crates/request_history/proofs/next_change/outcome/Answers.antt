use Rattle.std.proofs.Common.{◌∙◌, IfSome, Option, ap, subst, sym}
use Rattle.http_out.specs.Text.{response_text}
use Rattle.http_out.specs.Calendar.{date_text}
use Rattle.pod_base.specs.declared.request.Request.{Request}
use Rattle.pod_command.specs.Encodable.{IsEncodable}
use Rattle.pod_command.specs.declared.entry.Entry.{Entry}
use Rattle.pod_core.specs.Output.{closes_after}
use Rattle.request_history.proofs.Replies.{becomes_held, no_entry}
use Rattle.request_history.specs.Answers.{asked_by}
use Rattle.request_history.proofs.next_change.outcome.Goals as goal

pub of-requires : goal.of-requires
of-requires c = subst (λ (o : Option Entry). IfSome o IsEncodable) c.in-Some.is c.requires.encodable

pub invariant_of-result : goal.invariant_of-result
invariant_of-result c =
    c.requires.text
    ∙ ap (λ (r : Request). response_text c.args.replied.response (date_text c.args.stamp.moment.0) (closes_after r c.args.stamp.number)) (sym c.in_ok-request-in-Some.ensures)

pub returns-in_ok-entry-in-Some : goal.returns-in_ok-entry-in-Some
returns-in_ok-entry-in-Some c =
    becomes_held c.args.conn c.args.stamp.number c.args.stamp.moment.0 c.args.place c.args.request.now c.in_ok-request-in-Some.request (asked_by c.args.requester) c.args.replied c.in-Some.entry c.in_ok-entry-in-Some.entry
    c.in_ok-request-in-Some.ensures c.in-Some.is c.in_ok-entry-in-Some.ensures.is c.in_ok-entry-in-Some.ensures.storable

pub returns-in-None : goal.returns-in-None
returns-in-None c = (no_entry c.args.replied c.in-None.is, c.requires.text, c.switches.ensures)
