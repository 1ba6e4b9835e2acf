use Rattle.std.proofs.Common.{None, IfSome, refl, subst, ◌∙◌}
use Rattle.pod_rows.specs.Apply.{Applies}
use Rattle.pod_reply.specs.Replies.{reply_of}
use Rattle.pod_pipe.proofs.MemoryLemmas.{memory_grows, moment_is, reply_there}
use Rattle.pod_pipe.proofs.memory_pod.MemoryPod.take.Goals as goal

pub returns-clause-answered : goal.returns-clause-answered
returns-clause-answered c =
    let old = c.args.self.now in
    let replied = c.in_ok-response.field-0 in (
      reply_of replied,
      refl,
      λ history doubt held.
          let k = held.0 in
          let is = moment_is old.state.pod old.state.next old.last.0 history k c.args.request.now c.args.stamp.moment.0 c.moment_after-moment.result.0 c.is_change.result c.is_change.ensures c.moment_after-moment.ensures in (
            record {
              reply_is = reply_there old.state.pod old.state.next old.last.0 history k c.args.request.now _ c.next-place.result c.args.stamp c.moment_after-moment.result (reply_of replied) c.next-place.ensures.next is c.in_ok-response.ensures.reply;
              place = c.next-place.ensures.next ∙ k.next_is;
              moment = is;
            },
            (
              None,
              (memory_grows old.state.pod old.state.next old.last.0 history k replied _ _ _ (subst (λ n. IfSome replied.entry (Applies old.state.pod n)) c.next-place.ensures.next c.in_ok-response.ensures.applies) c.in_ok-carry_out.ensures.pod c.in_ok-carry_out.ensures.next c.in_ok-carry_out.ensures.last, refl),
              tt,
            ),
          ),
    )
