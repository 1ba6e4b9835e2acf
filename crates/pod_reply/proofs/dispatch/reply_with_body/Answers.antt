use Rattle.std.proofs.Common.{Ok, subst}
use Rattle.pod_access.specs.declared.request_needs.Shape.{Shape}
use Rattle.pod_reply.specs.AccessRank.{access_of}
use Rattle.pod_reply.specs.Ranks.{IsGrant, reads}
use Rattle.pod_reply.specs.Reply.{IsReadReply}
use Rattle.pod_reply.proofs.RankLemmas.{by_access, ends_weaker}
use Rattle.pod_reply.proofs.dispatch.reply_with_body.Goals as goal

pub returns : goal.returns
returns g c =
    let k = c.args.context.now in
    ends_weaker c.reply_by_method.result _ (IsReadReply k.pod k.request k.path k.origin (Ok c.args.body))
    (λ reply h. by_access k.pod k.request k.path k.origin c.args.body c.in_ok-bases.bases reply _
    (subst (λ (s : Shape). IsGrant (reads k.request.method) (access_of k.pod k.origin.agent s) (Ok c.in_ok-bases.bases))
    c.in_ok-shape.ensures c.in_ok-bases.ensures) h)
    c.reply_by_method.ensures
