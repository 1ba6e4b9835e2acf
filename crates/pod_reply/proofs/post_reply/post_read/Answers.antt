use Rattle.std.proofs.Common.{ℕ, List, Ok, sym, subst}
use Rattle.pod_path.specs.Hierarchy.{uri_of}
use Rattle.request_body.specs.Bodies.{Means, Outcome}
use Rattle.request_body.specs.declared.body.RequestBody.{RequestBody}
use Rattle.request_body.specs.declared.body.RequestBody.TheVariants.{Content}
use Rattle.pod_reply.specs.PostReplies.{IsMade}
use Rattle.pod_reply.specs.Ranks.{Case}
use Rattle.pod_reply.specs.Reply.{HasContent}
use Rattle.pod_reply.proofs.BodyLemmas.{has_content}
use Rattle.pod_reply.proofs.RankLemmas.{ends_weaker}
use Rattle.pod_reply.proofs.post_reply.post_read.Goals as goal

abbrev Read : Case → List ℕ → Outcome → Type 0
Read k member read = Means (uri_of k.pod.base member) k.path k.request read

pub content_of-requires : goal.content_of-requires
content_of-requires g c =
    let k = c.args.context.now in
    has_content (uri_of k.pod.base c.args.member.now) k.path k.request c.in-Ok.body (subst HasContent (sym c.requires.method) tt)
    (subst (Read k c.args.member.now) c.in-Ok.is c.in_ok-body.ensures)

pub returns-in-Ok : goal.returns-in-Ok
returns-in-Ok g c =
    let k = c.args.context.now in
    ends_weaker c.make_member.result _ (IsMade k.pod k.request k.path k.origin c.args.bases.items c.args.member.now)
    (λ reply follows. record {
      read = Ok (Content c.content_of.result);
      means = subst (λ (body : RequestBody). Read k c.args.member.now (Ok body)) c.content_of.ensures
          (subst (Read k c.args.member.now) c.in-Ok.is c.in_ok-body.ensures);
      follows = follows;
    }) c.make_member.ensures
