use Rattle.std.proofs.Common.{◌≡◌, sym, subst}
use Rattle.pod_base.specs.declared.method.Method.TheVariants.{Patch}
use Rattle.pod_reply.specs.Ranks.{Case}
use Rattle.pod_reply.specs.Reply.{HasContent}
use Rattle.pod_reply.proofs.BodyLemmas.{has_content, patch_body}
use Rattle.pod_reply.proofs.dispatch.reply_by_method.Goals as goal

pub content_of-requires : goal.content_of-requires
content_of-requires g c =
    has_content c.args.base.now c.args.context.now.path c.args.context.now.request c.args.body
    (subst (λ (k : Case). HasContent k.request.method) c.context.view_is (subst HasContent (sym c.in-Put.is) tt)) c.requires.means

pub content_of-requires-in-Post : goal.content_of-requires-in-Post
content_of-requires-in-Post g c =
    has_content c.args.base.now c.args.context.now.path c.args.context.now.request c.args.body
    (subst (λ (k : Case). HasContent k.request.method) c.context.view_is (subst HasContent (sym c.in-Post.is) tt)) c.requires.means

pub patch-requires-clause-body : goal.patch-requires-clause-body
patch-requires-clause-body g c =
    patch_body c.args.base.now c.args.context.now.path c.args.context.now.request c.args.body
    (subst (λ (k : Case). k.request.method ≡ Patch) c.context.view_is c.in-Patch.is) c.requires.means c.requires.bound
