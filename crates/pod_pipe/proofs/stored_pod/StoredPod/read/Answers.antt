use Rattle.std.proofs.Common.{ap, refl, ◌∙◌}
use Rattle.pod_pages.specs.State.{VersionState}
use Rattle.pod_reply.specs.Replies.{reply_of}
use Rattle.token_table.specs.Credentials.{asked_view}
use Rattle.pod_pipe.proofs.StoredLemmas.{read_there}
use Rattle.pod_pipe.proofs.stored_pod.StoredPod.read.Goals as goal

pub returns-clause-answered : goal.returns-clause-answered
returns-clause-answered g c = (
  reply_of c.in_ok-response.field-0,
  refl,
  λ history doubt stands.
      read_there g.D.Disk.image g.D.Disk.moment g.D.Disk.left_since g.D.Disk.only_now c.args.self.now.keeper history doubt stands c.args.request.now (asked_view c.args.asked.now) c.args.stamp c.deref-version.result.now.pod c.seq-place.result c.in_ok-response.field-0
      c.requires (ap (λ (v : VersionState). v.pod) c.deref-version.ensures ∙ c.version.ensures.pod) c.seq-place.ensures c.in_ok-response.ensures.reply c.in_ok-response.ensures.complete,
)
