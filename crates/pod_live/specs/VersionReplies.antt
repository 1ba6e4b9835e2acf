-- The answer to a request that is no change, at a version.
use Rattle.std.specs.Prelude.{◌≡◌, None}
use Rattle.pod_base.specs.declared.moment.Stamp.{Stamp}
use Rattle.pod_base.specs.declared.request.Request.{Request}
use Rattle.pod_base.specs.declared.response.Response.{Response}
use Rattle.pod_pages.specs.State.{VersionState}
use Rattle.pod_reply.specs.Replies.{Reply}
use Rattle.pod_reply.specs.Reply.{IsReply}
use Rattle.token_table.specs.Credentials.{AskedAgent}

-- the response is that of the reply there, which has no entry
pub record IsVersionReply (version : VersionState) (request : Request) (asked : AskedAgent)
    (stamp : Stamp) (response : Response) : Type 0 where
  pub reply : Reply
  pub is : IsReply version.pod request asked version.next stamp reply
  pub response_is : response ≡ reply.response
  pub no_entry : reply.entry ≡ None
