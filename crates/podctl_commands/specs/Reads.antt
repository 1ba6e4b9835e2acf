-- Reads: requests that change nothing, which a follower answers.
use Rattle.std.specs.Prelude.{◌≡◌, ℕ, false, List, ◌∷◌, ◌++◌, None}
use Rattle.http_conn.specs.SingleRequest.{IsOneRequest}
use Rattle.http_out.specs.Text.{response_text}
use Rattle.http_out.specs.Calendar.{date_text}
use Rattle.pod_base.specs.declared.agent.Agent.{Agent}
use Rattle.pod_base.specs.declared.agent.Agent.TheVariants as agents
use Rattle.pod_base.specs.declared.moment.Moment.{Moment}
use Rattle.pod_base.specs.declared.request.Request.{Request}
use Rattle.pod_base.specs.declared.response.Response.{Response}
use Rattle.stored_forms.specs.Storable.{IsNumber, IsStorableAgent}
use Rattle.stored_forms.specs.StoredForms.{agent_bytes, number_bytes}
use Rattle.pod_follow.specs.Followed.{read_stamp}
use Rattle.pod_reply.specs.Reply.{IsReply}
use Rattle.pod_reply.specs.Replies.{unchanged}
use Rattle.pod_rows.specs.State.{NumberedPod}
use Rattle.reply_laws.specs.Granted.{is_change}
use Rattle.request_fields.specs.Upgrades.{upgrade_key}
use Rattle.token_table.specs.Credentials.{AskedAgent, known, public}

-- The bytes are one request, which changes nothing and asks for no switch of protocols.
pub record IsReadRequest (text : List ℕ) (request : Request) : Type 0 where
  pub one : IsOneRequest text request
  pub no_change : is_change request.method ≡ false
  pub no_upgrade : upgrade_key request ≡ None

-- The body of a frame is this read: the byte 3, the agent as an entry has it, the moment, and the
-- bytes of the request.
pub record IsRead (body : List ℕ) (agent : Agent) (moment : Moment) (request : Request)
    : Type 0 where
  pub text : List ℕ
  pub form : body ≡ 3 ∷ (agent_bytes agent ++ (number_bytes moment.0 ++ text))
  pub agent_is : IsStorableAgent agent
  pub moment_is : IsNumber moment.0
  pub request_is : IsReadRequest text request

-- how the agent of a read was authenticated: by whoever sent the frame
abbrev pub asked_as : Agent → AskedAgent
asked_as agents.Public = public
asked_as (agents.Known iri) = known iri

-- The bytes are the response to a request at a place: that of the pod there, on a connection that
-- stays open.
pub record IsResponseText (state : NumberedPod) (agent : Agent) (moment : Moment)
    (request : Request) (text : List ℕ) : Type 0 where
  pub response : Response
  pub reply : IsReply state.pod request (asked_as agent) state.next (read_stamp moment)
      (unchanged response)
  pub text_is : text ≡ response_text response (date_text moment.0) false

-- The body of a frame is a read, and the text is the response to it.
pub record IsReadText (state : NumberedPod) (body text : List ℕ) : Type 0 where
  pub agent : Agent
  pub moment : Moment
  pub request : Request
  pub is : IsRead body agent moment request
  pub answers : IsResponseText state agent moment request text
