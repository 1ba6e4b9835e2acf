use Rattle.std.proofs.Common.{◌≡◌, ℕ, List, Result, Ok, Err, refl, sym, subst}
use Rattle.pod_base.specs.declared.moment.Stamp.{Stamp}
use Rattle.pod_base.specs.declared.request.Request.{Request}
use Rattle.pod_base.specs.declared.response.Response.{Response}
use Rattle.pod_command.specs.declared.basis.Basis.{Basis}
use Rattle.pod_reply.specs.Laws.{HasOneReply}
use Rattle.pod_reply.specs.Replies.{unchanged}
use Rattle.pod_reply.specs.Reply.{IsAdmittedReply, IsGrantedReply, origin_of, sent}
use Rattle.pod_rows.specs.Pod.{Pod}
use Rattle.request_body.specs.Refusals.{refusal_of}
use Rattle.request_target.specs.Admission.{admitted}
use Rattle.request_target.specs.declared.target.Target.{Target}
use Rattle.request_target.specs.declared.target.Target.TheVariants.{Resource}
use Rattle.token_table.specs.Credentials.{AskedAgent}
use Rattle.refusal_laws.specs.Order.{IsRefused}
use Rattle.refusal_laws.proofs.refusals_in_order.Goals as goal

-- a reply that is one by what is admitted is the only one
refuses : (one : HasOneReply) (pod : Pod) (request : Request) (asked : AskedAgent) (seq : ℕ) (stamp : Stamp) (response : Response) (found : Result Target Response) → admitted pod.base request asked ≡ found
    → IsAdmittedReply pod request (origin_of asked seq stamp) found (unchanged response) → IsRefused pod request asked seq stamp response
refuses one pod request asked seq stamp response found e is = λ reply r.
    one pod request asked seq stamp reply (sent request.method (unchanged response)) r (record {
      told = unchanged response;
      is = subst (λ (x : Result Target Response). IsAdmittedReply pod request (origin_of asked seq stamp) x (unchanged response)) (sym e) is;
      is_sent = refl;
    })

pub returns-clause-admission : goal.returns-clause-admission
returns-clause-admission c = λ pod request asked seq stamp response e.
    refuses c.one_reply.ensures pod request asked seq stamp response (Err response) e refl

pub returns-clause-body : goal.returns-clause-body
returns-clause-body c = λ pod request asked seq stamp path fault e means.
    refuses c.one_reply.ensures pod request asked seq stamp (refusal_of request.method path fault) (Ok (Resource path)) e (record { read = Err fault; means = means; follows = refl })

pub returns-clause-access : goal.returns-clause-access
returns-clause-access c = λ pod request asked seq stamp path body response e means denied.
    refuses c.one_reply.ensures pod request asked seq stamp response (Ok (Resource path)) e (record {
      read = Ok body;
      means = means;
      follows = subst (λ (x : Result (List Basis) Response). IsGrantedReply pod request path (origin_of asked seq stamp) body x (unchanged response)) (sym denied) refl;
    })
