-- How ranks end, and what is granted without bases.
use Rattle.std.proofs.Common.{◌≡◌, ℕ, Bool, true, false, cond, ◌&&◌, List, [], ◌∷◌, Option, Some, None, Result, Ok, Err, refl, sym, ap, ◌∙◌, subst}
use Rattle.std.specs.Prelude.{is_some}
use Rattle.std.specs.List.{list_all}
use Rattle.pod_access.specs.Bases.{bases_of, basis_of, with_basis}
use Rattle.pod_base.specs.Listed.{Listed}
use Rattle.pod_base.specs.declared.agent.Agent.{Agent}
use Rattle.pod_base.specs.declared.method.Method.{Method}
use Rattle.pod_base.specs.declared.method.Method.TheVariants.{Get, Head, Options, Other}
use Rattle.pod_base.specs.declared.request.Request.{Request}
use Rattle.pod_base.specs.declared.response.Response.{Response}
use Rattle.pod_command.specs.declared.basis.Basis.{Basis}
use Rattle.pod_rows.specs.Pod.{Pod}
use Rattle.request_body.specs.declared.body.RequestBody.{RequestBody}
use Rattle.pod_access.specs.Needs.{needs_of}
use Rattle.pod_access.specs.declared.request_needs.Need.{Need}
use Rattle.pod_access.specs.declared.request_needs.Shape.{Shape}
use Rattle.pod_reply.specs.AccessRank.{access_of, access_refusal, unless_denied}
use Rattle.pod_reply.specs.PutReplies.{IsUnlessRefused}
use Rattle.pod_reply.specs.Ranks.{Ends, IsGrant, Passes, Tells, reads}
use Rattle.pod_reply.specs.Replies.{Reply, unchanged}
use Rattle.pod_reply.specs.Reply.{IsGrantedReply, IsMethodReply}
use Rattle.pod_reply.specs.declared.origin.Origin.{Origin}
use Rattle.pod_reply.specs.declared.response_and_entry.Replied.{Replied}
use Rattle.pod_reply.specs.declared.stop.Stop.{Stop}
use Rattle.pod_reply.specs.declared.stop.Stop.TheVariants.{Refused, NoMemory}

pub ends_weaker : (r : Result Replied Stop) (P Q : Reply → Type 0) → ((reply : Reply) → P reply → Q reply)
    → Ends r P → Ends r Q
ends_weaker (Ok replied) P Q f h = f _ h
ends_weaker (Err (Refused response)) P Q f h = f _ h
ends_weaker (Err NoMemory) P Q f h = tt

-- ---- access

both : (o : Option Basis) (p : Option (List Basis)) → (is_some o && is_some p) ≡ is_some (with_basis o p)
both None p = refl
both (Some basis) None = refl
both (Some basis) (Some bases) = refl

all_granted : (pod : Pod) (agent : Agent) (needs : List Need)
    → is_some (bases_of pod agent needs) ≡ list_all (λ (need : Need). is_some (basis_of pod agent need)) needs
all_granted pod agent [] = refl
all_granted pod agent (need ∷ needs) = sym (both (basis_of pod agent need) (bases_of pod agent needs))
    ∙ ap (λ (b : Bool). is_some (basis_of pod agent need) && b) (all_granted pod agent needs)

granted_by : (agent : Agent) (made : Listed Basis) (bases : Option (List Basis)) (granted : Bool) → is_some bases ≡ granted
    → IsGrant true (unless_denied agent bases) (cond granted (Ok made) (Err (access_refusal agent)))
granted_by agent made (Some bases) true is = refl
granted_by agent made (Some bases) false is = absurd cc
granted_by agent made None true is = absurd cc
granted_by agent made None false is = refl

-- what a reader is granted, of which no basis is made
pub reader_granted : (pod : Pod) (agent : Agent) (shape : Shape) (made : Listed Basis) (granted : Bool)
    → list_all (λ (need : Need). is_some (basis_of pod agent need)) (needs_of shape) ≡ granted
    → IsGrant true (access_of pod agent shape) (cond granted (Ok made) (Err (access_refusal agent)))
reader_granted pod agent shape made granted is =
    granted_by agent made (bases_of pod agent (needs_of shape)) granted (all_granted pod agent (needs_of shape) ∙ is)

-- a method that makes no entry has no need of bases
not_denied : (reading : Bool) (response : Response) (made : Listed Basis) → IsGrant reading (Err response) (Ok made) → ⊥
not_denied true response made is = cc
not_denied false response made is = cc

module _ (pod : Pod) (request : Request) (path : List ℕ) (origin : Origin) (body : RequestBody)
    (made : Listed Basis) (reply : Reply) where
  by_method : (method : Method) (found : List Basis) → IsGrant (reads method) (Ok found) (Ok made)
      → IsMethodReply method pod request path origin made.items body reply
      → IsMethodReply method pod request path origin found body reply
  by_method Get found are h = h
  by_method Head found are h = h
  by_method Options found are h = h
  by_method Other found are h = absurd h
  by_method method found are h =
      let same : made.items ≡ found = cc in
      subst (λ (bases : List Basis). IsMethodReply method pod request path origin bases body reply) same h

  pub by_access : (access : Result (List Basis) Response) → IsGrant (reads request.method) access (Ok made)
      → IsMethodReply request.method pod request path origin made.items body reply
      → IsGrantedReply pod request path origin body access reply
  by_access (Ok found) are h = by_method request.method found are h
  by_access (Err response) are h = absurd (not_denied (reads request.method) response made are)

-- ---- ranks before a relation

pub made_ends : (r : Result Replied Stop) (o : Option Response) (Q : Reply → Type 0) → o ≡ None
    → Ends r Q → Ends r (IsUnlessRefused o Q)
made_ends r o Q is h = subst (λ (p : Option Response). Ends r (IsUnlessRefused p Q)) (sym is) h

pub refused_ends : (stop : Stop) (o : Option Response) (Q : Reply → Type 0)
    → Passes {A = Unit {0}} (Err stop) o (λ _. Unit {0}) → Ends (Err stop) (IsUnlessRefused o Q)
refused_ends (Refused response) o Q h =
    subst (λ (p : Option Response). IsUnlessRefused p Q (unchanged response)) (sym h) refl
refused_ends NoMemory o Q h = tt

pub told_ends : {A : Type 0} (stop : Stop) (P : Result A Response → Type 0) (Q : Reply → Type 0)
    → ((response : Response) → P (Err response) → Q (unchanged response)) → Tells {A = A} (Err stop) P
    → Ends (Err stop) Q
told_ends (Refused response) P Q f h = f response h
told_ends NoMemory P Q f h = tt

pub handed_on : (r : Result Replied Stop) (stop : Stop) (Q : Reply → Type 0) → r ≡ Err stop
    → Ends (Err stop) Q → Ends r Q
handed_on r stop Q is h = subst (λ (s : Result Replied Stop). Ends s Q) (sym is) h
