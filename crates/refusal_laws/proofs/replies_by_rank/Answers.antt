use Rattle.std.proofs.Common.{◌≡◌, ◌⊎◌, inl, inr, ℕ, ◌≤◌, ◌+◌, Bool, true, false, List, length, Option, Some, None, IfSome, Result, Ok, Err, refl, sym, subst, arith}
use Rattle.std.proofs.lemmas.Bool.Decides.{nat_tests}
use Rattle.std.specs.Prelude.{nat_lt}
use Rattle.pod_base.specs.declared.method.Method.{Method}
use Rattle.pod_base.specs.declared.method.Method.TheVariants as methods
use Rattle.pod_base.specs.declared.moment.Stamp.{Stamp}
use Rattle.pod_base.specs.declared.request.Request.{Request}
use Rattle.pod_base.specs.declared.response.Response.{Response}
use Rattle.stored_forms.specs.StoredForms.{entry_bytes}
use Rattle.pod_command.specs.declared.basis.Basis.{Basis}
use Rattle.pod_command.specs.declared.entry.Entry.{Entry}
use Rattle.pod_reply.specs.AccessRank.{access_of}
use Rattle.pod_reply.specs.EntrySize.{is_too_large, size_refusal}
use Rattle.pod_reply.specs.Obstacles.{refuse_if}
use Rattle.pod_reply.specs.Replies.{Reply, unchanged}
use Rattle.pod_reply.specs.Reply.{IsAdmittedReply, IsGrantedReply, IsReadReply, agent_of, origin_of}
use Rattle.pod_reply.specs.Shapes.{shape_of}
use Rattle.pod_reply.specs.declared.entry_size.TheConstants.{ENTRY_BYTES_LIMIT}
use Rattle.pod_responses.specs.Responses.{options_of_server}
use Rattle.pod_rows.specs.Pod.{Pod}
use Rattle.request_body.specs.Bodies.{Outcome}
use Rattle.request_body.specs.Refusals.{refusal_of}
use Rattle.request_body.specs.declared.body.RequestBody.{RequestBody}
use Rattle.request_target.specs.Admission.{admitted}
use Rattle.request_target.specs.declared.target.Target.{Target}
use Rattle.request_target.specs.declared.target.Target.TheVariants.{Resource, Server}
use Rattle.token_table.specs.Credentials.{AskedAgent}
use Rattle.refusal_laws.specs.Order.{BodyMeans}
use Rattle.refusal_laws.specs.RankConditions.{Found, Situation, oversized, size_of_renamed, size_refused, success_of}
use Rattle.refusal_laws.specs.RankTable.{IsByRank, IsRefusedAt, IsSuccess, situation_of}
use Rattle.refusal_laws.specs.RankTable.IsByRank.{by_access, by_admission, by_body, by_server, by_success, by_table}
use Rattle.refusal_laws.proofs.TableSteps.{comes_to}
use Rattle.refusal_laws.proofs.TableWalks.{method_walk}
use Rattle.refusal_laws.proofs.replies_by_rank.Goals as goal

module _ (pod : Pod) (request : Request) (asked : AskedAgent) (seq : ℕ) (stamp : Stamp) (told : Reply) where
  abbrev Ranked : Type 0
  Ranked = IsByRank pod request asked seq stamp told

  module _ (path : List ℕ) (target : admitted pod.base request asked ≡ Ok (Resource path)) where
    of_table : (body : RequestBody) (bases : List Basis) (found : Found) → BodyMeans pod request path (Ok body) → access_of pod (agent_of asked) (shape_of pod request path body) ≡ Ok bases
        → IsRefusedAt (situation_of pod request asked seq stamp path bases body found) told ⊎ IsSuccess (situation_of pod request asked seq stamp path bases body found) told → Ranked
    of_table body bases found means access (inl at) = by_table path body bases found target means access at
    of_table body bases found means access (inr success) = by_success path body bases found target means access success

    of_access : (body : RequestBody) → BodyMeans pod request path (Ok body) → (o : Result (List Basis) Response) → access_of pod (agent_of asked) (shape_of pod request path body) ≡ o
        → IsGrantedReply pod request path (origin_of asked seq stamp) body o told → Ranked
    of_access body means (Err response) access h = by_access path body response target means access h
    of_access body means (Ok bases) access h =
        let walk = method_walk pod request path (origin_of asked seq stamp) bases request.method body told h in
        of_table body bases walk.0 means access (comes_to (situation_of pod request asked seq stamp path bases body walk.0) told walk.1)

    of_body : (read : Outcome) → BodyMeans pod request path read → IsReadReply pod request path (origin_of asked seq stamp) read told → Ranked
    of_body (Err fault) means h = by_body path fault target means h
    of_body (Ok body) means h = of_access body means (access_of pod (agent_of asked) (shape_of pod request path body)) refl h

  of_target : (found : Result Target Response) → admitted pod.base request asked ≡ found → IsAdmittedReply pod request (origin_of asked seq stamp) found told → Ranked
  of_target (Err response) e h = by_admission response e h
  of_target (Ok Server) e h = by_server e h
  of_target (Ok (Resource path)) e h = of_body path e h.read h.means h.follows

-- ---- the size of an entry

abbrev Fits : Option Entry → Type 0
Fits o = IfSome o (λ (entry : Entry). length (entry_bytes entry) ≤ ENTRY_BYTES_LIMIT)

not_over : (limit n : ℕ) → nat_lt limit n ≡ false → n ≤ limit
not_over limit n e = grind (arith, nat_tests, e)

not_refused : (b : Bool) → refuse_if b size_refusal ≡ None → b ≡ false
not_refused true e = absurd (cc e)
not_refused false e = refl

fits : (o : Option Entry) → oversized o ≡ None → Fits o
fits None e = tt
fits (Some entry) e = not_over ENTRY_BYTES_LIMIT (length (entry_bytes entry)) (not_refused (is_too_large entry) e)

renamed_fits : (read : Outcome) (o : Option Entry) → size_of_renamed read o ≡ None → Fits o
renamed_fits (Err fault) o e = absurd (cc e)
renamed_fits (Ok body) o e = fits o e

success_fits : (m : Method) (s : Situation) → size_refused m s ≡ None → Fits (success_of m s).entry
success_fits methods.Get s e = tt
success_fits methods.Head s e = tt
success_fits methods.Options s e = tt
success_fits methods.Post s e = renamed_fits s.found.renamed (success_of methods.Post s).entry e
success_fits methods.Put s e = fits (success_of methods.Put s).entry e
success_fits methods.Patch s e = fits (success_of methods.Patch s).entry e
success_fits methods.Delete s e = fits (success_of methods.Delete s).entry e
success_fits methods.Other s e = tt

module _ (pod : Pod) (request : Request) (asked : AskedAgent) (seq : ℕ) (stamp : Stamp) (told : Reply) where
  nothing_fits : (response : Response) → told ≡ unchanged response → Fits told.entry
  nothing_fits response e = subst (λ (t : Reply). Fits t.entry) (sym e) tt

  told_fits : IsByRank pod request asked seq stamp told → Fits told.entry
  told_fits (by_admission response target e) = nothing_fits response e
  told_fits (by_server target e) = nothing_fits options_of_server e
  told_fits (by_body path fault target means e) = nothing_fits (refusal_of request.method path fault) e
  told_fits (by_access path body response target means access e) = nothing_fits response e
  told_fits (by_table path body bases found target means access at) = nothing_fits at.response at.told_is
  told_fits (by_success path body bases found target means access success) =
      subst (λ (t : Reply). Fits t.entry) (sym success.told_is)
      (success_fits request.method (situation_of pod request asked seq stamp path bases body found) success.none.1.1.1.1.1.1.1.1.1.1.1.1.1.0.1)

same : (n : ℕ) → n ≤ n
same n = omega arith

one_more : (n : ℕ) → n ≤ n + 1
one_more n = omega arith

pub returns-clause-order : goal.returns-clause-order
returns-clause-order c = (same 7, (same 7, (same 7, (same 7, (same 7, (same 7, (one_more 7, (one_more 8, (same 9, (one_more 9, (same 10, (same 10, (one_more 10, tt)))))))))))))

pub returns-clause-ranked : goal.returns-clause-ranked
returns-clause-ranked c = λ pod request asked seq stamp reply r. record {
  told = r.told;
  reply_is = r.is_sent;
  ranked = of_target pod request asked seq stamp r.told (admitted pod.base request asked) refl r.is;
}

pub returns-clause-fit : goal.returns-clause-fit
returns-clause-fit c = λ pod request asked seq stamp reply r.
    subst (λ (t : Reply). Fits t.entry) (sym r.is_sent)
    (told_fits pod request asked seq stamp r.told (of_target pod request asked seq stamp r.told (admitted pod.base request asked) refl r.is))
