-- What a request that is no change is answered, by the version of a look.
use Rattle.std.proofs.Common.{◌≡◌, ◌&&◌, ◌+◌, ℕ, Bool, true, false, Option, Some, None, List, is_some, length, ap, refl, subst, sym, ◌∙◌}
use Rattle.pod_base.specs.declared.moment.Stamp.{Stamp}
use Rattle.pod_base.specs.declared.request.Request.{Request}
use Rattle.pod_base.specs.declared.response.Response.{Response}
use Rattle.pod_command.specs.declared.entry.Entry.{Entry}
use Rattle.pod_core.specs.Answers.{IsComplete}
use Rattle.pod_core.specs.History.{History, IsHistory, end_of, longer, pod_at}
use Rattle.pod_keeper.specs.Kept.{version_of}
use Rattle.pod_keeper.proofs.HistoryLaws.{states_next, version_longer, version_pod, version_next}
use Rattle.pod_live.specs.VersionReplies.{IsVersionReply}
use Rattle.pod_live.specs.Visits.{ReadAt}
use Rattle.pod_pages.specs.State.{VersionState, states_after}
use Rattle.pod_reply.specs.Replies.{Reply}
use Rattle.pod_reply.specs.Reply.{IsReply}
use Rattle.pod_rows.specs.Pod.{Pod}
use Rattle.reply_laws.specs.Granted.{is_change}
use Rattle.token_table.specs.Credentials.{AskedAgent}

none_of : {A : Type 0} (o : Option A) → is_some o ≡ false → o ≡ None
none_of None is = refl
none_of (Some x) is = absurd (cc is)

and_false : (a b : Bool) → a ≡ false → (a && b) ≡ false
and_false true b is = absurd (cc is)
and_false false b is = refl

-- the reply to such a request has no entry
no_entry : (request : Request) (reply : Reply) → is_change request.method ≡ false → IsComplete request.method reply → reply.entry ≡ None
no_entry request reply reads complete = none_of reply.entry (complete ∙ and_false _ _ reads)

-- at the version after the entries that were seen
pub read_at : (kept : History → Type 0) (opened : VersionState) (ends : (history : History) → kept history → IsHistory history × (version_of history ≡ opened)) (seen : List Entry) (version : VersionState)
    (request : Request) (asked : AskedAgent) (stamp : Stamp) (response : Response) → version ≡ states_after opened seen → IsVersionReply version request asked stamp response → ReadAt kept seen request asked stamp response
read_at kept opened ends seen version request asked stamp response is replied = record {
  reply = replied.reply;
  replies = λ h k.
      let all = longer h seen in
      let at : version ≡ version_of all = is ∙ sym (version_longer h opened seen (ends h k).1) in
      let pod : version.pod ≡ pod_at all (end_of all) = ap (λ (v : VersionState). v.pod) at ∙ version_pod all in
      let next : version.next ≡ end_of all = ap (λ (v : VersionState). v.next) at ∙ version_next all in
      subst (λ (n : ℕ). IsReply (pod_at all (end_of all)) request asked n stamp replied.reply) next (subst (λ (p : Pod). IsReply p request asked version.next stamp replied.reply) pod replied.is);
  response_is = replied.response_is;
  no_entry = replied.no_entry;
}

pub read_place : (opened : VersionState) (seen : List Entry) (version : VersionState) (place : ℕ) → version ≡ states_after opened seen → place ≡ version.next → place ≡ opened.next + length seen
read_place opened seen version place is at = at ∙ (ap (λ (v : VersionState). v.next) is ∙ states_next opened seen)
