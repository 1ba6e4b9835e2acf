-- What holds of a reply by the laws of replies.
use Rattle.std.proofs.Common.{◌≡◌, ℕ, Bool, true, false, ◌&&◌, Option, Some, None, is_some, IfSome, refl, ap}
use Rattle.std.specs.Option.{option_map}
use Rattle.pod_base.specs.declared.moment.Stamp.{Stamp}
use Rattle.pod_base.specs.declared.request.Request.{Request}
use Rattle.pod_command.specs.Bare.{bare_entry}
use Rattle.pod_command.specs.Encodable.{IsEncodable}
use Rattle.pod_command.specs.declared.entry.Entry.{Entry}
use Rattle.pod_reply.specs.Replies.{Reply}
use Rattle.pod_reply.specs.Reply.{IsReply}
use Rattle.pod_rows.specs.Apply.{Applies}
use Rattle.pod_rows.specs.Pod.{Pod}
use Rattle.pod_rows.specs.WellFormed.{WellFormed}
use Rattle.reply_laws.specs.Granted.{is_change}
use Rattle.reply_laws.specs.Laws.{AppliesBare, ChangesHaveEntries, EncodableBare, EntriesApply, EntriesAreEncodable, ReadsHaveNone, is_success}
use Rattle.token_table.specs.Credentials.{AskedAgent}
use Rattle.pod_core.specs.Answers.{IsComplete}

-- the entry of a reply applies, also with the spare room of its lists
pub entry_applies : (pod : Pod) (request : Request) (asked : AskedAgent) (seq : ℕ) (stamp : Stamp) (reply : Reply) (o : Option Entry)
    → EntriesApply → AppliesBare → WellFormed pod → IsReply pod request asked seq stamp reply → reply.entry ≡ option_map bare_entry o → IfSome o (Applies pod seq)
entry_applies pod request asked seq stamp reply None applies bare w h is = tt
entry_applies pod request asked seq stamp reply (Some entry) applies bare w h is =
    bare pod seq entry (applies pod request asked seq stamp reply (bare_entry entry) w h is)

-- it has a stored form, also with that room
pub entry_encodable : (pod : Pod) (request : Request) (asked : AskedAgent) (seq : ℕ) (stamp : Stamp) (reply : Reply) (o : Option Entry)
    → EntriesAreEncodable → EncodableBare → IsReply pod request asked seq stamp reply → reply.entry ≡ option_map bare_entry o → IfSome o IsEncodable
entry_encodable pod request asked seq stamp reply None encodable unbare h e = tt
entry_encodable pod request asked seq stamp reply (Some entry) encodable unbare h e =
    unbare entry (encodable pod request asked seq stamp reply (bare_entry entry) h e)

-- a change that succeeded has an entry, and nothing else has one
pub is_complete : (pod : Pod) (request : Request) (asked : AskedAgent) (seq : ℕ) (stamp : Stamp) (reply : Reply)
    → ReadsHaveNone → ChangesHaveEntries → IsReply pod request asked seq stamp reply → IsComplete request.method reply
is_complete pod request asked seq stamp reply reads changes h =
    let has : Bool = is_some reply.entry in
    let success : Bool = is_success reply.response.status in
    elim (is_change request.method) as (λ b. is_change request.method ≡ b → has ≡ (b && success)) [
      | true ↦ λ e. changes pod request asked seq stamp reply h e
      | false ↦ λ e. ap is_some (reads pod request asked seq stamp reply h e)
    ] refl
