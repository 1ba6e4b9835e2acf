-- What follows from the definition of a reply. Each law is the contract of a function of `laws`.
use Rattle.std.specs.Prelude.{◌≡◌, ℕ, Bool, true, false, ◌&&◌, nat_le, nat_lt, List}
use Rattle.std.specs.Prelude.{Some, None, is_some}
use Rattle.pod_base.specs.declared.moment.Stamp.{Stamp}
use Rattle.pod_base.specs.declared.request.Request.{Request}
use Rattle.pod_command.specs.Bare.{bare_entry}
use Rattle.pod_command.specs.Encodable.{IsEncodable}
use Rattle.pod_command.specs.declared.entry.Entry.{Entry}
use Rattle.pod_responses.specs.Responses.{upgraded}
use Rattle.pod_rows.specs.Apply.{Applies}
use Rattle.pod_rows.specs.Pod.{Pod}
use Rattle.pod_rows.specs.WellFormed.{WellFormed}
use Rattle.pod_reply.specs.Replies.{Reply}
use Rattle.pod_reply.specs.Reply.{IsReply}
use Rattle.request_fields.specs.Upgrades.{upgrade_key}
use Rattle.token_table.specs.Credentials.{AskedAgent}
use Rattle.websocket.specs.Handshake.{accept_key_of}
use Rattle.reply_laws.specs.Granted.{is_change, IsGranted}
use Rattle.reply_laws.specs.Sent.{IsSent}

-- The entry of a reply of a well-formed pod applies to the pod, whose next number it has.
abbrev pub EntriesApply : Type 0
EntriesApply = (pod : Pod) (request : Request) (asked : AskedAgent) (seq : ℕ) (stamp : Stamp)
    (reply : Reply) (entry : Entry) → WellFormed pod → IsReply pod request asked seq stamp reply
    → reply.entry ≡ Some entry → Applies pod seq entry

-- An entry applies where it does without the spare capacity of its lists.
abbrev pub AppliesBare : Type 0
AppliesBare = (pod : Pod) (next : ℕ) (entry : Entry) → Applies pod next (bare_entry entry)
    → Applies pod next entry

-- The entry of a reply has a stored form, and so has one where it has without the spare capacity of
-- its lists.
abbrev pub EntriesAreEncodable : Type 0
EntriesAreEncodable = (pod : Pod) (request : Request) (asked : AskedAgent) (seq : ℕ) (stamp : Stamp)
    (reply : Reply) (entry : Entry) → IsReply pod request asked seq stamp reply
    → reply.entry ≡ Some entry → IsEncodable entry

abbrev pub EncodableBare : Type 0
EncodableBare = (entry : Entry) → IsEncodable (bare_entry entry) → IsEncodable entry

-- The response of a reply of a well-formed pod can be written.
abbrev pub RepliesAreSent : Type 0
RepliesAreSent = (pod : Pod) (request : Request) (asked : AskedAgent) (seq : ℕ) (stamp : Stamp)
    (reply : Reply) → WellFormed pod → IsReply pod request asked seq stamp reply
    → IsSent reply.response

-- No reply is one of a failure: those of the disk and of memory are no replies.
abbrev pub IsNoFailure : ℕ → Type 0
IsNoFailure status = (status ≡ 500 → ⊥) × (status ≡ 503 → ⊥)

abbrev pub NeverFails : Type 0
NeverFails = (pod : Pod) (request : Request) (asked : AskedAgent) (seq : ℕ) (stamp : Stamp)
    (reply : Reply) → IsReply pod request asked seq stamp reply → IsNoFailure reply.response.status

-- A reply of status 101 answers a request that asks for an upgrade, with its key.
abbrev pub IsUpgrade : Request → Reply → Type 0
IsUpgrade request reply = (key : List ℕ) × (upgrade_key request ≡ Some key)
    × (reply.response ≡ upgraded (accept_key_of key))

abbrev pub UpgradesAlone : Type 0
UpgradesAlone = (pod : Pod) (request : Request) (asked : AskedAgent) (seq : ℕ) (stamp : Stamp)
    (reply : Reply) → IsReply pod request asked seq stamp reply → reply.response.status ≡ 101
    → IsUpgrade request reply

-- A request that is no change makes no entry.
abbrev pub ReadsHaveNone : Type 0
ReadsHaveNone = (pod : Pod) (request : Request) (asked : AskedAgent) (seq : ℕ) (stamp : Stamp)
    (reply : Reply) → IsReply pod request asked seq stamp reply
    → is_change request.method ≡ false → reply.entry ≡ None

-- a success (RFC 9110, section 15.3)
abbrev pub is_success : ℕ → Bool
is_success status = nat_le 200 status && nat_lt status 300

-- A change makes an entry exactly where it succeeds.
abbrev pub ChangesHaveEntries : Type 0
ChangesHaveEntries = (pod : Pod) (request : Request) (asked : AskedAgent) (seq : ℕ) (stamp : Stamp)
    (reply : Reply) → IsReply pod request asked seq stamp reply
    → is_change request.method ≡ true → is_some reply.entry ≡ is_success reply.response.status

-- The entry of a reply records the request, and why it was granted.
abbrev pub EntriesHaveBases : Type 0
EntriesHaveBases = (pod : Pod) (request : Request) (asked : AskedAgent) (seq : ℕ) (stamp : Stamp)
    (reply : Reply) (entry : Entry) → IsReply pod request asked seq stamp reply
    → reply.entry ≡ Some entry → IsGranted pod request asked stamp entry
