-- What a pod replies: a response, and an entry where the request changes the pod.
use Rattle.std.specs.Prelude.{ℕ, List, length, Option, Some, None, Result, Ok, Err}
use Rattle.std.specs.Option.{option_map}
use Rattle.pod_base.specs.Listed.{listed}
use Rattle.pod_base.specs.declared.method.Method.{Method}
use Rattle.pod_base.specs.declared.method.Method.TheVariants.{Head}
use Rattle.pod_base.specs.declared.response.Body.{Body}
use Rattle.pod_base.specs.declared.response.Body.TheVariants.{Absent, Whole, LengthOnly}
use Rattle.pod_base.specs.declared.response.Response.{Response}
use Rattle.pod_command.specs.Bare.{bare_entry}
use Rattle.pod_command.specs.declared.basis.Basis.{Basis}
use Rattle.pod_command.specs.declared.edit.Edit.{Edit}
use Rattle.pod_command.specs.declared.entry.Entry.{Entry}
use Rattle.pod_reply.specs.EntrySize.{sized}
use Rattle.pod_reply.specs.declared.origin.Origin.{Origin}
use Rattle.pod_reply.specs.declared.response_and_entry.Replied.{Replied}

-- a reply; of its entry the spare capacity of lists doesn't count
pub record Reply : Type 0 where
  pub response : Response
  pub entry : Option Entry

abbrev pub reply_of : Replied → Reply
reply_of replied =
    record { response = replied.response; entry = option_map bare_entry replied.entry }

-- A response as it is sent: to a HEAD with the length of its body in place of the bytes.
abbrev pub length_only : Body → Body
length_only (Whole bytes) = LengthOnly (length bytes)
length_only Absent = Absent
length_only (LengthOnly count) = LengthOnly count

abbrev pub sent_to : Method → Response → Response
sent_to Head response = record response { body = length_only response.body }
sent_to _ response = response

-- a reply that changes nothing
abbrev pub unchanged : Response → Reply
unchanged response = record { response = response; entry = None }

-- The entry of a change: it has these edits and bases.
abbrev pub entry_of : Origin → Method → List ℕ → List Edit → List Basis → Entry
entry_of origin method path edits bases = record {
  seq = origin.seq;
  conn = origin.stamp.conn;
  number = origin.stamp.number;
  agent = origin.agent;
  moment = origin.stamp.moment;
  method = method;
  path = path;
  edits = listed edits 0;
  bases = listed bases 0;
}

-- The reply to a change: this response, unless the entry is too large.
abbrev pub changed_by : Response → Result Entry Response → Reply
changed_by response (Ok entry) = record { response = response; entry = Some entry }
changed_by response (Err refusal) = unchanged refusal

abbrev pub change_reply : Response → Entry → Reply
change_reply response entry = changed_by response (sized entry)
