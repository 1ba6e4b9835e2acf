-- Who made a request, as it is kept, and the holder of the lock.
use Rattle.std.specs.Prelude.{ℕ, List, Some, suc}
use Rattle.pod_base.specs.declared.moment.Moment.{Moment}
use Rattle.pod_base.specs.declared.request.Request.{Request}
use Rattle.pod_base.specs.declared.response.Response.{Response}
use Rattle.pod_command.specs.declared.entry.Entry.{Entry}
use Rattle.pod_core.specs.KeeperSteps.{Holder}
use Rattle.pod_core.specs.Session.{Item, answered}
use Rattle.pod_reply.specs.Replies.{Reply}
use Rattle.token_table.specs.Credentials.{AskedAgent, known, public, refused}
use Rattle.request_history.specs.declared.answer_bytes.Requester.{Requester}
use Rattle.request_history.specs.declared.answer_bytes.Requester.TheVariants as requesters

-- the requesting agent
abbrev pub asked_by : Requester → AskedAgent
asked_by requesters.Public = public
asked_by (requesters.Known agent) = known agent
asked_by requesters.Refused = refused

-- a request that is answered at a place
abbrev pub item_of : Request → ℕ → AskedAgent → ℕ → ℕ → Reply → Item
item_of request number asked moment place reply = record {
  request = request;
  number = number;
  asked = asked;
  moment = moment;
  outcome = answered place reply;
}

-- the holder of the lock; its connection is counted from 0
abbrev pub holder_of : ℕ → Request → ℕ → Requester → Moment → ℕ → Response → Entry → Holder
holder_of conn request number requester moment place response entry = record {
  conn = suc conn;
  item = item_of request number (asked_by requester) moment.0 place
      (record { response = response; entry = Some entry });
  entry = entry;
}
