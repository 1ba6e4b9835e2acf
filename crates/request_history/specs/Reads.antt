-- What is next on a connection: its answer at a place, or what becomes of it as a change.
use Rattle.std.specs.Prelude.{◌≡◌, ◌⊎◌, ◌==◌, ℕ, true, false, Option, Some, None, IfSome}
use Rattle.http_out.specs.Text.{response_text}
use Rattle.http_out.specs.Calendar.{date_text}
use Rattle.pod_base.specs.declared.moment.Stamp.{Stamp}
use Rattle.pod_base.specs.declared.heard.Heard.{Heard}
use Rattle.pod_base.specs.declared.heard.Heard.TheVariants as heard
use Rattle.pod_base.specs.declared.request.Request.{Request}
use Rattle.stored_forms.specs.Storable.{IsStorable}
use Rattle.pod_core.specs.History.{History, end_of, pod_at}
use Rattle.pod_core.specs.KeeperSteps.{IsReplyAtEnd, item_at_end}
use Rattle.pod_core.specs.Output.{closes_after, item_text}
use Rattle.pod_core.specs.Session.{Item, upgrades}
use Rattle.pod_core.specs.World.{AnswersRead, Connection, IsNextEvent, RefusesMessage, next_stamp}
use Rattle.pod_reply.specs.Replies.{Reply}
use Rattle.pod_reply.specs.Reply.{IsReply}
use Rattle.pod_rows.specs.Apply.{Applies}
use Rattle.reply_laws.specs.Granted.{is_change}
use Rattle.token_table.specs.Credentials.{AskedAgent}
use Rattle.request_history.specs.Connections.{advanced}
use Rattle.request_history.specs.Worlds.{any_second}
use Rattle.request_history.specs.declared.answer_bytes.Answer.{Answer}
use Rattle.request_history.specs.declared.next_change.Change.{Change}
use Rattle.request_history.specs.declared.next_change.Change.TheVariants as outcomes

-- ---- looks

-- What is next is answered at the place, or refused, and the connection is then this one.
abbrev pub Answers : (Request → AskedAgent) → History → ℕ → ℕ → ℕ → Connection → Connection → Type 0
Answers asking history conn place moment from to =
    AnswersRead any_second asking history conn place moment from to
    ⊎ RefusesMessage place moment from to

-- the connection after this answer to its next event
abbrev pub after_answer : Connection → Heard → Answer → ℕ → Connection
after_answer from event answer seen = advanced from event answer.text answer.switched seen

-- The event is no change.
abbrev pub IsNoChange : Heard → Type 0
IsNoChange (heard.Request request) = is_change request.method ≡ false
IsNoChange heard.Interim = Unit {0}
IsNoChange (heard.Bad status) = Unit {0}

-- The answer is the response of the request's reply at the place.
pub record IsAnswerAt (asking : Request → AskedAgent) (history : History) (request : Request)
    (place : ℕ) (stamp : Stamp) (answer : Answer) : Type 0 where
  pub reply : Reply
  pub is_reply : IsReply (pod_at history place) request (asking request) place stamp reply
  pub text : answer.text ≡ response_text reply.response (date_text stamp.moment.0)
      (closes_after request stamp.number)
  pub switched : answer.switched ≡ (reply.response.status == 101)

-- The answer is that to what is next.
pub record IsReadAnswer (asking : Request → AskedAgent) (history : History) (conn place moment : ℕ)
    (from : Connection) (answer : Answer) : Type 0 where
  pub event : Heard
  pub next : IsNextEvent from event
  pub only : (other : Heard) → IsNextEvent from other → other ≡ event
  pub changes_nothing : IsNoChange event
  pub answers : Answers asking history conn place moment from
      (after_answer from event answer place)

-- The answer is that to what is next; there is none where a look isn't possible.
abbrev pub LooksAs : (Request → AskedAgent) → History → ℕ → ℕ → ℕ → Connection → Option Answer
    → Type 0
LooksAs asking history conn place moment from None =
    (to : Connection) → Answers asking history conn place moment from to → ⊥
LooksAs asking history conn place moment from (Some answer) =
    IsReadAnswer asking history conn place moment from answer

-- ---- changes

-- With an entry it holds the lock, and that entry has a stored form. Without one it is answered.
abbrev pub Becomes : ℕ → Item → Reply → Change → Type 0
Becomes conn item reply (outcomes.Held holder) = (reply.entry ≡ Some holder.entry)
    × (holder ≡ record { conn = conn; item = item; entry = holder.entry })
    × IsStorable holder.entry
Becomes conn item reply (outcomes.Answered answer) = (reply.entry ≡ None)
    × (answer.text ≡ item_text item) × (answer.switched ≡ upgrades item.outcome)
Becomes conn item reply outcomes.Stays = ⊥

-- The request has a reply at the end of the history, whose entry applies there, and becomes this.
pub record ReplyBecomes (asking : Request → AskedAgent) (history : History) (request : Request)
    (stamp : Stamp) (change : Change) : Type 0 where
  pub reply : Reply
  pub is_reply : IsReplyAtEnd history request (asking request) stamp reply
  pub applies : IfSome reply.entry (Applies (pod_at history (end_of history)) (end_of history))
  pub becomes : Becomes stamp.conn (item_at_end history request (asking request) stamp reply) reply
      change

-- A change that is next has this reply at the end of the history, and becomes this.
pub record TakesAs (asking : Request → AskedAgent) (history : History) (conn moment : ℕ)
    (from : Connection) (change : Change) : Type 0 where
  pub request : Request
  pub next : IsNextEvent from (heard.Request request)
  pub changes : is_change request.method ≡ true
  pub becomes : ReplyBecomes asking history request (next_stamp conn from moment) change

-- No change is next.
abbrev pub LacksChange : Connection → Type 0
LacksChange from = (request : Request) → IsNextEvent from (heard.Request request)
    → is_change request.method ≡ true → ⊥

abbrev pub ChangesAs : (Request → AskedAgent) → History → ℕ → ℕ → Connection → Change → Type 0
ChangesAs asking history conn moment from outcomes.Stays = LacksChange from
ChangesAs asking history conn moment from (outcomes.Held holder) =
    TakesAs asking history conn moment from (outcomes.Held holder)
ChangesAs asking history conn moment from (outcomes.Answered answer) =
    TakesAs asking history conn moment from (outcomes.Answered answer)
