-- The steps of answering one event.
use Rattle.std.specs.Prelude.{◌≡◌, ℕ, Bool, true, List, take, Result, Err, OnOk, OnErr}
use Rattle.std.specs.Prelude.{Option}
use Rattle.audit_trail.specs.Lines.{session_line}
use Rattle.http_conn.specs.Messages.{IsLastRequest}
use Rattle.http_out.specs.Text.{response_text}
use Rattle.pod_io.specs.Writing.{ExtendsBy}
use Rattle.http_out.specs.Calendar.{date_text}
use Rattle.pod_base.specs.declared.heard.Heard.{Heard}
use Rattle.pod_base.specs.declared.heard.Heard.TheVariants as heard
use Rattle.pod_base.specs.declared.moment.Stamp.{Stamp}
use Rattle.pod_base.specs.declared.request.Request.{Request}
use Rattle.pod_core.specs.Output.{item_text, refusal_of}
use Rattle.pod_core.specs.Session.{IsClockMoment, Item, upgrades}
use Rattle.pod_reply.specs.Reply.{agent_of}
use Rattle.token_table.specs.Credentials.{AskedAgent}
use Rattle.conn_talk.specs.Talks.{Ticks}
use Rattle.conn_talk.specs.Trails.{line_of}
use Rattle.conn_talk.specs.Turns.{IsItemOf, Rules}
use Rattle.conn_talk.specs.declared.talk_end.TalkEnd.{TalkEnd}
use Rattle.conn_talk.specs.declared.talk_end.TalkEnd.TheVariants.{Closed, Limit, Upgraded, Bad}
use Rattle.conn_talk.specs.declared.talk_end.TalkEnd.TheVariants.{WriteFault, NoMemory, NoPlace}
use Rattle.conn_talk.specs.declared.trail_line.TrailEntry.{TrailEntry}

-- the line of a request that was answered
abbrev pub entry_line : Request → AskedAgent → TrailEntry → List ℕ
entry_line request asked entry =
    session_line entry.place entry.moment (agent_of asked) request entry.status

-- one sink has the text too and another the line, or each has a prefix where that failed
pub record WritesBoth {T E : Type 0} (result : Result T E) (text line : List ℕ)
    (old new old_errors new_errors : Option (List ℕ)) : Type 0 where
  pub whole : OnOk result (ExtendsBy text old new × ExtendsBy line old_errors new_errors)
  pub part : OnErr result ((count : ℕ) × (many : ℕ) × ExtendsBy (take count text) old new
      × ExtendsBy (take many line) old_errors new_errors)

-- nothing was written
pub record WritesNothing (old new old_errors new_errors : Option (List ℕ)) : Type 0 where
  pub output : new ≡ old
  pub errors : new_errors ≡ old_errors

-- the refusal of a malformed message at that moment
abbrev pub refusal_bytes : ℕ → ℕ → List ℕ
refusal_bytes status moment = response_text (refusal_of status) (date_text moment) true

-- how the refusal of a malformed message ended, and what an output has then
abbrev pub RefusedAs : (ℕ → Type 0) → ℕ → TalkEnd → Option (List ℕ) → Option (List ℕ) → Type 0
RefusedAs may_give status (Bad told) old new = (told ≡ status) × ((moment : ℕ)
    × IsClockMoment may_give moment × ExtendsBy (refusal_bytes status moment) old new)
RefusedAs may_give status NoMemory old new = new ≡ old
RefusedAs may_give status WriteFault old new = (moment : ℕ) × IsClockMoment may_give moment
    × ((count : ℕ) × ExtendsBy (take count (refusal_bytes status moment)) old new)
RefusedAs may_give status _ old new = ⊥

-- No event after this one is answered: it is a last request, or a refusal. A fault may come
-- anywhere, and a switch of protocols or a request without a place at any request.
abbrev pub IsOver : ℕ → Heard → TalkEnd → Type 0
IsOver count (heard.Request request) Closed = IsLastRequest count request
IsOver count (heard.Request request) Limit = IsLastRequest count request
IsOver count (heard.Request request) Upgraded = Unit {0}
IsOver count (heard.Request request) NoPlace = Unit {0}
IsOver count (heard.Bad status) (Bad told) = Unit {0}
IsOver count one WriteFault = Unit {0}
IsOver count one NoMemory = Unit {0}
IsOver count _ _ = ⊥

-- how a request may end a connection that was answered, or whose answer wasn't written
abbrev pub MayStop : TalkEnd → Type 0
MayStop WriteFault = Unit {0}
MayStop NoMemory = Unit {0}
MayStop _ = ⊥

-- or that had no place
abbrev pub MayEnd : TalkEnd → Type 0
MayEnd WriteFault = Unit {0}
MayEnd NoMemory = Unit {0}
MayEnd NoPlace = Unit {0}
MayEnd _ = ⊥

-- What one request came to, by the result: it had no place, or it was answered.
abbrev pub AnsweredSo : Result Bool TalkEnd → Type 0 → Type 0 → Type 0
AnsweredSo (Err NoPlace) turned passed = passed
AnsweredSo _ turned passed = turned

-- A request of this stamp came to an item of which `turned` holds: these are the bytes of its
-- outcome, and its line.
pub record IsTurn (turned : Item → Type 0) (trails : Bool) (request : Request) (asked : AskedAgent)
    (stamp : Stamp) (text line : List ℕ) (upgraded : Bool) : Type 0 where
  pub item : Item
  pub item_of : IsItemOf request asked stamp item
  pub is_turned : turned item
  pub text_is : text ≡ item_text item
  pub line_is : line ≡ line_of trails item
  pub switches : upgraded ≡ upgrades item.outcome

module _ {A : Type 0} (rules : Rules A) where
  -- The request is one item more: these are the bytes of its outcome, and its line.
  pub record IsTurned (old new : A) (request : Request) (number : ℕ) (text line : List ℕ)
      (upgraded : Bool) : Type 0 where
    pub item : Item
    pub request_is : item.request ≡ request
    pub number_is : item.number ≡ number
    pub asked_is : item.asked ≡ rules.asking item.request
    pub ticks : Ticks rules old item new
    pub text_is : text ≡ item_text item
    pub line_is : line ≡ line_of rules.trails item
    pub switches : upgraded ≡ upgrades item.outcome
