-- One item, by how its request was answered.
use Rattle.std.proofs.Common.{◌≡◌, ℕ, ◌==◌, Bool, true, false, if◌then◌else◌, List, [], Option, Result, Ok, Err, IfErr, IfOk, refl, sym, ap, subst, ◌∙◌}
use Rattle.http_out.specs.Dates.{IsDateOf}
use Rattle.http_out.specs.Text.{response_text, memory_text, disk_text}
use Rattle.http_out.specs.Calendar.{date_text}
use Rattle.http_out.proofs.CalendarLemmas.{date_is}
use Rattle.pod_base.specs.declared.moment.Moment.{Moment}
use Rattle.pod_base.specs.declared.moment.Stamp.{Stamp}
use Rattle.pod_base.specs.declared.request.Request.{Request}
use Rattle.pod_base.specs.declared.response.Response.{Response}
use Rattle.pod_core.specs.Output.{closes_after, outcome_text}
use Rattle.pod_core.specs.Session.{IsClockMoment, Item, disk_fault, no_memory, upgrades}
use Rattle.pod_reply.specs.Reply.{agent_of}
use Rattle.audit_trail.specs.Lines.{session_line}
use Rattle.token_table.specs.Credentials.{AskedAgent}
use Rattle.conn_talk.specs.Steps.{AnsweredSo, IsTurn, IsTurned, MayStop, WritesBoth, entry_line}
use Rattle.conn_talk.specs.Trails.{line_on}
use Rattle.conn_talk.specs.Turns.{CameTo, IsAnswerOf, IsItemOf, Rules}
use Rattle.pod_core.specs.declared.request_answer.Answer.{Answer}
use Rattle.conn_talk.specs.declared.answers.AnswerFault.{AnswerFault}
use Rattle.conn_talk.specs.declared.answers.AnswerFault.TheVariants as faults
use Rattle.conn_talk.specs.declared.talk_end.TalkEnd.{TalkEnd}
use Rattle.conn_talk.specs.declared.talk_end.TalkEnd.TheVariants.{Closed, Limit, Upgraded, Bad, WriteFault, NoMemory, NoPlace}
use Rattle.conn_talk.specs.declared.trail_line.TrailEntry.{TrailEntry}

-- the date of a moment is its text
pub dated : (moment : ℕ) (date : List ℕ) → IsDateOf moment date → date ≡ date_text moment
dated moment date d = d.2 ∙ date_is d.0 moment d.1

module _ (turned : Item → Type 0) (trails : Bool) (request : Request) (asked : AskedAgent) (stamp : Stamp) (item : Item) (of : IsItemOf request asked stamp item) (t : turned item) where
  -- without an answer there is no line
  no_line : (all : Bool) (none : List ℕ) → none ≡ (if all then none else none)
  no_line true none = refl
  no_line false none = refl

  pub out_of_memory_turn : item.outcome ≡ no_memory → IsTurn turned trails request asked stamp memory_text [] false
  out_of_memory_turn is = record {
    item = item;
    item_of = of;
    is_turned = t;
    text_is = sym (ap (outcome_text item) is);
    line_is = no_line trails [] ∙ sym (ap (λ o. if trails then line_on item o else []) is);
    switches = sym (ap upgrades is);
  }

  pub faulted_turn : item.outcome ≡ disk_fault → IsTurn turned trails request asked stamp disk_text [] false
  faulted_turn is = record {
    item = item;
    item_of = of;
    is_turned = t;
    text_is = sym (ap (outcome_text item) is);
    line_is = no_line trails [] ∙ sym (ap (λ o. if trails then line_on item o else []) is);
    switches = sym (ap upgrades is);
  }

  module _ (answer : Answer) (a : IsAnswerOf item answer) (bytes : List ℕ) (entry : TrailEntry) (bytes_are : bytes ≡ response_text answer.response (date_text answer.moment.0) (closes_after request stamp.number))
      (place_is : entry.place ≡ answer.place) (moment_is : entry.moment ≡ answer.moment) (status_is : entry.status ≡ answer.response.status) where
    seconds_are : entry.moment.0 ≡ item.moment
    seconds_are = ap (λ (m : Moment). m.0) moment_is ∙ a.moment_is

    code_is : entry.status ≡ a.reply.response.status
    code_is = status_is ∙ ap (λ (r : Response). r.status) a.response_is

    same_line : entry_line request asked entry ≡ session_line answer.place (record { 0 = item.moment }) (agent_of item.asked) item.request a.reply.response.status
    same_line = λ i. session_line (place_is i) (record { 0 = seconds_are i }) (agent_of (sym of.asked_is i)) (sym of.request_is i) (code_is i)

    pub answered_turn : IsTurn turned trails request asked stamp bytes (if trails then entry_line request asked entry else []) (entry.status == 101)
    answered_turn = record {
      item = item;
      item_of = of;
      is_turned = t;
      text_is = bytes_are
          ∙ (ap (λ (r : Response). response_text r (date_text answer.moment.0) (closes_after request stamp.number)) a.response_is
          ∙ (ap (λ m. response_text a.reply.response (date_text m) (closes_after request stamp.number)) a.moment_is
          ∙ (ap (λ (r : Request). response_text a.reply.response (date_text item.moment) (closes_after r stamp.number)) (sym of.request_is)
          ∙ (ap (λ n. response_text a.reply.response (date_text item.moment) (closes_after item.request n)) (sym of.number_is)
          ∙ sym (ap (outcome_text item) a.outcome_is)))));
      line_is = ap (λ l. if trails then l else []) (same_line ∙ sym (ap (line_on item) a.outcome_is));
      switches = ap (λ n. n == 101) code_is ∙ sym (ap upgrades a.outcome_is);
    }

-- a turn at a moment of the clock
pub turned_now : {A : Type 0} (rules : Rules A) (old new : A) (request : Request) (number : ℕ) (moment : Moment) (text line : List ℕ) (upgraded : Bool) → IsClockMoment rules.may_give moment.0
    → IsTurn (λ item. rules.turns rules.conn moment.0 old item new) rules.trails request (rules.asking request) (record { conn = rules.conn; number = number; moment = moment }) text line upgraded
    → IsTurned rules old new request number text line upgraded
turned_now rules old new request number moment text line upgraded given t = record {
  item = t.item;
  request_is = t.item_of.request_is;
  number_is = t.item_of.number_is;
  asked_is = t.item_of.asked_is ∙ ap rules.asking (sym t.item_of.request_is);
  ticks = (moment.0, given, t.is_turned);
  text_is = t.text_is;
  line_is = t.line_is;
  switches = t.switches;
}

-- a response was written, or a write failed
pub answered_so : (result : Result Bool TalkEnd) (T P : Type 0) → IfErr result MayStop → T → AnsweredSo result T P
answered_so (Ok b) T P e t = t
answered_so (Err WriteFault) T P e t = t
answered_so (Err NoMemory) T P e t = t
answered_so (Err Closed) T P e t = absurd e
answered_so (Err Limit) T P e t = absurd e
answered_so (Err Upgraded) T P e t = absurd e
answered_so (Err (Bad status)) T P e t = absurd e
answered_so (Err NoPlace) T P e t = absurd e

pub came_no_memory : (f : AnswerFault) (turned : Item → Type 0) (passed : Type 0) (request : Request) (asked : AskedAgent) (stamp : Stamp) → f ≡ faults.NoMemory → CameTo turned passed request asked stamp (Err f)
    → (item : Item) × IsItemOf request asked stamp item × (item.outcome ≡ no_memory) × turned item
came_no_memory f turned passed request asked stamp is came = subst (λ x. CameTo turned passed request asked stamp (Err x)) is came

pub came_disk_fault : (f : AnswerFault) (turned : Item → Type 0) (passed : Type 0) (request : Request) (asked : AskedAgent) (stamp : Stamp) → f ≡ faults.DiskFault → CameTo turned passed request asked stamp (Err f)
    → (item : Item) × IsItemOf request asked stamp item × (item.outcome ≡ disk_fault) × turned item
came_disk_fault f turned passed request asked stamp is came = subst (λ x. CameTo turned passed request asked stamp (Err x)) is came

pub came_no_place : (f : AnswerFault) (turned : Item → Type 0) (passed : Type 0) (request : Request) (asked : AskedAgent) (stamp : Stamp) → f ≡ faults.NoPlace → CameTo turned passed request asked stamp (Err f) → passed
came_no_place f turned passed request asked stamp is came = subst (λ x. CameTo turned passed request asked stamp (Err x)) is came

-- the same of a request that got no whole response
pub turned_so : {A : Type 0} (rules : Rules A) (old new : A) (request : Request) (number : ℕ) (moment : Moment) (end : TalkEnd) (was now was_errors now_errors : Option (List ℕ)) (passed : Type 0) → IsClockMoment rules.may_give moment.0
    → AnsweredSo (Err end) ((text : List ℕ) × (line : List ℕ) × (upgraded : Bool)
    × IsTurn (λ item. rules.turns rules.conn moment.0 old item new) rules.trails request (rules.asking request) (record { conn = rules.conn; number = number; moment = moment }) text line upgraded
    × WritesBoth {T = Bool} {E = TalkEnd} (Err end) text line was now was_errors now_errors × IfOk {T = Bool} {E = TalkEnd} (Err end) (λ told. told ≡ upgraded)) passed
    → AnsweredSo (Err end) ((text : List ℕ) × (line : List ℕ) × (upgraded : Bool) × IsTurned rules old new request number text line upgraded
    × WritesBoth {T = Bool} {E = TalkEnd} (Err end) text line was now was_errors now_errors) passed
turned_so rules old new request number moment WriteFault was now was_errors now_errors passed given told =
    (told.0, told.1, told.2, turned_now rules old new request number moment told.0 told.1 told.2 given told.3, told.4)
turned_so rules old new request number moment NoMemory was now was_errors now_errors passed given told =
    (told.0, told.1, told.2, turned_now rules old new request number moment told.0 told.1 told.2 given told.3, told.4)
turned_so rules old new request number moment Closed was now was_errors now_errors passed given told =
    (told.0, told.1, told.2, turned_now rules old new request number moment told.0 told.1 told.2 given told.3, told.4)
turned_so rules old new request number moment Limit was now was_errors now_errors passed given told =
    (told.0, told.1, told.2, turned_now rules old new request number moment told.0 told.1 told.2 given told.3, told.4)
turned_so rules old new request number moment Upgraded was now was_errors now_errors passed given told =
    (told.0, told.1, told.2, turned_now rules old new request number moment told.0 told.1 told.2 given told.3, told.4)
turned_so rules old new request number moment (Bad status) was now was_errors now_errors passed given told =
    (told.0, told.1, told.2, turned_now rules old new request number moment told.0 told.1 told.2 given told.3, told.4)
turned_so rules old new request number moment NoPlace was now was_errors now_errors passed given told = told
