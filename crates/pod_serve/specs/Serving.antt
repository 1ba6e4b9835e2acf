-- The steps of serving a connection: its session answers, its link holds bytes back, and its pieces
-- are answered one after the other.
use Rattle.std.specs.Prelude.{◌≡◌, ◌⊎◌, ℕ, ◌+◌, ◌-◌, ◌^◌, ◌≤◌, ◌<◌, Bool, false, true, List, []}
use Rattle.std.specs.Prelude.{◌++◌, length, map}
use Rattle.std.specs.Prelude.{IfSome, Option, Some, None, Result, Ok, Err}
use Rattle.std.specs.Option.{option_map}
use mathlib.Core.List.{IsPrefix}
use Rattle.conn_talk.specs.Talks.{AreItems, Talks}
use Rattle.conn_talk.specs.Turns.{Rules}
use Rattle.conn_talk.specs.Walks.{Turn, Walk}
use Rattle.conn_talk.specs.declared.talk_end.TalkEnd.{TalkEnd}
use Rattle.conn_talk.specs.declared.talk_end.TalkEnd.TheVariants as talk
use Rattle.http_conn.specs.ParserStates.{Represents}
use Rattle.http_conn.specs.declared.parser_state.ParserState.{ParserState}
use Rattle.pod_io.specs.Writing.{ExtendsBy}
use Rattle.pod_base.specs.Counts.{CountIncreased}
use Rattle.pod_base.specs.declared.heard.Heard.{Heard}
use Rattle.pod_base.specs.declared.request.Request.{Request}
use Rattle.pod_core.specs.History.{History}
use Rattle.pod_core.specs.Output.{output_of}
use Rattle.pod_core.specs.Session.{Item, IsRefused, UpgradesLast, entries_of, requests_of}
use Rattle.pod_io.specs.declared.link.LinkCounts.{LinkCounts}
use Rattle.pod_live.specs.Visits.{IsTurnedAway, Visit}
use Rattle.pod_pipe.specs.Streams.{Reads}
use Rattle.reply_laws.specs.Granted.{is_change}
use Rattle.token_table.specs.Credentials.{AskedAgent}
use Rattle.pod_serve.specs.Served.{HasCause, IsAllWritten, AreEventsRead, IsWritten, IsWrittenUpTo, Items}
use Rattle.pod_serve.specs.Served.{IsReadIn, LinkView, MeetsLinkEnd, changes_in, end_reads, faults_of_items, faults_on, looks_in}
use Rattle.pod_serve.specs.Served.{looks_on}
use Rattle.pod_serve.specs.declared.requests_end.RequestsEnd.{RequestsEnd}
use Rattle.pod_serve.specs.declared.requests_end.RequestsEnd.TheVariants as ends
use Rattle.pod_serve.specs.Upgrades.{Notes}
use Rattle.pod_serve.specs.declared.link_output.LinkOutput.{LinkOutput}
use Rattle.pod_serve.specs.declared.upgrade.Upgrade.{Upgrade}

-- ---- a session

-- One item of a session: what had been seen before it and was seen after it, and its counts.
pub record SessionTurn (kept : History → Type 0) (first conn clock : ℕ) (old : Visit) (item : Item)
    (new : Visit) : Type 0 where
  pub turn : Turn kept first conn clock old.seen item item.outcome new.seen
  pub looks : new.looks ≡ old.looks + looks_on item.request item.outcome
  pub changes : new.changes ≡ old.changes + length (entries_of item)
  pub faults : new.faults ≡ old.faults + faults_on item.outcome
  pub refused : old.refused ≤ new.refused

-- A request that is no change found no place.
pub record FoundNoPlace (request : Request) (old new : Visit) : Type 0 where
  pub no_change : is_change request.method ≡ false
  pub away : IsTurnedAway old new

-- the items of a session, one after the other
pub record SessionWalk (kept : History → Type 0) (first conn : ℕ) (may_give : ℕ → Type 0)
    (old : Visit) (items : List Item) (new : Visit) : Type 0 where
  pub walk : Walk kept first conn may_give old.seen items new.seen
  pub looks : new.looks ≡ old.looks + looks_in items
  pub changes : new.changes ≡ old.changes + changes_in items
  pub faults : new.faults ≡ old.faults + faults_of_items items
  pub refused : old.refused ≤ new.refused

-- What holds a session and a note by reference: their names, and what contracts see of them.
module _ {A X Y : Type 0} (name : A → X) (mark : A → Y) (visit : A → Visit)
    (noted : A → Option Upgrade) (base : List ℕ) (kept : History → Type 0) (first : ℕ)
  where
    abbrev pub SeatTurns : ℕ → ℕ → A → Item → A → Type 0
    SeatTurns conn clock old item new = (name old ≡ name new) × (mark old ≡ mark new)
        × SessionTurn kept first conn clock (visit old) item (visit new)
        × Notes base item (noted new)

    abbrev pub SeatPasses : Request → A → A → Type 0
    SeatPasses request old new = (name old ≡ name new) × (mark old ≡ mark new)
        × FoundNoPlace request (visit old) (visit new)

-- ---- a link that holds bytes back

-- the bytes that a link has sent, and then those that wait
abbrev pub taken_with : List ℕ → Option (List ℕ) → Option (List ℕ)
taken_with waiting sent = option_map (λ bytes. bytes ++ waiting) sent

-- A link that was written to: what it sent before is a prefix of what it has sent, nothing was
-- read, and the count of write faults didn't fall.
pub record IsWrittenTo (rest rest_now sent sent_now : Option (List ℕ)) (old new : LinkCounts)
    : Type 0 where
  pub rest_is : rest_now ≡ rest
  pub more : List ℕ
  pub sends : ExtendsBy more sent sent_now
  pub reads : new.reads ≡ old.reads
  pub ended : new.ends ≡ old.ends
  pub read_faults : new.read_faults ≡ old.read_faults
  pub quiet : new.quiet ≡ old.quiet
  pub quiet_row : new.quiet_row ≡ old.quiet_row
  pub write_faults : old.write_faults ≤ new.write_faults

-- The count of write faults doesn't fall, and increased where not all was sent.
pub record CountsSent (whole : Bool) (old new : ℕ) : Type 0 where
  pub no_fewer : old ≤ new
  pub failed : whole ≡ false → CountIncreased old new

-- The same link was written to, by reference.
module _ {L : Type 0} (rest sent : L → Option (List ℕ)) (counts : L → LinkCounts) where
  abbrev pub FollowsLink : LinkOutput L → LinkOutput L → Type 0
  FollowsLink a b = (a.link.ghost_name ≡ b.link.ghost_name)
      × IsWrittenTo (rest a.link.now) (rest b.link.now) (sent a.link.now) (sent b.link.now)
      (counts a.link.now) (counts b.link.now)

-- ---- pieces

-- the rules of a connection of that number, which writes no trail
abbrev pub link_rules : {A : Type 0} → ℕ → (ℕ → Type 0) → (Request → AskedAgent)
    → (ℕ → ℕ → A → Item → A → Type 0) → (Request → A → A → Type 0) → Rules A
link_rules conn may_give asking turns passes = record {
  conn = conn;
  may_give = may_give;
  asking = asking;
  trails = false;
  turns = turns;
  passes = passes;
}

-- the end of a connection whose events ended so
abbrev pub requests_end_of : TalkEnd → RequestsEnd
requests_end_of talk.Closed = ends.Closed
requests_end_of talk.Limit = ends.LimitReached
requests_end_of talk.Upgraded = ends.Upgraded
requests_end_of (talk.Bad status) = ends.BadMessage status
requests_end_of talk.WriteFault = ends.LinkFault
requests_end_of talk.NoMemory = ends.NoMemory
requests_end_of talk.NoPlace = ends.NoPlace

-- what was written of the output of the items by an end that comes of an event
abbrev pub IsOutput : RequestsEnd → List Heard → Items → List ℕ → Type 0
IsOutput ends.LinkFault events items written =
    IsPrefix written (output_of events items.list items.refusal)
IsOutput ends.NoMemory events items written =
    IsPrefix written (output_of events items.list items.refusal)
IsOutput ends.NoPlace events items written =
    written ≡ output_of events items.list items.refusal
IsOutput ends.Upgraded events items written = IsAllWritten true events items written
IsOutput _ events items written = IsAllWritten false events items written

module _ {A : Type 0} (rules : Rules A) where
  -- All events of a text were answered, and more may follow.
  pub record IsAnswered (first : A) (stage : ParserState) (now : A) (number : ℕ)
      (text written : List ℕ) : Type 0 where
    pub events : List Heard
    pub trail : List ℕ
    pub represents : Represents stage text events
    pub talks : Talks rules first now number events written trail

  -- What is left of what answers, after the last item: a request without a place may follow it.
  abbrev pub IsLeft : RequestsEnd → A → A → List Heard → Items → List ℕ → Type 0
  IsLeft ends.NoPlace mid new events items written = (request : Request)
      × rules.passes request mid new
      × (is_change request.method ≡ false → IsWrittenUpTo events items written)
  IsLeft ends.LinkFault mid new events items written = (new ≡ mid)
      ⊎ ((request : Request) × rules.passes request mid new)
  IsLeft _ mid new events items written = new ≡ mid

  -- The connection ended in a text, and these bytes were written. So many requests had been answered
  -- before its last piece.
  pub record IsEnded (end : RequestsEnd) (number : ℕ) (first new : A) (read written : List ℕ)
      : Type 0 where
    pub events : List Heard
    pub items : Items
    pub hears : (left : Option (List ℕ)) → AreEventsRead end read events left
    pub mid : A
    pub are_items : AreItems rules first mid items.list
    pub left : IsLeft end mid new events items written
    pub requests : IsPrefix (map (λ (item : Item). item.request) items.list) (requests_of events)
    pub last : UpgradesLast items.list
    pub refused : IfSome items.refusal (IsRefused rules.may_give events items.list)
    pub output : IsOutput end events items written
    pub answered : number ≤ length items.list

  -- what an answered piece leads to, before which so many requests had been answered
  abbrev pub AfterPiece : Result (Unit {0}) TalkEnd → ℕ → A → ParserState → A → ℕ → List ℕ → List ℕ
      → Type 0
  AfterPiece (Ok _) before first stage now number text written =
      IsAnswered first stage now number text written × (before ≤ number)
  AfterPiece (Err end) before first stage now number text written =
      IsEnded (requests_end_of end) before first now text written

  -- A piece was answered with these bytes, whatever was answered before it.
  abbrev pub AnswersPiece : ParserState → ParserState → A → ℕ → A → ℕ → List ℕ → List ℕ
      → Result (Unit {0}) TalkEnd → Type 0
  AnswersPiece stage stage_now old number new number_now piece out result =
      (first : A) (text written : List ℕ) → IsAnswered first stage old number text written
      → AfterPiece result number first stage_now new number_now (text ++ piece) (written ++ out)

  -- ---- a connection

  -- What was read of a link since the start was answered, and the connection is open. These bytes
  -- wait to be sent, and so many quiet times in a row were counted.
  pub record IsOpenLink (first : A) (start : LinkView) (stage : ParserState) (now : A)
      (number quiet : ℕ) (waiting : List ℕ) (view : LinkView) : Type 0 where
    pub text : List ℕ
    pub written : List ℕ
    pub reads : Reads text start.rest view.rest
    pub arrivals : IsReadIn number 0 text start.counts.reads view.counts.reads
    pub answered : IsAnswered first stage now number text written
    pub writes : ExtendsBy written start.sent (taken_with waiting view.sent)
    pub more : List ℕ
    pub sends : ExtendsBy more start.sent view.sent
    pub ended : view.counts.ends ≡ start.counts.ends
    pub row : quiet ≤ view.counts.quiet_row
    pub counted : view.counts.quiet < 2 ^ 64 - 1
        → start.counts.quiet + quiet ≤ view.counts.quiet
    pub read_faults : start.counts.read_faults ≤ view.counts.read_faults
    pub write_faults : start.counts.write_faults ≤ view.counts.write_faults

  -- The same where nothing waits, and this piece was read after what was answered.
  pub record IsReadLink (first : A) (start : LinkView) (stage : ParserState) (now : A)
      (number : ℕ) (piece : List ℕ) (view : LinkView) : Type 0 where
    pub text : List ℕ
    pub written : List ℕ
    pub reads : Reads (text ++ piece) start.rest view.rest
    pub arrivals : IsReadIn number 0 (text ++ piece) start.counts.reads view.counts.reads
    pub answered : IsAnswered first stage now number text written
    pub writes : ExtendsBy written start.sent view.sent
    pub ended : view.counts.ends ≡ start.counts.ends
    pub counted : view.counts.quiet < 2 ^ 64 - 1 → start.counts.quiet ≤ view.counts.quiet
    pub read_faults : start.counts.read_faults ≤ view.counts.read_faults
    pub write_faults : start.counts.write_faults ≤ view.counts.write_faults

  -- A link was served, and its connection ended so.
  pub record IsLinkServed (end : RequestsEnd) (first new : A) (old now : LinkView) : Type 0 where
    pub read : List ℕ
    pub written : List ℕ
    pub reads : Reads read old.rest now.rest
    pub writes : ExtendsBy written old.sent now.sent
    pub events : List Heard
    pub items : Items
    pub arrivals : IsReadIn (length items.list) (end_reads end) read old.counts.reads
        now.counts.reads
    pub hears : AreEventsRead end read events now.rest
    pub mid : A
    pub are_items : AreItems rules first mid items.list
    pub left : IsLeft end mid new events items written
    pub requests : IsPrefix (map (λ (item : Item). item.request) items.list) (requests_of events)
    pub last : UpgradesLast items.list
    pub refused : IfSome items.refusal (IsRefused rules.may_give events items.list)
    pub serves : (end ≡ ends.NoPlace → ⊥)
        → IsWritten end old.counts now.counts read events items written
    pub cause : (end ≡ ends.NoPlace → ⊥) → (before after : Visit)
        → HasCause end old.counts now.counts before after
    pub ended : MeetsLinkEnd end old.counts.ends now.counts.ends

  -- what a turn of reading leads to
  abbrev pub AfterTurn : Option RequestsEnd → A → LinkView → ParserState → A → ℕ → ℕ → List ℕ → LinkView
      → Type 0
  AfterTurn None first start stage now number quiet waiting view =
      IsOpenLink first start stage now number quiet waiting view
  AfterTurn (Some end) first start stage now number quiet waiting view =
      IsLinkServed end first now start view

-- the end of a connection whose last bytes weren't sent
abbrev pub unsent_end : TalkEnd → RequestsEnd
unsent_end talk.NoMemory = ends.NoMemory
unsent_end _ = ends.LinkFault

-- All that waited was sent, and the connection ends as its events did; or not all was, where the
-- count of write faults increased since.
abbrev pub FinishesAs : TalkEnd → RequestsEnd → List ℕ → ℕ → ℕ → Type 0
FinishesAs end result waiting old new =
    ((result ≡ requests_end_of end) × (waiting ≡ []) × (end ≡ talk.WriteFault → ⊥))
    ⊎ ((result ≡ unsent_end end) × ((end ≡ talk.WriteFault) ⊎ CountIncreased old new))
