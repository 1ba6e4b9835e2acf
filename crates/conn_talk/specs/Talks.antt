-- The items of a connection, and what was written for them.
use Rattle.std.specs.Prelude.{◌≡◌, ◌⊎◌, ℕ, ◌≤◌, ◌<◌, Bool, true, false, List, [], ◌∷◌, ◌++◌}
use Rattle.std.specs.Prelude.{length, map, is_some, IfSome, Option, Some, None, Result, Ok, Err}
use mathlib.Core.List.{IsPrefix}
use Rattle.std.specs.List.{AllByRecursion, range_with_len}
use Rattle.http_conn.specs.Messages.{StaysOpen}
use Rattle.http_conn.specs.declared.events.TheConstants.{REQUEST_LIMIT}
use Rattle.pod_base.specs.Counts.{CountIncreased}
use Rattle.pod_base.specs.declared.heard.Heard.{Heard}
use Rattle.pod_base.specs.declared.heard.Heard.TheVariants as heard
use Rattle.pod_base.specs.declared.request.Request.{Request}
use Rattle.pod_core.specs.Output.{output_of}
use Rattle.pod_core.specs.Session.{IsClockMoment, IsRefused, Item, UpgradesLast, bad_status}
use Rattle.pod_core.specs.Session.{ends_upgraded, has_bad, requests_of, upgrades}
use Rattle.conn_talk.specs.Trails.{trail_of}
use Rattle.conn_talk.specs.Turns.{Rules}
use Rattle.conn_talk.specs.declared.talk_end.TalkEnd.{TalkEnd}
use Rattle.conn_talk.specs.declared.talk_end.TalkEnd.TheVariants.{Closed, Limit, Upgraded, Bad}
use Rattle.conn_talk.specs.declared.talk_end.TalkEnd.TheVariants.{WriteFault, NoMemory, NoPlace}

-- the status of a refusal is one that a response may have
abbrev pub MayBeSent : Heard → Type 0
MayBeSent (heard.Bad status) = (200 ≤ status) × (status < 600)
MayBeSent (heard.Request request) = Unit {0}
MayBeSent heard.Interim = Unit {0}

-- an item that didn't switch protocols
abbrev pub IsPlain : Item → Type 0
IsPlain item = upgrades item.outcome ≡ false

-- All events were answered, unless a fault, a switch of protocols or a request without a place
-- stopped that.
abbrev pub IsAll : List Heard → Result (Unit {0}) TalkEnd → Type 0
IsAll rest (Ok _) = rest ≡ []
IsAll rest (Err WriteFault) = Unit {0}
IsAll rest (Err NoMemory) = Unit {0}
IsAll rest (Err NoPlace) = Unit {0}
IsAll rest (Err Upgraded) = Unit {0}
IsAll rest (Err _) = rest ≡ []

-- The counts of faults of the output and of the sink for lines never decrease, and one of them
-- increased where a write ended the connection.
pub record CountsWrites {T : Type 0} (result : Result T TalkEnd)
    (old new old_errors new_errors : ℕ) : Type 0 where
  pub no_fewer : old ≤ new
  pub no_fewer_errors : old_errors ≤ new_errors
  pub failed : result ≡ Err WriteFault
      → CountIncreased old new ⊎ CountIncreased old_errors new_errors

module _ {A : Type 0} (rules : Rules A) where
  -- one item, at a moment of the clock
  abbrev pub Ticks : A → Item → A → Type 0
  Ticks old item new =
      (clock : ℕ) × IsClockMoment rules.may_give clock × rules.turns rules.conn clock old item new

  -- the items in order, from what answered before them to what answers after them
  abbrev pub Chain : A → List Item → A → Type 0
  Chain old [] new = new ≡ old
  Chain old (item ∷ items) new = (mid : A) × Ticks old item mid × Chain mid items new

  -- The items of a connection: a chain, with numbers from 1 on, each authenticated.
  pub record AreItems (first new : A) (items : List Item) : Type 0 where
    pub chain : Chain first items new
    pub numbers : map (λ (item : Item). item.number) items ≡ range_with_len 1 (length items)
    pub asked : AllByRecursion (λ (item : Item). item.asked ≡ rules.asking item.request) items

  -- All events were answered with these bytes and this trail, and more may follow.
  pub record Talks (first new : A) (number : ℕ) (events : List Heard) (written trail : List ℕ)
      : Type 0 where
    pub items : List Item
    pub are_items : AreItems first new items
    pub requests : map (λ (item : Item). item.request) items ≡ requests_of events
    pub plain : AllByRecursion IsPlain items
    pub number_is : number ≡ length items
    pub stays : StaysOpen 0 events
    pub output : written ≡ output_of events items None
    pub lines : trail ≡ trail_of rules.trails items

  -- The connection ended after these events, all of which were answered, with these bytes and this
  -- trail. Its last item switched protocols, or none did.
  pub record EndsWhole (upgraded : Bool) (first new : A) (events : List Heard)
      (written trail : List ℕ) : Type 0 where
    pub items : List Item
    pub refusal : Option ℕ
    pub are_items : AreItems first new items
    pub requests : map (λ (item : Item). item.request) items ≡ requests_of events
    pub last : UpgradesLast items
    pub upgraded_is : ends_upgraded items ≡ upgraded
    pub refused : IfSome refusal (IsRefused rules.may_give events items)
    pub refuses : is_some refusal ≡ has_bad events
    pub output : written ≡ output_of events items refusal
    pub lines : trail ≡ trail_of rules.trails items

  -- The connection was cut off in these events: the bytes written are a prefix of what its items
  -- write, and the trail is a prefix of theirs. So many requests had been answered before, and each
  -- of them has an item.
  pub record EndsPart (number : ℕ) (first new : A) (events : List Heard) (written trail : List ℕ)
      : Type 0 where
    pub items : List Item
    pub refusal : Option ℕ
    pub are_items : AreItems first new items
    pub requests : IsPrefix (map (λ (item : Item). item.request) items) (requests_of events)
    pub last : UpgradesLast items
    pub refused : IfSome refusal (IsRefused rules.may_give events items)
    pub output : IsPrefix written (output_of events items refusal)
    pub lines : IsPrefix trail (trail_of rules.trails items)
    pub answered : number ≤ length items

  -- The last of these events is a request that had no place. Those before it were answered, among
  -- them so many requests that had been answered before.
  pub record EndsUnplaced (before : ℕ) (first new : A) (events : List Heard) (written trail : List ℕ)
      : Type 0 where
    pub front : List Heard
    pub request : Request
    pub events_are : front ++ heard.Request request ∷ [] ≡ events
    pub mid : A
    pub number : ℕ
    pub talks : Talks first mid number front written trail
    pub answered : before ≤ number
    pub passed : rules.passes request mid new

  -- The events have ended the connection so, and these bytes were written. So many requests had
  -- been answered before them.
  abbrev pub Ends : TalkEnd → ℕ → A → A → List Heard → List ℕ → List ℕ → Type 0
  Ends Closed number first new events written trail = EndsWhole false first new events written trail
      × (StaysOpen 0 events → ⊥)
      × (length (requests_of events) < REQUEST_LIMIT) × (bad_status events ≡ None)
  Ends Limit number first new events written trail = EndsWhole false first new events written trail
      × (StaysOpen 0 events → ⊥)
      × (length (requests_of events) ≡ REQUEST_LIMIT) × (bad_status events ≡ None)
  Ends Upgraded number first new events written trail =
      EndsWhole true first new events written trail
  Ends (Bad status) number first new events written trail =
      EndsWhole false first new events written trail × (bad_status events ≡ Some status)
  Ends WriteFault number first new events written trail =
      EndsPart number first new events written trail
  Ends NoMemory number first new events written trail =
      EndsPart number first new events written trail
  Ends NoPlace number first new events written trail =
      EndsUnplaced number first new events written trail

  -- After these events the connection continues, or has ended, whatever the events before them:
  -- these bytes follow those that were written, and these lines the trail.
  abbrev pub Turns : A → ℕ → A → ℕ → List Heard → List ℕ → List ℕ → Result (Unit {0}) TalkEnd
      → Type 0
  Turns old number new number_now hears text lines (Ok _) =
      (first : A) (before : List Heard) (written trail : List ℕ)
      → Talks first old number before written trail
      → Talks first new number_now (before ++ hears) (written ++ text) (trail ++ lines)
  Turns old number new number_now hears text lines (Err end) =
      (first : A) (before : List Heard) (written trail : List ℕ)
      → Talks first old number before written trail
      → Ends end number first new (before ++ hears) (written ++ text) (trail ++ lines)

  -- The same of a list of which an end may leave the rest unanswered.
  pub record TurnsIn (old : A) (number : ℕ) (new : A) (number_now : ℕ) (hears : List Heard)
      (text lines : List ℕ) (result : Result (Unit {0}) TalkEnd) : Type 0 where
    pub front : List Heard
    pub rest : List Heard
    pub cut : front ++ rest ≡ hears
    pub turns : Turns old number new number_now front text lines result
    pub over : IsAll rest result
