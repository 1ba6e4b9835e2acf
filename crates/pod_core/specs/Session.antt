-- A session: the requests of one connection, and their answers at places of one history.
use Rattle.std.specs.Prelude.{◌≡◌, ◌⊎◌, ℕ, ◌+◌, ◌≤◌, Bool, true, false, ◌==◌, if◌then◌else◌, min}
use Rattle.std.specs.Prelude.{max}
use Rattle.std.specs.Prelude.{IsTrue, List, [], ◌∷◌, length, map, Option, Some, None, is_some}
use Rattle.std.specs.Prelude.{IfSome}
use mathlib.Core.List.{IsPrefix}
use Rattle.std.specs.Option.{option_to_list}
use Rattle.std.specs.List.{AllByRecursion, flat_map, range_with_len}
use Rattle.pod_base.specs.declared.heard.Heard.{Heard}
use Rattle.pod_base.specs.declared.heard.Heard as heard
use Rattle.pod_base.specs.declared.moment.Stamp.{Stamp}
use Rattle.pod_base.specs.declared.request.Request.{Request}
use Rattle.pod_command.specs.declared.entry.Entry.{Entry}
use Rattle.token_table.specs.Credentials.{AskedAgent}
use Rattle.pod_reply.specs.Replies.{Reply}
use Rattle.pod_reply.specs.Reply.{IsReply}
use Rattle.reply_laws.specs.Granted.{is_change}
use Rattle.pod_core.specs.History.{History, IsPlace, entry_at, pod_at, moment_before}

-- How a request ended: it was answered at a place; or memory ran out; or, for a change, its commit
-- met a disk fault.
pub data Outcome : Type 0 where
  answered : (place : ℕ) (reply : Reply) → Outcome
  no_memory : Outcome
  disk_fault : Outcome

-- One request of a connection, with its number from 1, how its agent was authenticated, the moment
-- at which it was taken up in seconds since 1970, and how it ended.
pub record Item : Type 0 where
  pub request : Request
  pub number : ℕ
  pub asked : AskedAgent
  pub moment : ℕ
  pub outcome : Outcome

-- What happened on one connection: its number, its items, the moment at which a malformed message
-- was refused, and the history at whose places the items were answered.
pub record Session : Type 0 where
  pub conn : ℕ
  pub items : List Item
  pub refusal : Option ℕ
  pub history : History

-- the requests among events
abbrev pub requests_of : List Heard → List Request
requests_of [] = []
requests_of (heard.TheVariants.Request request ∷ others) = request ∷ requests_of others
requests_of (heard.TheVariants.Interim ∷ others) = requests_of others
requests_of (heard.TheVariants.Bad status ∷ others) = requests_of others

-- the status of the malformed message, where the events end with one
abbrev pub bad_status : List Heard → Option ℕ
bad_status [] = None
bad_status (heard.TheVariants.Bad status ∷ others) = Some status
bad_status (heard.TheVariants.Request request ∷ others) = bad_status others
bad_status (heard.TheVariants.Interim ∷ others) = bad_status others

abbrev pub has_bad : List Heard → Bool
has_bad events = is_some (bad_status events)

-- whether the request was answered by a switch of protocols
abbrev pub upgrades : Outcome → Bool
upgrades (answered place reply) = reply.response.status == 101
upgrades no_memory = false
upgrades disk_fault = false

-- no item but the last may be upgraded
abbrev pub UpgradesLast : List Item → Type 0
UpgradesLast [] = Unit {0}
UpgradesLast (item ∷ []) = Unit {0}
UpgradesLast (item ∷ other ∷ others) =
    (upgrades item.outcome ≡ false) × UpgradesLast (other ∷ others)

-- whether the last item is upgraded
abbrev pub ends_upgraded : List Item → Bool
ends_upgraded [] = false
ends_upgraded (item ∷ []) = upgrades item.outcome
ends_upgraded (item ∷ other ∷ others) = ends_upgraded (other ∷ others)

-- each number is at least the one before it, from the first bound to the last
abbrev pub NeverFalls : ℕ → List ℕ → ℕ → Type 0
NeverFalls before [] after = before ≤ after
NeverFalls before (place ∷ places) after = (before ≤ place) × NeverFalls place places after

-- what marks an item's change
abbrev pub stamp_of : ℕ → Item → Stamp
stamp_of conn item =
    record { conn = conn; number = item.number; moment = record { 0 = item.moment } }

-- a clock's moment: the seconds that it returns, and no later than the last second of the year 9999
abbrev pub IsClockMoment : (ℕ → Type 0) → ℕ → Type 0
IsClockMoment may_give moment =
    (seconds : ℕ) × may_give seconds × (moment ≡ min seconds 253_402_300_799)

module _ (may_give : ℕ → Type 0) (conn : ℕ) (history : History) where
  -- The place is one of the history, the reply is that of the pod there, and its entry, where it
  -- has one, is the one at that place.
  pub record IsAnswered (item : Item) (place : ℕ) (reply : Reply) : Type 0 where
    pub there : IsPlace history place
    pub reply_is : IsReply (pod_at history place) item.request item.asked place (stamp_of conn item)
        reply
    pub entry : IfSome reply.entry (λ entry. entry_at history place ≡ Some entry)

  -- The moment of an answered change is the greater of the clock's and that of the entry before it.
  -- That of every other answered item is the clock's.
  abbrev pub IsTimely : Item → ℕ → Type 0
  IsTimely item place = (clock : ℕ) × IsClockMoment may_give clock
      × (item.moment
      ≡ (if is_change item.request.method then max clock (moment_before history place)
      else clock))

  -- an outcome and what it owes
  abbrev pub Owes : Item → Outcome → Type 0
  Owes item (answered place reply) = IsAnswered item place reply × IsTimely item place
  Owes item no_memory = Unit {0}
  Owes item disk_fault = IsTrue (is_change item.request.method)

  abbrev pub IsItem : Item → Type 0
  IsItem item = Owes item item.outcome

-- the place of an outcome, and the next one where it made an entry
abbrev pub places_on : Outcome → List ℕ
places_on (answered place reply) =
    place ∷ (if is_some reply.entry then (place + 1) ∷ [] else [])
places_on no_memory = []
places_on disk_fault = []

abbrev pub places_of : Item → List ℕ
places_of item = places_on item.outcome

-- the entry of an outcome, where it made one
abbrev pub entries_on : Outcome → List Entry
entries_on (answered place reply) = option_to_list reply.entry
entries_on no_memory = []
entries_on disk_fault = []

abbrev pub entries_of : Item → List Entry
entries_of item = entries_on item.outcome

-- A malformed message was refused at a moment of the clock: all requests had an item, and none was
-- upgraded.
pub record IsRefused (may_give : ℕ → Type 0) (events : List Heard) (items : List Item) (moment : ℕ)
    : Type 0 where
  pub bad : has_bad events ≡ true
  pub all : length items ≡ length (requests_of events)
  pub open_still : ends_upgraded items ≡ false
  pub clock : IsClockMoment may_give moment

-- A session over events, from a place to a place of its history. It may end before each request has
-- an item. `asking` authenticates the agent of a request.
pub record IsSession (may_give : ℕ → Type 0) (asking : Request → AskedAgent) (events : List Heard)
    (before : ℕ) (session : Session) (after : ℕ) : Type 0 where
  -- the items are those of the first requests, in order, none skipped
  pub requests : IsPrefix (map (λ (item : Item). item.request) session.items) (requests_of events)
  pub numbers : map (λ (item : Item). item.number) session.items
      ≡ range_with_len 1 (length session.items)
  pub asked : AllByRecursion (λ (item : Item). item.asked ≡ asking item.request) session.items
  pub answers : AllByRecursion (IsItem may_give session.conn session.history) session.items
  -- places never decrease, and each place after an entry is greater than the entry's
  pub places : NeverFalls before (flat_map places_of session.items) after
  -- nothing follows a switch of protocols
  pub last : UpgradesLast session.items
  pub refused : IfSome session.refusal (IsRefused may_give events session.items)

-- A session is whole where it was upgraded, or where each request has an item, and a malformed
-- message was refused.
abbrev pub IsWhole : List Heard → Session → Type 0
IsWhole events session = (ends_upgraded session.items ≡ true)
    ⊎ ((length session.items ≡ length (requests_of events))
    × (is_some session.refusal ≡ has_bad events))
