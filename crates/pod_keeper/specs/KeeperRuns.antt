-- A run of a keeper that answers requests one after the other: what a crash leaves at each moment
-- of it, and whose the entry in doubt is.
use Rattle.std.specs.Prelude.{◌≡◌, ◌⊎◌, ℕ, List, [], ◌∷◌, ◌++◌, Option, Some, None}
use Rattle.std.specs.Option.{option_to_list}
use Rattle.pod_base.specs.declared.moment.Stamp.{Stamp}
use Rattle.pod_command.specs.declared.entry.Entry.{Entry}
use Rattle.pod_core.specs.History.{History, longer}
use Rattle.pod_core.specs.Session.{IsClockMoment, Item, Outcome, answered, no_memory, disk_fault}
use Rattle.pod_core.specs.Session.{entries_of}
use Rattle.pod_keeper.specs.CommitEvents.{entry_in_doubt}
use Rattle.pod_keeper.specs.Commits.{IsEntryAtEnd, LeavesPodsOf}
use Rattle.pod_keeper.specs.KeeperDisks.{HasLongWhereDue, HasSureDisks, StaysLong, StaysSure}
use Rattle.pod_keeper.specs.Kept.{Doubt, IsKept}
use Rattle.pod_keeper.specs.KeeperState.{KeeperState}

-- The keeper represents the history, with that entry in doubt: a crash may leave it after the end.
pub record StandsWith {D : Type 0} (image : D → List ℕ → Type 0) (keeper : KeeperState D)
    (history : History) (in_doubt : Option Entry) : Type 0 where
  pub place : ℕ
  pub doubt : Doubt
  pub kept : IsKept image keeper history place doubt
  pub doubt_is : in_doubt ≡ entry_in_doubt doubt

-- an item, with the number of its connection
pub record ConnItem : Type 0 where
  pub conn : ℕ
  pub item : Item

-- the items of one connection
abbrev pub items_on : ℕ → List Item → List ConnItem
items_on conn [] = []
items_on conn (item ∷ items) = record { conn = conn; item = item } ∷ items_on conn items

-- the stamp of an item that was taken up at this moment of the clock
abbrev pub stamp_at : ℕ → ℕ → Item → Stamp
stamp_at conn clock item =
    record { conn = conn; number = item.number; moment = record { 0 = clock } }

-- The entry that is under way while an item is answered at the end of the history: that of its
-- reply. Of an item that met a disk fault it is the entry of the reply at the end, and one that ran
-- out of memory has none.
abbrev pub IsUnderWay : ℕ → ℕ → History → Item → Outcome → Option Entry → Type 0
IsUnderWay conn clock history item (answered place reply) under_way = under_way ≡ reply.entry
IsUnderWay conn clock history item no_memory under_way = under_way ≡ None
IsUnderWay conn clock history item disk_fault under_way = (entry : Entry)
    × (under_way ≡ Some entry)
    × IsEntryAtEnd history item.request item.asked (stamp_at conn clock item) entry

-- nothing is in doubt after an entry, and without one what was
abbrev pub doubt_after : Option Entry → Option Entry → Option Entry
doubt_after doubt None = doubt
doubt_after doubt (Some entry) = None

-- What is in doubt after an item: after an entry that was added, nothing; after a disk fault, what
-- was, or nothing, or the entry that was under way; else what was.
abbrev pub IsDoubtAfter : Outcome → Option Entry → Option Entry → Option Entry → Type 0
IsDoubtAfter (answered place reply) doubt under_way after = after ≡ doubt_after doubt reply.entry
IsDoubtAfter no_memory doubt under_way after = after ≡ doubt
IsDoubtAfter disk_fault doubt under_way after =
    (after ≡ doubt) ⊎ ((after ≡ None) ⊎ (after ≡ under_way))

module _ {D : Type 0} (image : D → List ℕ → Type 0) (moment : D → ℕ)
    (left_since : D → ℕ → List ℕ → Type 0) where
  -- One item of a connection, taken up at this moment of the clock, from a keeper that represented
  -- the history with that in doubt. At each moment each pair of crash images represents the
  -- history, or it with the entry in doubt or the one under way after its end, and nothing else was
  -- on the disks. The keeper represents the history with the item's entry afterwards. It is as it
  -- was where nothing was under way.
  pub record TakesItem (conn clock : ℕ) (old : KeeperState D) (history : History)
      (doubt : Option Entry) (item : Item) (new : KeeperState D) (doubt_new : Option Entry)
      : Type 0 where
    pub under_way : Option Entry
    pub is_under_way : IsUnderWay conn clock history item item.outcome under_way
    pub stands : StandsWith image new (longer history (entries_of item)) doubt_new
    pub in_doubt : IsDoubtAfter item.outcome doubt under_way doubt_new
    pub same : under_way ≡ None → new ≡ old
    pub leaves : HasSureDisks image old → HasLongWhereDue image old
        → LeavesPodsOf moment left_since old new history
        (option_to_list doubt ++ option_to_list under_way)
    pub sure : StaysSure image old new
    pub long : StaysLong image old new

  -- Items one after the other, by the keepers between them and what is in doubt there.
  abbrev pub TakesItems : (ℕ → Type 0) → KeeperState D → History → Option Entry → List ConnItem
      → KeeperState D → Option Entry → Type 0
  TakesItems may_give old history doubt [] new doubt_new = (new ≡ old) × (doubt_new ≡ doubt)
  TakesItems may_give old history doubt (one ∷ others) new doubt_new =
      (mid : KeeperState D) × (between : Option Entry)
      × ((clock : ℕ) × IsClockMoment may_give clock
      × TakesItem one.conn clock old history doubt one.item mid between)
      × TakesItems may_give mid (longer history (entries_of one.item)) between others new doubt_new
