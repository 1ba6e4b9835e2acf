-- The items of one connection to a pod that others change too, by what was seen of the entries that
-- were made since the pod was opened.
use Rattle.std.specs.Prelude.{◌≡◌, ℕ, ◌+◌, ◌++◌, List, [], ◌∷◌, length, max, if◌then◌else◌, IsTrue}
use Rattle.std.specs.Prelude.{Some}
use mathlib.Core.List.{IsPrefix}
use Rattle.std.specs.Option.{option_to_list}
use Rattle.pod_base.specs.declared.moment.Stamp.{Stamp}
use Rattle.pod_command.specs.declared.entry.Entry.{Entry}
use Rattle.pod_core.specs.History.{History, end_of, longer, moment_before, pod_at}
use Rattle.pod_core.specs.KeeperSteps.{IsReplyAtEnd}
use Rattle.pod_core.specs.Session.{IsClockMoment, Item, Outcome, answered, disk_fault, no_memory}
use Rattle.pod_core.specs.Session.{stamp_of}
use Rattle.pod_reply.specs.Replies.{Reply}
use Rattle.pod_reply.specs.Reply.{IsReply}
use Rattle.reply_laws.specs.Granted.{is_change}

-- The item was answered at the end of a history by this reply, at the moment of the clock, or for a
-- change at that of the last entry where that is greater.
pub record RepliesAtEnd (conn clock : ℕ) (history : History) (item : Item) (reply : Reply)
    : Type 0 where
  pub reply_is : IsReply (pod_at history (end_of history)) item.request item.asked (end_of history)
      (stamp_of conn item) reply
  pub moment : item.moment ≡ (if is_change item.request.method
      then max clock (moment_before history (end_of history)) else clock)

-- the clock's stamp of an item
abbrev pub clock_stamp : ℕ → ℕ → Item → Stamp
clock_stamp conn clock item =
    record { conn = conn; number = item.number; moment = record { 0 = clock } }

-- `kept`: the histories that the pod's keeper represented at the opening; they end at the place
-- `first`
module _ (kept : History → Type 0) (first conn : ℕ) where
  -- One list of entries decided the answer, at the end of each such history with these entries.
  -- What had been seen is a prefix of it; with the item's entry it is a prefix of what was seen
  -- afterwards.
  pub record IsDecided (clock : ℕ) (before : List Entry) (item : Item) (place : ℕ) (reply : Reply)
      (after : List Entry) : Type 0 where
    pub entries : List Entry
    pub seen_before : IsPrefix before entries
    pub replies : (history : History) → kept history
        → RepliesAtEnd conn clock (longer history entries) item reply
    pub place_is : place ≡ first + length entries
    pub seen_after : IsPrefix (entries ++ option_to_list reply.entry) after

  -- A change met a disk fault. One list of entries decided it, and what had been seen is a prefix of
  -- it. Its reply at the end of each such history with these entries has an entry, which could not
  -- be made durable.
  pub record MetFault (clock : ℕ) (before : List Entry) (item : Item) (after : List Entry)
      : Type 0 where
    pub changes : IsTrue (is_change item.request.method)
    pub entries : List Entry
    pub seen_before : IsPrefix before entries
    pub reply : Reply
    pub entry : Entry
    pub replies : (history : History) → kept history → IsReplyAtEnd (longer history entries)
        item.request item.asked (clock_stamp conn clock item) reply
    pub entry_is : reply.entry ≡ Some entry
    pub seen_after : IsPrefix before after

  -- one item, from what had been seen before it to what was seen after it
  abbrev pub Turn : ℕ → List Entry → Item → Outcome → List Entry → Type 0
  Turn clock before item (answered place reply) after =
      IsDecided clock before item place reply after
  Turn clock before item no_memory after = IsPrefix before after
  Turn clock before item disk_fault after = MetFault clock before item after

  -- the items in order, from what had been seen before them to what was seen after them
  abbrev pub Walk : (ℕ → Type 0) → List Entry → List Item → List Entry → Type 0
  Walk may_give before [] after = IsPrefix before after
  Walk may_give before (item ∷ items) after = (mid : List Entry)
      × ((clock : ℕ) × IsClockMoment may_give clock × Turn clock before item item.outcome mid)
      × Walk may_give mid items after
