-- What the one writer of a pod does with a change, in steps: the lock is taken and the change is
-- answered at the end of the history, an entry in doubt is repaired, the record of the new entry is
-- written, and its gate is opened. These are the steps of a world that its keeper sees.
use Rattle.std.specs.Prelude.{◌≡◌, ℕ, Bool, if◌then◌else◌, max, IsTrue, List, [], ◌∷◌, Option}
use Rattle.std.specs.Prelude.{Some, None}
use Rattle.pod_base.specs.declared.moment.Stamp.{Stamp}
use Rattle.pod_base.specs.declared.request.Request.{Request}
use Rattle.pod_command.specs.declared.entry.Entry.{Entry}
use Rattle.pod_core.specs.History.{History, end_of, pod_at, moment_before, longer}
use Rattle.pod_core.specs.Session.{answered, Item}
use Rattle.pod_reply.specs.Replies.{Reply}
use Rattle.pod_reply.specs.Reply.{IsReply}
use Rattle.reply_laws.specs.Granted.{is_change}
use Rattle.token_table.specs.Credentials.{AskedAgent}

-- ---- the reply to a change

-- The stamp of a change at the end of the history: its moment is the greater of the clock's and
-- that of the last entry.
abbrev pub stamp_at_end : History → Stamp → Stamp
stamp_at_end history stamp = record stamp {
  moment = record { 0 = max stamp.moment.0 (moment_before history (end_of history)) };
}

-- the reply at the end of the history, with that stamp
abbrev pub IsReplyAtEnd : History → Request → AskedAgent → Stamp → Reply → Type 0
IsReplyAtEnd history request asked stamp reply = IsReply (pod_at history (end_of history)) request
    asked (end_of history) (stamp_at_end history stamp) reply

-- the item of a session that is answered so
abbrev pub item_at_end : History → Request → AskedAgent → Stamp → Reply → Item
item_at_end history request asked stamp reply = record {
  request = request;
  number = stamp.number;
  asked = asked;
  moment = (stamp_at_end history stamp).moment.0;
  outcome = answered (end_of history) reply;
}

-- ---- the state

-- The change that holds the lock: the number of its connection, its item, and the entry that is to
-- be added to the history.
pub record Holder : Type 0 where
  pub conn : ℕ
  pub item : Item
  pub entry : Entry

-- How far the holder of the lock has come: nobody holds it; the change is answered; the record of
-- its entry is written; the gate of that record is open.
pub data Phase : Type 0 where
  free : Phase
  taken : Holder → Phase
  written : Holder → Phase
  opened : Holder → Phase

-- The part of a world that its keeper sees: the history, the entry in doubt, which a crash may
-- leave after the end of the history or not, and the holder of the lock.
pub record KeeperView : Type 0 where
  pub history : History
  pub doubt : Option Entry
  pub phase : Phase

-- ---- the events

-- A change is taken, with the clock's stamp, and has this reply. The others are the steps of its
-- holder. Each says whether it succeeded, or a disk failed.
pub data KeeperEvent : Type 0 where
  take : Request → AskedAgent → Stamp → Reply → KeeperEvent
  repair : Bool → KeeperEvent
  body : Bool → KeeperEvent
  gate : Bool → KeeperEvent

-- A reply with an entry holds the lock.
abbrev pub held_by : Stamp → Item → Option Entry → Phase
held_by stamp item None = free
held_by stamp item (Some entry) =
    taken (record { conn = stamp.conn; item = item; entry = entry })

-- While nobody holds the lock, a change is answered at the end of the history.
pub record TakesChange (old : KeeperView) (request : Request) (asked : AskedAgent) (stamp : Stamp)
    (reply : Reply) (new : KeeperView) : Type 0 where
  pub is_free : old.phase ≡ free
  pub changes : IsTrue (is_change request.method)
  pub is_reply : IsReplyAtEnd old.history request asked stamp reply
  pub new_is : new ≡ record old {
    phase = held_by stamp (item_at_end old.history request asked stamp reply) reply.entry;
  }

-- With an entry in doubt the holder closes its gate. Then nothing is in doubt, or it gives up.
pub record RepairsGate (ok : Bool) (old new : KeeperView) : Type 0 where
  pub holder : Holder
  pub is_taken : old.phase ≡ taken holder
  pub entry : Entry
  pub in_doubt : old.doubt ≡ Some entry
  pub new_is : new ≡ (if ok then record old { doubt = None } else record old { phase = free })

-- With nothing in doubt the record of the holder's entry is written, or it gives up. A checkpoint
-- that is made before is part of this step.
pub record WritesBody (ok : Bool) (old new : KeeperView) : Type 0 where
  pub holder : Holder
  pub is_taken : old.phase ≡ taken holder
  pub is_sure : old.doubt ≡ None
  pub new_is : new ≡ (if ok then record old { phase = written holder }
      else record old { phase = free })

-- The gate of that record is opened: the history has the entry. Or the holder gives up, and the
-- entry is in doubt.
pub record OpensGate (ok : Bool) (old new : KeeperView) : Type 0 where
  pub holder : Holder
  pub is_written : old.phase ≡ written holder
  pub new_is : new ≡ (if ok
      then record old { history = longer old.history (holder.entry ∷ []); phase = opened holder }
      else record old { doubt = Some holder.entry; phase = free })

-- One step of a keeper.
abbrev pub KeeperStep : KeeperView → KeeperEvent → KeeperView → Type 0
KeeperStep old (take request asked stamp reply) new = TakesChange old request asked stamp reply new
KeeperStep old (repair ok) new = RepairsGate ok old new
KeeperStep old (body ok) new = WritesBody ok old new
KeeperStep old (gate ok) new = OpensGate ok old new

-- These steps, one after the other.
abbrev pub KeeperRun : KeeperView → List KeeperEvent → KeeperView → Type 0
KeeperRun old [] new = new ≡ old
KeeperRun old (event ∷ events) new =
    (next : KeeperView) × KeeperStep old event next × KeeperRun next events new
