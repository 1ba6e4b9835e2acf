-- What contracts see of a session, and what its calls do to it.
use Rattle.std.specs.Prelude.{◌≡◌, ◌≤◌, ℕ, ◌+◌, List, ◌++◌, length, None, Some}
use Rattle.std.specs.Option.{option_to_list}
use mathlib.Core.List.{IsPrefix}
use Rattle.pod_base.specs.declared.moment.Stamp.{Stamp}
use Rattle.pod_base.specs.declared.request.Request.{Request}
use Rattle.pod_base.specs.declared.response.Response.{Response}
use Rattle.pod_command.specs.declared.entry.Entry.{Entry}
use Rattle.pod_core.specs.History.{History, end_of, longer, pod_at}
use Rattle.pod_core.specs.KeeperSteps.{IsReplyAtEnd, stamp_at_end}
use Rattle.pod_live.specs.WorldEvents.{IsChange, IsFault}
use Rattle.pod_reply.specs.Replies.{Reply}
use Rattle.pod_reply.specs.Reply.{IsReply}
use Rattle.published_view.specs.LookerState.{CountIncreasedByOne}
use Rattle.token_table.specs.Credentials.{AskedAgent}

-- The entries made since the store was opened that it has seen, those that it was told of for its
-- next look, how many looks it made, how many were refused, the entries that were published at its
-- last look, how many changes it made, and how many of its changes met a disk fault.
pub record Visit : Type 0 where
  pub seen : List Entry
  pub told : List Entry
  pub looks : ℕ
  pub refused : ℕ
  pub given : List Entry
  pub changes : ℕ
  pub faults : ℕ

-- a session that has done nothing
pub record IsNewVisit (opening : List Entry) (visit : Visit) : Type 0 where
  pub seen : visit.seen ≡ opening
  pub told : visit.told ≡ opening
  pub looks : visit.looks ≡ 0
  pub refused : visit.refused ≡ 0
  pub changes : visit.changes ≡ 0
  pub faults : visit.faults ≡ 0

-- ---- changes. `kept` are the histories that the store's keeper represented when it was opened, and
-- `first` is the number of the first entry since.

-- the reply to a change at the end of each history that was kept, with these entries made since
abbrev pub RepliesAtEnd : (History → Type 0) → List Entry → Request → AskedAgent → Stamp → Reply
    → Type 0
RepliesAtEnd kept entries request asked stamp reply = (history : History) → kept history
    → IsReplyAtEnd (longer history entries) request asked stamp reply

-- the moment of a change there: the greater of the stamp's and that of the last entry
abbrev pub IsMomentAtEnd : (History → Type 0) → List Entry → Stamp → ℕ → Type 0
IsMomentAtEnd kept entries stamp moment = (history : History) → kept history
    → moment ≡ (stamp_at_end (longer history entries) stamp).moment.0

-- One list of entries decided the answer, and what the session had seen is a prefix of it. The
-- answer's place is the end of that list, and the entry, where there is one, follows it in what the
-- session has then seen, by one look. In a world it is the events of a change that was answered:
-- the lock is taken, and an entry is written and published.
pub record Changed (kept : History → Type 0) (first : ℕ) (old : Visit) (request : Request)
    (asked : AskedAgent) (stamp : Stamp) (response : Response) (place moment : ℕ) (new : Visit)
    : Type 0 where
  pub entries : List Entry
  pub reply : Reply
  pub replies : RepliesAtEnd kept entries request asked stamp reply
  pub events : IsChange kept entries request asked stamp reply
  pub response_is : response ≡ reply.response
  pub place_is : place ≡ first + length entries
  pub moment_is : IsMomentAtEnd kept entries stamp moment
  pub after_seen : IsPrefix old.seen entries
  pub then_seen : IsPrefix (entries ++ option_to_list reply.entry) new.seen
  pub growth : new.changes ≡ old.changes + length (option_to_list reply.entry)
  pub looks : new.looks ≡ old.looks + 1
  pub refused : old.refused ≤ new.refused
  pub faults : new.faults ≡ old.faults

-- one disk fault was counted on the session, and nothing else changed
abbrev pub IsFaulted : Visit → Visit → Type 0
IsFaulted old new = new ≡ record old { faults = old.faults + 1 }

-- A change met a disk fault. One list of entries decided it, and what the session had seen is a
-- prefix of it. The reply there has an entry, which could not be made durable. In a world it is the
-- events of such a change up to the one that failed.
pub record FaultedAt (kept : History → Type 0) (seen : List Entry) (request : Request)
    (asked : AskedAgent) (stamp : Stamp) : Type 0 where
  pub entries : List Entry
  pub reply : Reply
  pub entry : Entry
  pub after_seen : IsPrefix seen entries
  pub replies : RepliesAtEnd kept entries request asked stamp reply
  pub entry_is : reply.entry ≡ Some entry
  pub events : IsFault kept entries request asked stamp reply entry

-- ---- looks

-- One look was made. What the session had seen, and what it was told, are prefixes of what it has
-- seen.
pub record Looked (old new : Visit) : Type 0 where
  pub later : IsPrefix old.seen new.seen
  pub told : IsPrefix old.told new.seen
  pub looks : new.looks ≡ old.looks + 1
  pub refused : new.refused ≡ old.refused
  pub changes : new.changes ≡ old.changes
  pub faults : new.faults ≡ old.faults

-- a look was refused, and nothing else changed
pub record IsTurnedAway (old new : Visit) : Type 0 where
  pub refused : CountIncreasedByOne old.refused new.refused
  pub rest : record new { refused = old.refused } ≡ old

-- The response is that of the reply at the end of each history that was kept, with these entries
-- made since. The reply has no entry.
pub record ReadAt (kept : History → Type 0) (entries : List Entry) (request : Request)
    (asked : AskedAgent) (stamp : Stamp) (response : Response) : Type 0 where
  pub reply : Reply
  pub replies : (history : History) → kept history
      → IsReply (pod_at (longer history entries) (end_of (longer history entries))) request asked
      (end_of (longer history entries)) stamp reply
  pub response_is : response ≡ reply.response
  pub no_entry : reply.entry ≡ None

-- The session has seen just this list, by one look or more, and changed nothing.
abbrev pub Meets : List Entry → Visit → Visit → Type 0
Meets list old new = IsPrefix old.seen new.seen × (new.seen ≡ list) × (new.changes ≡ old.changes)
    × (new.faults ≡ old.faults) × (old.refused ≤ new.refused)
