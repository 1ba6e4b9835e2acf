-- What a holder of a pod answers to a request.
use Rattle.std.specs.Prelude.{◌≡◌, ℕ, ◌+◌, ◌-◌, ◌^◌, ◌<◌, ◌≤◌, if◌then◌else◌, max, Result, Ok, Err}
use Rattle.std.specs.Prelude.{Option}
use Rattle.pod_base.specs.declared.moment.Stamp.{Stamp}
use Rattle.pod_base.specs.declared.request.Request.{Request}
use Rattle.pod_command.specs.declared.entry.Entry.{Entry}
use Rattle.pod_core.specs.History.{History, end_of, longer, moment_before, pod_at}
use Rattle.pod_core.specs.Session.{Item, Outcome, answered, disk_fault, entries_of, no_memory}
use Rattle.pod_reply.specs.Replies.{Reply}
use Rattle.pod_reply.specs.Reply.{IsReply}
use Rattle.reply_laws.specs.Granted.{is_change}
use Rattle.token_table.specs.Credentials.{AskedAgent}
use Rattle.pod_core.specs.declared.request_answer.Answer.{Answer}
use Rattle.pod_pipe.specs.declared.holder.HolderFault.{HolderFault}
use Rattle.pod_pipe.specs.declared.holder.HolderFault.TheVariants.{NoMemory, DiskFault}

-- The counts of faults of the two disks of a store. They are 0 where the pod is in memory.
pub record DiskFaults : Type 0 where
  pub first : ℕ
  pub second : ℕ

-- What a holder counts: the faults of its disks, and the requests that ran out of memory.
pub record Faults : Type 0 where
  pub disks : DiskFaults
  pub out_of_memory : ℕ

-- At least so many faults were counted, unless a count is at its maximum; and no count decreased.
pub record CountsDiskFaults (many : ℕ) (old new : DiskFaults) : Type 0 where
  pub first : old.first ≤ new.first
  pub second : old.second ≤ new.second
  pub counted : new.first < 2 ^ 64 - 1 → new.second < 2 ^ 64 - 1
      → many + (old.first + old.second) ≤ new.first + new.second

-- At least so many requests that ran out of memory were counted, unless the count is at its
-- maximum; and it didn't decrease.
pub record CountsOutOfMemory (many old new : ℕ) : Type 0 where
  pub no_fewer : old ≤ new
  pub counted : new < 2 ^ 64 - 1 → many + old ≤ new

-- So many requests met a disk fault, and so many ran out of memory: each was counted.
pub record CountsUnanswered (disk_faults no_memory : ℕ) (old new : Faults) : Type 0 where
  pub disks : CountsDiskFaults disk_faults old.disks new.disks
  pub out_of_memory : CountsOutOfMemory no_memory old.out_of_memory new.out_of_memory

-- one where a disk failed, and else none
abbrev pub faults_in : {T : Type 0} → Result T HolderFault → ℕ
faults_in (Ok answer) = 0
faults_in (Err NoMemory) = 0
faults_in (Err DiskFault) = 1

-- one where memory ran out, and else none
abbrev pub out_of_memory_in : {T : Type 0} → Result T HolderFault → ℕ
out_of_memory_in (Ok answer) = 0
out_of_memory_in (Err NoMemory) = 1
out_of_memory_in (Err DiskFault) = 0

-- The moment of a request at the end of a history, at a moment of the clock: that of a change is no
-- earlier than that of the last entry.
abbrev pub moment_of_request : History → Request → ℕ → ℕ
moment_of_request history request clock = if is_change request.method
    then max clock (moment_before history (end_of history)) else clock

-- the stamp of a request at the end of a history
abbrev pub stamp_of_request : History → Request → Stamp → Stamp
stamp_of_request history request stamp =
    record stamp { moment = record { 0 = moment_of_request history request stamp.moment.0 } }

-- the item of a request with this stamp, with its moment and how it ended
abbrev pub item_of : Request → AskedAgent → Stamp → ℕ → Outcome → Item
item_of request asked stamp seconds outcome = record {
  request = request;
  number = stamp.number;
  asked = asked;
  moment = seconds;
  outcome = outcome;
}

-- how a request that wasn't answered ended
abbrev pub outcome_of : HolderFault → Outcome
outcome_of NoMemory = no_memory
outcome_of DiskFault = disk_fault

-- The holder represents the history with the item's entry afterwards, with this or that in doubt,
-- and `takes` holds of the item.
abbrev pub Advances : {H : Type 0} → (H → History → Option Entry → Type 0)
    → (ℕ → ℕ → H → History → Option Entry → Item → H → Option Entry → Type 0)
    → ℕ → ℕ → H → History → Option Entry → Item → H → Type 0
Advances stands takes conn clock old history doubt item new = (after : Option Entry)
    × stands new (longer history (entries_of item)) after
    × takes conn clock old history doubt item new after

-- The request was answered at the end of the history by this reply.
pub record IsAnswerAtEnd (history : History) (request : Request) (asked : AskedAgent)
    (stamp : Stamp) (answer : Answer) (reply : Reply) : Type 0 where
  pub reply_is : IsReply (pod_at history (end_of history)) request asked (end_of history)
      (stamp_of_request history request stamp) reply
  pub place : answer.place ≡ end_of history
  pub moment : answer.moment.0 ≡ moment_of_request history request stamp.moment.0

-- the item of a request that was answered so
abbrev pub item_answered : Request → AskedAgent → Stamp → Answer → Reply → Item
item_answered request asked stamp answer reply =
    item_of request asked stamp answer.moment.0 (answered answer.place reply)

-- One reply answered the request at the end of each history that the holder represented, and the
-- holder has advanced by its item.
abbrev pub AnswersAtEnd : {H : Type 0} → (H → History → Option Entry → Type 0)
    → (ℕ → ℕ → H → History → Option Entry → Item → H → Option Entry → Type 0) → H → H → Request
    → AskedAgent → Stamp → Answer → Type 0
AnswersAtEnd stands takes old new request asked stamp answer =
    (reply : Reply) × (answer.response ≡ reply.response)
    × ((history : History) (doubt : Option Entry) → stands old history doubt
    → IsAnswerAtEnd history request asked stamp answer reply
    × Advances stands takes stamp.conn stamp.moment.0 old history doubt
    (item_answered request asked stamp answer reply) new)

-- One that wasn't answered: the holder has advanced by its item, which has no entry.
abbrev pub AdvancesUnanswered : {H : Type 0} → (H → History → Option Entry → Type 0)
    → (ℕ → ℕ → H → History → Option Entry → Item → H → Option Entry → Type 0) → H → H → Request
    → AskedAgent → Stamp → HolderFault → Type 0
AdvancesUnanswered stands takes old new request asked stamp fault =
    (history : History) (doubt : Option Entry) → stands old history doubt
    → Advances stands takes stamp.conn stamp.moment.0 old history doubt
    (item_of request asked stamp stamp.moment.0 (outcome_of fault)) new
