-- One request that the holder of a pod answered, as what it says of each history that the holder
-- represented.
use Rattle.std.specs.Prelude.{◌≡◌, ℕ, Bool, IsTrue, Option}
use Rattle.conn_talk.specs.Turns.{Rules}
use Rattle.conn_talk.specs.Walks.{RepliesAtEnd}
use Rattle.conn_talk.specs.declared.talk_end.TalkEnd.{TalkEnd}
use Rattle.conn_talk.specs.declared.talk_end.TalkEnd.TheVariants as talks
use Rattle.pod_base.specs.declared.request.Request.{Request}
use Rattle.pod_command.specs.declared.entry.Entry.{Entry}
use Rattle.pod_core.specs.History.{History, end_of}
use Rattle.pod_core.specs.Session.{Item, Outcome, answered, no_memory, disk_fault}
use Rattle.pod_reply.specs.Replies.{Reply}
use Rattle.reply_laws.specs.Granted.{is_change}
use Rattle.token_table.specs.Credentials.{AskedAgent}
use Rattle.pod_pipe.specs.Holders.{Advances, CountsUnanswered, Faults}
use Rattle.pod_pipe.specs.Served.{fault_on, out_of_memory_on}
use Rattle.pod_pipe.specs.declared.status.PipeEnd.{PipeEnd}
use Rattle.pod_pipe.specs.declared.status.PipeEnd.TheVariants.{Closed, Limit, Upgraded, Bad}
use Rattle.pod_pipe.specs.declared.status.PipeEnd.TheVariants.{WriteFault, NoMemory}

-- The item was answered at the end of the history by this reply.
pub record IsItemAtEnd (conn clock : ℕ) (history : History) (item : Item) (place : ℕ)
    (reply : Reply) : Type 0 where
  pub replies : RepliesAtEnd conn clock history item reply
  pub place_is : place ≡ end_of history

-- what an item says of one history that the holder represented
abbrev pub StepAtEnd : ℕ → ℕ → History → Item → Outcome → Type 0
StepAtEnd conn clock history item (answered place reply) =
    IsItemAtEnd conn clock history item place reply
StepAtEnd conn clock history item no_memory = Unit {0}
StepAtEnd conn clock history item disk_fault = IsTrue (is_change item.request.method)

module _ {H : Type 0} (stands : H → History → Option Entry → Type 0) (faults : H → Faults)
    (takes : ℕ → ℕ → H → History → Option Entry → Item → H → Option Entry → Type 0) where
  -- One item more of each history that the holder represented. A disk fault or out of memory was
  -- counted.
  pub record HolderTurns (conn clock : ℕ) (old : H) (item : Item) (new : H) : Type 0 where
    pub steps : (history : History) (doubt : Option Entry) → stands old history doubt
        → StepAtEnd conn clock history item item.outcome
    pub advances : (history : History) (doubt : Option Entry) → stands old history doubt
        → Advances stands takes conn clock old history doubt item new
    pub counted : CountsUnanswered (fault_on item.outcome) (out_of_memory_on item.outcome)
        (faults old) (faults new)

  -- what the items of connection 1 rest on, where a holder answers
  abbrev pub holder_rules : {A : Type 0} → (A → H) → (ℕ → Type 0) → (Request → AskedAgent) → Bool
      → Rules A
  holder_rules holder_of may_give asking trails = record {
    conn = 1;
    may_give = may_give;
    asking = asking;
    trails = trails;
    turns = λ conn clock old item new.
        HolderTurns conn clock (holder_of old) item (holder_of new);
    passes = λ request old new. ⊥;
  }

-- the end of a connection whose events ended so; a request without a place doesn't end one here
abbrev pub end_of_talk : TalkEnd → PipeEnd
end_of_talk talks.Closed = Closed
end_of_talk talks.Limit = Limit
end_of_talk talks.Upgraded = Upgraded
end_of_talk (talks.Bad status) = Bad status
end_of_talk talks.WriteFault = WriteFault
end_of_talk talks.NoMemory = NoMemory
end_of_talk talks.NoPlace = NoMemory
