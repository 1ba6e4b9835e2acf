-- What one connection writes of a pod, over a history that the pod's holder represents.
use Rattle.std.specs.Prelude.{◌≡◌, ℕ, ◌+◌, Bool, List, [], ◌∷◌, Option}
use mathlib.Core.List.{IsPrefix}
use Rattle.http_conn.specs.Messages.{Messages}
use Rattle.pod_io.specs.Writing.{ExtendsBy}
use Rattle.pod_base.specs.declared.heard.Heard.{Heard}
use Rattle.pod_base.specs.declared.request.Request.{Request}
use Rattle.pod_command.specs.declared.entry.Entry.{Entry}
use Rattle.pod_core.specs.History.{History, IsHistory, end_of, longer}
use Rattle.pod_core.specs.Output.{output}
use Rattle.pod_core.specs.Session.{IsClockMoment, Item, Outcome, Session, answered, disk_fault}
use Rattle.pod_core.specs.Session.{entries_of, no_memory}
use Rattle.pod_core.specs.Session.{IsSession, IsWhole, ends_upgraded}
use Rattle.history_laws.specs.Isolated.{IsIsolated, grown}
use Rattle.token_table.specs.Credentials.{AskedAgent}
use Rattle.pod_pipe.specs.Holders.{Faults, CountsUnanswered}
use Rattle.pod_pipe.specs.Streams.{Reads}
use Rattle.conn_talk.specs.Trails.{trail_of}

-- how many items met a disk fault
abbrev pub fault_on : Outcome → ℕ
fault_on (answered place reply) = 0
fault_on no_memory = 0
fault_on disk_fault = 1

abbrev pub disk_faults : List Item → ℕ
disk_faults [] = 0
disk_faults (item ∷ items) = fault_on item.outcome + disk_faults items

-- how many items ran out of memory
abbrev pub out_of_memory_on : Outcome → ℕ
out_of_memory_on (answered place reply) = 0
out_of_memory_on no_memory = 1
out_of_memory_on disk_fault = 0

abbrev pub out_of_memory_items : List Item → ℕ
out_of_memory_items [] = 0
out_of_memory_items (item ∷ items) = out_of_memory_on item.outcome + out_of_memory_items items

-- The session is that of connection 1, from the end of this history on. Its own history is that one
-- with exactly the items' entries, each of which applies. Where one agent makes all its requests,
-- it is a session over each history that ends alike for that agent, too, and a run of the same
-- events at the same moments over that history writes these bytes, where nothing failed.
pub record Continues (may_give : ℕ → Type 0) (asking : Request → AskedAgent) (begun : History)
    (events : List Heard) (session : Session) : Type 0 where
  pub conn : session.conn ≡ 1
  pub history : session.history ≡ grown begun session.items
  pub is_history : IsHistory session.history
  pub is_session : IsSession may_give asking events (end_of begun) session
      (end_of session.history)
  pub isolated : IsIsolated may_give asking begun events session

module _ {H : Type 0} (stands : H → History → Option Entry → Type 0)
    (takes : ℕ → ℕ → H → History → Option Entry → Item → H → Option Entry → Type 0)
    (may_give : ℕ → Type 0) where
  -- The items of connection 1, one after the other: between two of them the holder represents the
  -- history with the entries of those before, and `takes` holds of each.
  abbrev pub TakesAll : H → History → Option Entry → List Item → H → Option Entry → Type 0
  TakesAll old history doubt [] new after = (new ≡ old) × (after ≡ doubt)
  TakesAll old history doubt (item ∷ items) new after = (mid : H) × (between : Option Entry)
      × stands mid (longer history (entries_of item)) between
      × ((clock : ℕ) × IsClockMoment may_give clock
      × takes 1 clock old history doubt item mid between)
      × TakesAll mid (longer history (entries_of item)) between items new after

  -- The returned holder, which represented the history with that in doubt: it has advanced to the
  -- history with the items' entries, item by item, and each item that met a disk fault or ran out
  -- of memory was counted.
  pub record Leaves (faults : H → Faults) (begun : History) (doubt : Option Entry) (old new : H)
      (items : List Item) : Type 0 where
    pub after : Option Entry
    pub represents : stands new (grown begun items) after
    pub taken : TakesAll old begun doubt items new after
    pub counted : CountsUnanswered (disk_faults items) (out_of_memory_items items) (faults old)
        (faults new)

module _ (may_give : ℕ → Type 0) (asking : Request → AskedAgent) (trails : Bool) (begun : History)
    (leaves : List Item → Type 0) where
  -- All events were served: the bytes written are those of a whole session over them, and the trail
  -- is that of its items. Its last item switched protocols, or none did.
  pub record IsServed (upgraded : Bool) (events : List Heard) (written trail : List ℕ)
      : Type 0 where
    pub session : Session
    pub continues : Continues may_give asking begun events session
    pub left : leaves session.items
    pub whole : IsWhole events session
    pub last : ends_upgraded session.items ≡ upgraded
    pub bytes : written ≡ output events session
    pub lines : trail ≡ trail_of trails session.items

  -- Serving stopped: the bytes written are a prefix of those of a session over the events, and the
  -- trail is a prefix of that of its items.
  pub record IsStopped (events : List Heard) (written trail : List ℕ) : Type 0 where
    pub session : Session
    pub continues : Continues may_give asking begun events session
    pub left : leaves session.items
    pub bytes : IsPrefix written (output events session)
    pub lines : IsPrefix trail (trail_of trails session.items)

  -- Whatever the end, the bytes written are a prefix of those of a session over the bytes read:
  -- over each parse of these, and a text has exactly one.
  pub record WritesSession (old_input new_input old_output new_output : Option (List ℕ))
      : Type 0 where
    pub read : List ℕ
    pub written : List ℕ
    pub trail : List ℕ
    pub reads : Reads read old_input new_input
    pub writes : ExtendsBy written old_output new_output
    pub session : (all : List Heard) (rest : ℕ) → Messages read all rest
        → IsStopped all written trail
