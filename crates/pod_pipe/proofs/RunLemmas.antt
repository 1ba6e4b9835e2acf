-- A run of a keeper that is served.
use Rattle.std.proofs.Common.{◌≡◌, inr, ℕ, Bool, List, [], ◌∷◌, Option, ap}
use Rattle.pod_command.specs.declared.entry.Entry.{Entry}
use Rattle.pod_core.specs.History.{History, longer}
use Rattle.pod_core.specs.Session.{Item, entries_of}
use Rattle.pod_keeper.specs.KeeperRuns.{StandsWith, TakesItem, TakesItems, items_on}
use Rattle.conn_talk.specs.Agents.{asking_of}
use Rattle.pod_pipe.specs.Served.{Leaves, TakesAll, WritesSession}
use Rattle.pod_pipe.specs.Statuses.{PipesAndTells, status_of}
use Rattle.pod_pipe.specs.Streams.{AddsReads, CountsInput}
use Rattle.conn_talk.specs.declared.agents.Agents.{Agents}
use Rattle.pod_pipe.specs.declared.status.PipeEnd.{PipeEnd}
use Rattle.pod_pipe.proofs.Weaker.{pipes_weaker, session_weaker}
use Rattle.pod_pipe.specs.RunStreams.{Streams}
use Rattle.pod_pipe.specs.StoreRuns.{RunsKeeper}
use Rattle.pod_pipe.specs.StoredPods.{LeavesKeeper, stored_faults}
use Rattle.pod_pipe.specs.Tables.{IsAsked, TokenSource}
use Rattle.pod_pipe.specs.declared.stored_pod.StoredPod.{StoredPod}

module _ {D : Type 0} (image : D → List ℕ → Type 0) (moment : D → ℕ) (left_since : D → ℕ → List ℕ → Type 0) (may_give : ℕ → Type 0) where
  -- a pod of a store, as a holder
  abbrev pub HolderStands : StoredPod D → History → Option Entry → Type 0
  HolderStands pod history doubt = StandsWith image pod.keeper history doubt

  abbrev pub HolderTakes : ℕ → ℕ → StoredPod D → History → Option Entry → Item → StoredPod D → Option Entry → Type 0
  HolderTakes conn clock old history doubt item new after = TakesItem image moment left_since conn clock old.keeper history doubt item new.keeper after

  -- what it took, its keeper took
  keeper_takes : (items : List Item) (old new : StoredPod D) (history : History) (doubt after : Option Entry) → TakesAll HolderStands HolderTakes may_give old history doubt items new after
      → TakesItems image moment left_since may_give old.keeper history doubt (items_on 1 items) new.keeper after
  keeper_takes [] old new history doubt after t = (ap (λ (pod : StoredPod D). pod.keeper) t.0, t.1)
  keeper_takes (item ∷ items) old new history doubt after t = (t.0.keeper, t.1, t.3, keeper_takes items t.0 new (longer history (entries_of item)) t.1 after t.4)

  module _ (faults : D → ℕ) (old new : StoredPod D) (history : History) (doubt : Option Entry) where
    -- what is left of the holder of a connection
    abbrev pub LeavesHolder : List Item → Type 0
    LeavesHolder = Leaves HolderStands HolderTakes may_give (λ (pod : StoredPod D). stored_faults faults pod.keeper pod.out_of_memory) history doubt old new

    -- is what is left of its keeper
    keeper_left : (items : List Item) → LeavesHolder items → LeavesKeeper image moment left_since may_give faults old.keeper new.keeper history doubt items
    keeper_left items left = record { after = left.after; represents = left.represents; taken = keeper_takes items old new history doubt left.after left.taken; counted = left.counted.disks }

module _ {D : Type 0} (image : D → List ℕ → Type 0) (moment : D → ℕ) (left_since : D → ℕ → List ℕ → Type 0) (faults : D → ℕ) (may_give : ℕ → Type 0) (by_tokens trail : Bool) (old new : StoredPod D) (tokens : TokenSource) (streams : Streams) (status : ℕ) where
  pub runs_piped : (agents : Agents) (end : PipeEnd) → IsAsked by_tokens old.keeper.pod.owner agents tokens → AddsReads tokens.old_reads tokens.new_reads → status ≡ status_of end
      → ((history : History) (doubt : Option Entry) → StandsWith image old.keeper history doubt → PipesAndTells may_give (asking_of agents) trail history (LeavesHolder image moment left_since may_give faults old new history doubt) end
      streams.old_input streams.new_input streams.old_output streams.new_output streams.old_errors streams.new_errors streams.old_error_faults streams.new_error_faults)
      → ((history : History) (doubt : Option Entry) → StandsWith image old.keeper history doubt → WritesSession may_give (asking_of agents) trail history (LeavesHolder image moment left_since may_give faults old new history doubt)
      streams.old_input streams.new_input streams.old_output streams.new_output)
      → CountsInput end streams.old_reads streams.new_reads streams.old_ends streams.new_ends → RunsKeeper image moment left_since faults may_give by_tokens trail old.keeper new.keeper tokens streams status
  runs_piped agents end asked reads is pipes session counts = inr (record {
    agents = agents;
    asked = asked;
    table_reads = reads;
    end = end;
    status_is = is;
    pipes = λ history doubt stands. pipes_weaker may_give (asking_of agents) trail history (LeavesHolder image moment left_since may_give faults old new history doubt) _ (keeper_left image moment left_since may_give faults old new history doubt) end
        streams.old_input streams.new_input streams.old_output streams.new_output streams.old_errors streams.new_errors streams.old_error_faults streams.new_error_faults (pipes history doubt stands);
    session = λ history doubt stands. session_weaker may_give (asking_of agents) trail history (LeavesHolder image moment left_since may_give faults old new history doubt) _ (keeper_left image moment left_since may_give faults old new history doubt)
        streams.old_input streams.new_input streams.old_output streams.new_output (session history doubt stands);
    counts = counts;
  })
