-- A connection of a new pod in memory.
use Rattle.std.proofs.Common.{◌≡◌, ℕ, Bool, List, Option, None, refl, ap, subst, arith}
use Rattle.pod_rows.specs.FirstPods.{first_pod}
use Rattle.pod_rows.proofs.FirstPodLaws.{first_pods_well_formed}
use Rattle.pod_base.specs.declared.request.Request.{Request}
use Rattle.pod_core.specs.History.{IsHistory}
use Rattle.pod_core.specs.Session.{IsClockMoment, Item}
use Rattle.token_table.specs.Credentials.{AskedAgent}
use Rattle.conn_talk.specs.Agents.{asking_of}
use Rattle.pod_pipe.specs.Memory.{IsMemoryOf, memory_faults, memory_stands, memory_takes}
use Rattle.pod_pipe.specs.Served.{Leaves, WritesSession}
use Rattle.pod_pipe.specs.Statuses.{PipesAndTells, status_of}
use Rattle.pod_pipe.specs.Streams.{CountsInput}
use Rattle.conn_talk.specs.declared.agents.Agents.TheVariants.{Owner}
use Rattle.pod_pipe.specs.declared.memory_pod.MemoryPod.{MemoryPod}
use Rattle.pod_pipe.specs.declared.options.PipeOptions.{PipeOptions}
use Rattle.pod_pipe.specs.declared.status.PipeEnd.{PipeEnd}
use Rattle.pod_pipe.specs.declared.status.PipeEnd.TheVariants.{NoMemory}
use Rattle.pod_pipe.proofs.ReadsLemmas.{no_reads}
use Rattle.pod_pipe.proofs.Weaker.{pipes_weaker, session_weaker, unserved, unserved_session}
use Rattle.pod_rows.specs.Pod.{Pod}
use Rattle.pod_tool.specs.Fresh.{MeetsNoDisk, RunsFresh, asking_owner, fresh_base, fresh_history}
use Rattle.pod_pipe.specs.RunStreams.{Streams}

-- the history of a new pod is one
pub fresh_is_history : (owner : List ℕ) (made : ℕ) → IsHistory (fresh_history owner made)
fresh_is_history owner made = record { well_formed = first_pods_well_formed fresh_base owner (record { 0 = made }) refl; apply = tt }

-- its first pod in memory stands for it
pub fresh_stands : (owner : List ℕ) (made : ℕ) (pod : Pod) (next last : ℕ) → pod ≡ first_pod fresh_base owner (record { 0 = made }) → next ≡ 0 → last ≡ 0 → IsMemoryOf pod next last (fresh_history owner made)
fresh_stands owner made pod next last is none zero = record { is_history = fresh_is_history owner made; pod_is = is; next_is = none; last_is = zero }

-- what is left of a pod in memory
abbrev pub LeavesPod : (ℕ → Type 0) → List ℕ → ℕ → MemoryPod → MemoryPod → List Item → Type 0
LeavesPod may_give owner made = Leaves memory_stands memory_takes may_give memory_faults (fresh_history owner made) None

no_disk : (may_give : ℕ → Type 0) (owner : List ℕ) (made : ℕ) (old new : MemoryPod) (items : List Item) → LeavesPod may_give owner made old new items → MeetsNoDisk items
no_disk may_give owner made old new items left = omega (arith, left.counted.disks.counted (omega arith) (omega arith))

module _ (may_give : ℕ → Type 0) (owner : List ℕ) (trail : Bool) (streams : Streams) (status made : ℕ) (given : IsClockMoment may_give made) where
  pub runs_fresh : (options : PipeOptions) → options.agents ≡ Owner owner → options.trail ≡ trail → (end : PipeEnd) → status ≡ status_of end → (old new : MemoryPod)
      → PipesAndTells may_give (asking_of options.agents) options.trail (fresh_history owner made) (LeavesPod may_give owner made old new) end streams.old_input streams.new_input streams.old_output streams.new_output streams.old_errors streams.new_errors streams.old_error_faults streams.new_error_faults
      → WritesSession may_give (asking_of options.agents) options.trail (fresh_history owner made) (LeavesPod may_give owner made old new) streams.old_input streams.new_input streams.old_output streams.new_output
      → CountsInput end streams.old_reads streams.new_reads streams.old_ends streams.new_ends → RunsFresh may_give owner trail streams status
  runs_fresh options agents trailed end is old new pipes session counts = record {
    end = end;
    status_is = is;
    made = made;
    clock = given;
    pipes = subst (λ (t : Bool). PipesAndTells may_give (asking_owner owner) t (fresh_history owner made) MeetsNoDisk end streams.old_input streams.new_input streams.old_output streams.new_output streams.old_errors streams.new_errors streams.old_error_faults streams.new_error_faults) trailed
        (subst (λ (a : Request → AskedAgent). PipesAndTells may_give a options.trail (fresh_history owner made) MeetsNoDisk end streams.old_input streams.new_input streams.old_output streams.new_output streams.old_errors streams.new_errors streams.old_error_faults streams.new_error_faults) (ap asking_of agents)
        (pipes_weaker may_give (asking_of options.agents) options.trail (fresh_history owner made) _ MeetsNoDisk (no_disk may_give owner made old new) end streams.old_input streams.new_input streams.old_output streams.new_output streams.old_errors streams.new_errors streams.old_error_faults streams.new_error_faults pipes));
    session = subst (λ (t : Bool). WritesSession may_give (asking_owner owner) t (fresh_history owner made) MeetsNoDisk streams.old_input streams.new_input streams.old_output streams.new_output) trailed
        (subst (λ (a : Request → AskedAgent). WritesSession may_give a options.trail (fresh_history owner made) MeetsNoDisk streams.old_input streams.new_input streams.old_output streams.new_output) (ap asking_of agents)
        (session_weaker may_give (asking_of options.agents) options.trail (fresh_history owner made) _ MeetsNoDisk (no_disk may_give owner made old new) streams.old_input streams.new_input streams.old_output streams.new_output session));
    counts = counts;
  }

-- a run for which no memory was left before anything was read
pub unserved_run : (may_give : ℕ → Type 0) (owner : List ℕ) (trail : Bool) (made : ℕ) → IsClockMoment may_give made → (input output errors : Option (List ℕ)) (input_faults output_faults error_faults reads ends status : ℕ) → status ≡ 7
    → RunsFresh may_give owner trail (record { old_input = input; new_input = input; old_output = output; new_output = output; old_errors = errors; new_errors = errors; old_input_faults = input_faults; new_input_faults = input_faults; old_output_faults = output_faults; new_output_faults = output_faults; old_error_faults = error_faults; new_error_faults = error_faults; old_reads = reads; new_reads = reads; old_ends = ends; new_ends = ends }) status
unserved_run may_give owner trail made given input output errors input_faults output_faults error_faults reads ends status is = record {
  end = NoMemory;
  status_is = is;
  made = made;
  clock = given;
  pipes = unserved may_give (asking_owner owner) trail (fresh_history owner made) (fresh_is_history owner made) MeetsNoDisk refl input output errors error_faults;
  session = unserved_session may_give (asking_owner owner) trail (fresh_history owner made) (fresh_is_history owner made) MeetsNoDisk refl input output errors;
  counts = record { reads = no_reads reads; limit = λ e. absurd cc; ends = refl };
}
