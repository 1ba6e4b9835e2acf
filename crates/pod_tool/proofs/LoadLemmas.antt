-- A run of the load generator.
use Rattle.std.proofs.Common.{◌≡◌, ℕ, Bool, false, List, [], length, Option, Some, ap, subst, ◌∙◌, arith}
use Rattle.load_generator.specs.Streams.{load_owner, stream}
use Rattle.load_generator.specs.declared.requests.TheConstants.{LOAD_MOMENT}
use Rattle.pod_base.specs.declared.request.Request.{Request}
use Rattle.pod_core.specs.Session.{Item}
use Rattle.token_table.specs.Credentials.{AskedAgent}
use Rattle.conn_talk.specs.Agents.{asking_of}
use Rattle.pod_pipe.specs.Statuses.{IsTold, PipesAndTells}
use Rattle.conn_talk.specs.declared.agents.Agents.TheVariants.{Owner}
use Rattle.pod_pipe.specs.declared.memory_pod.MemoryPod.{MemoryPod}
use Rattle.pod_pipe.specs.declared.options.PipeOptions.{PipeOptions}
use Rattle.pod_pipe.specs.declared.status.PipeEnd.{PipeEnd}
use Rattle.pod_pipe.proofs.Weaker.{pipes_weaker}
use Rattle.pod_rows.specs.Pod.{Pod}
use Rattle.pod_tool.specs.Fresh.{asking_owner}
use Rattle.pod_tool.specs.Loads.{AllAnswered, IsLoaded, IsLoadMoment, load_history}
use Rattle.pod_tool.proofs.FreshLemmas.{LeavesPod}

-- each request was answered, and the pod that is left is the one behind them
pub all_answered : (old new : MemoryPod) (rows : ℕ) → new.out_of_memory ≡ 0 → rows ≡ length new.state.pod.rows → (items : List Item) → LeavesPod IsLoadMoment load_owner LOAD_MOMENT old new items → AllAnswered rows items
all_answered old new rows none are items left = record {
  no_fault = omega (arith, left.counted.disks.counted (omega arith) (omega arith));
  no_want = omega (arith, none, left.counted.out_of_memory.counted (omega (arith, none)));
  rows_are = are ∙ ap (λ (p : Pod). length p.rows) left.represents.0.pod_is;
}

module _ (requests : ℕ) (bytes taken told_first written : List ℕ) (options : PipeOptions) (is_stream : bytes ≡ stream requests) (nothing : taken ≡ []) (nothing_told : told_first ≡ []) (agents : options.agents ≡ Owner load_owner) (trail : options.trail ≡ false) where
  pub loaded : (end : PipeEnd) → IsTold end → (old new : MemoryPod) (rows : ℕ) → new.out_of_memory ≡ 0 → rows ≡ length new.state.pod.rows → (left errors : Option (List ℕ)) (before after : ℕ)
      → PipesAndTells IsLoadMoment (asking_of options.agents) options.trail load_history (LeavesPod IsLoadMoment load_owner LOAD_MOMENT old new) end (Some bytes) left (Some taken) (Some written) (Some told_first) errors before after
      → IsLoaded requests written rows
  loaded end told old new rows none are left errors before after pipes =
      let weak = pipes_weaker IsLoadMoment (asking_of options.agents) options.trail load_history _ (AllAnswered rows) (all_answered old new rows none are) end (Some bytes) left (Some taken) (Some written) (Some told_first) errors before after pipes in
      let asked : PipesAndTells IsLoadMoment (asking_owner load_owner) options.trail load_history (AllAnswered rows) end (Some bytes) left (Some taken) (Some written) (Some told_first) errors before after =
      subst (λ (a : Request → AskedAgent). PipesAndTells IsLoadMoment a options.trail load_history (AllAnswered rows) end (Some bytes) left (Some taken) (Some written) (Some told_first) errors before after) (ap asking_of agents) weak in
      let untrailed : PipesAndTells IsLoadMoment (asking_owner load_owner) false load_history (AllAnswered rows) end (Some bytes) left (Some taken) (Some written) (Some told_first) errors before after =
      subst (λ (t : Bool). PipesAndTells IsLoadMoment (asking_owner load_owner) t load_history (AllAnswered rows) end (Some bytes) left (Some taken) (Some written) (Some told_first) errors before after) trail asked in
      let streamed : PipesAndTells IsLoadMoment (asking_owner load_owner) false load_history (AllAnswered rows) end (Some (stream requests)) left (Some taken) (Some written) (Some told_first) errors before after =
      subst (λ (b : List ℕ). PipesAndTells IsLoadMoment (asking_owner load_owner) false load_history (AllAnswered rows) end (Some b) left (Some taken) (Some written) (Some told_first) errors before after) is_stream untrailed in
      let begun : PipesAndTells IsLoadMoment (asking_owner load_owner) false load_history (AllAnswered rows) end (Some (stream requests)) left (Some []) (Some written) (Some told_first) errors before after =
      subst (λ (b : List ℕ). PipesAndTells IsLoadMoment (asking_owner load_owner) false load_history (AllAnswered rows) end (Some (stream requests)) left (Some b) (Some written) (Some told_first) errors before after) nothing streamed in
      let whole : PipesAndTells IsLoadMoment (asking_owner load_owner) false load_history (AllAnswered rows) end (Some (stream requests)) left (Some []) (Some written) (Some []) errors before after =
      subst (λ (b : List ℕ). PipesAndTells IsLoadMoment (asking_owner load_owner) false load_history (AllAnswered rows) end (Some (stream requests)) left (Some []) (Some written) (Some b) errors before after) nothing_told begun
      in record {
        end = end;
        told = told;
        left = left;
        trailed = whole.trailed;
        pipes = whole.pipes;
      }
