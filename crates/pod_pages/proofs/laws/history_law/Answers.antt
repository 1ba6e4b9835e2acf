use Rattle.pod_pages.specs.State.{first_state}
use Rattle.pod_pages.proofs.History.{pod_replayed, next_replayed, first_oldest, first_effects}
use Rattle.pod_pages.proofs.laws.history_law.Goals as goal

pub returns : goal.returns
returns c = record {
  pod = λ first history. pod_replayed (first_state first) history;
  next = λ first history. next_replayed (first_state first) history;
  oldest = first_oldest;
  effects = first_effects;
}
