-- What contracts see of a state: its pod, and the number of its next change.
use Rattle.std.specs.Prelude.{ℕ}
use Rattle.pod_rows.specs.Pod.{Pod}

pub record NumberedPod : Type 0 where
  pub pod : Pod
  pub next : ℕ
