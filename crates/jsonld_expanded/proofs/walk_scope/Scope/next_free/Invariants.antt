use Rattle.std.proofs.Common.{◌≡◌, ℕ, ◌-◌, ◌^◌, ◌<◌, ◌≤◌, true}
use Rattle.std.specs.BTreeSet.{contains_text}
use Rattle.jsonld_expanded.specs.Nodes.{unnamed_label}
use Rattle.jsonld_expanded.proofs.walk_scope.Scope.next_free.Given as goal

abbrev pub invariant-loop-label : goal.invariant-loop-label
invariant-loop-label l = record {
  least : l.from ≤ l.number;
  before : (m : ℕ) → l.from ≤ m → m < l.number → contains_text l.self.labels (unnamed_label m) ≡ true;
}

abbrev pub decreases-loop-label : goal.decreases-loop-label
decreases-loop-label l = 2 ^ 64 - l.number
