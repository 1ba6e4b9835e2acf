use Rattle.std.proofs.Common.{◌≡◌, ℕ, ◌<◌, ◌≤◌, false, length, get_or}
use Rattle.iri_ref.specs.Characters.{is_slash}
use Rattle.iri_ref.proofs.dot_segments.parent_len.Given as goal

abbrev pub invariant-loop-end : goal.invariant-loop-end
invariant-loop-end l = record {
  within : l.end ≤ length l.path;
  behind : (k : ℕ) → l.end ≤ k → k < length l.path → is_slash (get_or l.path k 0) ≡ false;
}

abbrev pub decreases-loop-end : goal.decreases-loop-end
decreases-loop-end l = l.end
