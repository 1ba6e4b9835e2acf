-- What contracts see of a version: its pod and the number of its next change, and the effects that
-- it keeps with the number of the oldest entry among them.
use Rattle.std.specs.Prelude.{ℕ, ◌+◌, ◌++◌, List, [], ◌∷◌}
use Rattle.pod_command.specs.declared.entry.Entry.{Entry}
use Rattle.pod_rows.specs.Apply.{applied}
use Rattle.pod_command.specs.declared.snapshot.Snapshot.{Snapshot}
use Rattle.pod_rows.specs.Pod.{Pod}
use Rattle.pod_rows.specs.WellFormed.{pod_of}
use Rattle.pod_pages.specs.Effects.{entry_effects, kept_effects, oldest_after}
use Rattle.pod_pages.specs.declared.entry_effects.Effect.{Effect}

pub record VersionState : Type 0 where
  pub pod : Pod
  pub next : ℕ
  pub effects : List Effect
  pub oldest : ℕ

-- The version of a snapshot, which keeps no effects.
abbrev pub first_state : Snapshot → VersionState
first_state snapshot = record {
  pod = pod_of snapshot;
  next = snapshot.seq;
  effects = [];
  oldest = snapshot.seq;
}

-- The version with these effects.
abbrev pub with_effects : List Effect → VersionState → VersionState
with_effects effects version = record {
  pod = version.pod;
  next = version.next;
  effects = effects;
  oldest = version.oldest;
}

-- The version after an entry: the pod after it, and its effects with those before it that are
-- recent enough.
abbrev pub state_after : VersionState → Entry → VersionState
state_after version entry =
    let oldest = oldest_after version.oldest (version.next + 1) in record {
      pod = applied version.pod entry;
      next = version.next + 1;
      effects = kept_effects oldest (version.effects ++ entry_effects version.pod entry);
      oldest = oldest;
    }

-- The version after these entries, one after another.
abbrev pub states_after : VersionState → List Entry → VersionState
states_after version [] = version
states_after version (entry ∷ more) = states_after (state_after version entry) more
