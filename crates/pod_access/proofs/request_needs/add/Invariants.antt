use Rattle.std.proofs.Common.{◌≡◌, take}
use Rattle.std.specs.Prelude.{fold}
use Rattle.pod_access.specs.Needs.{on, with_need}
use Rattle.pod_access.proofs.request_needs.add.Given as goal

-- the needs with those of the modes so far
abbrev pub invariant-loop-mode : goal.invariant-loop-mode
invariant-loop-mode l = l.needs.items ≡ fold with_need l.initial.needs.items (on l.path (take l.mode-index l.modes))
