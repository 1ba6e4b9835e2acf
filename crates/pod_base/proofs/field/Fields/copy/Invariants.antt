use Rattle.std.proofs.Common.{◌≡◌, take}
use Rattle.pod_base.proofs.field.Fields.copy.Given as goal

-- the fields so far are copied
abbrev pub invariant-loop-field : goal.invariant-loop-field
invariant-loop-field l = l.copy ≡ take l.field-index l.field-items
