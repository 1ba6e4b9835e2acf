use Rattle.std.proofs.Common.{◌≡◌, ◌++◌, take}
use Rattle.std.specs.List.{flat_map}
use Rattle.field_list.specs.Joined.{added}
use Rattle.field_list.proofs.repeated_field.with_further.Given as goal

abbrev pub invariant-loop-field : goal.invariant-loop-field
invariant-loop-field l = l.value ≡ l.first ++ flat_map (added l.name) (take l.field-index l.rest)
