use Rattle.std.proofs.Common.{◌≡◌, length}
use Rattle.field_list.specs.Joined.{joined_value}
use Rattle.field_list.proofs.repeated_field.joined_value.Given as goal

abbrev pub invariant-loop-field : goal.invariant-loop-field
invariant-loop-field l = joined_value l.name l.rest ≡ joined_value l.name l.fields

abbrev pub decreases-loop-field : goal.decreases-loop-field
decreases-loop-field l = length l.rest
