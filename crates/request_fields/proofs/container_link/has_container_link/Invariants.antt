use Rattle.std.proofs.Common.{◌≡◌, length}
use Rattle.std.specs.List.{list_any}
use Rattle.request_fields.specs.Links.{is_container_link}
use Rattle.request_fields.specs.LinkValues.{links}
use Rattle.request_fields.proofs.container_link.has_container_link.Given as goal

abbrev pub invariant-loop-link : goal.invariant-loop-link
invariant-loop-link l = list_any is_container_link (links l.rest) ≡ list_any is_container_link (links l.value)

abbrev pub decreases-loop-link : goal.decreases-loop-link
decreases-loop-link l = length l.rest
