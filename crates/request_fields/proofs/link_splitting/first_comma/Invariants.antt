use Rattle.std.proofs.Common.{◌≡◌, take, drop}
use Rattle.request_fields.specs.LinkValues.{link_parts_from}
use Rattle.request_fields.specs.declared.link_splitting.LinkPlace.TheVariants.{Start}
use Rattle.request_fields.proofs.LinkLemmas.{onto}
use Rattle.request_fields.proofs.link_splitting.first_comma.Given as goal

abbrev pub invariant-loop-at : goal.invariant-loop-at
invariant-loop-at l =
    link_parts_from Start l.value ≡ onto (take l.at l.value) (link_parts_from l.place (drop l.at l.value))
