use Rattle.std.proofs.Common.{◌≡◌, take, drop}
use Rattle.field_list.specs.Places.{parts_from}
use Rattle.field_list.specs.declared.quoting.Place.TheVariants.{Outside}
use Rattle.field_list.proofs.PartLemmas.{onto}
use Rattle.field_list.proofs.separated_parts.first_separator.Given as goal

abbrev pub invariant-loop-at : goal.invariant-loop-at
invariant-loop-at l =
    parts_from l.quoting l.separator Outside l.text
    ≡ onto (take l.at l.text) (parts_from l.quoting l.separator l.place (drop l.at l.text))
