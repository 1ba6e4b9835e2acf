use Rattle.field_list.specs.declared.quoting.Place.TheVariants.{Outside}
use Rattle.field_list.proofs.PartLemmas.{onto-nil}
use Rattle.field_list.proofs.separated_parts.first_separator.Goals as goal

pub loop-at-init : goal.loop-at-init
loop-at-init c = onto-nil c.args.quoting c.args.separator Outside c.args.text.now
