use Rattle.request_fields.specs.declared.link_splitting.LinkPlace.TheVariants.{Start}
use Rattle.request_fields.proofs.LinkLemmas.{onto-nil}
use Rattle.request_fields.proofs.link_splitting.first_comma.Goals as goal

pub loop-at-init : goal.loop-at-init
loop-at-init c = onto-nil Start c.args.value.now
