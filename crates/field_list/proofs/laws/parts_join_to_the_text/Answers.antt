use Rattle.field_list.specs.declared.quoting.Place.TheVariants.{Outside}
use Rattle.field_list.proofs.PartLemmas.{join-parts}
use Rattle.field_list.proofs.laws.parts_join_to_the_text.Goals as goal

pub returns : goal.returns
returns c = λ quoting separator text. join-parts quoting separator Outside text
