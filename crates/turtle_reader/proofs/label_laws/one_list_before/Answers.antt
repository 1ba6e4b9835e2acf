use Rattle.turtle_reader.proofs.DocumentLemmas.{one_list_before}
use Rattle.turtle_reader.proofs.label_laws.one_list_before.Goals as goal

pub returns : goal.returns
returns c = one_list_before
