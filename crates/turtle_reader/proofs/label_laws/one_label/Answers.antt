use Rattle.turtle_reader.proofs.DocumentLemmas.{one_label, labels_differ, label_is_new}
use Rattle.turtle_reader.proofs.label_laws.one_label.Goals as goal

pub returns-clause-one : goal.returns-clause-one
returns-clause-one c = one_label

pub returns-clause-differ : goal.returns-clause-differ
returns-clause-differ c = labels_differ

pub returns-clause-new : goal.returns-clause-new
returns-clause-new c = label_is_new
