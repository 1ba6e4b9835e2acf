use Rattle.std.proofs.lemmas.Bool.Decides.{same_from_decides}
use Rattle.stored_forms.specs.Reading.{is_rdf}
use Rattle.stored_forms.proofs.Deciders.{rdf_decides}
use Rattle.stored_forms.proofs.graph_form.is_rdf.Goals as goal

pub returns : goal.returns
returns c = same_from_decides c.is_rdf.result (is_rdf c.args.triple.now) (c.is_rdf.ensures.0, c.is_rdf.ensures.1) (rdf_decides c.args.triple.now)
