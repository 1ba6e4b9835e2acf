use Rattle.std.proofs.Common.{sym, ◌∙◌}
use Rattle.iri_ref.specs.Characters.{is_question_mark}
use Rattle.pod_path.proofs.Escaping.{position_some, position_none}
use Rattle.pod_path.proofs.normalize.strip_query.Goals as goal

pub returns-in-Some : goal.returns-in-Some
returns-in-Some c = position_some is_question_mark c.args.target.now c.in-Some.at (sym c.find_query.ensures ∙ c.in-Some.is)

pub returns-in-None : goal.returns-in-None
returns-in-None c = position_none is_question_mark c.args.target.now (sym c.find_query.ensures ∙ c.in-None.is)
