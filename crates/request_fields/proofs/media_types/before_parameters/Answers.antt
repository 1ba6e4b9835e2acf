use Rattle.std.proofs.Common.{sym, ◌∙◌}
use Rattle.request_fields.specs.MediaTypes.{is_semicolon}
use Rattle.request_fields.proofs.TextLemmas.{position_some, position_none}
use Rattle.request_fields.proofs.media_types.before_parameters.Goals as goal

pub returns-in-Some : goal.returns-in-Some
returns-in-Some c = position_some is_semicolon c.args.value.now c.in-Some.at (sym c.find_semicolon.ensures ∙ c.in-Some.is)

pub returns-in-None : goal.returns-in-None
returns-in-None c = position_none is_semicolon c.args.value.now (sym c.find_semicolon.ensures ∙ c.in-None.is)
