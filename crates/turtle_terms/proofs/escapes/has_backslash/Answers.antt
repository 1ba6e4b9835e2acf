use Rattle.std.proofs.Common.{sym, ◌∙◌, subst}
use Rattle.iri_ref.specs.Characters.{Lacks}
use Rattle.turtle_terms.specs.Values.{is_backslash}
use Rattle.turtle_terms.proofs.Decoding.{lacks_found}
use Rattle.turtle_terms.proofs.escapes.has_backslash.Goals as goal

pub returns : goal.returns
returns c = λ e. subst (Lacks is_backslash) c.as_bytes.ensures.value (lacks_found c.as_bytes.result.now (sym c.contains.ensures.value ∙ e))
