use Rattle.std.proofs.Common.{[], subst}
use Rattle.turtle_lex.specs.Tokens.{MatchesKind}
use Rattle.turtle_terms.proofs.Delimiters.{variable_cut}
use Rattle.turtle_terms.proofs.token_text.variable.Goals as goal

pub range_from-requires : goal.range_from-requires
range_from-requires c = λ _.
    let text = c.text_of-text.result.now in
    (variable_cut text c.text_of-text.utf8 (subst (λ kind. MatchesKind kind text []) c.requires.kind c.text_of-text.ensures.of_kind)).1
