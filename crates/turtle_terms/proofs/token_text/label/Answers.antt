use Rattle.std.proofs.Common.{[], subst}
use Rattle.turtle_lex.specs.Tokens.{MatchesKind}
use Rattle.turtle_terms.proofs.Delimiters.{label_cut}
use Rattle.turtle_terms.proofs.token_text.label.Goals as goal

pub range_from-requires : goal.range_from-requires
range_from-requires c = λ _.
    let text = c.text_of-text.result.now in
    (label_cut text c.text_of-text.utf8 (subst (λ kind. MatchesKind kind text []) c.requires.kind c.text_of-text.ensures.of_kind)).1
