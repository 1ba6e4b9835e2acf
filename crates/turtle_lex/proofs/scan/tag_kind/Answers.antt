use Rattle.turtle_lex.proofs.WordLemmas.{tag_leaves_suffix, plain_tag}
use Rattle.turtle_lex.proofs.scan.tag_kind.Goals as goal

pub is_word_before-requires : goal.is_word_before-requires
is_word_before-requires c = tag_leaves_suffix _ _ c.requires

pub is_word_before-requires-2 : goal.is_word_before-requires-2
is_word_before-requires-2 c = tag_leaves_suffix _ _ c.requires

pub returns-else-is_word_before-2 : goal.returns-else-is_word_before-2
returns-else-is_word_before-2 c = plain_tag _ _ c.requires (λ x. c.if-is_word_before.ensures x) (λ x. c.if-is_word_before-2.ensures x)
