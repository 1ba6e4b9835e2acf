use Rattle.std.proofs.Common.{arith}
use Rattle.turtle_lex.specs.Pattern.{◌∘◌}
use Rattle.turtle_lex.specs.Terminals.{gap, comment}
use Rattle.turtle_lex.proofs.Matching.{leaves_suffix, suffix_trans}
use Rattle.turtle_lex.proofs.GroupLemmas.{token_shorter}
use Rattle.turtle_lex.proofs.NextLemmas.{gap_leaves_suffix, suffix_no_longer, answer_token, answer_closed, answer_open}
use Rattle.turtle_lex.proofs.NameLemmas.{known_after}
use Rattle.turtle_lex.proofs.token_search.first_token.Goals as goal

pub token_at-requires : goal.token_at-requires
token_at-requires c = known_after c.args.text.now c.in-Ok.rest.now c.args.no_prefix_before.now (leaves_suffix gap _ _ c.in-Ok.ensures.closed.0) c.requires.known

pub overflow_sub-result : goal.overflow_sub-result
overflow_sub-result c = suffix_no_longer _ _ (gap_leaves_suffix _ _ _ c.requires.suffix c.in-Ok.ensures.closed.0)

pub overflow_sub-result-in-Some : goal.overflow_sub-result-in-Some
overflow_sub-result-in-Some c = let h = suffix_no_longer _ _ (gap_leaves_suffix _ _ _ c.requires.suffix c.in-Ok.ensures.closed.0) in let k = token_shorter c.in-Some.kind _ _ c.in-Some.ensures.found.matches in omega arith

pub without_token-requires : goal.without_token-requires
without_token-requires c = gap_leaves_suffix _ _ _ c.requires.suffix c.in-Ok.ensures.closed.0

pub without_token-requires-in-Err : goal.without_token-requires-in-Err
without_token-requires-in-Err c = suffix_trans _ _ _ c.requires.suffix (leaves_suffix (gap ∘ comment) _ _ c.in-Err.ensures.open.0)

pub returns-in-Some : goal.returns-in-Some
returns-in-Some c = answer_token _ _ _ _ c.in-Some.kind c.requires.suffix c.in-Ok.ensures.closed.0 c.in-Some.ensures.found

pub returns-in-None : goal.returns-in-None
returns-in-None c = answer_closed _ _ _ c.without_token.result c.requires.suffix c.in-Ok.ensures.closed.0 c.in-Ok.ensures.closed.1 c.in-None.ensures.none c.without_token.ensures

pub returns-in-Err : goal.returns-in-Err
returns-in-Err c = answer_open _ _ _ c.without_token-in-Err.result c.requires.suffix c.in-Err.ensures.open.0 c.in-Err.ensures.open.1 c.without_token-in-Err.ensures
