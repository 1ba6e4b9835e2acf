use Rattle.std.proofs.Common.{[], sym, subst}
use Rattle.turtle_lex.specs.Tokens.{MatchesKind}
use Rattle.turtle_lex.proofs.TextLemmas.{token_text_is_of_kind, token_text_is_utf8}
use Rattle.turtle_terms.proofs.token_text.text_of.Goals as goal

pub unreachable-requires : goal.unreachable-requires
unreachable-requires c = c.in-Err.ensures.cases.0 (token_text_is_utf8 c.args.bytes.now c.args.token.now c.requires)

pub returns-clause-of_kind : goal.returns-clause-of_kind
returns-clause-of_kind c =
    subst (λ t. MatchesKind c.args.token.now.kind t []) (sym c.in-Ok.ensures.cases.0)
    (token_text_is_of_kind c.args.bytes.now c.args.token.now c.requires)
