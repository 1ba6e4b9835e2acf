use Rattle.turtle_terms.proofs.Decoding.{plain_value}
use Rattle.turtle_terms.proofs.token_text.decoded_text.Goals as goal

pub returns-then-not-has_backslash : goal.returns-then-not-has_backslash
returns-then-not-has_backslash c = rw (plain_value c.args.content.now (c.has_backslash.ensures c.if-not-has_backslash.true)) c.of.ensures
