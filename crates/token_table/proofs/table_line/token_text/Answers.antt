use Rattle.token_table.proofs.TokenLemmas.{token_utf8, utf8_ok}
use Rattle.token_table.proofs.table_line.token_text.Goals as goal

pub unwrap-requires : goal.unwrap-requires
unwrap-requires c = utf8_ok _ _ _ c.from_utf8.result c.from_utf8.ensures.cases (token_utf8 c.args.token.now c.requires)
