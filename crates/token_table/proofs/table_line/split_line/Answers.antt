use Rattle.std.proofs.Common.{◌∷◌, sym, ◌∙◌, ap}
use Rattle.std.specs.List.{before_first}
use Rattle.token_table.specs.TableLines.{lines_of, is_line_feed}
use Rattle.token_table.proofs.CutLemmas.{lines_some}
use Rattle.token_table.proofs.TokenLemmas.{some_from}
use Rattle.token_table.proofs.table_line.split_line.Goals as goal

pub returns-clause-some : goal.returns-clause-some
returns-clause-some c =
    lines_some c.args.text.now (some_from _ (sym c.is_empty.ensures ∙ c.if-is_empty.false))
    ∙ sym (ap (λ line. line ∷ lines_of c.split_byte.result.1.now) c.split_byte.ensures.before ∙ ap (λ rest. before_first is_line_feed c.args.text.now ∷ lines_of rest) c.split_byte.ensures.after)
