use Rattle.message_cases.proofs.RowLemmas.{few_rows}
use Rattle.message_cases.proofs.member_names.chosen.Goals as goal

pub choose-requires-clause-rows : goal.choose-requires-clause-rows
choose-requires-clause-rows c = few_rows c.args.texts.now c.requires.rows
