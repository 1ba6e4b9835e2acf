use Rattle.std.proofs.Common.{lit<}
use Rattle.std.proofs.lemmas.Str.Pattern.{split_once_first}
use Rattle.program_words.proofs.Splitting.{split_is}
use Rattle.program_words.proofs.subcommand.split_value.Goals as goal

pub returns : goal.returns
returns c = split_is c.args.word.now c.split_once.result (split_once_first 61 c.args.word.now c.split_once.result c.split_once.ensures.cases (lit< tt))
