use Rattle.turtle_reader.proofs.Words.{word_is}
use Rattle.turtle_reader.proofs.lexing.word_at.Goals as goal

pub returns-in-Some-clause-found : goal.returns-in-Some-clause-found
returns-in-Some-clause-found c =
    word_is c.args.bytes.now c.split_at.result.1.now c.args.at c.in-Some.symbol c.in-Some.rest.now c.requires c.split_at.ensures.back c.in-Some.ensures.found
