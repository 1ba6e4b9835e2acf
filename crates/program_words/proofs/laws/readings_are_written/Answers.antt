use Rattle.program_words.proofs.ReadingLaws.{reads_what_is_written}
use Rattle.program_words.proofs.laws.readings_are_written.Goals as goal

pub returns : goal.returns
returns c = reads_what_is_written
