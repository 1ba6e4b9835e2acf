use Rattle.std.proofs.Common.{length}
use Rattle.program_words.proofs.podd_options.+given_after.Given as goal

abbrev pub decreases-given_after : goal.decreases-given_after
decreases-given_after l = length l.words.now
