use Rattle.podctl_commands.proofs.Histories.{answers_at_place}
use Rattle.podctl_commands.proofs.follow_laws.reads_are_of_that_place.Goals as goal

pub returns : goal.returns
returns c = answers_at_place
