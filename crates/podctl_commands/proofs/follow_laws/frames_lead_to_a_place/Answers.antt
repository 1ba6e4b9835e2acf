use Rattle.podctl_commands.proofs.Histories.{follows_history}
use Rattle.podctl_commands.proofs.follow_laws.frames_lead_to_a_place.Goals as goal

pub returns : goal.returns
returns c = follows_history
