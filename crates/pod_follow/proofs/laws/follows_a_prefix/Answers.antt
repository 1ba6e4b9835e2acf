use Rattle.pod_follow.proofs.Prefix.{follows_prefix}
use Rattle.pod_follow.proofs.laws.follows_a_prefix.Goals as goal

pub returns : goal.returns
returns c = follows_prefix
