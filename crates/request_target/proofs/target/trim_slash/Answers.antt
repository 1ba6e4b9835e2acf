use Rattle.pod_path.proofs.Ends.{without_last_slash_none}
use Rattle.request_target.proofs.target.trim_slash.Goals as goal

pub returns-in-None : goal.returns-in-None
returns-in-None c = without_last_slash_none c.args.text.now c.in-None.ensures.none
