use Rattle.pod_path.proofs.Ends.{without_last_slash_none}
use Rattle.pod_path.proofs.path_text.trim_slash.Goals as goal

pub returns-in-None : goal.returns-in-None
returns-in-None c = without_last_slash_none c.args.path.now c.in-None.ensures.none
