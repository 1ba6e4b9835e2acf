use Rattle.podctl_commands.proofs.Excluded.{store_excludes_empty}
use Rattle.podctl_commands.proofs.laws.store_or_empty.Goals as goal

pub returns : goal.returns
returns c = store_excludes_empty c.store_empty_only.ensures
