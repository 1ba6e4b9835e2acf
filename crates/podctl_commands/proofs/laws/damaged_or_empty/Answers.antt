use Rattle.podctl_commands.proofs.Excluded.{damage_excludes_empty}
use Rattle.podctl_commands.proofs.laws.damaged_or_empty.Goals as goal

pub returns : goal.returns
returns c = damage_excludes_empty c.store_empty_only.ensures
