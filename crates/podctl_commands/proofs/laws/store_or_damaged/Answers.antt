use Rattle.podctl_commands.proofs.Excluded.{store_excludes_damage}
use Rattle.podctl_commands.proofs.laws.store_or_damaged.Goals as goal

pub returns : goal.returns
returns c = store_excludes_damage c.store_stands_once.ensures c.store_stands_or_damaged.ensures
