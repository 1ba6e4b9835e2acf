use Rattle.podctl_commands.proofs.Excluded.{damage_once}
use Rattle.podctl_commands.proofs.laws.damaged_once.Goals as goal

pub returns : goal.returns
returns c = damage_once c.store_stands_once.ensures c.store_stands_or_damaged.ensures c.store_damaged_once.ensures
