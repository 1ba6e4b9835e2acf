use Rattle.access_index.proofs.Kept.{no_tables}
use Rattle.access_index.proofs.index.AccessIndex.of.Goals as goal

pub changed-requires-clause-tables : goal.changed-requires-clause-tables
changed-requires-clause-tables c = no_tables
