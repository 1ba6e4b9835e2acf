use Rattle.std.proofs.Common.{refl}
use Rattle.access_index.proofs.Governance.{listed_rows}
use Rattle.access_index.proofs.laws.rows_law.Goals as goal

pub returns : goal.returns
returns c = record { effective = λ rows path. refl; listed = listed_rows }
