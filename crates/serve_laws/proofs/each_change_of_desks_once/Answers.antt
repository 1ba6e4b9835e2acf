use Rattle.serve_laws.proofs.DesksOnceLemmas.{each_change_of_desks_once}
use Rattle.serve_laws.proofs.each_change_of_desks_once.Goals as goal

pub returns : goal.returns
returns g c = each_change_of_desks_once _ _ _ _ _ _ _ _ _ _ _ _ c.bases.ensures
