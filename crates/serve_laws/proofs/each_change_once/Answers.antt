use Rattle.serve_laws.proofs.EachOnceLemmas.{each_change_once}
use Rattle.serve_laws.proofs.each_change_once.Goals as goal

pub returns : goal.returns
returns g c = each_change_once _ c.bases.ensures
