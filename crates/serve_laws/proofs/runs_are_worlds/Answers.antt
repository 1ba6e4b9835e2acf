use Rattle.serve_laws.proofs.WholeWorldLemmas.{runs_are_worlds}
use Rattle.serve_laws.proofs.runs_are_worlds.Goals as goal

pub returns : goal.returns
returns g c = runs_are_worlds _ c.bases.ensures c.complete.ensures.reads c.one_legal_history.ensures.grows
