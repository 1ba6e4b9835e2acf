use Rattle.std.proofs.Common.{◌↔◌, subst}
use Rattle.std.specs.List.{All, Contains}
use Rattle.std.specs.Prelude.{IsTrue}
use Rattle.rdf_graph.proofs.change.Change.fits.Goals as goal

pub returns : goal.returns
returns c = subst (λ xs. IsTrue c.contains_all.result ↔ All (Contains c.args.graph.now) xs) c.as_slice.ensures.triples c.contains_all.ensures
