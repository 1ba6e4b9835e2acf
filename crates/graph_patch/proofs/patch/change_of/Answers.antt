use Rattle.std.proofs.Common.{inl, inr}
use Rattle.graph_patch.proofs.Instancing.{fault_of_check}
use Rattle.graph_patch.proofs.patch.change_of.Goals as goal

pub check-requires : goal.check-requires
check-requires c =
    record {
      deletions = λ name h. (c.requires.only.solution.variables name).1 (c.requires.bound name (inl h));
      insertions = λ name h. (c.requires.only.solution.variables name).1 (c.requires.bound name (inr h));
    }

pub change-requires : goal.change-requires
change-requires c =
    record {
      deletions = λ name h. (c.requires.only.solution.variables name).1 (c.requires.bound name (inl h));
      insertions = λ name h. (c.requires.only.solution.variables name).1 (c.requires.bound name (inr h));
      removed_rdf = c.in-Ok.ensures.fits.removed_rdf;
      added_rdf = c.in-Ok.ensures.fits.added_rdf;
    }

pub returns-in-Err-clause-fault : goal.returns-in-Err-clause-fault
returns-in-Err-clause-fault c =
    fault_of_check c.args.graph.now c.args.patch.now c.args.mapping.now.pairs.items c.in-Err.fault c.requires.only c.in-Err.ensures.fault
