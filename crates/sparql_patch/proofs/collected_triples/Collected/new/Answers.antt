use Rattle.std.proofs.Common.{[], refl}
use Rattle.sparql_patch.proofs.Counting.{nothing}
use Rattle.sparql_patch.proofs.collected_triples.Collected.new.Goals as goal

pub returns : goal.returns
returns c = record {
  blank = refl;
  named = λ no. record { all = []; are_named = refl; counted = record { size_is = nothing; kept = λ fits. c.new.ensures.items } };
}
