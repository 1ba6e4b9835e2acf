-- What follows from the definitions. Each law is the contract of a function of `laws`.
use Rattle.std.specs.Prelude.{◌≡◌, Bool, List, Result}
use Rattle.rdf_graph.specs.declared.change.Change.{Change}
use Rattle.graph_patch.specs.declared.patch.Patch.{Patch}
use Rattle.rdf_graph.specs.declared.triple.Triple.{Triple}
use Rattle.sparql_patch.specs.declared.named.Named.{Named}
use Rattle.patch_outcome.specs.Outcomes.{HasGraphs, IsOutcome}
use Rattle.patch_outcome.specs.Updates.{IsUpdateOutcome}
use Rattle.patch_outcome.specs.declared.patch_refusals.PatchRefusal.{PatchRefusal}

-- A patch has at most one outcome at a graph. It depends on the items of the patch's lists alone.
abbrev pub HasOneOutcome : Type 0
HasOneOutcome = (container : Bool) (g : List Triple) (p q : Patch)
    (a b : Result Change PatchRefusal) → p.conditions.items ≡ q.conditions.items
    → p.deletions.items ≡ q.deletions.items → p.insertions.items ≡ q.insertions.items
    → HasGraphs a → HasGraphs b
    → IsOutcome container g p a → IsOutcome container g q b → a ≡ b

-- So has an update.
abbrev pub HasOneUpdateOutcome : Type 0
HasOneUpdateOutcome = (container : Bool) (g : List Triple) (named : List Named)
    (a b : Result Change PatchRefusal) → HasGraphs a → HasGraphs b
    → IsUpdateOutcome container g named a → IsUpdateOutcome container g named b → a ≡ b
