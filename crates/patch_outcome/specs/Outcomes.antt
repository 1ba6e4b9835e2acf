-- What a patch does to the graph of a row, or why it is refused (Solid Protocol, section 5.3.1).
-- The children of a container are no triples of its own, so no patch of it names `ldp:contains`.
use Rattle.std.specs.Prelude.{◌⊎◌, ℕ, Bool, IsTrue, List, Option, Some, None, Result, Ok, Err}
use Rattle.std.specs.Prelude.{codes}
use Rattle.pod_rows.specs.Vocabulary.{ldp_contains}
use Rattle.rdf_graph.specs.Graph.{IsGraph}
use Rattle.graph_patch.specs.Patch.{HasPredicate, IsChangeOf, IsFaultOf, IsTheSolution}
use Rattle.graph_patch.specs.Pattern.{Binding}
use Rattle.rdf_graph.specs.declared.change.Change.{Change}
use Rattle.graph_patch.specs.declared.patch.Patch.{Patch}
use Rattle.graph_patch.specs.declared.patch.PatchFault.{PatchFault}
use Rattle.graph_patch.specs.declared.patch.PatchFault.TheVariants as faults
use Rattle.rdf_graph.specs.declared.triple.Triple.{Triple}
use Rattle.patch_outcome.specs.declared.patch_refusals.PatchRefusal.{PatchRefusal}
use Rattle.patch_outcome.specs.declared.patch_refusals.PatchRefusal.TheVariants.{Contains, NoMatch}
use Rattle.patch_outcome.specs.declared.patch_refusals.PatchRefusal.TheVariants.{ManyMatches, NotTriple}
use Rattle.patch_outcome.specs.declared.patch_refusals.PatchRefusal.TheVariants.{MissingDeletion}

-- under the mapping a deletion or an insertion has `ldp:contains` as its predicate
abbrev pub NamesContainment : Binding → Patch → Type 0
NamesContainment mapping patch = HasPredicate mapping patch.deletions.items ldp_contains
    ⊎ HasPredicate mapping patch.insertions.items ldp_contains

-- so it is whatever the graph
abbrev pub HasFixedContainment : Patch → Type 0
HasFixedContainment patch = NamesContainment (λ name. None) patch

-- so it is under the one solution of the conditions
pub record HasSolvedContainment (g : List Triple) (patch : Patch) : Type 0 where
  pub mapping : Binding
  pub only : IsTheSolution g patch.conditions.items mapping
  pub names : NamesContainment mapping patch

abbrev pub TouchesContainment : List Triple → Patch → Type 0
TouchesContainment g patch = HasFixedContainment patch ⊎ HasSolvedContainment g patch

-- A patch of a container doesn't touch containment.
abbrev pub KeepsContainment : Bool → List Triple → Patch → Type 0
KeepsContainment container g patch = IsTrue container → TouchesContainment g patch → ⊥

-- the fault of the patch that a refusal reports; none where it is about containment
abbrev pub fault_of : PatchRefusal → Option PatchFault
fault_of Contains = None
fault_of NoMatch = Some faults.NoMatch
fault_of ManyMatches = Some faults.ManyMatches
fault_of MissingDeletion = Some faults.MissingDeletion
fault_of NotTriple = Some faults.NotTriple

abbrev pub IsRefusedBy : Bool → List Triple → Patch → Option PatchFault → Type 0
IsRefusedBy container g patch None = IsTrue container × TouchesContainment g patch
IsRefusedBy container g patch (Some fault) =
    KeepsContainment container g patch × IsFaultOf g patch fault

-- why a patch of a row with the graph g is refused; the first of these that holds is reported
abbrev pub IsRefusal : Bool → List Triple → Patch → PatchRefusal → Type 0
IsRefusal container g patch refusal = IsRefusedBy container g patch (fault_of refusal)

-- The outcome of a patch of a row with the graph g, which is a container or isn't.
abbrev pub IsOutcome : Bool → List Triple → Patch → Result Change PatchRefusal → Type 0
IsOutcome container g patch (Ok change) =
    KeepsContainment container g patch × IsChangeOf g patch change
IsOutcome container g patch (Err refusal) = IsRefusal container g patch refusal

-- The triples of a change are graphs: each once, in the order of graphs.
abbrev pub HasGraphs : Result Change PatchRefusal → Type 0
HasGraphs (Ok change) = IsGraph change.removed × IsGraph change.added
HasGraphs (Err refusal) = Unit {0}

-- the word of a refusal
abbrev pub word_of : PatchRefusal → List ℕ
word_of Contains = codes "contains"
word_of NoMatch = codes "no-match"
word_of ManyMatches = codes "many-matches"
word_of MissingDeletion = codes "missing-deletion"
word_of NotTriple = codes "not-triple"
