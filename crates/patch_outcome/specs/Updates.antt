-- What an update of SPARQL data does to the graph of a row, or why it is refused. Containment is
-- judged by all triples that it names.
use Rattle.std.specs.Prelude.{Bool, false, ◌&&◌, IsTrue, ◌⊎◌, List, Result, Err}
use Rattle.std.specs.List.{list_any}
use Rattle.pod_rows.specs.Vocabulary.{ldp_contains}
use Rattle.rdf_graph.specs.Term.{term_eq}
use Rattle.rdf_graph.specs.declared.change.Change.{Change}
use Rattle.graph_patch.specs.declared.patch.Patch.{Patch}
use Rattle.rdf_graph.specs.declared.term.Term.TheVariants.{Iri}
use Rattle.rdf_graph.specs.declared.triple.Triple.{Triple}
use Rattle.sparql_patch.specs.NamedUpdate.{IsSpelledAt}
use Rattle.sparql_patch.specs.declared.named.Named.{Named}
use Rattle.patch_outcome.specs.Outcomes.{IsOutcome}
use Rattle.patch_outcome.specs.declared.patch_refusals.PatchRefusal.{PatchRefusal}
use Rattle.patch_outcome.specs.declared.patch_refusals.PatchRefusal.TheVariants.{Contains}

abbrev pub is_containment : Named → Bool
is_containment naming = term_eq naming.triple.p (Iri ldp_contains)

-- whether a triple that the update names is about containment
abbrev pub names_containment : List Named → Bool
names_containment named = list_any is_containment named

-- the outcome of the patch that the update spells at the graph
pub record IsSpelledOutcome (g : List Triple) (named : List Named)
    (outcome : Result Change PatchRefusal) : Type 0 where
  pub patch : Patch
  pub spelled : IsSpelledAt g named patch
  pub applied : IsOutcome false g patch outcome

abbrev pub IsContainsRefusal : Result Change PatchRefusal → Type 0
IsContainsRefusal (Err Contains) = Unit {0}
IsContainsRefusal _ = ⊥

-- The outcome of an update of a row with the graph g, which is a container or isn't.
abbrev pub IsUpdateOutcome : Bool → List Triple → List Named → Result Change PatchRefusal → Type 0
IsUpdateOutcome container g named outcome =
    (IsTrue (container && names_containment named) × IsContainsRefusal outcome)
    ⊎ ((IsTrue (container && names_containment named) → ⊥) × IsSpelledOutcome g named outcome)
