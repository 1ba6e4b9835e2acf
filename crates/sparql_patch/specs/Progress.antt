-- What the code keeps of the namings that it has read, the last one first.
use Rattle.std.specs.Prelude.{◌≡◌, ◌++◌, ◌∷◌, [], List, if◌then◌else◌}
use Rattle.std.specs.BTreeSet.{BTreeSet, contains}
use Rattle.rdf_graph.specs.Triple.{triple_cmp}
use Rattle.graph_patch.specs.declared.pattern.Pattern.{Pattern}
use Rattle.rdf_graph.specs.declared.triple.Triple.{Triple}
use Rattle.graph_patch.specs.declared.patch.Patch.{Patch}
use Rattle.sparql_patch.specs.declared.named.Named.{Named}
use Rattle.sparql_patch.specs.NamedUpdate.{IsSpelledAt, has_triple, is_named, pattern_of}

-- the set has the triples that these name
abbrev pub HasNamed : BTreeSet Triple → List Named → Type 0
HasNamed seen named = (t : Triple) → contains triple_cmp seen t ≡ is_named named t

-- These namings are read: the set has their triples, and they spell the patch.
pub record HasRead (g : List Triple) (named : List Named) (seen : BTreeSet Triple) (patch : Patch)
    : Type 0 where
  pub seen_is : HasNamed seen named
  pub spelled : IsSpelledAt g named patch

-- the pattern of a last naming, as a deletion and as an insertion
abbrev pub deletion_of : List Triple → Named → List Pattern
deletion_of g x = if x.insert then [] else
    if has_triple g x.triple then pattern_of x.triple ∷ [] else []

abbrev pub insertion_of : Named → List Pattern
insertion_of x = if x.insert then pattern_of x.triple ∷ [] else []

-- The new patch has the pattern of a last naming beside those of the old one.
pub record IsTaken (g : List Triple) (x : Named) (old new : Patch) : Type 0 where
  pub conditions : new.conditions.items ≡ old.conditions.items
  pub deletions : new.deletions.items ≡ old.deletions.items ++ deletion_of g x
  pub insertions : new.insertions.items ≡ old.insertions.items ++ insertion_of x

-- With one more naming, before those that are read, this is the new state.
abbrev pub ReadsOne : List Triple → Named → BTreeSet Triple → Patch → BTreeSet Triple → Patch → Type 0
ReadsOne g x seen patch seen_after patch_after = (named : List Named) → HasRead g named seen patch
    → HasRead g (x ∷ named) seen_after patch_after
