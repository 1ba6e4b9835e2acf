-- What follows from the definitions. Each law is the contract of a function of `laws`.
use Rattle.std.specs.Prelude.{◌≡◌, ℕ, List}
use Rattle.graph_patch.specs.declared.patch.Patch.{Patch}
use Rattle.n3_patch.specs.declared.fault.PatchRule.{PatchRule}
use Rattle.n3_patch.specs.declared.triples.PatchTriple.{PatchTriple}
use Rattle.n3_patch.specs.Rules.{IsFirstBroken, IsJudged}
use Rattle.n3_patch.specs.Spells.{PatchSpells}

-- two patches have the same lists
pub record SamePatch (a b : Patch) : Type 0 where
  pub conditions : a.conditions.items ≡ b.conditions.items
  pub deletions : a.deletions.items ≡ b.deletions.items
  pub insertions : a.insertions.items ≡ b.insertions.items

-- Triples have at most one patch.
abbrev pub HasOnePatch : Type 0
HasOnePatch = (triples : List PatchTriple) (a b : Patch) → IsJudged triples a → IsJudged triples b
    → SamePatch a b

-- They break at most one rule first, and none where they have a patch.
abbrev pub HasOneRule : Type 0
HasOneRule = (triples : List PatchTriple) (a b : PatchRule) → IsFirstBroken triples a
    → IsFirstBroken triples b → a ≡ b

abbrev pub PatchBreaksNone : Type 0
PatchBreaksNone = (triples : List PatchTriple) (patch : Patch) (broken : PatchRule)
    → IsJudged triples patch → IsFirstBroken triples broken → ⊥

-- A text parses to at most one patch.
abbrev pub HasOneSpelledPatch : Type 0
HasOneSpelledPatch = (base bytes : List ℕ) (a b : Patch) → PatchSpells base bytes a
    → PatchSpells base bytes b → SamePatch a b
