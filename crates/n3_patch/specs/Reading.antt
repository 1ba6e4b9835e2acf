-- What is kept of a patch document as it is read.
use Rattle.std.specs.Prelude.{◌≡◌, ℕ, List, Some}
use Rattle.turtle_reader.specs.declared.referent.ResolvedTriple.{ResolvedTriple}
use Rattle.turtle_reader.specs.Handed.{AreEach}
use Rattle.n3_patch.specs.declared.triples.PatchTriple.{PatchTriple}
use Rattle.n3_patch.specs.Spells.{IsReferentNode, within_formula}

-- the triple is that of these referents
pub record IsReferentTriple (bytes : List ℕ) (resolved : ResolvedTriple) (triple : PatchTriple)
    : Type 0 where
  pub subject : IsReferentNode bytes (Some resolved.subject) triple.subject
  pub predicate : IsReferentNode bytes (Some resolved.predicate) triple.predicate
  pub object : IsReferentNode bytes (Some resolved.object) triple.object
  pub formula : triple.formula ≡ within_formula resolved.within

-- the triples are those of these referents, in their order
abbrev pub AreMade : List ℕ → List ResolvedTriple → List PatchTriple → Type 0
AreMade bytes handed triples = AreEach (IsReferentTriple bytes) handed triples
