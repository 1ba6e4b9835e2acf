-- The IRI that a reference in a document stands for.
use Rattle.std.specs.Prelude.{◌≡◌, ℕ, List}
use Rattle.iri_ref.specs.Components.{HasScheme}
use Rattle.iri_ref.specs.Resolution.{IsResolved}

-- A reference with a scheme stands for itself, as it is written: no normalization is made (RDF 1.1
-- Turtle, section 6.3). A relative one is resolved against the base.
pub record IsIriOfReference (base ref iri : List ℕ) : Type 0 where
  pub itself : HasScheme ref → iri ≡ ref
  pub relative : (HasScheme ref → ⊥) → IsResolved base ref iri
