-- How prefixes of two texts decide their order.
use Rattle.std.specs.Prelude.{ℕ, List, [], ◌∷◌, ◌++◌, ◌≡◌, codes}
use Rattle.std.specs.Ordering.{ordering_then}
use Rattle.std.specs.declared.cmp.Ordering.{Ordering}
use Rattle.rdf_graph.specs.Term.{text}
use Rattle.rdf_graph.specs.Triple.{bytes_cmp}
use Rattle.rdf_graph.specs.declared.triple.Triple.{Triple}

-- Texts with the prefixes xs and ys, each followed by the mark, are in the order o. Where o is
-- `Equal`, what follows the marks decides.
pub record DecidesOrder (mark : ℕ) (xs ys : List ℕ) (o : Ordering) : Type 0 where
  pub whole : (us vs : List ℕ)
      → bytes_cmp (xs ++ (mark ∷ us)) (ys ++ (mark ∷ vs)) ≡ ordering_then o (bytes_cmp us vs)

-- the first byte of a text, or the mark that follows it
abbrev pub first_or : ℕ → List ℕ → ℕ
first_or mark [] = mark
first_or mark (x ∷ xs) = x

-- a line from its object on
abbrev pub from_object : Triple → List ℕ
from_object t = text t.o ++ codes " .\n"

-- a line from its predicate on
abbrev pub from_predicate : Triple → List ℕ
from_predicate t = text t.p ++ (codes " " ++ from_object t)
