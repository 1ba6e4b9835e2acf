-- The range of a list in order that has all the triples of a subject.
use Rattle.std.specs.Prelude.{List, Option, Contains}
use Rattle.rdf_graph.specs.Graph.{IsOrdered}
use Rattle.rdf_graph.specs.Triple.{IsGivenTerm}
use Rattle.rdf_graph.specs.declared.term.Term.{Term}
use Rattle.rdf_graph.specs.declared.triple.Triple.{Triple}

pub record IsSubjectRange (subject : Option Term)
    (triples subject_range : List Triple) : Type 0 where
  pub within : (x : Triple) → Contains subject_range x → Contains triples x
  pub complete : (x : Triple) → Contains triples x → IsGivenTerm subject x.s
      → Contains subject_range x
  pub ordered : IsOrdered subject_range
