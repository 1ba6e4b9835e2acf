-- The order of terms: the byte order of their texts.
use Rattle.std.specs.declared.cmp.Ordering.{Ordering}
use Rattle.std.specs.Ordering.{on}
use Rattle.rdf_graph.specs.Term.{text}
use Rattle.rdf_graph.specs.Triple.{bytes_cmp}
use Rattle.rdf_graph.specs.declared.term.Term.{Term}

unfoldable pub term_cmp : Term → Term → Ordering
term_cmp = on text bytes_cmp
