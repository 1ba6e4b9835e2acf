-- A triple by references to its terms.
use Rattle.rdf_graph.specs.declared.triple.Triple.{Triple}
use Rattle.rdf_graph.specs.declared.triple_ref.TripleRef.{TripleRef}

abbrev pub triple_of : TripleRef → Triple
triple_of r = record { s = r.s.now; p = r.p.now; o = r.o.now }
