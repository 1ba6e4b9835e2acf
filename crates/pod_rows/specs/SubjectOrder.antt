-- Triples in the order of their subjects, and where the triples of the first subject end.
use Rattle.std.specs.Prelude.{Bool, true, ◌&&◌, if◌then◌else◌, List, [], ◌∷◌}
use Rattle.std.specs.Ordering.{is_le}
use Rattle.rdf_graph.specs.Term.{term_eq}
use Rattle.rdf_graph.specs.TermOrder.{term_cmp}
use Rattle.rdf_graph.specs.declared.term.Term.{Term}
use Rattle.rdf_graph.specs.declared.triple.Triple.{Triple}

-- The subject isn't after that of the next triple, if there is one.
abbrev pub is_by_next : Triple → List Triple → Bool
is_by_next t [] = true
is_by_next t (u ∷ us) = is_le (term_cmp t.s u.s)

-- Are the triples in the order of their subjects?
abbrev pub are_by_subject : List Triple → Bool
are_by_subject [] = true
are_by_subject (t ∷ ts) = is_by_next t ts && are_by_subject ts

-- The triples from the first that has another subject.
abbrev pub after_subject : Term → List Triple → List Triple
after_subject node [] = []
after_subject node (t ∷ ts) = if term_eq t.s node then after_subject node ts else t ∷ ts

-- The triples before the first that has another subject.
abbrev pub of_subject : Term → List Triple → List Triple
of_subject node [] = []
of_subject node (t ∷ ts) = if term_eq t.s node then t ∷ of_subject node ts else []
