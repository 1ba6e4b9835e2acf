-- Graphs as sets of triples: the one list of a set, and what a change makes of it.
use Rattle.std.specs.Prelude.{Bool, not, ◌&&◌, List, [], ◌∷◌, ◌++◌, filter}
use Rattle.std.specs.List.{list_any, list_all}
use Rattle.std.specs.declared.cmp.Ordering.{Ordering}
use Rattle.std.specs.declared.cmp.Ordering.TheVariants.{Less, Equal, Greater}
use Rattle.rdf_graph.specs.Term.{term_eq}
use Rattle.rdf_graph.specs.Triple.{triple_cmp}
use Rattle.rdf_graph.specs.declared.triple.Triple.{Triple}

-- Where the order of t and u puts t: before u, in its place, or among those after it.
abbrev pub placed : Ordering → Triple → Triple → List Triple → List Triple → List Triple
placed Less t u us more = t ∷ u ∷ us
placed Equal t u us more = u ∷ us
placed Greater t u us more = u ∷ more

-- The list of a graph with one more triple.
abbrev pub with_triple : Triple → List Triple → List Triple
with_triple t [] = t ∷ []
with_triple t (u ∷ us) = placed (triple_cmp t u) t u us (with_triple t us)

-- The list of the graph of these triples: each once, in the order of graphs.
abbrev pub graph_of : List Triple → List Triple
graph_of [] = []
graph_of (t ∷ ts) = with_triple t (graph_of ts)

-- Are the triples equal?
abbrev pub triple_eq : Triple → Triple → Bool
triple_eq t u = term_eq t.s u.s && (term_eq t.p u.p && term_eq t.o u.o)

-- Is the triple in the list?
abbrev pub has_triple : List Triple → Triple → Bool
has_triple triples t = list_any (λ u. triple_eq u t) triples

-- Are all of these in the list?
abbrev pub has_triples : List Triple → List Triple → Bool
has_triples triples these = list_all (has_triple triples) these

-- (The graph without the removed triples) with the added ones.
abbrev pub changed_graph : List Triple → List Triple → List Triple → List Triple
changed_graph triples removed added =
    graph_of (filter (λ t. not (has_triple removed t)) triples ++ added)
