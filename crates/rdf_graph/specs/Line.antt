-- The bytes of a line that are not yet yielded.
use Rattle.std.specs.Prelude.{ℕ, List, [], ◌++◌, codes}
use Rattle.rdf_graph.specs.Term.{text}
use Rattle.rdf_graph.specs.Written.{written_rest}
use Rattle.rdf_graph.specs.declared.triple_line.Line.{Line}
use Rattle.rdf_graph.specs.declared.triple_line.LineTail.{LineTail}
use Rattle.rdf_graph.specs.declared.triple_line.LineTail.TheVariants.{Predicate, Object}
use Rattle.rdf_graph.specs.declared.triple_line.LineTail.TheVariants.{PredicateIri, ObjectIri, Stop}
use Rattle.rdf_graph.specs.declared.triple_line.LineTail.TheVariants.{Space, Nothing}
use Rattle.rdf_graph.specs.declared.term.Term.TheVariants.{Iri}

-- what follows the current term
abbrev pub tail_rest : LineTail → List ℕ
tail_rest (Predicate t) =
    codes " " ++ (text t.p.now ++ (codes " " ++ (text t.o.now ++ codes " .\n")))
tail_rest (Object t) = codes " " ++ (text t.o.now ++ codes " .\n")
tail_rest (PredicateIri p o) =
    codes " " ++ (text (Iri p.now) ++ (codes " " ++ (text (Iri o.now) ++ codes " .\n")))
tail_rest (ObjectIri o) = codes " " ++ (text (Iri o.now) ++ codes " .\n")
tail_rest Stop = codes " .\n"
tail_rest Space = codes " "
tail_rest Nothing = []

abbrev pub line_rest : Line → List ℕ
line_rest l = written_rest l.now ++ tail_rest l.tail
