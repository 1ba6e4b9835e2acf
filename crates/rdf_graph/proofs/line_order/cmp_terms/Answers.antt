use Rattle.rdf_graph.proofs.LineOrders.{decides_iris, decides_blanks}
use Rattle.rdf_graph.proofs.line_order.cmp_terms.Goals as goal

pub returns-in-Iri-Iri : goal.returns-in-Iri-Iri
returns-in-Iri-Iri c =
    decides_iris c.args.a.now c.args.b.now c.as_bytes.result.now c.as_bytes-in-Iri-Iri.result.now c.cmp_marked.result (cc) (cc) c.cmp_marked.ensures

pub returns-in-Blank-Blank : goal.returns-in-Blank-Blank
returns-in-Blank-Blank c =
    decides_blanks c.args.a.now c.args.b.now c.as_bytes-in-Blank-Blank.result.now c.as_bytes-in-Blank-Blank-2.result.now c.cmp_marked-in-Blank-Blank.result (cc) (cc)
    c.cmp_marked-in-Blank-Blank.ensures
