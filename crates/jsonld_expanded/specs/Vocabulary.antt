-- IRIs of RDF and of XML Schema that expanded JSON-LD has words for.
use Rattle.std.specs.Prelude.{ℕ, List}
use Rattle.rdf_graph.specs.declared.vocabulary.TheConstants.{RDF_FIRST, RDF_NIL, RDF_REST, RDF_TYPE}
use Rattle.rdf_graph.specs.declared.vocabulary.TheConstants.{XSD_BOOLEAN, XSD_INTEGER, XSD_STRING}

unfoldable pub rdf_type : List ℕ
rdf_type = RDF_TYPE.now

unfoldable pub rdf_first : List ℕ
rdf_first = RDF_FIRST.now

unfoldable pub rdf_rest : List ℕ
rdf_rest = RDF_REST.now

unfoldable pub rdf_nil : List ℕ
rdf_nil = RDF_NIL.now

unfoldable pub xsd_string : List ℕ
xsd_string = XSD_STRING.now

unfoldable pub xsd_boolean : List ℕ
xsd_boolean = XSD_BOOLEAN.now

unfoldable pub xsd_integer : List ℕ
xsd_integer = XSD_INTEGER.now
