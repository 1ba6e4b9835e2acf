-- The IRIs that Turtle's shorthands stand for.
use Rattle.std.specs.Prelude.{ℕ, List}
use Rattle.rdf_graph.specs.declared.vocabulary.TheConstants.{RDF_TYPE, RDF_NIL, RDF_FIRST}
use Rattle.rdf_graph.specs.declared.vocabulary.TheConstants.{RDF_REST, XSD_STRING, XSD_INTEGER}
use Rattle.rdf_graph.specs.declared.vocabulary.TheConstants.{XSD_DECIMAL, XSD_DOUBLE, XSD_BOOLEAN}
use Rattle.turtle_terms.specs.declared.vocabulary.Word.{Word}
use Rattle.turtle_terms.specs.declared.vocabulary.Word.TheVariants.{RdfType, RdfNil, RdfFirst}
use Rattle.turtle_terms.specs.declared.vocabulary.Word.TheVariants.{RdfRest, XsdString, XsdInteger}
use Rattle.turtle_terms.specs.declared.vocabulary.Word.TheVariants.{XsdDecimal, XsdDouble}
use Rattle.turtle_terms.specs.declared.vocabulary.Word.TheVariants.{XsdBoolean}

abbrev pub word_text : Word → List ℕ
word_text RdfType = RDF_TYPE.now
word_text RdfNil = RDF_NIL.now
word_text RdfFirst = RDF_FIRST.now
word_text RdfRest = RDF_REST.now
word_text XsdString = XSD_STRING.now
word_text XsdInteger = XSD_INTEGER.now
word_text XsdDecimal = XSD_DECIMAL.now
word_text XsdDouble = XSD_DOUBLE.now
word_text XsdBoolean = XSD_BOOLEAN.now
