-- The text of a term (RDF 1.1 N-Triples, section 2), as a graph's lines have it.
use Rattle.std.specs.Prelude.{ℕ, Bool, false, ◌&&◌, List, [], ◌∷◌, ◌++◌, if◌then◌else◌, ◌==◌, codes}
use Rattle.std.specs.Prelude.{nat_eq}
use Rattle.std.specs.List.{flat_map}
use lib.Pointwise.{pointwise}
use Rattle.rdf_graph.specs.declared.term.Term.{Term}
use Rattle.rdf_graph.specs.declared.term.Term.TheVariants.{Iri, Blank, Literal, Tagged}

-- the datatype of a literal that is written without one
abbrev pub xsd_string : List ℕ
xsd_string = codes "http://www.w3.org/2001/XMLSchema#string"

-- a byte between quotes: `\`, `"`, LF and CR have an escape, and the others are unchanged
abbrev pub escaped_byte : ℕ → List ℕ
escaped_byte byte =
    if byte == 92 then codes "\\\\" else
    if byte == 34 then codes "\\\"" else
    if byte == 10 then codes "\\n" else
    if byte == 13 then codes "\\r" else byte ∷ []

abbrev pub escaped : List ℕ → List ℕ
escaped bytes = flat_map escaped_byte bytes

-- what follows the closing quote of a literal without a language tag
abbrev pub datatype_text : List ℕ → List ℕ
datatype_text datatype =
    if pointwise nat_eq datatype xsd_string then [] else codes "^^<" ++ (datatype ++ codes ">")

unfoldable pub text : Term → List ℕ
text (Iri iri) = codes "<" ++ (iri ++ codes ">")
text (Blank label) = codes "_:" ++ label
text (Literal lexical datatype) =
    codes "\"" ++ (escaped lexical ++ (codes "\"" ++ datatype_text datatype))
text (Tagged lexical lang) = codes "\"" ++ (escaped lexical ++ (codes "\"@" ++ lang))

abbrev pub IsIri : Term → Type 0
IsIri (Iri iri) = Unit {0}
IsIri (Blank label) = ⊥
IsIri (Literal lexical datatype) = ⊥
IsIri (Tagged lexical lang) = ⊥

abbrev pub IsLiteral : Term → Type 0
IsLiteral (Iri iri) = ⊥
IsLiteral (Blank label) = ⊥
IsLiteral (Literal lexical datatype) = Unit {0}
IsLiteral (Tagged lexical lang) = Unit {0}

-- whether two terms are equal
abbrev pub term_eq : Term → Term → Bool
term_eq (Iri i) (Iri j) = pointwise nat_eq i j
term_eq (Blank l) (Blank m) = pointwise nat_eq l m
term_eq (Literal l d) (Literal m e) = pointwise nat_eq l m && pointwise nat_eq d e
term_eq (Tagged l t) (Tagged m u) = pointwise nat_eq l m && pointwise nat_eq t u
term_eq _ _ = false
