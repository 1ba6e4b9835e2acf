-- What the writer has written: the tokens of values and of parts of them.
use Rattle.std.specs.Prelude.{◌≡◌, ℕ, Bool, List, [], ◌∷◌, ◌++◌}
use Rattle.std.specs.List.{flat_map}
use Rattle.std.specs.Str.{IsUtf8}
use Rattle.iri_ref.specs.Components.{IsAbsolute}
use Rattle.json.specs.Lex.{tokens}
use Rattle.json.specs.Print.{print}
use Rattle.json.specs.Token.{Token}
use Rattle.json.specs.Token as token
use Rattle.json.specs.Tree.{json_tokens}
use Rattle.json.specs.Written.{Written}
use Rattle.rdf_graph.specs.declared.term.Term.{Term}
use Rattle.rdf_graph.specs.declared.term.Term.TheVariants.{Iri, Blank, Literal, Tagged}
use Rattle.rdf_graph.specs.declared.triple.Triple.{Triple}
use Rattle.serde_json.specs.Data.{Data}
use Rattle.serde_json.specs.Written.{outline}
use Rattle.jsonld_expanded.specs.Document.{document, key_of, node_object, object_of, same_key}
use denote.Ref.{Bor}

-- the tokens are appended
pub record Adds (old new : Written) (ts : List Token) : Type 0 where
  pub before : new.before ≡ old.before
  pub tokens : new.tokens ≡ old.tokens ++ ts

-- both have the same key
abbrev pub same_key_by_ref : Bor Triple → Bor Triple → Bool
same_key_by_ref r q = same_key r.now q.now

-- the tokens of a value
unfoldable pub tokens_of : Data → List Token
tokens_of d = json_tokens (outline d)

unfoldable pub object_tokens : List Triple → List Token
object_tokens ts = flat_map (λ t. tokens_of (object_of t)) ts

-- a key with its objects
unfoldable pub property_tokens : List Triple → List Token
property_tokens [] = []
property_tokens (t ∷ ts) =
    token.key (key_of t) ∷ token.begin_array ∷ (object_tokens (t ∷ ts) ++ token.end_array ∷ [])

unfoldable pub properties_tokens : List (List Triple) → List Token
properties_tokens runs = flat_map property_tokens runs

unfoldable pub nodes_tokens : List (List Triple) → List Token
nodes_tokens runs = flat_map (λ run. tokens_of (node_object run)) runs

-- an IRI of the term is absolute
abbrev pub HasAbsolute : Term → Type 0
HasAbsolute (Iri iri) = IsAbsolute iri
HasAbsolute (Blank label) = Unit {0}
HasAbsolute (Literal lexical datatype) = IsAbsolute datatype
HasAbsolute (Tagged lexical lang) = Unit {0}

pub record HasAbsoluteIris (t : Triple) : Type 0 where
  pub s : HasAbsolute t.s
  pub p : HasAbsolute t.p
  pub o : HasAbsolute t.o

-- the tokens of the document, printed
pub record IsDocumentText (triples : List Triple) (bytes : List ℕ) : Type 0 where
  pub text : bytes ≡ print (tokens_of (document triples))
  pub tokens : tokens bytes ≡ tokens_of (document triples)
  pub utf8 : IsUtf8 bytes
