-- What holds of the values and meanings of all tokens. Each law is the contract of a function of
-- `laws`.
use Rattle.std.specs.Prelude.{◌≡◌, ℕ, List, ◌∷◌, ◌++◌, Option, Result, length}
use lib.Chars.{codes}
use Rattle.iri_ref.specs.Characters.{AllAllowed, Lacks}
use Rattle.std.specs.Char.{IsScalar, encode_utf8}
use Rattle.rdf_graph.specs.Term.{escaped}
use Rattle.rdf_graph.specs.declared.term.Term.{Term}
use Rattle.turtle_lex.specs.declared.token.Token.{Token}
use Rattle.turtle_lex.specs.Pattern.{hex_value}
use Rattle.turtle_terms.specs.declared.fault.TurtleFault.{TurtleFault}
use Rattle.turtle_terms.specs.Escapes.{decoded}
use Rattle.turtle_terms.specs.Prefixes.{Prefixes}
use Rattle.turtle_terms.specs.Meaning.{IsIriOf, IsTermOf}
use Rattle.turtle_terms.specs.Values.{is_backslash, reference_value, string_value}

-- A token means at most one IRI or fault.
abbrev pub HasOneIri : Type 0
HasOneIri = (base : List ℕ) (prefixes : Prefixes) (bytes : List ℕ) (token : Token)
    (a b : Result (List ℕ) TurtleFault) → IsIriOf base prefixes bytes token a
    → IsIriOf base prefixes bytes token b → a ≡ b

-- A token means at most one term or fault.
abbrev pub HasOneTerm : Type 0
HasOneTerm = (base : List ℕ) (prefixes : Prefixes) (bytes : List ℕ) (token : Token)
    (a b : Result (Option Term) TurtleFault) → IsTermOf base prefixes bytes token a
    → IsTermOf base prefixes bytes token b → a ≡ b

-- A text without a backslash is its own value.
abbrev pub PlainIsItself : Type 0
PlainIsItself = (text rest : List ℕ) → Lacks is_backslash text
    → decoded (text ++ rest) ≡ text ++ decoded rest

-- `\u` and four hexadecimal digits, and `\U` and eight, are the character of their number.
abbrev pub NumbersAreDecoded : Type 0
NumbersAreDecoded = (digits rest : List ℕ) → IsScalar (hex_value 0 digits)
    → (length digits ≡ 4 → decoded (92 ∷ 117 ∷ (digits ++ rest))
    ≡ encode_utf8 (hex_value 0 digits) ++ decoded rest)
    × (length digits ≡ 8 → decoded (92 ∷ 85 ∷ (digits ++ rest))
    ≡ encode_utf8 (hex_value 0 digits) ++ decoded rest)

-- The reference of the IRIREF that is written for an IRI is the IRI.
abbrev pub ReferenceIsRead : Type 0
ReferenceIsRead = (iri : List ℕ) → AllAllowed iri
    → reference_value (codes "<" ++ (iri ++ codes ">")) ≡ iri

-- The value of the String that is written for a lexical form is the lexical form.
abbrev pub StringIsRead : Type 0
StringIsRead = (lexical : List ℕ)
    → string_value (codes "\"" ++ (escaped lexical ++ codes "\"")) ≡ lexical
