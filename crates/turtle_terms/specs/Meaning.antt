-- The terms that tokens mean, under a base and the prefixes that are declared.
use Rattle.std.specs.Prelude.{◌≡◌, ℕ, Bool, true, false, ◌++◌, List, Option, Some, None, Result, Ok}
use Rattle.std.specs.Prelude.{Err}
use Rattle.std.specs.Option.{option_map}
use Rattle.std.specs.FinMap as map
use Rattle.iri_ref.specs.Characters.{AllAllowed}
use Rattle.iri_ref.specs.Written.{IsIriOfReference}
use Rattle.rdf_graph.specs.declared.term.Term.{Term}
use Rattle.rdf_graph.specs.declared.term.Term.TheVariants.{Iri, Blank, Literal}
use Rattle.turtle_lex.specs.declared.token.TokenKind.{TokenKind}
use Rattle.turtle_lex.specs.declared.token.TokenKind.TheVariants as Kind
use Rattle.turtle_lex.specs.declared.token.Token.{Token}
use Rattle.turtle_lex.specs.Laws.{text_of}
use Rattle.turtle_terms.specs.declared.fault.TurtleKind.{TurtleKind}
use Rattle.turtle_terms.specs.declared.fault.TurtleKind.TheVariants as Why
use Rattle.turtle_terms.specs.declared.fault.TurtleFault.{TurtleFault}
use Rattle.turtle_terms.specs.declared.fault.TurtleFault.TheVariants.{Bad}
use Rattle.turtle_terms.specs.declared.vocabulary.Word.TheVariants as Word
use Rattle.turtle_terms.specs.Prefixes.{Prefixes}
use Rattle.turtle_terms.specs.Values.{string_value, reference_value, prefix_value, local_value}
use Rattle.turtle_terms.specs.Values.{label_value}
use Rattle.turtle_terms.specs.Vocabulary.{word_text}

-- A reference means the IRI that it stands for: itself where it has a scheme, and what it resolves
-- to where it is relative. It means nothing where it has a forbidden character.
abbrev pub IsReferenceMeaning : List ℕ → List ℕ → Result (List ℕ) TurtleKind → Type 0
IsReferenceMeaning base reference (Ok iri) = AllAllowed reference × IsIriOfReference base reference iri
IsReferenceMeaning base reference (Err Why.BadIri) = AllAllowed reference → ⊥
IsReferenceMeaning base reference (Err kind) = ⊥

-- A name means the IRI of its prefix with its local name appended, or nothing where the prefix has
-- no IRI or the local name a forbidden character.
abbrev pub IsNameMeaning : Option (List ℕ) → List ℕ → Result (List ℕ) TurtleKind → Type 0
IsNameMeaning (Some prefix) local (Ok iri) = AllAllowed local × (iri ≡ prefix ++ local)
IsNameMeaning (Some prefix) local (Err Why.BadIri) = AllAllowed local → ⊥
IsNameMeaning None local (Err Why.Prefix) = Unit {0}
IsNameMeaning declared local outcome = ⊥

-- What a token of this kind and text means as an IRI: the IRI, or why it is none. Tokens of other
-- kinds mean no IRI.
abbrev pub IsIriMeaning : List ℕ → Prefixes → TokenKind → List ℕ → Result (List ℕ) TurtleKind → Type 0
IsIriMeaning base prefixes Kind.IriRef text outcome =
    IsReferenceMeaning base (reference_value text) outcome
IsIriMeaning base prefixes Kind.PnameNs text outcome =
    IsNameMeaning (map.get prefixes (prefix_value text)) (local_value text) outcome
IsIriMeaning base prefixes Kind.PnameLn text outcome =
    IsNameMeaning (map.get prefixes (prefix_value text)) (local_value text) outcome
IsIriMeaning base prefixes Kind.A text outcome = outcome ≡ Ok (word_text Word.RdfType)
IsIriMeaning base prefixes kind text outcome = ⊥

-- the datatype of the literals of a kind that are written without one
abbrev pub datatype_of : TokenKind → Option (List ℕ)
datatype_of Kind.Integer = Some (word_text Word.XsdInteger)
datatype_of Kind.Decimal = Some (word_text Word.XsdDecimal)
datatype_of Kind.Double = Some (word_text Word.XsdDouble)
datatype_of Kind.True = Some (word_text Word.XsdBoolean)
datatype_of Kind.False = Some (word_text Word.XsdBoolean)
datatype_of kind = None

-- the term that a token of this kind and text means whatever the base and the prefixes, if it means
-- one
abbrev pub plain_term : TokenKind → List ℕ → Option Term
plain_term Kind.BlankLabel text = Some (Blank (label_value text))
plain_term Kind.Quoted text = Some (Literal (string_value text) (word_text Word.XsdString))
plain_term kind text = option_map (λ datatype. Literal text datatype) (datatype_of kind)

-- the term of an IRI, or why there is none
abbrev pub IsIriTerm : (Result (List ℕ) TurtleKind → Type 0) → Result (Option Term) TurtleKind → Type 0
IsIriTerm IsIri (Ok (Some (Iri iri))) = IsIri (Ok iri)
IsIriTerm IsIri (Err kind) = IsIri (Err kind)
IsIriTerm IsIri outcome = ⊥

-- What a token of this kind and text means: a term, no term, or why its IRI is none.
abbrev pub IsTermMeaning : List ℕ → Prefixes → TokenKind → List ℕ
    → Result (Option Term) TurtleKind → Type 0
IsTermMeaning base prefixes Kind.IriRef text outcome =
    IsIriTerm (IsIriMeaning base prefixes Kind.IriRef text) outcome
IsTermMeaning base prefixes Kind.PnameNs text outcome =
    IsIriTerm (IsIriMeaning base prefixes Kind.PnameNs text) outcome
IsTermMeaning base prefixes Kind.PnameLn text outcome =
    IsIriTerm (IsIriMeaning base prefixes Kind.PnameLn text) outcome
IsTermMeaning base prefixes Kind.A text outcome =
    IsIriTerm (IsIriMeaning base prefixes Kind.A text) outcome
IsTermMeaning base prefixes kind text outcome = outcome ≡ Ok (plain_term kind text)

-- a fault as it is told, with the position of its token
abbrev pub IsFault : ℕ → (TurtleKind → Type 0) → TurtleFault → Type 0
IsFault from IsKind (Bad at kind) = (at ≡ from) × IsKind kind
IsFault from IsKind fault = ⊥

-- What a token of the bytes means as an IRI.
abbrev pub IsIriOf : List ℕ → Prefixes → List ℕ → Token → Result (List ℕ) TurtleFault → Type 0
IsIriOf base prefixes bytes token (Ok iri) =
    IsIriMeaning base prefixes token.kind (text_of bytes token) (Ok iri)
IsIriOf base prefixes bytes token (Err fault) = IsFault token.from
    (λ kind. IsIriMeaning base prefixes token.kind (text_of bytes token) (Err kind)) fault

-- What a token of the bytes means.
abbrev pub IsTermOf : List ℕ → Prefixes → List ℕ → Token → Result (Option Term) TurtleFault → Type 0
IsTermOf base prefixes bytes token (Ok term) =
    IsTermMeaning base prefixes token.kind (text_of bytes token) (Ok term)
IsTermOf base prefixes bytes token (Err fault) = IsFault token.from
    (λ kind. IsTermMeaning base prefixes token.kind (text_of bytes token) (Err kind)) fault

-- these kinds mean an IRI
abbrev pub is_iri_kind : TokenKind → Bool
is_iri_kind Kind.IriRef = true
is_iri_kind Kind.PnameNs = true
is_iri_kind Kind.PnameLn = true
is_iri_kind Kind.A = true
is_iri_kind kind = false
