-- A token has at most one meaning.
use Rattle.std.proofs.Common.{◌≡◌, ℕ, List, Option, Some, None, Result, Ok, Err, refl, sym, ap, ◌∙◌}
use Rattle.std.specs.FinMap as map
use Rattle.iri_ref.specs.Characters.{AllAllowed}
use Rattle.iri_ref.proofs.Written.{one_iri as one_iri_of_reference}
use Rattle.rdf_graph.specs.declared.term.Term.{Term}
use Rattle.rdf_graph.specs.declared.term.Term.TheVariants.{Iri, Blank, Literal, Tagged}
use Rattle.turtle_lex.specs.declared.token.TokenKind.{TokenKind}
use Rattle.turtle_lex.specs.declared.token.TokenKind.TheVariants as Kind
use Rattle.turtle_lex.specs.Laws.{text_of}
use Rattle.turtle_terms.specs.declared.fault.TurtleKind.{TurtleKind}
use Rattle.turtle_terms.specs.declared.fault.TurtleKind.TheVariants.{Prefix, BadIri}
use Rattle.turtle_terms.specs.declared.fault.TurtleFault.{TurtleFault}
use Rattle.turtle_terms.specs.declared.fault.TurtleFault.TheVariants.{Bad, TooLarge, NoMemory}
use Rattle.turtle_terms.specs.Prefixes.{Prefixes}
use Rattle.turtle_terms.specs.Values.{reference_value, prefix_value, local_value}
use Rattle.turtle_terms.specs.Meaning.{IsReferenceMeaning, IsNameMeaning, IsIriMeaning, IsIriTerm, IsTermMeaning, IsFault}
use Rattle.turtle_terms.specs.Laws.{HasOneIri, HasOneTerm}

-- A relation holds of one outcome at most.
abbrev pub IsOne : {X : Type 0} → (X → Type 0) → Type 0
IsOne {X} P = (a b : X) → P a → P b → a ≡ b

bad_reference : (base reference : List ℕ) (kind : TurtleKind) → IsReferenceMeaning base reference (Err kind) → (kind ≡ BadIri) × (AllAllowed reference → ⊥)
bad_reference base reference BadIri h = (refl, h)
bad_reference base reference kind h = absurd h

one_reference : (base reference : List ℕ) → IsOne (IsReferenceMeaning base reference)
one_reference base reference (Ok i) (Ok j) (x, r) (y, s) = ap Ok (one_iri_of_reference base reference i j r s)
one_reference base reference (Ok i) (Err k) (x, r) h = absurd ((bad_reference base reference k h).1 x)
one_reference base reference (Err k) (Ok j) h (y, s) = absurd ((bad_reference base reference k h).1 y)
one_reference base reference (Err k) (Err l) h g = ap Err ((bad_reference base reference k h).0 ∙ sym (bad_reference base reference l g).0)

bad_name : (prefix local : List ℕ) (kind : TurtleKind) → IsNameMeaning (Some prefix) local (Err kind) → (kind ≡ BadIri) × (AllAllowed local → ⊥)
bad_name prefix local BadIri h = (refl, h)
bad_name prefix local kind h = absurd h

no_prefix : (local : List ℕ) (kind : TurtleKind) → IsNameMeaning None local (Err kind) → kind ≡ Prefix
no_prefix local Prefix h = refl
no_prefix local kind h = absurd h

one_name : (declared : Option (List ℕ)) (local : List ℕ) → IsOne (IsNameMeaning declared local)
one_name (Some prefix) local (Ok i) (Ok j) (x, p) (y, q) = ap Ok (p ∙ sym q)
one_name (Some prefix) local (Ok i) (Err k) (x, p) h = absurd ((bad_name prefix local k h).1 x)
one_name (Some prefix) local (Err k) (Ok j) h (y, q) = absurd ((bad_name prefix local k h).1 y)
one_name (Some prefix) local (Err k) (Err l) h g = ap Err ((bad_name prefix local k h).0 ∙ sym (bad_name prefix local l g).0)
one_name None local (Ok i) b h g = absurd h
one_name None local (Err k) (Ok j) h g = absurd g
one_name None local (Err k) (Err l) h g = ap Err (no_prefix local k h ∙ sym (no_prefix local l g))

pub one_iri_meaning : (base : List ℕ) (prefixes : Prefixes) (kind : TokenKind) (text : List ℕ) → IsOne (IsIriMeaning base prefixes kind text)
one_iri_meaning base prefixes Kind.IriRef text a b h g = one_reference base (reference_value text) a b h g
one_iri_meaning base prefixes Kind.PnameNs text a b h g = one_name (map.get prefixes (prefix_value text)) (local_value text) a b h g
one_iri_meaning base prefixes Kind.PnameLn text a b h g = one_name (map.get prefixes (prefix_value text)) (local_value text) a b h g
one_iri_meaning base prefixes Kind.A text a b h g = h ∙ sym g
one_iri_meaning base prefixes kind text a b h g = absurd h

-- the outcome of an IRI as that of a term
abbrev as_term : Result (List ℕ) TurtleKind → Result (Option Term) TurtleKind
as_term (Ok iri) = Ok (Some (Iri iri))
as_term (Err kind) = Err kind

iri_outcome : (P : Result (List ℕ) TurtleKind → Type 0) (a : Result (Option Term) TurtleKind) → IsIriTerm P a → (o : Result (List ℕ) TurtleKind) × P o × (a ≡ as_term o)
iri_outcome P (Ok (Some (Iri iri))) h = (Ok iri, h, refl)
iri_outcome P (Ok (Some (Blank label))) h = absurd h
iri_outcome P (Ok (Some (Literal lexical datatype))) h = absurd h
iri_outcome P (Ok (Some (Tagged lexical lang))) h = absurd h
iri_outcome P (Ok None) h = absurd h
iri_outcome P (Err kind) h = (Err kind, h, refl)

one_iri_term : (P : Result (List ℕ) TurtleKind → Type 0) → IsOne P → IsOne (IsIriTerm P)
one_iri_term P one a b h g =
    let (o, p, e) = iri_outcome P a h in
    let (r, q, f) = iri_outcome P b g in
    e ∙ ap as_term (one o r p q) ∙ sym f

pub one_term_meaning : (base : List ℕ) (prefixes : Prefixes) (kind : TokenKind) (text : List ℕ) → IsOne (IsTermMeaning base prefixes kind text)
one_term_meaning base prefixes Kind.IriRef text = one_iri_term (IsIriMeaning base prefixes Kind.IriRef text) (one_iri_meaning base prefixes Kind.IriRef text)
one_term_meaning base prefixes Kind.PnameNs text = one_iri_term (IsIriMeaning base prefixes Kind.PnameNs text) (one_iri_meaning base prefixes Kind.PnameNs text)
one_term_meaning base prefixes Kind.PnameLn text = one_iri_term (IsIriMeaning base prefixes Kind.PnameLn text) (one_iri_meaning base prefixes Kind.PnameLn text)
one_term_meaning base prefixes Kind.A text = one_iri_term (IsIriMeaning base prefixes Kind.A text) (one_iri_meaning base prefixes Kind.A text)
one_term_meaning base prefixes kind text = λ a b h g. h ∙ sym g

-- a fault's kind is that of an outcome
fault_outcome : (from : ℕ) (P : TurtleKind → Type 0) (fault : TurtleFault) → IsFault from P fault → (kind : TurtleKind) × P kind × (fault ≡ Bad from kind)
fault_outcome from P (Bad at kind) (e, h) = (kind, h, ap (λ (n : ℕ). Bad n kind) e)
fault_outcome from P (TooLarge at) h = absurd h
fault_outcome from P NoMemory h = absurd h

abbrev Outcome : Type 0 → Type 0
Outcome X = Result X TurtleKind

abbrev ok : {X : Type 0} → X → Outcome X
ok x = Ok x

abbrev err : {X : Type 0} → TurtleKind → Outcome X
err k = Err k

same_ok : {X : Type 0} (x y : X) → ok x ≡ ok y → x ≡ y
same_ok x y e = cc

same_err : (X : Type 0) (k l : TurtleKind) → err {X = X} k ≡ err l → k ≡ l
same_err X k l e = cc

apart : {X Y : Type 0} (x : X) (k : TurtleKind) → ok x ≡ err k → Y
apart x k e = let no : ⊥ = cc in absurd no

pub one_iri : HasOneIri
one_iri base prefixes bytes token (Ok i) (Ok j) h g =
    ap Ok (same_ok i j (one_iri_meaning base prefixes token.kind (text_of bytes token) (Ok i) (Ok j) h g))
one_iri base prefixes bytes token (Ok i) (Err f) h g =
    let (k, q, e) = fault_outcome token.from _ f g in
    apart i k (one_iri_meaning base prefixes token.kind (text_of bytes token) (Ok i) (Err k) h q)
one_iri base prefixes bytes token (Err f) (Ok j) h g =
    let (k, q, e) = fault_outcome token.from _ f h in
    apart j k (one_iri_meaning base prefixes token.kind (text_of bytes token) (Ok j) (Err k) g q)
one_iri base prefixes bytes token (Err f) (Err d) h g =
    let (k, q, e) = fault_outcome token.from _ f h in
    let (l, r, d') = fault_outcome token.from _ d g in
    ap Err (e ∙ ap (Bad token.from) (same_err (List ℕ) k l (one_iri_meaning base prefixes token.kind (text_of bytes token) (Err k) (Err l) q r)) ∙ sym d')

pub one_term : HasOneTerm
one_term base prefixes bytes token (Ok i) (Ok j) h g =
    ap Ok (same_ok i j (one_term_meaning base prefixes token.kind (text_of bytes token) (Ok i) (Ok j) h g))
one_term base prefixes bytes token (Ok i) (Err f) h g =
    let (k, q, e) = fault_outcome token.from _ f g in
    apart i k (one_term_meaning base prefixes token.kind (text_of bytes token) (Ok i) (Err k) h q)
one_term base prefixes bytes token (Err f) (Ok j) h g =
    let (k, q, e) = fault_outcome token.from _ f h in
    apart j k (one_term_meaning base prefixes token.kind (text_of bytes token) (Ok j) (Err k) g q)
one_term base prefixes bytes token (Err f) (Err d) h g =
    let (k, q, e) = fault_outcome token.from _ f h in
    let (l, r, d') = fault_outcome token.from _ d g in
    ap Err (e ∙ ap (Bad token.from) (same_err (Option Term) k l (one_term_meaning base prefixes token.kind (text_of bytes token) (Err k) (Err l) q r)) ∙ sym d')
