-- The terms of a graph that a text spells are read back: labels are of Turtle, and tags in lower case.
use Rattle.std.proofs.Common.{◌≡◌, ℕ, zero, suc, false, List, [], ◌∷◌, ◌++◌, codes, map, drop, Option, Some, None, Result, Ok, ⊎_elim, sym, subst}
use Rattle.std.proofs.lemmas.List.Elements.{All-head, All-tail}
use Rattle.std.specs.Char.{to_ascii_lowercase}
use Rattle.std.specs.List.{All, Contains, slice_get}
use Rattle.std.specs.Option.{option_map}
use Rattle.std.specs.Prelude.{IfSome}
use Rattle.rdf_graph.proofs.Members.{contains_cases, contains_none, All-from_members}
use Rattle.rdf_graph.specs.declared.term.Term.{Term}
use Rattle.rdf_graph.specs.declared.term.Term.TheVariants.{Iri, Blank, Literal, Tagged}
use Rattle.rdf_graph.specs.declared.triple.Triple.{Triple as RdfTriple}
use Rattle.turtle_grammar.specs.declared.production.Node.{Node}
use Rattle.turtle_grammar.specs.declared.production.Node.TheVariants as node
use Rattle.turtle_grammar.specs.declared.production.Production.{Production}
use Rattle.turtle_grammar.specs.declared.production.Production.TheVariants.{Prefix, Base, Triple}
use Rattle.turtle_lex.proofs.TextLemmas.{token_text_is_of_kind, tokens_of}
use Rattle.turtle_lex.specs.Laws.{IsTextOf, text_of}
use Rattle.turtle_lex.specs.Pattern.{Matches}
use Rattle.turtle_lex.specs.Terminals.{label as label_text, blank_label, lang_tag}
use Rattle.turtle_lex.specs.Tokens.{IsTokenOf, MatchesKind}
use Rattle.turtle_lex.specs.declared.token.Token.{Token as LexToken}
use Rattle.turtle_lex.specs.declared.token.TokenKind.{TokenKind}
use Rattle.turtle_lex.specs.declared.token.TokenKind.TheVariants as Kind
use Rattle.turtle_reader.specs.Contexts.{at_start, context_after}
use Rattle.turtle_reader.specs.Lexemes.{lexeme_of, lexemes_of}
use Rattle.turtle_reader.specs.Meanings.{special_meaning, term_meaning, IsPlainMeaning, IsTokenMeaning, AreMeanings}
use Rattle.turtle_reader.specs.Referents.{referent, term_referent, tagged, typed}
use Rattle.turtle_reader.specs.declared.context.Context.{Context}
use Rattle.turtle_reader.specs.declared.context.Directive.{Directive}
use Rattle.turtle_reader.specs.declared.context.Directive.TheVariants as directive_of
use Rattle.turtle_reader.specs.declared.lexeme.Lexeme.{Lexeme}
use Rattle.turtle_reader.specs.declared.meaning.Meaning.{Meaning}
use Rattle.turtle_reader.specs.declared.meaning.Meaning.TheVariants as meaning_of
use Rattle.turtle_reader.specs.declared.referent.Referent.{Referent}
use Rattle.turtle_reader.specs.declared.referent.Referent.TheVariants as referent_of
use Rattle.turtle_reader.proofs.OneLexeme.{lexemes_are_tokens}
use Rattle.turtle_terms.specs.Meaning.{IsTermMeaning as IsTermOfKind, IsIriTerm, IsIriMeaning, datatype_of}
use Rattle.turtle_terms.specs.Prefixes.{Prefixes}
use Rattle.turtle_terms.specs.declared.fault.TurtleFault.{TurtleFault}
use Rattle.turtle_terms.specs.declared.fault.TurtleKind.{TurtleKind}
use Rattle.turtle_text.specs.Triples.{AreTriplesOf, IsNodeTerm, IsReferentTerm}
use Rattle.syntax_laws.specs.Laws.{SpelledGraphsAreReadBack}
use Rattle.syntax_laws.specs.ReadBack.{IsReadBack, TripleIsReadBack}
use Rattle.syntax_laws.proofs.Generated.{unnamed_is_label}
use Rattle.syntax_laws.proofs.Lowered.{tag_in_lower_case, stays_lower}

-- ---- meanings

-- its term is read back, and its tag is one in lower case
abbrev IsKept : Meaning → Type 0
IsKept (meaning_of.Term term) = IsReadBack term
IsKept (meaning_of.Language tag) = IsTextOf lang_tag (codes "@" ++ tag) × (map to_ascii_lowercase tag ≡ tag)
IsKept (meaning_of.Variable name) = Unit {0}
IsKept (meaning_of.Name prefix) = Unit {0}
IsKept meaning_of.Nothing = Unit {0}

abbrev ok_meaning : Meaning → Result Meaning TurtleFault
ok_meaning m = Ok m

ok_same : (m n : Meaning) → ok_meaning m ≡ ok_meaning n → m ≡ n
ok_same m n e = cc

some_same : (t u : Term) → Some t ≡ Some u → t ≡ u
some_same t u e = cc

label_kept : (text : List ℕ) → MatchesKind Kind.BlankLabel text [] → IsTextOf label_text (drop 2 text)
unfolding blank_label
label_kept text (m, first, x) = subst (λ (t : List ℕ). Matches label_text (drop 2 t) []) (sym first) x

literal_kept : (o : Option (List ℕ)) (text : List ℕ) (term : Term) → Some term ≡ option_map (λ datatype. Literal text datatype) o → IsReadBack term
literal_kept None text term e = absurd cc
literal_kept (Some datatype) text term e = subst IsReadBack (sym (some_same term (Literal text datatype) e)) tt

iri_kept : (P : Result (List ℕ) TurtleKind → Type 0) (term : Term) → IsIriTerm P (Ok (Some term)) → IsReadBack term
iri_kept P (Iri iri) h = tt
iri_kept P (Blank label) h = absurd h
iri_kept P (Literal lexical datatype) h = absurd h
iri_kept P (Tagged lexical lang) h = absurd h

abbrev ok_term_of : Option Term → Result (Option Term) TurtleKind
ok_term_of o = Ok o

ok_term : (o : Option Term) (term : Term) → ok_term_of (Some term) ≡ ok_term_of o → Some term ≡ o
ok_term o term e = cc

term_kept : (kind : TokenKind) (base : List ℕ) (prefixes : Prefixes) (text : List ℕ) (term : Term) → MatchesKind kind text [] → IsTermOfKind base prefixes kind text (Ok (Some term)) → IsReadBack term
term_kept Kind.IriRef base prefixes text term x h = iri_kept (IsIriMeaning base prefixes Kind.IriRef text) term h
term_kept Kind.PnameNs base prefixes text term x h = iri_kept (IsIriMeaning base prefixes Kind.PnameNs text) term h
term_kept Kind.PnameLn base prefixes text term x h = iri_kept (IsIriMeaning base prefixes Kind.PnameLn text) term h
term_kept Kind.A base prefixes text term x h = iri_kept (IsIriMeaning base prefixes Kind.A text) term h
term_kept Kind.BlankLabel base prefixes text term x h = subst IsReadBack (sym (some_same term (Blank (drop 2 text)) (ok_term _ term h))) (label_kept text x)
term_kept Kind.Quoted base prefixes text term x h = subst IsReadBack (sym (some_same term _ (ok_term _ term h))) tt
term_kept kind base prefixes text term x h = literal_kept (datatype_of kind) text term (ok_term _ term h)

meant_kept : (o : Option Term) (m : Meaning) → IfSome o IsReadBack → m ≡ term_meaning o → IsKept m
meant_kept (Some term) m h e = subst IsKept (sym e) h
meant_kept None m h e = subst IsKept (sym e) tt

special_kept : (kind : TokenKind) (text : List ℕ) → MatchesKind kind text [] → IfSome (special_meaning kind text) IsKept
special_kept Kind.LangTag text x = (tag_in_lower_case text x, stays_lower (drop 1 text))
special_kept Kind.Variable text x = tt
special_kept kind text x = tt

plain_kept : (o : Option Meaning) (base : List ℕ) (prefixes : Prefixes) (bytes : List ℕ) (token : LexToken) (m : Meaning) → MatchesKind token.kind (text_of bytes token) [] → IfSome o IsKept
    → IsPlainMeaning o base prefixes bytes token (Ok m) → IsKept m
plain_kept (Some x) base prefixes bytes token m matches h e = subst IsKept (sym (ok_same m x e)) h
plain_kept None base prefixes bytes token m matches h (None, is, e) = meant_kept None m tt e
plain_kept None base prefixes bytes token m matches h (Some term, is, e) = meant_kept (Some term) m (term_kept token.kind base prefixes (text_of bytes token) term matches is) e

by_directive : (d : Directive) (base : List ℕ) (prefixes : Prefixes) (bytes : List ℕ) (token : LexToken) (m : Meaning) → MatchesKind token.kind (text_of bytes token) []
    → IsTokenMeaning d base prefixes bytes token (Ok m) → IsKept m
by_directive directive_of.Name base prefixes bytes token m x e = subst IsKept (sym (ok_same m _ e)) tt
by_directive d base prefixes bytes token m x h = plain_kept (special_meaning token.kind (text_of bytes token)) base prefixes bytes token m x (special_kept token.kind (text_of bytes token) x) h

abbrev AreKept : List Meaning → Type 0
AreKept [] = Unit {0}
AreKept (m ∷ ms) = IsKept m × AreKept ms

meanings_kept : (bytes : List ℕ) (c : Context) (ts : List LexToken) (ms : List Meaning) → All (IsTokenOf bytes) ts → AreMeanings bytes c (lexemes_of ts) ms → AreKept ms
meanings_kept bytes c [] [] a h = tt
meanings_kept bytes c [] (m ∷ ms) a h = absurd h
meanings_kept bytes c (t ∷ ts) [] a h = absurd h
meanings_kept bytes c (t ∷ ts) (m ∷ ms) a (one, more) =
    let is : IsTokenOf bytes t = All-head (IsTokenOf bytes) t ts a in (
      by_directive c.directive c.base c.scope bytes t m (token_text_is_of_kind bytes t is) one,
      meanings_kept bytes (context_after c (lexeme_of t) m) ts ms (All-tail (IsTokenOf bytes) t ts a) more,
    )

meaning_at : (ms : List Meaning) (i : ℕ) → AreKept ms → IfSome (slice_get ms i) IsKept
meaning_at [] i h = tt
meaning_at (m ∷ ms) zero h = h.0
meaning_at (m ∷ ms) (suc i) h = meaning_at ms i h.1

-- ---- nodes

abbrev IsKeptReferent : Referent → Type 0
IsKeptReferent (referent_of.Term term) = IsReadBack term
IsKeptReferent other = Unit {0}

token_referent : (o : Option Meaning) → IfSome o IsKept → IfSome (term_referent o) IsKeptReferent
token_referent None h = tt
token_referent (Some (meaning_of.Term term)) h = h
token_referent (Some (meaning_of.Variable name)) h = tt
token_referent (Some (meaning_of.Language tag)) h = tt
token_referent (Some (meaning_of.Name prefix)) h = tt
token_referent (Some meaning_of.Nothing) h = tt

tag_referent : (o p : Option Meaning) → IfSome p IsKept → IfSome (tagged o p) IsKeptReferent
tag_referent (Some (meaning_of.Term (Literal lexical datatype))) (Some (meaning_of.Language tag)) h = h
tag_referent o p h = tt

typed_referent : (o p : Option Meaning) → IfSome (typed o p) IsKeptReferent
typed_referent (Some (meaning_of.Term (Literal lexical datatype))) (Some (meaning_of.Term (Iri iri))) = tt
typed_referent o p = tt

referent_kept : (ms : List Meaning) (n : Node) → AreKept ms → IfSome (referent ms n) IsKeptReferent
referent_kept ms (node.Token i) h = token_referent (slice_get ms i) (meaning_at ms i h)
referent_kept ms (node.Tagged i k) h = tag_referent (slice_get ms i) (slice_get ms k) (meaning_at ms k h)
referent_kept ms (node.Typed i k) h = typed_referent (slice_get ms i) (slice_get ms k)
referent_kept ms (node.Unnamed number) h = tt
referent_kept ms (node.Formula index) h = tt
referent_kept ms node.Nil h = tt
referent_kept ms node.First h = tt
referent_kept ms node.Rest h = tt

term_of_referent : (bytes : List ℕ) (o : Option Referent) (term : Term) → IfSome o IsKeptReferent → IsReferentTerm bytes o term → IsReadBack term
term_of_referent bytes None term h x = absurd x
term_of_referent bytes (Some (referent_of.Term t)) term h e = subst IsReadBack (sym e) h
term_of_referent bytes (Some (referent_of.Unnamed number)) term h (label, (tokens, before, unnamed), e) = subst IsReadBack (sym e) (unnamed_is_label _ number label unnamed)
term_of_referent bytes (Some (referent_of.Variable name)) term h x = absurd x
term_of_referent bytes (Some (referent_of.Formula index)) term h x = absurd x

node_kept : (bytes : List ℕ) (ms : List Meaning) (n : Node) (term : Term) → AreKept ms → IsNodeTerm bytes ms n term → IsReadBack term
node_kept bytes ms n term h x = term_of_referent bytes (referent ms n) term (referent_kept ms n h) x

-- ---- triples

triples_kept : (bytes : List ℕ) (ms : List Meaning) (ps : List Production) (ts : List RdfTriple) → AreKept ms → AreTriplesOf bytes ms ps ts → (t : RdfTriple) → Contains ts t → TripleIsReadBack t
triples_kept bytes ms [] ts h e t at = absurd (contains_none t (subst (λ (us : List RdfTriple). Contains us t) e at))
triples_kept bytes ms (Prefix name iri ∷ ps) ts h x t at = triples_kept bytes ms ps ts h x t at
triples_kept bytes ms (Base iri ∷ ps) ts h x t at = triples_kept bytes ms ps ts h x t at
triples_kept bytes ms (Triple symbolic ∷ ps) ts h (first, rest, e, is, more) t at = ⊎_elim
    (λ (same : first ≡ t). subst TripleIsReadBack same (record {
      subject = node_kept bytes ms symbolic.subject first.s h is.subject;
      predicate = node_kept bytes ms symbolic.predicate first.p h is.predicate;
      object = node_kept bytes ms symbolic.object first.o h is.object;
    }))
    (λ (there : Contains rest t). triples_kept bytes ms ps rest h more t there)
    (contains_cases first rest t (subst (λ (us : List RdfTriple). Contains us t) e at))

pub spelled_graphs_are_read_back : SpelledGraphsAreReadBack
spelled_graphs_are_read_back base bytes graph h =
    let s = h.spells in
    let (ts, same, (end, string, tokens, answer)) = lexemes_are_tokens bytes s.text.lexemes s.text.are_lexemes in
    let means : AreMeanings bytes (at_start base) (lexemes_of ts) s.meanings = subst (λ (ls : List Lexeme). AreMeanings bytes (at_start base) ls s.meanings) same s.text.means in
    let kept = meanings_kept bytes (at_start base) ts s.meanings (tokens_of bytes ts 0 false end string tokens) means in
    All-from_members TripleIsReadBack graph (λ t at. triples_kept bytes s.meanings s.productions h.triples kept s.are_triples t ((h.same t).0 at))
