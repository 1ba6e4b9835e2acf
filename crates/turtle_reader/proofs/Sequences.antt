-- Lexemes with their meanings, one more at a time, and that a lexeme means one thing.
use Rattle.std.proofs.Common.{◌≡◌, ℕ, suc, List, [], ◌∷◌, ◌++◌, length, Option, Some, None, Result, Ok, Err}
use Rattle.std.proofs.Common.{refl, sym, ap, ◌∙◌, subst}
use Rattle.std.proofs.lemmas.List.{map-append}
use Rattle.std.specs.FinMap as map_of
use Rattle.turtle_lex.specs.declared.token.TokenKind.{TokenKind}
use Rattle.turtle_lex.specs.declared.token.TokenKind.TheVariants as Kind
use Rattle.turtle_lex.specs.declared.token.Token.{Token as LexToken}
use Rattle.turtle_lex.specs.Laws.{text_of}
use Rattle.turtle_grammar.specs.declared.symbol.Symbol.{Symbol}
use Rattle.turtle_grammar.specs.declared.symbol.Symbol.TheVariants.{Token}
use Rattle.turtle_terms.specs.declared.fault.TurtleKind.{TurtleKind}
use Rattle.turtle_terms.specs.declared.fault.TurtleKind.TheVariants as Why
use Rattle.turtle_terms.specs.declared.fault.TurtleFault.{TurtleFault}
use Rattle.turtle_terms.specs.declared.fault.TurtleFault.TheVariants.{Bad}
use Rattle.turtle_terms.specs.Prefixes.{Prefixes}
use Rattle.turtle_terms.specs.Values.{reference_value, prefix_value, local_value}
use Rattle.turtle_terms.specs.Meaning.{IsTermOf, IsReferenceMeaning, IsNameMeaning}
use Rattle.turtle_terms.specs.Meaning.{IsTermMeaning as IsTermMeaningOf}
use Rattle.turtle_terms.proofs.Meanings.{one_term}
use Rattle.turtle_reader.specs.declared.lexeme.Lexeme.{Lexeme}
use Rattle.turtle_reader.specs.declared.meaning.Meaning.{Meaning}
use Rattle.turtle_reader.specs.declared.context.Directive.{Directive}
use Rattle.turtle_reader.specs.declared.context.Directive.TheVariants as directive_of
use Rattle.turtle_reader.specs.declared.context.Context.{Context}
use Rattle.turtle_reader.specs.Lexemes.{symbols_of, token_at}
use Rattle.turtle_reader.specs.Contexts.{context_after, context_from}
use Rattle.turtle_reader.specs.FirstFaults.{place_of}
use Rattle.turtle_reader.specs.Meanings.{special_meaning, term_meaning, IsTermMeaning, IsPlainMeaning}
use Rattle.turtle_reader.specs.Meanings.{IsTokenMeaning, IsMeaningBy, IsMeaning, AreMeanings}

pub symbols_more : (ls : List Lexeme) (l : Lexeme) → symbols_of (ls ++ l ∷ []) ≡ symbols_of ls ++ l.symbol ∷ []
symbols_more ls l = map-append (λ (x : Lexeme). x.symbol) ls (l ∷ [])

pub means_more : (bytes : List ℕ) (c : Context) (ls : List Lexeme) (ms : List Meaning) (l : Lexeme) (m : Meaning)
    → AreMeanings bytes c ls ms → IsMeaning bytes (context_from c ls ms) l (Ok m)
    → AreMeanings bytes c (ls ++ l ∷ []) (ms ++ m ∷ [])
means_more bytes c [] [] l m h k = (k, tt)
means_more bytes c [] (n ∷ ms) l m h k = absurd h
means_more bytes c (x ∷ ls) [] l m h k = absurd h
means_more bytes c (x ∷ ls) (n ∷ ms) l m h k = (h.0, means_more bytes (context_after c x n) ls ms l m h.1 k)

pub means_size : (bytes : List ℕ) (c : Context) (ls : List Lexeme) (ms : List Meaning) → AreMeanings bytes c ls ms → length ms ≡ length ls
means_size bytes c [] [] h = refl
means_size bytes c [] (m ∷ ms) h = absurd h
means_size bytes c (l ∷ ls) [] h = absurd h
means_size bytes c (l ∷ ls) (m ∷ ms) h = ap suc (means_size bytes (context_after c l m) ls ms h.1)

pub context_more : (bytes : List ℕ) (c : Context) (ls : List Lexeme) (ms : List Meaning) (l : Lexeme) (m : Meaning)
    → AreMeanings bytes c ls ms
    → context_from c (ls ++ l ∷ []) (ms ++ m ∷ []) ≡ context_after (context_from c ls ms) l m
context_more bytes c [] [] l m h = refl
context_more bytes c [] (n ∷ ms) l m h = absurd h
context_more bytes c (x ∷ ls) [] l m h = absurd h
context_more bytes c (x ∷ ls) (n ∷ ms) l m h = context_more bytes (context_after c x n) ls ms l m h.1

abbrev MeaningResult : Type 0
MeaningResult = Result Meaning TurtleFault

one_term_meaning : (base : List ℕ) (prefixes : Prefixes) (bytes : List ℕ) (token : LexToken) (a b : MeaningResult)
    → IsTermMeaning base prefixes bytes token a → IsTermMeaning base prefixes bytes token b → a ≡ b
one_term_meaning base prefixes bytes token (Ok m) (Ok n) (t, h, e) (u, k, f) =
    let both = one_term base prefixes bytes token (Ok t) (Ok u) h k in let same : t ≡ u = cc in ap Ok (e ∙ ap term_meaning same ∙ sym f)
one_term_meaning base prefixes bytes token (Ok m) (Err f) (t, h, e) k = let both = one_term base prefixes bytes token (Ok t) (Err f) h k in cc
one_term_meaning base prefixes bytes token (Err f) (Ok n) h (u, k, e) = let both = one_term base prefixes bytes token (Ok u) (Err f) k h in cc
one_term_meaning base prefixes bytes token (Err f) (Err g) h k = let both = one_term base prefixes bytes token (Err f) (Err g) h k in cc

one_plain : (special : Option Meaning) (base : List ℕ) (prefixes : Prefixes) (bytes : List ℕ) (token : LexToken) (a b : MeaningResult)
    → IsPlainMeaning special base prefixes bytes token a → IsPlainMeaning special base prefixes bytes token b → a ≡ b
one_plain (Some m) base prefixes bytes token a b h k = h ∙ sym k
one_plain None base prefixes bytes token a b h k = one_term_meaning base prefixes bytes token a b h k

one_token : (d : Directive) (base : List ℕ) (prefixes : Prefixes) (bytes : List ℕ) (token : LexToken) (a b : MeaningResult)
    → IsTokenMeaning d base prefixes bytes token a → IsTokenMeaning d base prefixes bytes token b → a ≡ b
one_token directive_of.Name base prefixes bytes token a b h k = h ∙ sym k
one_token _ base prefixes bytes token a b h k =
    one_plain (special_meaning token.kind (text_of bytes token)) base prefixes bytes token a b h k

one_by : (s : Symbol) (bytes : List ℕ) (c : Context) (l : Lexeme) (a b : MeaningResult)
    → IsMeaningBy s bytes c l a → IsMeaningBy s bytes c l b → a ≡ b
one_by (Token kind) bytes c l a b h k = one_token c.directive c.base c.scope bytes (token_at kind l) a b h k
one_by _ bytes c l a b h k = h ∙ sym k

pub one_meaning : (bytes : List ℕ) (c : Context) (l : Lexeme) (a b : Result Meaning TurtleFault)
    → IsMeaning bytes c l a → IsMeaning bytes c l b → a ≡ b
one_meaning bytes c l a b h k = one_by l.symbol bytes c l a b h k

pub meanings_agree : (bytes : List ℕ) (c : Context) (l : Lexeme) (m n : Meaning) → IsMeaning bytes c l (Ok m) → IsMeaning bytes c l (Ok n) → m ≡ n
meanings_agree bytes c l m n h k = let both = one_meaning bytes c l (Ok m) (Ok n) h k in cc

pub meaning_or_fault : (bytes : List ℕ) (c : Context) (l : Lexeme) (m : Meaning) (f : TurtleFault)
    → IsMeaning bytes c l (Ok m) → IsMeaning bytes c l (Err f) → ⊥
meaning_or_fault bytes c l m f h k = let both = one_meaning bytes c l (Ok m) (Err f) h k in cc

pub faults_agree : (bytes : List ℕ) (c : Context) (l : Lexeme) (f g : TurtleFault) → IsMeaning bytes c l (Err f) → IsMeaning bytes c l (Err g) → f ≡ g
faults_agree bytes c l f g h k = let both = one_meaning bytes c l (Err f) (Err g) h k in cc

-- lexemes mean one list
pub one_means : (bytes : List ℕ) (c : Context) (ls : List Lexeme) (ms ns : List Meaning)
    → AreMeanings bytes c ls ms → AreMeanings bytes c ls ns → ms ≡ ns
one_means bytes c [] [] [] h k = refl
one_means bytes c [] [] (n ∷ ns) h k = absurd k
one_means bytes c [] (m ∷ ms) ns h k = absurd h
one_means bytes c (l ∷ ls) [] ns h k = absurd h
one_means bytes c (l ∷ ls) (m ∷ ms) [] h k = absurd k
one_means bytes c (l ∷ ls) (m ∷ ms) (n ∷ ns) h k =
    let same : n ≡ m = meanings_agree bytes c l n m k.0 h.0 in
    let rest : AreMeanings bytes (context_after c l m) ls ns = subst (λ (x : Meaning). AreMeanings bytes (context_after c l x) ls ns) same k.1 in
    ap (λ (x : Meaning). x ∷ ms) (sym same) ∙ ap (λ (xs : List Meaning). n ∷ xs) (one_means bytes (context_after c l m) ls ms ns h.1 rest)

-- what has meanings has no fault of an IRI
pub no_iri_fault : (bytes : List ℕ) (c : Context) (bs : List Lexeme) (x : Lexeme) (us : List Lexeme) (ms ns : List Meaning) (f : TurtleFault)
    → AreMeanings bytes c (bs ++ x ∷ us) ms → AreMeanings bytes c bs ns → IsMeaning bytes (context_from c bs ns) x (Err f) → ⊥
no_iri_fault bytes c [] x us [] ns f h k bad = absurd h
no_iri_fault bytes c [] x us (m ∷ ms) [] f h k bad = meaning_or_fault bytes c x m f h.0 bad
no_iri_fault bytes c [] x us (m ∷ ms) (n ∷ ns) f h k bad = absurd k
no_iri_fault bytes c (b ∷ bs) x us [] ns f h k bad = absurd h
no_iri_fault bytes c (b ∷ bs) x us (m ∷ ms) [] f h k bad = absurd k
no_iri_fault bytes c (b ∷ bs) x us (m ∷ ms) (n ∷ ns) f h k bad =
    let same : m ≡ n = meanings_agree bytes c b m n h.0 k.0 in
    no_iri_fault bytes (context_after c b n) bs x us ms ns f
    (subst (λ (z : Meaning). AreMeanings bytes (context_after c b z) (bs ++ x ∷ us) ms) same h.1) k.1 bad

-- The kinds of a lexeme's fault

abbrev pub IsIriFault : TurtleFault → Type 0
IsIriFault (Bad at Why.Prefix) = Unit {0}
IsIriFault (Bad at Why.BadIri) = Unit {0}
IsIriFault fault = ⊥

no_fault : {T E : Type 0} (a : T) (b : E) → ◌≡◌ {A = Result T E} (Err b) (Ok a) → ⊥
no_fault a b e = cc

abbrev IsIriKind : TurtleKind → Type 0
IsIriKind Why.Prefix = Unit {0}
IsIriKind Why.BadIri = Unit {0}
IsIriKind why = ⊥

reference_kind : (base reference : List ℕ) (why : TurtleKind) → IsReferenceMeaning base reference (Err why) → IsIriKind why
reference_kind base reference Why.BadIri h = tt
reference_kind base reference _ h = absurd h

name_kind : (o : Option (List ℕ)) (local : List ℕ) (why : TurtleKind) → IsNameMeaning o local (Err why) → IsIriKind why
name_kind (Some p) local Why.BadIri h = tt
name_kind (Some p) local _ h = absurd h
name_kind None local Why.Prefix h = tt
name_kind None local _ h = absurd h

term_kind : (base : List ℕ) (prefixes : Prefixes) (kind : TokenKind) (text : List ℕ) (why : TurtleKind)
    → IsTermMeaningOf base prefixes kind text (Err why) → IsIriKind why
term_kind base prefixes Kind.IriRef text why h = reference_kind base (reference_value text) why h
term_kind base prefixes Kind.PnameNs text why h = name_kind (map_of.get prefixes (prefix_value text)) (local_value text) why h
term_kind base prefixes Kind.PnameLn text why h = name_kind (map_of.get prefixes (prefix_value text)) (local_value text) why h
term_kind base prefixes Kind.A text why h = absurd (no_fault _ why h)
term_kind base prefixes _ text why h = absurd (no_fault _ why h)

fault_of_kind : (at : ℕ) (why : TurtleKind) → IsIriKind why → IsIriFault (Bad at why)
fault_of_kind at Why.Prefix h = tt
fault_of_kind at Why.BadIri h = tt
fault_of_kind at _ h = absurd h

-- the fault is of such a kind, and at this position
abbrev IsIriFaultAt : ℕ → TurtleFault → Type 0
IsIriFaultAt at f = IsIriFault f × (place_of f ≡ at)

term_fault : (base : List ℕ) (prefixes : Prefixes) (bytes : List ℕ) (token : LexToken) (f : TurtleFault)
    → IsTermOf base prefixes bytes token (Err f) → IsIriFaultAt token.from f
term_fault base prefixes bytes token (Bad at why) h = (fault_of_kind at why (term_kind base prefixes token.kind (text_of bytes token) why h.1), h.0)
term_fault base prefixes bytes token _ h = absurd h

plain_fault : (special : Option Meaning) (base : List ℕ) (prefixes : Prefixes) (bytes : List ℕ) (token : LexToken) (f : TurtleFault)
    → IsPlainMeaning special base prefixes bytes token (Err f) → IsIriFaultAt token.from f
plain_fault (Some m) base prefixes bytes token f h = absurd (no_fault m f h)
plain_fault None base prefixes bytes token f h = term_fault base prefixes bytes token f h

token_fault : (d : Directive) (base : List ℕ) (prefixes : Prefixes) (bytes : List ℕ) (token : LexToken) (f : TurtleFault)
    → IsTokenMeaning d base prefixes bytes token (Err f) → IsIriFaultAt token.from f
token_fault directive_of.Name base prefixes bytes token f h = absurd (no_fault _ f h)
token_fault _ base prefixes bytes token f h = plain_fault (special_meaning token.kind (text_of bytes token)) base prefixes bytes token f h

by_fault : (s : Symbol) (bytes : List ℕ) (c : Context) (l : Lexeme) (f : TurtleFault) → IsMeaningBy s bytes c l (Err f) → IsIriFaultAt l.from f
by_fault (Token kind) bytes c l f h = token_fault c.directive c.base c.scope bytes (token_at kind l) f h
by_fault _ bytes c l f h = absurd (no_fault _ f h)

-- the fault of a lexeme is that of an IRI, at its start
pub iri_fault : (bytes : List ℕ) (c : Context) (l : Lexeme) (f : TurtleFault) → IsMeaning bytes c l (Err f) → IsIriFault f × (place_of f ≡ l.from)
iri_fault bytes c l f h = by_fault l.symbol bytes c l f h
