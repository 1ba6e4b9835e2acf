-- What the first tokens of a graph's text produce.
use Rattle.std.proofs.Common.{◌≡◌, ℕ, zero, suc, ◌+◌, ◌<◌, ◌≤◌, Bool, true, false, ◌⊎◌, inl, inr, List, [], ◌∷◌, ◌++◌, length, take, drop, All, refl, sym, ap, ◌∙◌, subst, arith, append_assoc, length-append, nat_eq}
use Rattle.std.proofs.lemmas.List.{append-nil}
use Rattle.std.proofs.lemmas.List.Elements.{All-nil, All-cons, All-push, All-weaker}
use lib.Pointwise.{pointwise}
use Rattle.rdf_graph.specs.Term.{xsd_string}
use Rattle.rdf_graph.specs.declared.term.Term.{Term}
use Rattle.rdf_graph.specs.declared.term.Term.TheVariants.{Iri, Blank, Literal, Tagged}
use Rattle.rdf_graph.specs.declared.triple.Triple.{Triple as RdfTriple}
use Rattle.turtle_lex.specs.declared.token.TokenKind.TheVariants as Kind
use Rattle.turtle_grammar.specs.declared.symbol.Symbol.{Symbol}
use Rattle.turtle_grammar.specs.declared.symbol.Symbol.TheVariants.{Token}
use Rattle.turtle_grammar.specs.declared.symbol.Start.TheVariants.{Document}
use Rattle.turtle_grammar.specs.declared.production.Node.{Node}
use Rattle.turtle_grammar.specs.declared.production.Node.TheVariants as node
use Rattle.turtle_grammar.specs.declared.production.Production.{Production}
use Rattle.turtle_grammar.specs.declared.production.Production.TheVariants.{Triple}
use Rattle.turtle_grammar.specs.Derivations.{Derives}
use Rattle.turtle_grammar.specs.Productions.{Point, start_point, passed, object_end, statement_end, document_end}
use Rattle.turtle_grammar.specs.Readings.{end_of, EndsString, Produces}
use Rattle.turtle_grammar.specs.Trees as tree
use Rattle.turtle_grammar.specs.TreeSymbols.{subject_symbols, object_symbols, statement_symbols, document_symbols}
use Rattle.syntax_laws.proofs.Trees.{subject_of, literal_of, object_of, one_object, statement_of, document_of, ArePlain, plain_both, plain_first, plain_second, are_allowed}

-- ---- the symbols and the production of a statement

abbrev statement_with : tree.Subject → tree.Object → tree.Statement
statement_with s o = tree.statement (tree.about s (one_object o))

abbrev symbols_with : Symbol → tree.Object → List Symbol
symbols_with k o = k ∷ Token Kind.IriRef ∷ object_symbols o (Token Kind.Dot ∷ [])

-- The subject is this one token.
record IsOneToken (s : tree.Subject) (k : Symbol) : Type 0 where
  symbols : (xs : List Symbol) → subject_symbols s xs ≡ k ∷ xs
  end : (o : tree.Object) (m : Point) → statement_end (statement_with s o) m
      ≡ passed (object_end o (node.Token m.at) (node.Token (m.at + 1)) (passed (passed m)))

abbrev subject_kind : Term → Symbol
subject_kind (Iri iri) = Token Kind.IriRef
subject_kind (Blank label) = Token Kind.BlankLabel
subject_kind (Literal lexical datatype) = Token Kind.BlankLabel
subject_kind (Tagged lexical lang) = Token Kind.BlankLabel

subject_one : (s : Term) → IsOneToken (subject_of s) (subject_kind s)
subject_one (Iri iri) = record { symbols = λ xs. refl; end = λ o m. refl }
subject_one (Blank label) = record { symbols = λ xs. refl; end = λ o m. refl }
subject_one (Literal lexical datatype) = record { symbols = λ xs. refl; end = λ o m. refl }
subject_one (Tagged lexical lang) = record { symbols = λ xs. refl; end = λ o m. refl }

literal_then : (b : Bool) (xs : List Symbol)
    → object_symbols (tree.literal (literal_of b)) (Token Kind.Dot ∷ xs) ≡ object_symbols (tree.literal (literal_of b)) (Token Kind.Dot ∷ []) ++ xs
literal_then true xs = refl
literal_then false xs = refl

object_then : (o : Term) (xs : List Symbol) → object_symbols (object_of o) (Token Kind.Dot ∷ xs) ≡ object_symbols (object_of o) (Token Kind.Dot ∷ []) ++ xs
object_then (Iri iri) xs = refl
object_then (Blank label) xs = refl
object_then (Literal lexical datatype) xs = literal_then (pointwise nat_eq datatype xsd_string) xs
object_then (Tagged lexical lang) xs = refl

abbrev symbols_of_triple : RdfTriple → List Symbol
symbols_of_triple t = symbols_with (subject_kind t.s) (object_of t.o)

statement_then : (t : RdfTriple) (xs : List Symbol) → statement_symbols (statement_of t) xs ≡ symbols_of_triple t ++ xs
statement_then t xs =
    (subject_one t.s).symbols (Token Kind.IriRef ∷ object_symbols (object_of t.o) (Token Kind.Dot ∷ xs))
    ∙ ap (λ (ys : List Symbol). subject_kind t.s ∷ Token Kind.IriRef ∷ ys) (object_then t.o xs)

-- ---- what was produced after whole statements

abbrev EndsBefore : ℕ → Production → Type 0
EndsBefore n x = end_of x < n

-- Statements with these symbols lead to this point.
record Reached (pre : List Symbol) (m : Point) : Type 0 where
  trees : List tree.Statement
  symbols : (ws : List tree.Statement) → document_symbols (trees ++ ws) [] ≡ pre ++ document_symbols ws []
  end : (ws : List tree.Statement) → document_end (trees ++ ws) start_point ≡ document_end ws m
  at_is : m.at ≡ length pre
  before : All (EndsBefore m.at) m.produced
  plain : ArePlain pre

reached_start : Reached [] start_point
reached_start = record {
  trees = [];
  symbols = λ ws. refl;
  end = λ ws. refl;
  at_is = refl;
  before = All-nil (EndsBefore 0);
  plain = tt;
}

-- the production of a statement: it ends at the last token of its object
record IsProduced (o : tree.Object) (m : Point) : Type 0 where
  production : Production
  produced : (object_end o (node.Token m.at) (node.Token (m.at + 1)) (passed (passed m))).produced ≡ m.produced ++ production ∷ []
  at_is : (object_end o (node.Token m.at) (node.Token (m.at + 1)) (passed (passed m))).at ≡ end_of production + 1
  len : m.at + length (object_symbols o []) + 2 ≡ end_of production + 1

abbrev triple_to : Node → ℕ → Point → Production
triple_to object end m = Triple (record { subject = node.Token m.at; predicate = node.Token (m.at + 1); object = object; within = m.within; end = end })

abbrev iri_produced : (m : Point) → IsProduced (tree.iri tree.iri_ref) m
iri_produced m = record { production = triple_to (node.Token (m.at + 1 + 1)) (m.at + 1 + 1) m; produced = refl; at_is = refl; len = omega arith }

abbrev label_produced : (m : Point) → IsProduced tree.label m
label_produced m = record { production = triple_to (node.Token (m.at + 1 + 1)) (m.at + 1 + 1) m; produced = refl; at_is = refl; len = omega arith }

abbrev string_produced : (m : Point) → IsProduced (tree.literal tree.string) m
string_produced m = record { production = triple_to (node.Token (m.at + 1 + 1)) (m.at + 1 + 1) m; produced = refl; at_is = refl; len = omega arith }

abbrev tagged_produced : (m : Point) → IsProduced (tree.literal tree.tagged_string) m
tagged_produced m = record {
  production = triple_to (node.Tagged (m.at + 1 + 1) (m.at + 1 + 1 + 1)) (m.at + 1 + 1 + 1) m;
  produced = refl;
  at_is = refl;
  len = omega arith;
}

abbrev typed_produced : (m : Point) → IsProduced (tree.literal (tree.typed_string tree.iri_ref)) m
typed_produced m = record {
  production = triple_to (node.Typed (m.at + 1 + 1) (m.at + 1 + 1 + 1 + 1)) (m.at + 1 + 1 + 1 + 1) m;
  produced = refl;
  at_is = refl;
  len = omega arith;
}

abbrev literal_produced : (b : Bool) (m : Point) → IsProduced (tree.literal (literal_of b)) m
literal_produced true m = string_produced m
literal_produced false m = typed_produced m

abbrev object_produced : (o : Term) (m : Point) → IsProduced (object_of o) m
object_produced (Iri iri) m = iri_produced m
object_produced (Blank label) m = label_produced m
object_produced (Literal lexical datatype) m = literal_produced (pointwise nat_eq datatype xsd_string) m
object_produced (Tagged lexical lang) m = tagged_produced m

-- one token after the object
literal_len : (b : Bool) → length (object_symbols (tree.literal (literal_of b)) (Token Kind.Dot ∷ [])) ≡ length (object_symbols (tree.literal (literal_of b)) []) + 1
literal_len true = refl
literal_len false = refl

object_len : (o : Term) → length (object_symbols (object_of o) (Token Kind.Dot ∷ [])) ≡ length (object_symbols (object_of o) []) + 1
object_len (Iri iri) = refl
object_len (Blank label) = refl
object_len (Literal lexical datatype) = literal_len (pointwise nat_eq datatype xsd_string)
object_len (Tagged lexical lang) = refl

-- after one more statement
reached_next : (pre : List Symbol) (m : Point) (t : RdfTriple) → Reached pre m → ArePlain (symbols_of_triple t)
    → Reached (pre ++ symbols_of_triple t) (statement_end (statement_of t) m)
reached_next pre m t h plain =
    let w : tree.Statement = statement_of t in
    let ys : List Symbol = symbols_of_triple t in
    let x = object_produced t.o m in
    let end_is = (subject_one t.s).end (object_of t.o) m in
    let at_end : (statement_end w m).at ≡ end_of x.production + 1 + 1 = ap (λ (z : Point). z.at) end_is ∙ ap (λ (n : ℕ). n + 1) x.at_is in
    let made : (statement_end w m).produced ≡ m.produced ++ x.production ∷ [] = ap (λ (z : Point). z.produced) end_is ∙ x.produced in
    let low : m.at ≤ (statement_end w m).at = omega (arith, at_end, x.len) in
    let last : end_of x.production < (statement_end w m).at = omega (arith, at_end) in
    let early = All-weaker (EndsBefore m.at) (EndsBefore (statement_end w m).at) (λ y l. omega (arith, l, low)) m.produced h.before in
    record {
      trees = h.trees ++ w ∷ [];
      symbols = λ ws. ap (λ (z : List tree.Statement). document_symbols z []) (append_assoc h.trees (w ∷ []) ws)
          ∙ h.symbols (w ∷ ws) ∙ ap (λ (z : List Symbol). pre ++ z) (statement_then t (document_symbols ws []))
          ∙ sym (append_assoc pre ys (document_symbols ws []));
      end = λ ws. ap (λ (z : List tree.Statement). document_end z start_point) (append_assoc h.trees (w ∷ []) ws) ∙ h.end (w ∷ ws);
      at_is = omega (arith, at_end, x.len, h.at_is, length-append pre ys, object_len t.o);
      before = subst (All (EndsBefore (statement_end w m).at)) (sym made) (All-push (EndsBefore (statement_end w m).at) m.produced x.production early last);
      plain = plain_both pre ys h.plain plain;
    }

-- ---- what the first symbols of a statement produce

module _ (pre : List Symbol) (m : Point) (h : Reached pre m) where
  size_with : (q : List Symbol) → length (pre ++ q) ≡ m.at + length q
  size_with q = omega (arith, length-append pre q, h.at_is)

  before_all : (q : List Symbol) → All (EndsBefore (length (pre ++ q))) m.produced
  before_all q =
      let size = size_with q in
      All-weaker (EndsBefore m.at) (EndsBefore (length (pre ++ q))) (λ y l. omega (arith, l, size)) m.produced h.before

  module _ (s : tree.Subject) (k : Symbol) (one : IsOneToken s k) (o : tree.Object) (x : IsProduced o m) (q rest : List Symbol)
      (split : symbols_with k o ≡ q ++ rest) (plain : ArePlain (symbols_with k o)) (ends : EndsString rest) where
    derives : (ps : List Production) → m.produced ++ x.production ∷ [] ≡ ps → Derives Document ((pre ++ q) ++ rest) ps
    derives ps e =
        let w : tree.Statement = statement_with s o in
        let parts : ArePlain (q ++ rest) = subst ArePlain split plain in
        record {
          tree = h.trees ++ w ∷ [];
          symbols_are = h.symbols (w ∷ [])
              ∙ ap (λ (z : List Symbol). pre ++ z) (one.symbols (Token Kind.IriRef ∷ object_symbols o (Token Kind.Dot ∷ [])) ∙ split)
              ∙ sym (append_assoc pre q rest);
          produced = ap (λ (z : Point). z.produced) (h.end (w ∷ []) ∙ one.end o m) ∙ x.produced ∙ e;
          allowed = are_allowed ((pre ++ q) ++ rest)
              (plain_both (pre ++ q) rest (plain_both pre q h.plain (plain_first q rest parts)) (plain_second q rest parts));
        }

    with_it : end_of x.production < m.at + length q → Produces Document (pre ++ q) (m.produced ++ x.production ∷ [])
    with_it lt =
        let size = size_with q in
        let last : end_of x.production < length (pre ++ q) = omega (arith, lt, size) in
        record {
          rest = rest;
          later = [];
          ends_string = ends;
          derives = derives ((m.produced ++ x.production ∷ []) ++ []) (sym (append-nil (m.produced ++ x.production ∷ [])));
          so_far = All-push (EndsBefore (length (pre ++ q))) m.produced x.production (before_all q) last;
          after = All-nil (λ y. length (pre ++ q) ≤ end_of y);
        }

    without_it : m.at + length q ≤ end_of x.production → Produces Document (pre ++ q) m.produced
    without_it le =
        let size = size_with q in
        let later : length (pre ++ q) ≤ end_of x.production = omega (arith, le, size) in
        record {
          rest = rest;
          later = x.production ∷ [];
          ends_string = ends;
          derives = derives (m.produced ++ x.production ∷ []) refl;
          so_far = before_all q;
          after = All-cons (λ y. length (pre ++ q) ≤ end_of y) x.production [] later (All-nil (λ y. length (pre ++ q) ≤ end_of y));
        }

-- nothing of a statement
produces_nothing : (pre : List Symbol) (m : Point) → Reached pre m → Produces Document pre m.produced
produces_nothing pre m h = record {
  rest = [];
  later = [];
  ends_string = tt;
  derives = record {
    tree = h.trees ++ [];
    symbols_are = h.symbols [];
    produced = ap (λ (z : Point). z.produced) (h.end []) ∙ sym (append-nil m.produced);
    allowed = are_allowed (pre ++ []) (plain_both pre [] h.plain tt);
  };
  so_far = All-weaker (EndsBefore m.at) (EndsBefore (length pre)) (λ y l. omega (arith, l, h.at_is)) m.produced h.before;
  after = All-nil (λ y. length pre ≤ end_of y);
}

-- ---- cuts

-- the symbols add something to a String before them
abbrev pub Adds : List Symbol → Type 0
Adds (Token Kind.LangTag ∷ xs) = Unit {0}
Adds (Token Kind.Carets ∷ xs) = Unit {0}
Adds xs = ⊥

-- The productions are the first of all.
pub record IsFirst (all ps : List Production) : Type 0 where
  pub more : List Production
  pub is : ps ++ more ≡ all

-- The last symbol is a String to which the rest adds something. The last production is that of the
-- String alone, and those before it are the first of all.
pub record HasOwn (symbols rest : List Symbol) (all ps : List Production) : Type 0 where
  pub front : List Symbol
  pub ends : symbols ≡ front ++ Token Kind.Quoted ∷ []
  pub adds : Adds rest
  pub before : List Production
  pub own : Production
  pub is : ps ≡ before ++ own ∷ []
  pub first : IsFirst all before

-- What the symbols before the rest produce, where all of them produce all of these.
pub record IsCut (symbols rest : List Symbol) (all : List Production) : Type 0 where
  pub productions : List Production
  pub produces : Produces Document symbols productions
  pub fits : IsFirst all productions ⊎ HasOwn symbols rest all productions

first_without : (all ps : List Production) (x : Production) → IsFirst all (ps ++ x ∷ []) → IsFirst all ps
first_without all ps x f = record { more = x ∷ f.more; is = sym (append_assoc ps (x ∷ []) f.more) ∙ f.is }

module _ (pre : List Symbol) (m : Point) (h : Reached pre m) (s : tree.Subject) (k : Symbol) (one : IsOneToken s k) (all : List Production) (after : List Symbol) where
  cut_nothing : (rest : List Symbol) → IsFirst all m.produced → IsCut (pre ++ []) rest all
  cut_nothing rest f = subst (λ (z : List Symbol). IsCut z rest all) (sym (append-nil pre))
      (record { productions = m.produced; produces = produces_nothing pre m h; fits = inl f })

  cut_without : (o : tree.Object) (x : IsProduced o m) (q rest : List Symbol) → symbols_with k o ≡ q ++ rest → ArePlain (symbols_with k o) → EndsString rest
      → m.at + length q ≤ end_of x.production → IsFirst all (m.produced ++ x.production ∷ []) → IsCut (pre ++ q) (rest ++ after) all
  cut_without o x q rest split plain ends le f = record {
    productions = m.produced;
    produces = without_it pre m h s k one o x q rest split plain ends le;
    fits = inl (first_without all m.produced x.production f);
  }

  cut_with : (o : tree.Object) (x : IsProduced o m) (q rest : List Symbol) → symbols_with k o ≡ q ++ rest → ArePlain (symbols_with k o) → EndsString rest
      → end_of x.production < m.at + length q → IsFirst all (m.produced ++ x.production ∷ []) → IsCut (pre ++ q) (rest ++ after) all
  cut_with o x q rest split plain ends lt f = record {
    productions = m.produced ++ x.production ∷ [];
    produces = with_it pre m h s k one o x q rest split plain ends lt;
    fits = inl f;
  }

  -- after a String to which something is added
  cut_string : (rest : List Symbol) → ArePlain (symbols_with k (tree.literal tree.string)) → Adds rest → IsFirst all m.produced
      → IsCut (pre ++ (k ∷ Token Kind.IriRef ∷ Token Kind.Quoted ∷ [])) rest all
  cut_string rest plain adds f =
      let x = string_produced m in
      let q : List Symbol = k ∷ Token Kind.IriRef ∷ Token Kind.Quoted ∷ [] in
      record {
        productions = m.produced ++ x.production ∷ [];
        produces = with_it pre m h s k one (tree.literal tree.string) x q (Token Kind.Dot ∷ []) refl plain tt (omega arith);
        fits = inr (record {
          front = pre ++ (k ∷ Token Kind.IriRef ∷ []);
          ends = sym (append_assoc pre (k ∷ Token Kind.IriRef ∷ []) (Token Kind.Quoted ∷ []));
          adds = adds;
          before = m.produced;
          own = x.production;
          is = refl;
          first = f;
        });
      }

  -- an object of one token
  cut_single : (o : tree.Object) (x : IsProduced o m) (kind : Symbol) → symbols_with k o ≡ k ∷ Token Kind.IriRef ∷ kind ∷ Token Kind.Dot ∷ []
      → ArePlain (symbols_with k o) → EndsString (kind ∷ Token Kind.Dot ∷ []) → end_of x.production ≡ m.at + 1 + 1
      → IsFirst all (m.produced ++ x.production ∷ []) → (n : ℕ) → n < 4
      → IsCut (pre ++ take n (k ∷ Token Kind.IriRef ∷ kind ∷ Token Kind.Dot ∷ [])) (drop n (k ∷ Token Kind.IriRef ∷ kind ∷ Token Kind.Dot ∷ []) ++ after) all
  cut_single o x kind split plain ends end f zero lt =
      cut_nothing ((k ∷ Token Kind.IriRef ∷ kind ∷ Token Kind.Dot ∷ []) ++ after) (first_without all m.produced x.production f)
  cut_single o x kind split plain ends end f (suc zero) lt =
      cut_without o x (k ∷ []) (Token Kind.IriRef ∷ kind ∷ Token Kind.Dot ∷ []) split plain tt (omega (arith, end)) f
  cut_single o x kind split plain ends end f (suc (suc zero)) lt =
      cut_without o x (k ∷ Token Kind.IriRef ∷ []) (kind ∷ Token Kind.Dot ∷ []) split plain ends (omega (arith, end)) f
  cut_single o x kind split plain ends end f (suc (suc (suc zero))) lt =
      cut_with o x (k ∷ Token Kind.IriRef ∷ kind ∷ []) (Token Kind.Dot ∷ []) split plain tt (omega (arith, end)) f
  cut_single o x kind split plain ends end f (suc (suc (suc (suc n)))) lt = absurd (omega (arith, lt))

  -- a String and its tag
  cut_tagged : ArePlain (symbols_with k (tree.literal tree.tagged_string)) → ArePlain (symbols_with k (tree.literal tree.string))
      → IsFirst all (m.produced ++ (tagged_produced m).production ∷ []) → (n : ℕ) → n < 5
      → IsCut (pre ++ take n (symbols_with k (tree.literal tree.tagged_string))) (drop n (symbols_with k (tree.literal tree.tagged_string)) ++ after) all
  cut_tagged plain string f zero lt =
      cut_nothing (symbols_with k (tree.literal tree.tagged_string) ++ after) (first_without all m.produced (tagged_produced m).production f)
  cut_tagged plain string f (suc zero) lt =
      cut_without (tree.literal tree.tagged_string) (tagged_produced m) (k ∷ [])
      (Token Kind.IriRef ∷ Token Kind.Quoted ∷ Token Kind.LangTag ∷ Token Kind.Dot ∷ []) refl plain tt (omega arith) f
  cut_tagged plain string f (suc (suc zero)) lt =
      cut_without (tree.literal tree.tagged_string) (tagged_produced m) (k ∷ Token Kind.IriRef ∷ [])
      (Token Kind.Quoted ∷ Token Kind.LangTag ∷ Token Kind.Dot ∷ []) refl plain tt (omega arith) f
  cut_tagged plain string f (suc (suc (suc zero))) lt =
      cut_string (Token Kind.LangTag ∷ Token Kind.Dot ∷ after) string tt (first_without all m.produced (tagged_produced m).production f)
  cut_tagged plain string f (suc (suc (suc (suc zero)))) lt =
      cut_with (tree.literal tree.tagged_string) (tagged_produced m) (k ∷ Token Kind.IriRef ∷ Token Kind.Quoted ∷ Token Kind.LangTag ∷ [])
      (Token Kind.Dot ∷ []) refl plain tt (omega arith) f
  cut_tagged plain string f (suc (suc (suc (suc (suc n))))) lt = absurd (omega (arith, lt))

  -- a String and its datatype
  cut_typed : ArePlain (symbols_with k (tree.literal (tree.typed_string tree.iri_ref))) → ArePlain (symbols_with k (tree.literal tree.string))
      → IsFirst all (m.produced ++ (typed_produced m).production ∷ []) → (n : ℕ) → n < 6
      → IsCut (pre ++ take n (symbols_with k (tree.literal (tree.typed_string tree.iri_ref)))) (drop n (symbols_with k (tree.literal (tree.typed_string tree.iri_ref))) ++ after) all
  cut_typed plain string f zero lt =
      cut_nothing (symbols_with k (tree.literal (tree.typed_string tree.iri_ref)) ++ after) (first_without all m.produced (typed_produced m).production f)
  cut_typed plain string f (suc zero) lt =
      cut_without (tree.literal (tree.typed_string tree.iri_ref)) (typed_produced m) (k ∷ [])
      (Token Kind.IriRef ∷ Token Kind.Quoted ∷ Token Kind.Carets ∷ Token Kind.IriRef ∷ Token Kind.Dot ∷ []) refl plain tt (omega arith) f
  cut_typed plain string f (suc (suc zero)) lt =
      cut_without (tree.literal (tree.typed_string tree.iri_ref)) (typed_produced m) (k ∷ Token Kind.IriRef ∷ [])
      (Token Kind.Quoted ∷ Token Kind.Carets ∷ Token Kind.IriRef ∷ Token Kind.Dot ∷ []) refl plain tt (omega arith) f
  cut_typed plain string f (suc (suc (suc zero))) lt =
      cut_string (Token Kind.Carets ∷ Token Kind.IriRef ∷ Token Kind.Dot ∷ after) string tt (first_without all m.produced (typed_produced m).production f)
  cut_typed plain string f (suc (suc (suc (suc zero)))) lt =
      cut_without (tree.literal (tree.typed_string tree.iri_ref)) (typed_produced m) (k ∷ Token Kind.IriRef ∷ Token Kind.Quoted ∷ Token Kind.Carets ∷ [])
      (Token Kind.IriRef ∷ Token Kind.Dot ∷ []) refl plain tt (omega arith) f
  cut_typed plain string f (suc (suc (suc (suc (suc zero))))) lt =
      cut_with (tree.literal (tree.typed_string tree.iri_ref)) (typed_produced m)
      (k ∷ Token Kind.IriRef ∷ Token Kind.Quoted ∷ Token Kind.Carets ∷ Token Kind.IriRef ∷ []) (Token Kind.Dot ∷ []) refl plain tt (omega arith) f
  cut_typed plain string f (suc (suc (suc (suc (suc (suc n)))))) lt = absurd (omega (arith, lt))

  -- a String is plain where more of it is
  string_plain : (rest : List Symbol) → ArePlain (k ∷ Token Kind.IriRef ∷ Token Kind.Quoted ∷ rest) → ArePlain (symbols_with k (tree.literal tree.string))
  string_plain rest (first, (second, (third, more))) = (first, (second, (third, (record { allowed = refl; braces = refl; depth = refl }, tt))))

  cut_literal : (b : Bool) → ArePlain (symbols_with k (tree.literal (literal_of b))) → IsFirst all (m.produced ++ (literal_produced b m).production ∷ [])
      → (n : ℕ) → n < length (symbols_with k (tree.literal (literal_of b)))
      → IsCut (pre ++ take n (symbols_with k (tree.literal (literal_of b)))) (drop n (symbols_with k (tree.literal (literal_of b))) ++ after) all
  cut_literal true plain f n lt = cut_single (tree.literal tree.string) (string_produced m) (Token Kind.Quoted) refl plain tt refl f n lt
  cut_literal false plain f n lt =
      cut_typed plain (string_plain (Token Kind.Carets ∷ Token Kind.IriRef ∷ Token Kind.Dot ∷ []) plain) f n lt

  cut_inside : (o : Term) → ArePlain (symbols_with k (object_of o)) → IsFirst all (m.produced ++ (object_produced o m).production ∷ [])
      → (n : ℕ) → n < length (symbols_with k (object_of o))
      → IsCut (pre ++ take n (symbols_with k (object_of o))) (drop n (symbols_with k (object_of o)) ++ after) all
  cut_inside (Iri iri) plain f n lt = cut_single (tree.iri tree.iri_ref) (iri_produced m) (Token Kind.IriRef) refl plain tt refl f n lt
  cut_inside (Blank label) plain f n lt = cut_single tree.label (label_produced m) (Token Kind.BlankLabel) refl plain tt refl f n lt
  cut_inside (Literal lexical datatype) plain f n lt = cut_literal (pointwise nat_eq datatype xsd_string) plain f n lt
  cut_inside (Tagged lexical lang) plain f n lt = cut_tagged plain (string_plain (Token Kind.LangTag ∷ Token Kind.Dot ∷ []) plain) f n lt

-- ---- the first symbols of a graph's text

one_production : (t : RdfTriple) (m : Point) → (statement_end (statement_of t) m).produced ≡ m.produced ++ (object_produced t.o m).production ∷ []
one_production t m = ap (λ (z : Point). z.produced) ((subject_one t.s).end (object_of t.o) m) ∙ (object_produced t.o m).produced

-- what was produced before some statements is the first of all
all_first : (ts : List RdfTriple) (m : Point) → IsFirst (document_end (document_of ts) m).produced m.produced
all_first [] m = record { more = []; is = append-nil m.produced }
all_first (t ∷ ts) m =
    let all : List Production = (document_end (document_of (t ∷ ts)) m).produced in
    first_without all m.produced (object_produced t.o m).production (subst (IsFirst all) (one_production t m) (all_first ts (statement_end (statement_of t) m)))

heads : {X : Type 0} (x y : X) (xs ys : List X) → x ∷ xs ≡ y ∷ ys → (x ≡ y) × (xs ≡ ys)
heads x y xs ys e = (cc, cc)

-- of two lists before something the first is at least as long, or it is a part of the second
either_longer : {X : Type 0} (xs rest ys zs : List X) → xs ++ rest ≡ ys ++ zs
    → ((more : List X) × (xs ≡ ys ++ more) × (more ++ rest ≡ zs)) ⊎ ((n : ℕ) × (n < length ys) × (xs ≡ take n ys) × (rest ≡ drop n ys ++ zs))
either_longer xs rest [] zs e = inl (xs, refl, e)
either_longer [] rest (y ∷ ys) zs e = inr (0, omega arith, refl, e)
either_longer (x ∷ xs) rest (y ∷ ys) zs e =
    let same = heads x y (xs ++ rest) (ys ++ zs) e in
    elim (either_longer xs rest ys zs same.1) [
      | inl (more, is, left) ↦ inl (more, ap (λ z. z ∷ xs) same.0 ∙ ap (λ z. y ∷ z) is, left)
      | inr (n, lt, is, left) ↦ inr (suc n, omega (arith, lt), ap (λ z. z ∷ xs) same.0 ∙ ap (λ z. y ∷ z) is, left)
    ]

cut_at : (ts : List RdfTriple) (pre : List Symbol) (m : Point) → Reached pre m → ArePlain (document_symbols (document_of ts) [])
    → (xs rest : List Symbol) → xs ++ rest ≡ document_symbols (document_of ts) []
    → IsCut (pre ++ xs) rest (document_end (document_of ts) m).produced
cut_at [] pre m h plain [] rest e = subst (λ (z : List Symbol). IsCut z rest m.produced) (sym (append-nil pre))
    (record { productions = m.produced; produces = produces_nothing pre m h; fits = inl (record { more = []; is = append-nil m.produced }) })
cut_at [] pre m h plain (x ∷ xs) rest e = absurd (omega (arith, ap length e))
cut_at (t ∷ ts) pre m h plain xs rest e =
    let ys : List Symbol = symbols_of_triple t in
    let zs : List Symbol = document_symbols (document_of ts) [] in
    let n_point : Point = statement_end (statement_of t) m in
    let all : List Production = (document_end (document_of ts) n_point).produced in
    let whole : document_symbols (document_of (t ∷ ts)) [] ≡ ys ++ zs = statement_then t zs in
    let parts : ArePlain (ys ++ zs) = subst ArePlain whole plain in
    elim (either_longer xs rest ys zs (e ∙ whole)) [
      | inl (more, is, left) ↦
          let next = cut_at ts (pre ++ ys) n_point (reached_next pre m t h (plain_first ys zs parts)) (plain_second ys zs parts) more rest left in
          subst (λ (z : List Symbol). IsCut z rest all) (append_assoc pre ys more ∙ ap (λ (z : List Symbol). pre ++ z) (sym is)) next
      | inr (n, lt, is, left) ↦
          let here : IsCut (pre ++ take n ys) (drop n ys ++ zs) all =
          cut_inside pre m h (subject_of t.s) (subject_kind t.s) (subject_one t.s) all zs t.o (plain_first ys zs parts)
          (subst (IsFirst all) (one_production t m) (all_first ts n_point)) n lt in
          subst (λ (z : List Symbol). IsCut (pre ++ xs) z all) (sym left)
          (subst (λ (z : List Symbol). IsCut (pre ++ z) (drop n ys ++ zs) all) (sym is) here)
    ]

pub cut_graph : (graph : List RdfTriple) → ArePlain (document_symbols (document_of graph) []) → (xs rest : List Symbol)
    → xs ++ rest ≡ document_symbols (document_of graph) [] → IsCut xs rest (document_end (document_of graph) start_point).produced
cut_graph graph plain xs rest e = cut_at graph [] start_point reached_start plain xs rest e
