-- The statements of a graph's text produce the triples of the graph.
use Rattle.std.proofs.Common.{◌≡◌, ℕ, zero, suc, ◌+◌, Bool, true, false, List, [], ◌∷◌, ◌++◌, length, drop, codes, All, Option, Some, slice_get, refl, sym, ap, ◌∙◌, subst, arith, append_assoc, length-drop, nat_eq}
use Rattle.std.proofs.lemmas.List.{append-nil, drop-drop}
use Rattle.std.proofs.lemmas.List.Elements.{All-head, All-tail}
use lib.Pointwise.{pointwise, bytes_decides}
use Rattle.rdf_graph.specs.Term.{xsd_string, IsLiteral, IsIri}
use Rattle.rdf_graph.specs.Triple.{IsRdf}
use Rattle.rdf_graph.specs.declared.term.Term.{Term}
use Rattle.rdf_graph.specs.declared.term.Term.TheVariants.{Iri, Blank, Literal, Tagged}
use Rattle.rdf_graph.specs.declared.triple.Triple.{Triple as RdfTriple}
use Rattle.turtle_grammar.specs.declared.production.Node.{Node}
use Rattle.turtle_grammar.specs.declared.production.Node.TheVariants as node
use Rattle.turtle_grammar.specs.declared.production.SymbolicTriple.{SymbolicTriple}
use Rattle.turtle_grammar.specs.declared.production.Production.{Production}
use Rattle.turtle_grammar.specs.declared.production.Production.TheVariants.{Prefix, Base, Triple}
use Rattle.turtle_grammar.specs.Productions.{Point, passed, says_token, object_end, statement_end, document_end}
use Rattle.turtle_grammar.specs.Trees as tree
use Rattle.turtle_reader.specs.declared.meaning.Meaning.{Meaning}
use Rattle.turtle_reader.specs.declared.meaning.Meaning.TheVariants as meaning_of
use Rattle.turtle_reader.specs.Referents.{term_referent, tagged, typed}
use Rattle.turtle_text.specs.Triples.{IsReferentTerm, IsNodeTerm, IsTripleOf, AreTriplesOf}
use Rattle.syntax_laws.proofs.Pieces.{Piece}
use Rattle.syntax_laws.proofs.Terms.{dot_piece, datatype_pieces, term_pieces}
use Rattle.syntax_laws.proofs.Graphs.{triple_pieces, graph_pieces}
use Rattle.syntax_laws.proofs.Meanings.{meanings_of}
use Rattle.syntax_laws.proofs.Trees.{subject_of, literal_of, object_of, one_object, statement_of, document_of}

-- ---- lists from an index on

item_at : {X : Type 0} (xs : List X) (n : ℕ) (x : X) (rest : List X) → drop n xs ≡ x ∷ rest → slice_get xs n ≡ Some x
item_at {X} [] n x rest e = absurd (omega (arith, ap length e, length-drop {A = X} n []))
item_at (y ∷ xs) zero x rest e = cc
item_at (y ∷ xs) (suc n) x rest e = item_at xs n x rest e

after_item : {X : Type 0} (xs : List X) (n : ℕ) (x : X) (rest : List X) → drop n xs ≡ x ∷ rest → drop (n + 1) xs ≡ rest
after_item xs n x rest e = sym (drop-drop 1 n xs) ∙ ap (drop 1) e

-- ---- what nodes refer to

module _ (bytes : List ℕ) (meanings : List Meaning) where
  token_term : (n : ℕ) (x : Term) (rest : List Meaning) → drop n meanings ≡ meaning_of.Term x ∷ rest → IsNodeTerm bytes meanings (node.Token n) x
  token_term n x rest e =
      subst (λ (o : Option Meaning). IsReferentTerm bytes (term_referent o) x) (sym (item_at meanings n (meaning_of.Term x) rest e)) refl

  tagged_term : (n k : ℕ) (lexical datatype lang : List ℕ) (rest : List Meaning)
      → drop n meanings ≡ meaning_of.Term (Literal lexical datatype) ∷ meaning_of.Language lang ∷ rest
      → k ≡ n + 1 → IsNodeTerm bytes meanings (node.Tagged n k) (Tagged lexical lang)
  tagged_term n k lexical datatype lang rest e same =
      let string = item_at meanings n (meaning_of.Term (Literal lexical datatype)) (meaning_of.Language lang ∷ rest) e in
      let more = after_item meanings n (meaning_of.Term (Literal lexical datatype)) (meaning_of.Language lang ∷ rest) e in
      let tag = item_at meanings k (meaning_of.Language lang) rest (ap (λ (i : ℕ). drop i meanings) same ∙ more) in
      subst (λ (o : Option Meaning). IsReferentTerm bytes (tagged o (slice_get meanings k)) (Tagged lexical lang)) (sym string)
      (subst (λ (o : Option Meaning). IsReferentTerm bytes (tagged (Some (meaning_of.Term (Literal lexical datatype))) o) (Tagged lexical lang)) (sym tag) refl)

  typed_term : (n k : ℕ) (lexical plain datatype : List ℕ) (m : Meaning) (rest : List Meaning)
      → drop n meanings ≡ meaning_of.Term (Literal lexical plain) ∷ m ∷ meaning_of.Term (Iri datatype) ∷ rest
      → k ≡ n + 1 + 1 → IsNodeTerm bytes meanings (node.Typed n k) (Literal lexical datatype)
  typed_term n k lexical plain datatype m rest e same =
      let last : List Meaning = meaning_of.Term (Iri datatype) ∷ rest in
      let string = item_at meanings n (meaning_of.Term (Literal lexical plain)) (m ∷ last) e in
      let more = after_item meanings (n + 1) m last (after_item meanings n (meaning_of.Term (Literal lexical plain)) (m ∷ last) e) in
      let iri = item_at meanings k (meaning_of.Term (Iri datatype)) rest (ap (λ (i : ℕ). drop i meanings) same ∙ more) in
      subst (λ (o : Option Meaning). IsReferentTerm bytes (typed o (slice_get meanings k)) (Literal lexical datatype)) (sym string)
      (subst (λ (o : Option Meaning). IsReferentTerm bytes (typed (Some (meaning_of.Term (Literal lexical plain))) o) (Literal lexical datatype)) (sym iri) refl)

  -- a subject or predicate is the term of its token
  node_term : (blanks : List ℕ) (x : Term) (ps : List Piece) (n : ℕ) → (IsLiteral x → ⊥) → drop n meanings ≡ meanings_of (term_pieces blanks x ps)
      → IsNodeTerm bytes meanings (node.Token n) x × (drop (n + 1) meanings ≡ meanings_of ps)
  node_term blanks (Iri iri) ps n h e = (token_term n (Iri iri) (meanings_of ps) e, after_item meanings n (meaning_of.Term (Iri iri)) (meanings_of ps) e)
  node_term blanks (Blank label) ps n h e = (token_term n (Blank label) (meanings_of ps) e, after_item meanings n (meaning_of.Term (Blank label)) (meanings_of ps) e)
  node_term blanks (Literal lexical datatype) ps n h e = absurd (h tt)
  node_term blanks (Tagged lexical lang) ps n h e = absurd (h tt)

  -- one triple more
  add_triple : (xs : List Production) (done : List RdfTriple) (x : SymbolicTriple) (t : RdfTriple) → AreTriplesOf bytes meanings xs done
      → IsTripleOf bytes meanings x t → AreTriplesOf bytes meanings (xs ++ Triple x ∷ []) (done ++ t ∷ [])
  add_triple [] done x t h k = (t, [], ap (λ (ts : List RdfTriple). ts ++ t ∷ []) h, k, refl)
  add_triple (Prefix name iri ∷ xs) done x t h k = add_triple xs done x t h k
  add_triple (Base iri ∷ xs) done x t h k = add_triple xs done x t h k
  add_triple (Triple y ∷ xs) done x t (first, rest, e, is, more) k =
      (first, rest ++ t ∷ [], ap (λ (ts : List RdfTriple). ts ++ t ∷ []) e, is, add_triple xs rest x t more k)

  -- So far these triples were produced, and the meanings of the pieces follow.
  pub record IsDone (m : Point) (done : List RdfTriple) (ps : List Piece) : Type 0 where
    pub triples : AreTriplesOf bytes meanings m.produced done
    pub left : drop m.at meanings ≡ meanings_of ps

  literal_done : (b : Bool) (s p : Node) (subject predicate : Term) (lexical datatype : List ℕ) (m : Point) (done : List RdfTriple) (ps : List Piece)
      → pointwise nat_eq datatype xsd_string ≡ b → IsNodeTerm bytes meanings s subject → IsNodeTerm bytes meanings p predicate
      → AreTriplesOf bytes meanings m.produced done
      → drop m.at meanings ≡ meaning_of.Term (Literal lexical xsd_string) ∷ meanings_of (datatype_pieces b datatype ps)
      → IsDone (object_end (tree.literal (literal_of b)) s p m)
      (done ++ (record { s = subject; p = predicate; o = Literal lexical datatype }) ∷ []) ps
  literal_done true s p subject predicate lexical datatype m done ps test is_s is_p h e =
      let plain : xsd_string ≡ datatype = sym ((bytes_decides datatype xsd_string).0 test) in
      let object : IsNodeTerm bytes meanings (node.Token m.at) (Literal lexical datatype) =
      subst (λ (d : List ℕ). IsNodeTerm bytes meanings (node.Token m.at) (Literal lexical d)) plain
      (token_term m.at (Literal lexical xsd_string) (meanings_of ps) e) in
      record {
        triples = add_triple m.produced done (record { subject = s; predicate = p; object = node.Token m.at; within = m.within; end = m.at })
            (record { s = subject; p = predicate; o = Literal lexical datatype }) h (record { subject = is_s; predicate = is_p; object = object });
        left = after_item meanings m.at (meaning_of.Term (Literal lexical xsd_string)) (meanings_of ps) e;
      }
  literal_done false s p subject predicate lexical datatype m done ps test is_s is_p h e =
      let object = typed_term m.at (m.at + 1 + 1) lexical xsd_string datatype meaning_of.Nothing (meanings_of ps) e refl in
      let last : List Meaning = meaning_of.Term (Iri datatype) ∷ meanings_of ps in
      let one = after_item meanings m.at (meaning_of.Term (Literal lexical xsd_string)) (meaning_of.Nothing ∷ last) e in
      let two = after_item meanings (m.at + 1) meaning_of.Nothing last one in
      record {
        triples = add_triple m.produced done (record { subject = s; predicate = p; object = node.Typed m.at (m.at + 1 + 1); within = m.within; end = m.at + 1 + 1 })
            (record { s = subject; p = predicate; o = Literal lexical datatype }) h (record { subject = is_s; predicate = is_p; object = object });
        left = after_item meanings (m.at + 1 + 1) (meaning_of.Term (Iri datatype)) (meanings_of ps) two;
      }

  -- an object of one token
  token_done : (s p : Node) (subject predicate object : Term) (m : Point) (done : List RdfTriple) (ps : List Piece)
      → IsNodeTerm bytes meanings s subject → IsNodeTerm bytes meanings p predicate → AreTriplesOf bytes meanings m.produced done
      → drop m.at meanings ≡ meaning_of.Term object ∷ meanings_of ps
      → IsDone (says_token s p m) (done ++ (record { s = subject; p = predicate; o = object }) ∷ []) ps
  token_done s p subject predicate object m done ps is_s is_p h e = record {
    triples = add_triple m.produced done (record { subject = s; predicate = p; object = node.Token m.at; within = m.within; end = m.at })
        (record { s = subject; p = predicate; o = object }) h
        (record { subject = is_s; predicate = is_p; object = token_term m.at object (meanings_of ps) e });
    left = after_item meanings m.at (meaning_of.Term object) (meanings_of ps) e;
  }

  object_done : (blanks : List ℕ) (s p : Node) (subject predicate object : Term) (m : Point) (done : List RdfTriple) (ps : List Piece)
      → IsNodeTerm bytes meanings s subject → IsNodeTerm bytes meanings p predicate → IsDone m done (term_pieces blanks object ps)
      → IsDone (object_end (object_of object) s p m) (done ++ (record { s = subject; p = predicate; o = object }) ∷ []) ps
  object_done blanks s p subject predicate (Iri iri) m done ps is_s is_p h = token_done s p subject predicate (Iri iri) m done ps is_s is_p h.triples h.left
  object_done blanks s p subject predicate (Blank label) m done ps is_s is_p h = token_done s p subject predicate (Blank label) m done ps is_s is_p h.triples h.left
  object_done blanks s p subject predicate (Literal lexical datatype) m done ps is_s is_p h =
      literal_done (pointwise nat_eq datatype xsd_string) s p subject predicate lexical datatype m done ps refl is_s is_p h.triples h.left
  object_done blanks s p subject predicate (Tagged lexical lang) m done ps is_s is_p h =
      let object = tagged_term m.at (m.at + 1) lexical xsd_string lang (meanings_of ps) h.left refl in
      let one = after_item meanings m.at (meaning_of.Term (Literal lexical xsd_string)) (meaning_of.Language lang ∷ meanings_of ps) h.left in
      record {
        triples = add_triple m.produced done (record { subject = s; predicate = p; object = node.Tagged m.at (m.at + 1); within = m.within; end = m.at + 1 })
            (record { s = subject; p = predicate; o = Tagged lexical lang }) h.triples (record { subject = is_s; predicate = is_p; object = object });
        left = after_item meanings (m.at + 1) (meaning_of.Language lang) (meanings_of ps) one;
      }

  -- the end of a statement with one object
  statement_is : (s : Term) (o : tree.Object) (m : Point)
      → statement_end (tree.statement (tree.about (subject_of s) (one_object o))) m
      ≡ passed (object_end o (node.Token m.at) (node.Token (m.at + 1)) (passed (passed m)))
  statement_is (Iri iri) o m = refl
  statement_is (Blank label) o m = refl
  statement_is (Literal lexical datatype) o m = refl
  statement_is (Tagged lexical lang) o m = refl

  iri_no_literal : (x : Term) → IsIri x → IsLiteral x → ⊥
  iri_no_literal (Iri iri) h l = l
  iri_no_literal (Blank label) h l = l
  iri_no_literal (Literal lexical datatype) h l = h
  iri_no_literal (Tagged lexical lang) h l = h

  triple_done : (blanks : List ℕ) (t : RdfTriple) (m : Point) (done : List RdfTriple) (ps : List Piece) → IsRdf t
      → IsDone m done (triple_pieces blanks t ps) → IsDone (statement_end (statement_of t) m) (done ++ t ∷ []) ps
  triple_done blanks t m done ps rdf h =
      let third : List Piece = term_pieces (codes " ") t.o (dot_piece ∷ ps) in
      let second : List Piece = term_pieces (codes " ") t.p third in
      let subject = node_term blanks t.s second m.at rdf.0 h.left in
      let predicate = node_term (codes " ") t.p third (m.at + 1) (iri_no_literal t.p rdf.1) subject.1 in
      let object = object_done (codes " ") (node.Token m.at) (node.Token (m.at + 1)) t.s t.p t.o (passed (passed m)) done (dot_piece ∷ ps)
      subject.0 predicate.0 (record { triples = h.triples; left = predicate.1 }) in
      let end : Point = object_end (object_of t.o) (node.Token m.at) (node.Token (m.at + 1)) (passed (passed m)) in
      subst (λ (e : Point). IsDone e (done ++ t ∷ []) ps) (sym (statement_is t.s (object_of t.o) m))
      (record { triples = object.triples; left = after_item meanings end.at meaning_of.Nothing (meanings_of ps) object.left })

  pub graph_done : (blanks : List ℕ) (ts : List RdfTriple) (m : Point) (done : List RdfTriple) → All IsRdf ts → IsDone m done (graph_pieces blanks ts)
      → AreTriplesOf bytes meanings (document_end (document_of ts) m).produced (done ++ ts)
  graph_done blanks [] m done rdf h = subst (λ (ts : List RdfTriple). AreTriplesOf bytes meanings m.produced ts) (sym (append-nil done)) h.triples
  graph_done blanks (t ∷ ts) m done rdf h =
      let one = triple_done blanks t m done (graph_pieces (codes "\n") ts) (All-head IsRdf t ts rdf) h in
      subst (λ (xs : List RdfTriple). AreTriplesOf bytes meanings (document_end (document_of ts) (statement_end (statement_of t) m)).produced xs)
      (append_assoc done (t ∷ []) ts)
      (graph_done (codes "\n") ts (statement_end (statement_of t) m) (done ++ t ∷ []) (All-tail IsRdf t ts rdf) one)
