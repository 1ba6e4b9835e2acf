-- Triples, their lines, and the order of lines.
use Rattle.std.specs.Prelude.{ℕ, List, [], ◌∷◌, ◌++◌, codes, ◌≡◌, Option, None, Some, Bool, true}
use Rattle.std.specs.Prelude.{◌&&◌}
use Rattle.std.specs.declared.cmp.Ordering.{Ordering}
use Rattle.std.specs.declared.cmp.Ordering.TheVariants.{Less, Equal}
use Rattle.std.specs.Ordering.{nat_cmp, on, then_cmp, ordering_then}
use Rattle.std.specs.Cmp.Lexicographic.{slice_cmp}
use Rattle.rdf_graph.specs.Term.{text, term_eq, IsLiteral, IsIri}
use Rattle.rdf_graph.specs.declared.term.Term.{Term}
use Rattle.rdf_graph.specs.declared.term.Term.TheVariants.{Iri}
use Rattle.rdf_graph.specs.declared.triple.Triple.{Triple}

-- subject, space, predicate, space, object, space, `.`, LF
unfoldable pub line : Triple → List ℕ
line t = text t.s ++ (codes " " ++ (text t.p ++ (codes " " ++ (text t.o ++ codes " .\n"))))

-- texts in byte order
abbrev pub bytes_cmp : List ℕ → List ℕ → Ordering
bytes_cmp = slice_cmp nat_cmp

-- Triples in the byte order of their lines. Where labels or tags with spaces in them give two
-- triples one line, the text of the subject decides, and then that of the predicate.
unfoldable pub triple_cmp : Triple → Triple → Ordering
triple_cmp = then_cmp (on line bytes_cmp)
    (then_cmp (on (λ t. text t.s) bytes_cmp) (on (λ t. text t.p) bytes_cmp))

-- a triple of RDF has no literal as its subject, and an IRI as its predicate (RDF 1.1, section 3.1)
abbrev pub IsRdf : Triple → Type 0
IsRdf t = (¬ IsLiteral t.s) × IsIri t.p

-- the triple of three IRIs
abbrev pub iri_triple : List ℕ → List ℕ → List ℕ → Triple
iri_triple s p o = record { s = Iri s; p = Iri p; o = Iri o }

-- how a line compares with the lines that have this prefix
abbrev pub prefix_cmp : List ℕ → List ℕ → Ordering
prefix_cmp line [] = Equal
prefix_cmp [] (b ∷ bs) = Less
prefix_cmp (x ∷ line) (b ∷ bs) = ordering_then (nat_cmp x b) (prefix_cmp line bs)

-- the prefix of the lines of a subject
unfoldable pub subject_prefix : Term → List ℕ
subject_prefix subject = text subject ++ codes " "

-- x is the given term, if one is given
abbrev pub IsGivenTerm : Option Term → Term → Type 0
IsGivenTerm None x = Unit {0}
IsGivenTerm (Some term) x = x ≡ term

-- the triple has the given subject, predicate and object, where they are given
abbrev pub HasTerms : Option Term → Option Term → Option Term → Triple → Type 0
HasTerms s p o t = IsGivenTerm s t.s × IsGivenTerm p t.p × IsGivenTerm o t.o

-- the same as a test
abbrev pub is_given_term : Option Term → Term → Bool
is_given_term None x = true
is_given_term (Some term) x = term_eq x term

abbrev pub has_terms : Option Term → Option Term → Option Term → Triple → Bool
has_terms s p o t = is_given_term s t.s && is_given_term p t.p && is_given_term o t.o
