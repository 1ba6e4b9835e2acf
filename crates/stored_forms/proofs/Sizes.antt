-- The lengths of stored forms are their sizes.
use Rattle.std.proofs.Common.{◌≡◌, ℕ, suc, ◌+◌, ◌-◌, ◌^◌, List, [], ◌∷◌, ◌++◌, length, map, sum, min, arith, refl, ap, ◌∙◌, length-append}
use Rattle.std.specs.List.{flat_map}
use Rattle.std.proofs.lemmas.List.Concat.{flat_map-cons}
use Rattle.std.proofs.lemmas.List.Sums.{sum_by-cons}
use Rattle.rdf_graph.specs.Size.{saturated, text_size, term_size, triple_size, triples_size, graph_size}
use Rattle.rdf_graph.specs.declared.term.Term.{Term}
use Rattle.rdf_graph.specs.declared.term.Term.TheVariants.{Iri, Blank, Literal, Tagged}
use Rattle.rdf_graph.specs.declared.triple.Triple.{Triple}
use Rattle.stored_forms.specs.StoredForms.{number_bytes, text_bytes, list_bytes, term_bytes, triple_bytes, graph_bytes}
use Rattle.stored_forms.proofs.ReadLaws.{number_length}

text_length : (text : List ℕ) → length (text_bytes text) ≡ text_size text
unfolding text_bytes
text_length text = omega (arith, number_length (length text), length-append (number_bytes (length text)) text)

pub term_length : (term : Term) → length (term_bytes term) ≡ term_size term
unfolding term_bytes
term_length (Iri iri) = omega (arith, text_length iri)
term_length (Blank label) = omega (arith, text_length label)
term_length (Literal lexical datatype) = omega (arith, length-append (text_bytes lexical) (text_bytes datatype), text_length lexical, text_length datatype)
term_length (Tagged lexical lang) = omega (arith, length-append (text_bytes lexical) (text_bytes lang), text_length lexical, text_length lang)

pub triple_length : (t : Triple) → length (triple_bytes t) ≡ triple_size t
unfolding triple_bytes
triple_length t =
    omega (arith, length-append (term_bytes t.s) (term_bytes t.p ++ term_bytes t.o), length-append (term_bytes t.p) (term_bytes t.o), term_length t.s, term_length t.p, term_length t.o)

sum_first : (x : ℕ) (xs : List ℕ) → sum (x ∷ xs) ≡ x + sum xs
sum_first x xs = sum_by-cons (λ n. n) x xs

triples_length : (ts : List Triple) → length (flat_map triple_bytes ts) ≡ triples_size ts
triples_length [] = refl
triples_length (t ∷ ts) =
    omega (arith, ap length (flat_map-cons triple_bytes t ts), length-append (triple_bytes t) (flat_map triple_bytes ts), triple_length t, triples_length ts, sum_first (triple_size t) (map triple_size ts))

pub graph_length : (ts : List Triple) → length (graph_bytes ts) ≡ graph_size ts
unfolding graph_bytes list_bytes
graph_length ts = omega (arith, number_length (length ts), length-append (number_bytes (length ts)) (flat_map triple_bytes ts), triples_length ts)

min_sum : (top m n a b : ℕ) → a ≡ min m top → b ≡ min n top → min (a + b) top ≡ min (m + n) top
min_sum top m n a b d e = omega (arith, d, e)

pub saturated_sum : (m n : List ℕ) (a b : ℕ) → a ≡ saturated (length m) → b ≡ saturated (length n) → saturated (a + b) ≡ saturated (length (m ++ n))
unfolding saturated
saturated_sum m n a b d e = min_sum (2 ^ 64 - 1) (length m) (length n) a b d e ∙ ap (λ (k : ℕ). min k (2 ^ 64 - 1)) (omega (arith, length-append m n))

min_suc : (top m a : ℕ) → a ≡ min m top → min (a + 1) top ≡ min (suc m) top
min_suc top m a d = omega (arith, d)

pub saturated_suc : (m a : ℕ) → a ≡ saturated m → saturated (a + 1) ≡ saturated (suc m)
unfolding saturated
saturated_suc m a d = min_suc (2 ^ 64 - 1) m a d
