-- Lengths of texts.
use Rattle.std.proofs.Common.{◌≡◌, ℕ, ◌+◌, cond, List, [], ◌∷◌, length, refl, ap, ◌∙◌, arith, length-append, count_by}
use Rattle.std.proofs.lemmas.List.Recursion.{is_count_by}
use Rattle.std.proofs.lemmas.Bool.Decides.{nat_tests}
use Rattle.rdf_graph.specs.Term.{datatype_text, escaped, escaped_byte, text}
use Rattle.rdf_graph.specs.Triple.{line}
use Rattle.rdf_graph.specs.declared.term.Term.TheVariants.{Literal, Tagged}
use Rattle.rdf_graph.specs.declared.triple.Triple.{Triple}
use Rattle.turtle_text.specs.HasEscape.{has_escape}

-- how many bytes have an escape, counted from the first on
abbrev escapes : List ℕ → ℕ
escapes [] = 0
escapes (b ∷ bs) = cond (has_escape b) (1 + escapes bs) (escapes bs)

byte_length : (b : ℕ) → length (escaped_byte b) ≡ cond (has_escape b) 2 1
byte_length b = grind (arith, nat_tests)

one_more : (b m n k : ℕ) → k ≡ cond (has_escape b) 2 1 → k + (m + n) ≡ (m + 1) + cond (has_escape b) (1 + n) n
one_more b m n k e = grind arith

counted : (bs : List ℕ) → length (escaped bs) ≡ length bs + escapes bs
counted [] = refl
counted (b ∷ bs) =
    let parts : length (escaped (b ∷ bs)) ≡ length (escaped_byte b) + length (escaped bs) = length-append (escaped_byte b) (escaped bs) in
    let here = one_more b (length bs) (escapes bs) (length (escaped_byte b)) (byte_length b) in
    let longer : length (b ∷ bs) ≡ length bs + 1 = omega arith in
    omega (arith, parts, counted bs, here, longer)

-- an escaped text has its length and one byte more for each escape
pub escaped_length : (bs : List ℕ) → length (escaped bs) ≡ length bs + count_by has_escape bs
escaped_length bs = counted bs ∙ ap (λ (n : ℕ). length bs + n) (is_count_by escapes has_escape refl (λ b more. refl) bs)

pub literal_length : (lexical datatype : List ℕ) → length (text (Literal lexical datatype)) ≡ (2 + length (escaped lexical)) + length (datatype_text datatype)
unfolding text
literal_length lexical datatype = simp length-append (omega arith)

pub tagged_length : (lexical lang : List ℕ) → length (text (Tagged lexical lang)) ≡ (2 + length (escaped lexical)) + (1 + length lang)
unfolding text
tagged_length lexical lang = simp length-append (omega arith)

pub line_length : (t : Triple) → length (line t) ≡ length (text t.s) + (length (text t.p) + (length (text t.o) + 5))
unfolding line
line_length t = simp length-append (omega arith)
