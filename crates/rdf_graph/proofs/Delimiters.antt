-- Lines that follow each other have one parse.
use Rattle.std.proofs.Common.{ℕ, ◌≡◌, ◌≢◌, ◌⊎◌, List, [], ◌∷◌, ◌++◌, Bool, true, false, cond, refl, sym, ap, ◌∙◌, inl, inr, ⊎_elim, codes, eqb, length, arith}
use Rattle.std.specs.List.{All}
use Rattle.std.proofs.lemmas.List.{append_assoc, append-nil, length-append}
use Rattle.std.proofs.lemmas.List.Elements.{All-head, All-tail}
use lib.Pointwise.{pointwise, bytes_decides}
use Rattle.rdf_graph.specs.Graph.{graph_text}
use Rattle.rdf_graph.specs.Laws.{TermsLackDelimiters, LacksDelimiters}
use Rattle.rdf_graph.specs.Term.{datatype_text, escaped, text, xsd_string}
use Rattle.rdf_graph.specs.Triple.{line}
use Rattle.rdf_graph.specs.declared.term.Term.{Term}
use Rattle.rdf_graph.specs.declared.term.Term.TheVariants.{Iri, Blank, Literal, Tagged}
use Rattle.rdf_graph.specs.declared.triple.Triple.{Triple}
use Rattle.rdf_graph.proofs.Exact.{same_parts}
use Rattle.rdf_graph.specs.TermTexts.{first_byte, quoted_parts}

-- what precedes the first byte c, and what follows it
parts : (c : ℕ) (us vs xs ys : List ℕ) → All (λ b. b ≢ c) us → All (λ b. b ≢ c) vs → us ++ c ∷ xs ≡ vs ++ c ∷ ys → (us ≡ vs) × (xs ≡ ys)
parts c [] [] xs ys h k e = (refl, cc)
parts c [] (b ∷ vs) xs ys h k e = absurd (All-head (λ z. z ≢ c) b vs k (sym (heads e)))
  where
    heads : c ∷ xs ≡ b ∷ (vs ++ c ∷ ys) → c ≡ b
    heads e = cc
parts c (a ∷ us) [] xs ys h k e = absurd (All-head (λ z. z ≢ c) a us h (heads e))
  where
    heads : a ∷ (us ++ c ∷ xs) ≡ c ∷ ys → a ≡ c
    heads e = cc
parts c (a ∷ us) (b ∷ vs) xs ys h k e =
    let rest = parts c us vs xs ys (All-tail (λ z. z ≢ c) a us h) (All-tail (λ z. z ≢ c) b vs k) (tails e) in
    (both (heads e) rest.0, rest.1)
  where
    heads : a ∷ (us ++ c ∷ xs) ≡ b ∷ (vs ++ c ∷ ys) → a ≡ b
    heads e = cc

    tails : a ∷ (us ++ c ∷ xs) ≡ b ∷ (vs ++ c ∷ ys) → us ++ c ∷ xs ≡ vs ++ c ∷ ys
    tails e = cc

    both : a ≡ b → us ≡ vs → a ∷ us ≡ b ∷ vs
    both e f = cc

after_one : (a b : ℕ) (xs ys : List ℕ) → a ∷ xs ≡ b ∷ ys → xs ≡ ys
after_one a b xs ys e = cc

-- what follows the quote of a literal with a datatype
datatype_parts : (b c : Bool) (d e xs ys : List ℕ) → All (λ z. z ≢ 62) d → All (λ z. z ≢ 62) e
    → cond b [] (codes "^^<" ++ (d ++ codes ">")) ++ 32 ∷ xs ≡ cond c [] (codes "^^<" ++ (e ++ codes ">")) ++ 32 ∷ ys
    → (((b ≡ true) × (c ≡ true)) ⊎ (d ≡ e)) × (xs ≡ ys)
datatype_parts true true d e xs ys h k eq = (inl (refl, refl), after_one 32 32 xs ys eq)
datatype_parts true false d e xs ys h k eq = absurd (omega (arith, ap first_byte eq))
datatype_parts false true d e xs ys h k eq = absurd (omega (arith, ap first_byte eq))
datatype_parts false false d e xs ys h k eq =
    let inner : d ++ 62 ∷ 32 ∷ xs ≡ e ++ 62 ∷ 32 ∷ ys =
    sym (append_assoc d (codes ">") (32 ∷ xs)) ∙ after_one 60 60 _ _ (after_one 94 94 _ _ (after_one 94 94 _ _ eq)) ∙ append_assoc e (codes ">") (32 ∷ ys) in
    let p = parts 62 d e (32 ∷ xs) (32 ∷ ys) h k inner in
    (inr p.0, after_one 32 32 xs ys p.1)

no_tag : (b : Bool) (d t xs ys : List ℕ) → cond b [] (codes "^^<" ++ (d ++ codes ">")) ++ 32 ∷ xs ≡ (codes "@" ++ t) ++ 32 ∷ ys → ⊥
no_tag true d t xs ys e = omega (arith, ap first_byte e)
no_tag false d t xs ys e = omega (arith, ap first_byte e)

quoted_rest : (l rest xs : List ℕ) → (codes "\"" ++ (escaped l ++ (codes "\"" ++ rest))) ++ 32 ∷ xs ≡ 34 ∷ (escaped l ++ (34 ∷ (rest ++ 32 ∷ xs)))
quoted_rest l rest xs = ap (λ ys. 34 ∷ ys) (append_assoc (escaped l) (34 ∷ rest) (32 ∷ xs))

-- a term's text and the space after it
pub term_parts : (a b : Term) (xs ys : List ℕ) → LacksDelimiters a → LacksDelimiters b → text a ++ 32 ∷ xs ≡ text b ++ 32 ∷ ys → (a ≡ b) × (xs ≡ ys)
unfolding text
term_parts (Iri i) (Iri j) xs ys h k e =
    let inner : i ++ 62 ∷ 32 ∷ xs ≡ j ++ 62 ∷ 32 ∷ ys = sym (append_assoc i (codes ">") (32 ∷ xs)) ∙ after_one 60 60 _ _ e ∙ append_assoc j (codes ">") (32 ∷ ys) in
    let p = parts 62 i j (32 ∷ xs) (32 ∷ ys) h k inner in
    (ap (λ x. Iri x) p.0, after_one 32 32 xs ys p.1)
term_parts (Iri i) (Blank m) xs ys h k e = absurd (omega (arith, ap first_byte e))
term_parts (Iri i) (Literal m d) xs ys h k e = absurd (omega (arith, ap first_byte e))
term_parts (Iri i) (Tagged m t) xs ys h k e = absurd (omega (arith, ap first_byte e))
term_parts (Blank l) (Iri j) xs ys h k e = absurd (omega (arith, ap first_byte e))
term_parts (Blank l) (Blank m) xs ys h k e =
    let p = parts 32 l m xs ys h k (after_one 58 58 _ _ (after_one 95 95 _ _ e)) in
    (ap (λ x. Blank x) p.0, p.1)
term_parts (Blank l) (Literal m d) xs ys h k e = absurd (omega (arith, ap first_byte e))
term_parts (Blank l) (Tagged m t) xs ys h k e = absurd (omega (arith, ap first_byte e))
term_parts (Literal l d) (Iri j) xs ys h k e = absurd (omega (arith, ap first_byte e))
term_parts (Literal l d) (Blank m) xs ys h k e = absurd (omega (arith, ap first_byte e))
term_parts (Literal l d) (Literal m f) xs ys h k e =
    let q = quoted_parts l m (datatype_text d ++ 32 ∷ xs) (datatype_text f ++ 32 ∷ ys)
    (after_one 34 34 _ _ (sym (quoted_rest l (datatype_text d) xs) ∙ e ∙ quoted_rest m (datatype_text f) ys)) in
    let p = datatype_parts (pointwise eqb d xsd_string) (pointwise eqb f xsd_string) d f xs ys h k q.1 in (
      literals l m d f q.0
          (⊎_elim
          (λ (both : (pointwise eqb d xsd_string ≡ true) × (pointwise eqb f xsd_string ≡ true)). (bytes_decides d xsd_string).0 both.0 ∙ sym ((bytes_decides f xsd_string).0 both.1))
          (λ (same : d ≡ f). same)
          p.0),
      p.1,
    )
  where
    literals : (l m d f : List ℕ) → l ≡ m → d ≡ f → Literal l d ≡ Literal m f
    literals l m d f a b = cc
term_parts (Literal l d) (Tagged m t) xs ys h k e =
    let q = quoted_parts l m (datatype_text d ++ 32 ∷ xs) ((codes "@" ++ t) ++ 32 ∷ ys)
    (after_one 34 34 _ _ (sym (quoted_rest l (datatype_text d) xs) ∙ e ∙ quoted_rest m (codes "@" ++ t) ys)) in
    absurd (no_tag (pointwise eqb d xsd_string) d t xs ys q.1)
term_parts (Tagged l t) (Iri j) xs ys h k e = absurd (omega (arith, ap first_byte e))
term_parts (Tagged l t) (Blank m) xs ys h k e = absurd (omega (arith, ap first_byte e))
term_parts (Tagged l t) (Literal m d) xs ys h k e =
    let q = quoted_parts l m ((codes "@" ++ t) ++ 32 ∷ xs) (datatype_text d ++ 32 ∷ ys)
    (after_one 34 34 _ _ (sym (quoted_rest l (codes "@" ++ t) xs) ∙ e ∙ quoted_rest m (datatype_text d) ys)) in
    absurd (no_tag (pointwise eqb d xsd_string) d t ys xs (sym q.1))
term_parts (Tagged l t) (Tagged m u) xs ys h k e =
    let q = quoted_parts l m ((codes "@" ++ t) ++ 32 ∷ xs) ((codes "@" ++ u) ++ 32 ∷ ys)
    (after_one 34 34 _ _ (sym (quoted_rest l (codes "@" ++ t) xs) ∙ e ∙ quoted_rest m (codes "@" ++ u) ys)) in
    let p = parts 32 t u xs ys h k (after_one 64 64 _ _ q.1) in
    (tagged l m t u q.0 p.0, p.1)
  where
    tagged : (l m t u : List ℕ) → l ≡ m → t ≡ u → Tagged l t ≡ Tagged m u
    tagged l m t u a b = cc

pub line_rest : (s p o : Term) (rest : List ℕ) → line (record { s = s; p = p; o = o }) ++ rest ≡ text s ++ 32 ∷ (text p ++ 32 ∷ (text o ++ 32 ∷ (46 ∷ 10 ∷ rest)))
unfolding line
line_rest s p o rest =
    append_assoc (text s) (32 ∷ (text p ++ 32 ∷ (text o ++ codes " .\n"))) rest
    ∙ ap (λ ys. text s ++ 32 ∷ ys) (append_assoc (text p) (32 ∷ (text o ++ codes " .\n")) rest ∙ ap (λ ys. text p ++ 32 ∷ ys) (append_assoc (text o) (codes " .\n") rest))

-- a triple's line and what follows it
pub line_parts : (t u : Triple) (xs ys : List ℕ) → TermsLackDelimiters t → TermsLackDelimiters u → line t ++ xs ≡ line u ++ ys → (t ≡ u) × (xs ≡ ys)
line_parts t u xs ys h k e =
    let first = term_parts t.s u.s _ _ h.s k.s (sym (line_rest t.s t.p t.o xs) ∙ e ∙ line_rest u.s u.p u.o ys) in
    let second = term_parts t.p u.p _ _ h.p k.p first.1 in
    let third = term_parts t.o u.o _ _ h.o k.o second.1 in
    (same_parts t.s t.p t.o u.s u.p u.o first.0 second.0 third.0, after_one 10 10 xs ys (after_one 46 46 _ _ third.1))

pub line_tells : (t u : Triple) → TermsLackDelimiters t → TermsLackDelimiters u → line t ≡ line u → t ≡ u
line_tells t u h k e = (line_parts t u [] [] h k (append-nil (line t) ∙ e ∙ sym (append-nil (line u)))).0

no_line : (t : Triple) (rest : List ℕ) → [] ≡ line t ++ rest → ⊥
no_line t rest e =
    let long = ap length (e ∙ line_rest t.s t.p t.o rest) ∙ length-append (text t.s) (32 ∷ (text t.p ++ 32 ∷ (text t.o ++ 32 ∷ (46 ∷ 10 ∷ rest)))) in
    omega (arith, long)

pub text_tells : (g h : List Triple) → All TermsLackDelimiters g → All TermsLackDelimiters h → graph_text g ≡ graph_text h → g ≡ h
text_tells [] [] a b e = refl
text_tells [] (u ∷ h) a b e = absurd (no_line u (graph_text h) e)
text_tells (t ∷ g) [] a b e = absurd (no_line t (graph_text g) (sym e))
text_tells (t ∷ g) (u ∷ h) a b e =
    let p = line_parts t u (graph_text g) (graph_text h) (All-head TermsLackDelimiters t g a) (All-head TermsLackDelimiters u h b) e in
    both p.0 (text_tells g h (All-tail TermsLackDelimiters t g a) (All-tail TermsLackDelimiters u h b) p.1)
  where
    both : t ≡ u → g ≡ h → t ∷ g ≡ u ∷ h
    both x y = cc
