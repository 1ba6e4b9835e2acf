-- Different terms have different texts.
use Rattle.std.proofs.Common.{ℕ, ◌≡◌, ◌≢◌, ◌⊎◌, ◌==◌, List, [], ◌∷◌, ◌++◌, Bool, true, false}
use Rattle.std.proofs.Common.{if◌then◌else◌, cond, refl, sym, ap, ◌∙◌, subst, arith, codes, ⊎_elim}
use Rattle.std.proofs.Common.{inl, inr, append_assoc, eqb, length}
use Rattle.std.proofs.lemmas.Bool.{cases_eq, ne_eqb}
use Rattle.std.proofs.lemmas.List.{append_cancel_right}
use lib.Pointwise.{pointwise, bytes_decides}
use Rattle.rdf_graph.specs.Term.{text, escaped, escaped_byte, datatype_text, xsd_string}
use Rattle.rdf_graph.specs.declared.term.Term.{Term}
use Rattle.rdf_graph.specs.declared.term.Term.TheVariants.{Iri, Blank, Literal, Tagged}

-- what follows a backslash: the byte that was escaped, and the rest
abbrev pub unescaped : List ℕ → ℕ × List ℕ
unescaped [] = (0, [])
unescaped (c ∷ rest) = (if c == 110 then 10 else (if c == 114 then 13 else c), rest)

-- the first byte without its escape, and the rest
abbrev pub first_unescaped : List ℕ → ℕ × List ℕ
first_unescaped [] = (0, [])
first_unescaped (b ∷ rest) = if b == 92 then unescaped rest else (b, rest)

first_unescaped-plain : (x : ℕ) (xs : List ℕ) → x ≢ 92 → x ≢ 34 → x ≢ 10 → x ≢ 13
    → first_unescaped (escaped_byte x ++ xs) ≡ (x, xs)
first_unescaped-plain x xs a b c d =
    rw (ne_eqb x 92 a, ne_eqb x 34 b, ne_eqb x 10 c, ne_eqb x 13 d, ne_eqb x 92 a)

pub first_unescaped-escaped : (x : ℕ) (xs : List ℕ)
    → first_unescaped (escaped_byte x ++ xs) ≡ (x, xs)
first_unescaped-escaped x xs =
    let P : ℕ → Type 0 = λ y. first_unescaped (escaped_byte y ++ xs) ≡ (y, xs) in
    let backslash : P 92 = refl in
    let quote : P 34 = refl in
    let line_feed : P 10 = refl in
    let return : P 13 = refl in
    ⊎_elim (λ e. subst P (sym e) backslash) (λ a.
    ⊎_elim (λ e. subst P (sym e) quote) (λ b.
    ⊎_elim (λ e. subst P (sym e) line_feed) (λ c.
    ⊎_elim (λ e. subst P (sym e) return) (λ d. first_unescaped-plain x xs a b c d)
    (cases_eq x 13)) (cases_eq x 10)) (cases_eq x 34)) (cases_eq x 92)

-- the first byte of a text
abbrev pub first_byte : List ℕ → ℕ
first_byte [] = 0
first_byte (b ∷ rest) = b

-- no byte of a literal is written as a bare quote
escaped_byte-quote : (x : ℕ) (xs ys : List ℕ) → 34 ∷ ys ≡ escaped_byte x ++ xs → ⊥
escaped_byte-quote x xs ys e =
    let met : first_unescaped (34 ∷ ys) ≡ (x, xs) =
    ap first_unescaped e ∙ first_unescaped-escaped x xs in
    let is_quote : 34 ≡ x = ap (λ p. p.0) met in
    let as_quote : 34 ∷ ys ≡ escaped_byte 34 ++ xs =
    subst (λ y. 34 ∷ ys ≡ escaped_byte y ++ xs) (sym is_quote) e in
    omega (arith, ap first_byte as_quote)

-- a literal's text determines its lexical form, and what follows the closing quote
pub quoted_parts : (xs ys us vs : List ℕ) → escaped xs ++ (34 ∷ us) ≡ escaped ys ++ (34 ∷ vs)
    → (xs ≡ ys) × (us ≡ vs)
quoted_parts [] [] us vs e = (refl, cc)
quoted_parts [] (y ∷ ys) us vs e =
    absurd (escaped_byte-quote y (escaped ys ++ (34 ∷ vs)) us
    (e ∙ append_assoc (escaped_byte y) (escaped ys) (34 ∷ vs)))
quoted_parts (x ∷ xs) [] us vs e =
    absurd (escaped_byte-quote x (escaped xs ++ (34 ∷ us)) vs
    (sym e ∙ append_assoc (escaped_byte x) (escaped xs) (34 ∷ us)))
quoted_parts (x ∷ xs) (y ∷ ys) us vs e =
    let both : escaped_byte x ++ (escaped xs ++ (34 ∷ us))
    ≡ escaped_byte y ++ (escaped ys ++ (34 ∷ vs)) =
    sym (append_assoc (escaped_byte x) (escaped xs) (34 ∷ us)) ∙ e ∙ append_assoc (escaped_byte y)
    (escaped ys) (34 ∷ vs) in
    let met : (x, escaped xs ++ (34 ∷ us)) ≡ (y, escaped ys ++ (34 ∷ vs)) =
    sym (first_unescaped-escaped x _) ∙ ap first_unescaped both ∙ first_unescaped-escaped y _ in
    let rest = quoted_parts xs ys us vs (ap (λ p. p.1) met) in
    let head : x ≡ y = ap (λ p. p.0) met in
    (cc (head, rest.0), rest.1)

-- lists that end in the same byte
same_front : (xs ys : List ℕ) → xs ++ codes ">" ≡ ys ++ codes ">" → xs ≡ ys
same_front xs ys e = append_cancel_right xs ys (codes ">") e

after_two : (a b c d : ℕ) (xs ys : List ℕ) → a ∷ b ∷ xs ≡ c ∷ d ∷ ys → xs ≡ ys
after_two a b c d xs ys e = cc

-- two datatypes with equal texts are both left out, or equal
alike : (b c : Bool) (d e : List ℕ)
    → cond b [] (codes "^^<" ++ (d ++ codes ">")) ≡ cond c [] (codes "^^<" ++ (e ++ codes ">"))
    → ((b ≡ true) × (c ≡ true)) ⊎ (d ≡ e)
alike true true d e h = inl (refl, refl)
alike true false d e h = absurd (omega (arith, ap length h))
alike false true d e h = absurd (omega (arith, ap length h))
alike false false d e h = inr (same_front d e cc)

-- different datatypes have different texts
pub datatype_text_injective : (d e : List ℕ) → datatype_text d ≡ datatype_text e → d ≡ e
datatype_text_injective d e h =
    ⊎_elim
    (λ (both : (pointwise eqb d xsd_string ≡ true) × (pointwise eqb e xsd_string ≡ true)).
    (bytes_decides d xsd_string).0 both.0 ∙ sym ((bytes_decides e xsd_string).0 both.1))
    (λ (same : d ≡ e). same)
    (alike (pointwise eqb d xsd_string) (pointwise eqb e xsd_string) d e h)

no_tag : (b : Bool) (d lang : List ℕ)
    → cond b [] (codes "^^<" ++ (d ++ codes ">")) ≡ codes "@" ++ lang → ⊥
no_tag true d lang h = omega (arith, ap first_byte h)
no_tag false d lang h = omega (arith, ap first_byte h)

-- no language tag is written as a datatype is
pub datatype_text-at : (d lang : List ℕ) → datatype_text d ≡ codes "@" ++ lang → ⊥
datatype_text-at d lang h = no_tag (pointwise eqb d xsd_string) d lang h

pub text_injective : (a b : Term) → text a ≡ text b → a ≡ b
unfolding text
text_injective (Iri i) (Iri j) e = ap (λ x. Iri x) (same_front i j cc)
text_injective (Iri i) (Blank m) e = absurd (omega (arith, ap first_byte e))
text_injective (Iri i) (Literal l d) e = absurd (omega (arith, ap first_byte e))
text_injective (Iri i) (Tagged l t) e = absurd (omega (arith, ap first_byte e))
text_injective (Blank l) (Iri j) e = absurd (omega (arith, ap first_byte e))
text_injective (Blank l) (Blank m) e = ap (λ x. Blank x) cc
text_injective (Blank l) (Literal k d) e = absurd (omega (arith, ap first_byte e))
text_injective (Blank l) (Tagged k t) e = absurd (omega (arith, ap first_byte e))
text_injective (Literal l d) (Iri j) e = absurd (omega (arith, ap first_byte e))
text_injective (Literal l d) (Blank m) e = absurd (omega (arith, ap first_byte e))
text_injective (Literal l d) (Literal m f) e =
    let parts = quoted_parts l m (datatype_text d) (datatype_text f) cc in
    cc (parts.0, datatype_text_injective d f parts.1)
text_injective (Literal l d) (Tagged m t) e =
    let parts = quoted_parts l m (datatype_text d) (codes "@" ++ t) cc in
    absurd (datatype_text-at d t parts.1)
text_injective (Tagged l t) (Iri j) e = absurd (omega (arith, ap first_byte e))
text_injective (Tagged l t) (Blank m) e = absurd (omega (arith, ap first_byte e))
text_injective (Tagged l t) (Literal m d) e =
    let parts = quoted_parts l m (codes "@" ++ t) (datatype_text d) cc in
    absurd (datatype_text-at d t (sym parts.1))
text_injective (Tagged l t) (Tagged m u) e =
    let parts = quoted_parts l m (codes "@" ++ t) (codes "@" ++ u) cc in
    cc (parts.0, parts.1)
