-- The inside of an IRIREF and of a String.
use Rattle.std.proofs.Common.{◌≡◌, ℕ, ◌<◌, Bool, false, inl, inr, List, [], ◌∷◌, Option, Some, None, IfSome, refl, sym, ◌∙◌, subst, arith, lit<}
use Rattle.std.proofs.lemmas.Bool.{false≢true}
use lib.Chars.{codes}
use Rattle.turtle_lex.specs.declared.classes.Quote.{Quote}
use Rattle.turtle_lex.specs.declared.classes.Quote.TheVariants.{Double, Single}
use Rattle.turtle_lex.specs.declared.delimited.Content.{Content}
use Rattle.turtle_lex.specs.declared.delimited.Content.TheVariants.{Iri, Line, Long}
use Rattle.turtle_lex.specs.Classes.{is_iri_char, is_line_char, is_long_char, quote_char}
use Rattle.turtle_lex.specs.Pattern.{Pattern, word, one, ◌∘◌, ◌∣◌, many, Matches, MatchesOnly}
use Rattle.turtle_lex.specs.Terminals.{uchar, echar, quotes, iri_ref, short_string, long_string}
use Rattle.turtle_lex.specs.Tokens.{IsString}
use Rattle.turtle_lex.specs.Delimited.{part, close, StringOnly}
use Rattle.turtle_lex.proofs.Matching.{refused, not_matched, ascii_one, heads, then_only, then_refused}
use Rattle.turtle_lex.proofs.EscapeLemmas.{escape_head, uchar_head}

-- what a String holds between two quotes, beside quotes
abbrev pub long_char : Quote → Pattern
long_char quote = one (is_long_char quote) ∣ echar ∣ uchar

pub iri_no_backslash : is_iri_char 92 ≡ false
unfolding is_iri_char
iri_no_backslash = refl

pub line_no_backslash : (quote : Quote) → is_line_char quote 92 ≡ false
unfolding is_line_char
line_no_backslash Double = refl
line_no_backslash Single = refl

pub long_no_backslash : (quote : Quote) → is_long_char quote 92 ≡ false
unfolding is_long_char
long_no_backslash Double = refl
long_no_backslash Single = refl

pub quote_low : (quote : Quote) → quote_char quote < 128
quote_low Double = lit< tt
quote_low Single = lit< tt

quote_no_backslash : (quote : Quote) → (quote_char quote ≡ 92) → ⊥
quote_no_backslash Double e = absurd (omega (arith, e))
quote_no_backslash Single e = absurd (omega (arith, e))

pub long_no_quote : (quote : Quote) → is_long_char quote (quote_char quote) ≡ false
unfolding is_long_char
long_no_quote Double = refl
long_no_quote Single = refl

pub line_no_quote : (quote : Quote) → is_line_char quote (quote_char quote) ≡ false
unfolding is_line_char
line_no_quote Double = refl
line_no_quote Single = refl

-- neither a character nor an escape begins with the quote
pub no_char_at_quote : (p : ℕ → Bool) (quote : Quote) (t r : List ℕ) → p (quote_char quote) ≡ false → Matches (one p ∣ echar ∣ uchar) (quote_char quote ∷ t) r → ⊥
no_char_at_quote p quote t r fails x = elim x [
  | inl a ↦ false≢true (sym fails ∙ (ascii_one p (quote_char quote) t r (quote_low quote) a).0)
  | inr b ↦ let h = escape_head (quote_char quote ∷ t) r b in quote_no_backslash quote (heads (quote_char quote) 92 t h.0 h.1).0
]

pub no_long_char : (quote : Quote) (t r : List ℕ) → Matches (long_char quote) (quote_char quote ∷ t) r → ⊥
no_long_char quote t r x = no_char_at_quote (is_long_char quote) quote t r (long_no_quote quote) x

-- no part matches where the end does
pub close_apart : (inside : Content) (s m : List ℕ) → Matches (close inside) s m → MatchesOnly (part inside) s None
unfolding is_iri_char
close_apart Iri s m e = refused (one is_iri_char ∣ uchar) s (λ r x. elim x [
  | inl a ↦ false≢true (ascii_one is_iri_char 62 m r (lit< tt) (subst (λ (u : List ℕ). Matches (one is_iri_char) u r) e a)).0
  | inr b ↦ let h = uchar_head s r b in absurd (omega (arith, (heads 62 92 m h.0 (sym e ∙ h.1)).0))
])
close_apart (Line quote) s m e = refused (part (Line quote)) s (λ r x.
    no_char_at_quote (is_line_char quote) quote m r (line_no_quote quote) (subst (λ (u : List ℕ). Matches (part (Line quote)) u r) e x))
close_apart (Long quote) s m e =
    let q = quote_char quote in
    refused (part (Long quote)) s (λ r x. elim x.1 [
      | inl a ↦ elim a [
        | inl one_quote ↦ no_long_char quote (q ∷ m) r (subst (λ (u : List ℕ). Matches (long_char quote) u r) (heads q q x.0 (q ∷ q ∷ m) (sym one_quote ∙ e)).1 x.2)
        | inr two_quotes ↦ no_long_char quote m r (subst (λ (u : List ℕ). Matches (long_char quote) u r) (heads q q x.0 (q ∷ m) (heads q q (q ∷ x.0) (q ∷ q ∷ m) (sym two_quotes ∙ e)).1).1 x.2)
      ]
      | inr same ↦ no_long_char quote (q ∷ q ∷ m) r (subst (λ (u : List ℕ). Matches (long_char quote) u r) (sym same ∙ e) x.2)
    ])

-- the parts of a String between three quotes, by the quotes at its start
pub two_quotes : (quote : Quote) (s t : List ℕ) (o : Option (List ℕ)) → MatchesOnly (quotes quote 2) s (Some t) → MatchesOnly (long_char quote) t o → MatchesOnly (part (Long quote)) s o
two_quotes quote s t o h k = record { found = by o k; only = λ r x. k.only r (pick r x) }
  where
    q : ℕ
    q = quote_char quote

    by : (o : Option (List ℕ)) → MatchesOnly (long_char quote) t o → IfSome o (Matches (part (Long quote)) s)
    by None k = tt
    by (Some m) k = (t, inl (inr h.found), k.found)

    pick : (r : List ℕ) → Matches (part (Long quote)) s r → Matches (long_char quote) t r
    pick r x = elim x.1 [
      | inl a ↦ elim a [
        | inl one_quote ↦ absurd (no_long_char quote t r (subst (λ (u : List ℕ). Matches (long_char quote) u r) (heads q q x.0 (q ∷ t) (sym one_quote ∙ h.found)).1 x.2))
        | inr both ↦ subst (λ (u : List ℕ). Matches (long_char quote) u r) (heads q q x.0 t (heads q q (q ∷ x.0) (q ∷ t) (sym both ∙ h.found)).1).1 x.2
      ]
      | inr same ↦ absurd (no_long_char quote (q ∷ t) r (subst (λ (u : List ℕ). Matches (long_char quote) u r) (sym same ∙ h.found) x.2))
    ]

pub one_quote : (quote : Quote) (s t : List ℕ) (o : Option (List ℕ)) → MatchesOnly (quotes quote 2) s None → MatchesOnly (quotes quote 1) s (Some t) → MatchesOnly (long_char quote) t o → MatchesOnly (part (Long quote)) s o
one_quote quote s t o none h k = record { found = by o k; only = λ r x. k.only r (pick r x) }
  where
    q : ℕ
    q = quote_char quote

    by : (o : Option (List ℕ)) → MatchesOnly (long_char quote) t o → IfSome o (Matches (part (Long quote)) s)
    by None k = tt
    by (Some m) k = (t, inl (inl h.found), k.found)

    pick : (r : List ℕ) → Matches (part (Long quote)) s r → Matches (long_char quote) t r
    pick r x = elim x.1 [
      | inl a ↦ elim a [
        | inl single ↦ subst (λ (u : List ℕ). Matches (long_char quote) u r) (heads q q x.0 t (sym single ∙ h.found)).1 x.2
        | inr both ↦ absurd (not_matched (quotes quote 2) s x.0 none both)
      ]
      | inr same ↦ absurd (no_long_char quote t r (subst (λ (u : List ℕ). Matches (long_char quote) u r) (sym same ∙ h.found) x.2))
    ]

pub no_quote : (quote : Quote) (s : List ℕ) (o : Option (List ℕ)) → MatchesOnly (quotes quote 2) s None → MatchesOnly (quotes quote 1) s None → MatchesOnly (long_char quote) s o → MatchesOnly (part (Long quote)) s o
no_quote quote s o none alone k = record { found = by o k; only = λ r x. k.only r (pick r x) }
  where
    by : (o : Option (List ℕ)) → MatchesOnly (long_char quote) s o → IfSome o (Matches (part (Long quote)) s)
    by None k = tt
    by (Some m) k = (s, inr refl, k.found)

    pick : (r : List ℕ) → Matches (part (Long quote)) s r → Matches (long_char quote) s r
    pick r x = elim x.1 [
      | inl a ↦ elim a [
        | inl single ↦ absurd (not_matched (quotes quote 1) s x.0 alone single)
        | inr both ↦ absurd (not_matched (quotes quote 2) s x.0 none both)
      ]
      | inr same ↦ subst (λ (u : List ℕ). Matches (long_char quote) u r) (sym same) x.2
    ]

pub iri_ref_matches : (s m : List ℕ) (o : Option (List ℕ)) → MatchesOnly (word (codes "<")) s (Some m) → MatchesOnly (many (part Iri) ∘ close Iri) m o → MatchesOnly iri_ref s o
unfolding iri_ref
iri_ref_matches s m o h k = then_only (word (codes "<")) (many (part Iri) ∘ close Iri) s m o h k

pub no_iri_ref : (s : List ℕ) → MatchesOnly (word (codes "<")) s None → MatchesOnly iri_ref s None
unfolding iri_ref
no_iri_ref s h = then_refused (word (codes "<")) (many (part Iri) ∘ close Iri) s h

pub long_matches : (quote : Quote) (s m : List ℕ) (o : Option (List ℕ)) → MatchesOnly (quotes quote 3) s (Some m) → MatchesOnly (many (part (Long quote)) ∘ close (Long quote)) m o → StringOnly quote s o
unfolding long_string
long_matches quote s m o h k = record { found = by o whole; only = λ r x. pick r x }
  where
    whole : MatchesOnly (long_string quote) s o
    whole = then_only (quotes quote 3) (many (part (Long quote)) ∘ close (Long quote)) s m o h k

    by : (o : Option (List ℕ)) → MatchesOnly (long_string quote) s o → IfSome o (IsString quote s)
    by None k = tt
    by (Some m) k = inl k.found

    pick : (r : List ℕ) → IsString quote s r → o ≡ Some r
    pick r x = elim x [ inl a ↦ whole.only r a | inr b ↦ absurd (b.1 m h.found) ]

no_three : (quote : Quote) (s : List ℕ) (o : Option (List ℕ)) → MatchesOnly (quotes quote 3) s None → MatchesOnly (short_string quote) s o → StringOnly quote s o
unfolding long_string
no_three quote s o none k = record { found = by o k; only = λ r x. pick r x }
  where
    by : (o : Option (List ℕ)) → MatchesOnly (short_string quote) s o → IfSome o (IsString quote s)
    by None k = tt
    by (Some m) k = inr (k.found, λ t x. not_matched (quotes quote 3) s t none x)

    pick : (r : List ℕ) → IsString quote s r → o ≡ Some r
    pick r x = elim x [ inl a ↦ absurd (not_matched (quotes quote 3) s a.0 none a.1) | inr b ↦ k.only r b.0 ]

pub short_matches : (quote : Quote) (s m : List ℕ) (o : Option (List ℕ)) → MatchesOnly (quotes quote 3) s None → MatchesOnly (quotes quote 1) s (Some m) → MatchesOnly (many (part (Line quote)) ∘ close (Line quote)) m o → StringOnly quote s o
unfolding short_string
short_matches quote s m o none h k = no_three quote s o none (then_only (quotes quote 1) (many (part (Line quote)) ∘ close (Line quote)) s m o h k)

pub no_string : (quote : Quote) (s : List ℕ) → MatchesOnly (quotes quote 3) s None → MatchesOnly (quotes quote 1) s None → StringOnly quote s None
unfolding short_string
no_string quote s none h = no_three quote s None none (then_refused (quotes quote 1) (many (part (Line quote)) ∘ close (Line quote)) s h)

-- quotes, by the byte that was found
pub quotes_1 : (quote : Quote) (b : ℕ) (s : List ℕ) (o : Option (List ℕ)) → b ≡ quote_char quote → MatchesOnly (word (b ∷ [])) s o → MatchesOnly (quotes quote 1) s o
quotes_1 quote b s o e h = subst (λ (x : ℕ). MatchesOnly (word (x ∷ [])) s o) e h

pub quotes_2 : (quote : Quote) (b : ℕ) (s : List ℕ) (o : Option (List ℕ)) → b ≡ quote_char quote → MatchesOnly (word (b ∷ b ∷ [])) s o → MatchesOnly (quotes quote 2) s o
quotes_2 quote b s o e h = subst (λ (x : ℕ). MatchesOnly (word (x ∷ x ∷ [])) s o) e h

pub quotes_3 : (quote : Quote) (b : ℕ) (s : List ℕ) (o : Option (List ℕ)) → b ≡ quote_char quote → MatchesOnly (word (b ∷ b ∷ b ∷ [])) s o → MatchesOnly (quotes quote 3) s o
quotes_3 quote b s o e h = subst (λ (x : ℕ). MatchesOnly (word (x ∷ x ∷ x ∷ [])) s o) e h
