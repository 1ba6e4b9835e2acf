-- Escapes, by their parts.
use Rattle.std.proofs.Common.{◌≡◌, ℕ, ◌<◌, Bool, false, inl, inr, List, ◌∷◌, Option, Some, None, refl, sym, ◌∙◌, subst, lit<}
use Rattle.std.proofs.lemmas.Bool.{false≢true}
use lib.Chars.{codes}
use Rattle.turtle_lex.specs.Classes.{is_escaped}
use Rattle.turtle_lex.specs.Pattern.{Pattern, word, one, number, ◌∘◌, ◌∣◌, Matches, MatchesOnly}
use Rattle.turtle_lex.specs.Terminals.{uchar, echar}
use Rattle.turtle_lex.proofs.Matching.{then_only, then_refused, or_left, or_right, word_clashes, refused, ascii_one, heads}

pub uchar_of_four : (s m : List ℕ) (o : Option (List ℕ)) → MatchesOnly (word (codes "\\u")) s (Some m) → MatchesOnly (number 4) m o → MatchesOnly uchar s o
unfolding uchar
uchar_of_four s m o h k =
    or_left (word (codes "\\u") ∘ number 4) (word (codes "\\U") ∘ number 8) s o
    (then_only (word (codes "\\u")) (number 4) s m o h k)
    (then_refused (word (codes "\\U")) (number 8) s (word_clashes (codes "\\u") (codes "\\U") s m refl h.found))

pub uchar_of_eight : (s m : List ℕ) (o : Option (List ℕ)) → MatchesOnly (word (codes "\\u")) s None → MatchesOnly (word (codes "\\U")) s (Some m) → MatchesOnly (number 8) m o → MatchesOnly uchar s o
unfolding uchar
uchar_of_eight s m o h k l =
    or_right (word (codes "\\u") ∘ number 4) (word (codes "\\U") ∘ number 8) s o
    (then_refused (word (codes "\\u")) (number 4) s h)
    (then_only (word (codes "\\U")) (number 8) s m o k l)

pub no_uchar : (s : List ℕ) → MatchesOnly (word (codes "\\u")) s None → MatchesOnly (word (codes "\\U")) s None → MatchesOnly uchar s None
unfolding uchar
no_uchar s h k =
    or_left (word (codes "\\u") ∘ number 4) (word (codes "\\U") ∘ number 8) s None
    (then_refused (word (codes "\\u")) (number 4) s h)
    (then_refused (word (codes "\\U")) (number 8) s k)

pub echar_matches : (s m : List ℕ) (o : Option (List ℕ)) → MatchesOnly (word (codes "\\")) s (Some m) → MatchesOnly (one is_escaped) m o → MatchesOnly echar s o
unfolding echar
echar_matches s m o h k = then_only (word (codes "\\")) (one is_escaped) s m o h k

pub no_echar : (s : List ℕ) → MatchesOnly (word (codes "\\")) s None → MatchesOnly echar s None
unfolding echar
no_echar s h = then_refused (word (codes "\\")) (one is_escaped) s h

-- every escape begins with a backslash
pub uchar_head : (s r : List ℕ) → Matches uchar s r → (t : List ℕ) × (s ≡ 92 ∷ t)
unfolding uchar
uchar_head s r x = elim x [ inl a ↦ (117 ∷ a.0, a.1) | inr b ↦ (85 ∷ b.0, b.1) ]

pub echar_head : (s r : List ℕ) → Matches echar s r → (t : List ℕ) × (s ≡ 92 ∷ t)
unfolding echar
echar_head s r x = (x.0, x.1)

pub escape_head : (s r : List ℕ) → Matches (echar ∣ uchar) s r → (t : List ℕ) × (s ≡ 92 ∷ t)
escape_head s r x = elim x [ inl a ↦ echar_head s r a | inr b ↦ uchar_head s r b ]

-- no escape is both
letter_apart : (b : ℕ) (t s m : List ℕ) → b < 128 → is_escaped b ≡ false → s ≡ 92 ∷ b ∷ t → Matches echar s m → ⊥
unfolding echar
letter_apart b t s m low fails e x =
    let rest : x.0 ≡ b ∷ t = (heads 92 92 x.0 (b ∷ t) (sym x.1 ∙ e)).1 in
    false≢true (sym fails ∙ (ascii_one is_escaped b t m low (subst (λ (u : List ℕ). Matches (one is_escaped) u m) rest x.2)).0)

pub not_both_escapes : (s m : List ℕ) → Matches echar s m → MatchesOnly uchar s None
unfolding uchar is_escaped
not_both_escapes s m x = refused uchar s (λ r y. elim y [
  | inl a ↦ letter_apart 117 a.0 s m (lit< tt) refl a.1 x
  | inr b ↦ letter_apart 85 b.0 s m (lit< tt) refl b.1 x
])

-- a character that is no backslash begins no escape
pub char_no_escape : (p : ℕ → Bool) (q : Pattern) (s m : List ℕ) → p 92 ≡ false → ((r : List ℕ) → Matches q s r → (t : List ℕ) × (s ≡ 92 ∷ t)) → Matches (one p) s m → MatchesOnly q s None
char_no_escape p q s m fails head x = refused q s (λ r y.
    let h = head r y in
    false≢true (sym fails ∙ (ascii_one p 92 h.0 m (lit< tt) (subst (λ (u : List ℕ). Matches (one p) u m) h.1 x)).0))
