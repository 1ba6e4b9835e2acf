-- Patterns that match in one way alone: escapes, IRIREF and short Strings.
use Rattle.std.proofs.Common.{◌≡◌, ℕ, Bool, false, inl, inr, ⊎_elim, List, ◌∷◌, drop, sym, ap, ◌∙◌, subst}
use Rattle.std.proofs.Common.{refl}
use Rattle.std.proofs.lemmas.List.{append_cancel_left, drop_at}
use lib.Chars.{codes}
use Rattle.turtle_lex.specs.declared.classes.Quote.{Quote}
use Rattle.turtle_lex.specs.declared.delimited.Content.TheVariants.{Iri, Line}
use Rattle.turtle_lex.specs.Classes.{is_escaped, is_iri_char, is_line_char, quote_char}
use Rattle.turtle_lex.specs.Pattern.{Pattern, word, one, number, ◌∘◌, ◌∣◌, many, Matches, MatchesOnly}
use Rattle.std.specs.Prelude.{None, replicate}
use Rattle.turtle_lex.specs.Terminals.{uchar, echar, quotes, iri_ref, short_string}
use Rattle.turtle_lex.specs.Delimited.{part, close}
use Rattle.turtle_lex.proofs.Matching.{not_matched, word_clashes}
use Rattle.turtle_lex.proofs.RunLemmas.{OneStep, Steps, in_line, no_step, one_step}
use Rattle.turtle_lex.proofs.EscapeLemmas.{uchar_head, escape_head, not_both_escapes, char_no_escape}
use Rattle.turtle_lex.proofs.DelimitedLemmas.{close_apart, iri_no_backslash, line_no_backslash}

pub then_one : (p q : Pattern) → OneStep (Matches p) → OneStep (Matches q) → OneStep (Matches (p ∘ q))
then_one p q h k s a b (m, x, y) (n, z, w) = k m a b y (subst (λ (u : List ℕ). Matches q u b) (h s n m z x) w)

word_one : (w : List ℕ) → OneStep (Matches (word w))
word_one w s a b x y = append_cancel_left w a b (sym x ∙ y)

number_one : (n : ℕ) → OneStep (Matches (number n))
number_one n s a b (ds, len, hex, scalar, e) (cs, len', hex', scalar', e') =
    sym (drop_at ds a n len) ∙ ap (drop n) (sym e ∙ e') ∙ drop_at cs b n len'

uchar_one : OneStep (Matches uchar)
unfolding uchar
uchar_one s a b (inl x) (inl y) = then_one (word (codes "\\u")) (number 4) (word_one (codes "\\u")) (number_one 4) s a b x y
uchar_one s a b (inl x) (inr y) =
    absurd (not_matched (word (codes "\\U")) s y.0 (word_clashes (codes "\\u") (codes "\\U") s x.0 refl x.1) y.1)
uchar_one s a b (inr x) (inl y) =
    absurd (not_matched (word (codes "\\U")) s x.0 (word_clashes (codes "\\u") (codes "\\U") s y.0 refl y.1) x.1)
uchar_one s a b (inr x) (inr y) = then_one (word (codes "\\U")) (number 8) (word_one (codes "\\U")) (number_one 8) s a b x y

echar_one : OneStep (Matches echar)
unfolding echar
echar_one s a b x y = then_one (word (codes "\\")) (one is_escaped) (word_one (codes "\\")) (one_step is_escaped) s a b x y

escape_one : OneStep (Matches (echar ∣ uchar))
escape_one s a b (inl x) (inl y) = echar_one s a b x y
escape_one s a b (inl x) (inr y) = absurd (not_matched uchar s b (not_both_escapes s a x) y)
escape_one s a b (inr x) (inl y) = absurd (not_matched uchar s a (not_both_escapes s b y) x)
escape_one s a b (inr x) (inr y) = uchar_one s a b x y

-- a character that is no backslash, or what begins with one
char_one : (p : ℕ → Bool) (q : Pattern) → p 92 ≡ false
    → ((s r : List ℕ) → Matches q s r → (t : List ℕ) × (s ≡ 92 ∷ t)) → OneStep (Matches q) → OneStep (Matches (one p ∣ q))
char_one p q fails head h s a b (inl x) (inl y) = one_step p s a b x y
char_one p q fails head h s a b (inl x) (inr y) = absurd (not_matched q s b (char_no_escape p q s a fails (λ r. head s r) x) y)
char_one p q fails head h s a b (inr x) (inl y) = absurd (not_matched q s a (char_no_escape p q s b fails (λ r. head s r) y) x)
char_one p q fails head h s a b (inr x) (inr y) = h s a b x y

-- any number of one thing up to another, which it never is
many_one : (p q : Pattern) → OneStep (Matches p) → OneStep (Matches q)
    → ((s m : List ℕ) → Matches q s m → MatchesOnly p s None) → OneStep (Matches (many p ∘ q))
many_one p q h k apart s a b (t, (n, xs), last) (u, (j, ys), last') = ⊎_elim
    (λ (later : Steps (Matches p) t u). k t a b last
    (subst (λ (v : List ℕ). Matches q v b) (sym (no_step p t u (apart t a last) later)) last'))
    (λ (earlier : Steps (Matches p) u t). k t a b last
    (subst (λ (v : List ℕ). Matches q v b) (no_step p u t (apart u b last') earlier) last'))
    (in_line (Matches p) h n j s t u xs ys)

pub iri_one : OneStep (Matches iri_ref)
unfolding iri_ref
iri_one = then_one (word (codes "<")) (many (part Iri) ∘ close Iri) (word_one (codes "<"))
    (many_one (part Iri) (close Iri) (char_one is_iri_char uchar iri_no_backslash uchar_head uchar_one) (word_one (codes ">"))
    (close_apart Iri))

pub short_string_one : (quote : Quote) → OneStep (Matches (short_string quote))
unfolding short_string
short_string_one quote = then_one (quotes quote 1) (many (part (Line quote)) ∘ close (Line quote)) (word_one (replicate 1 (quote_char quote)))
    (many_one (part (Line quote)) (close (Line quote))
    (char_one (is_line_char quote) (echar ∣ uchar) (line_no_backslash quote) escape_head escape_one) (word_one (replicate 1 (quote_char quote)))
    (close_apart (Line quote)))
