-- What matches between two tokens, and that a text from a place on has one answer.
use Rattle.std.proofs.Common.{◌≡◌, ℕ, Bool, true, false, not, inl, inr, ⊎_elim, List, ◌∷◌, ◌++◌, None, refl, sym, ap, ◌∙◌, subst, lit<}
use Rattle.std.proofs.lemmas.Bool.{false≢true}
use Rattle.std.proofs.lemmas.Str.{encode_ascii}
use lib.Chars.{codes}
use Rattle.turtle_lex.specs.Classes.{is_blank, is_in_line, is_line_end}
use Rattle.turtle_lex.specs.Pattern.{Pattern, word, one, ◌∘◌, ◌∣◌, many, Matches, MatchesOnly, HasNoFirstChar}
use Rattle.turtle_lex.specs.Terminals.{comment, gap}
use Rattle.turtle_lex.specs.Runs.{IsRun}
use Rattle.turtle_lex.specs.Tokens.{gap_start}
use Rattle.turtle_lex.proofs.Matching.{refused, not_matched, heads, char_same, ascii_one}
use Rattle.turtle_lex.proofs.RunLemmas.{OneStep, Steps, in_line, no_step, one_step, run_ends, run_more}

abbrev pub gap_part : Pattern
gap_part = one is_blank ∣ comment ∘ one is_line_end

-- every character is part of a line or ends it
line_cases : (c : ℕ) → is_line_end c ≡ false → is_in_line c ≡ true
unfolding is_line_end is_in_line
line_cases c h = ap not h

line_both : (c : ℕ) → is_line_end c ≡ true → is_in_line c ≡ true → ⊥
unfolding is_line_end is_in_line
line_both c h k = false≢true (sym (ap not h) ∙ k)

-- where a line ends, no character of the line is
end_no_line : (s m r : List ℕ) → Matches (one is_line_end) s m → Matches (one is_in_line) s r → ⊥
end_no_line s m r x y =
    let same = (char_same s x.0 y.0 m r x.3 y.3).0 in
    line_both x.0 x.2 (ap is_in_line same ∙ y.2)

pub no_line_char : (s : List ℕ) → MatchesOnly (one is_in_line) s None → MatchesOnly (one is_line_end) s None → HasNoFirstChar s
no_line_char s h k c r scalar e = by (is_line_end c) refl
  where
    by : (t : Bool) → is_line_end c ≡ t → ⊥
    by true is = not_matched (one is_line_end) s r k (c, scalar, is, e)
    by false is = not_matched (one is_in_line) s r h (c, scalar, line_cases c is, e)

-- two comments at one place are one, where each has its whole line
comment_same : (s a b : List ℕ) → Matches comment s a → Matches comment s b → ((m : List ℕ) → Matches (one is_in_line) a m → ⊥) → ((m : List ℕ) → Matches (one is_in_line) b m → ⊥) → a ≡ b
unfolding comment
comment_same s a b (m, hash, line) (u, hash', line') stop stop' =
    let same : u ≡ m = (heads 35 35 u m (sym hash' ∙ hash)).1 in
    let line'' : Matches (many (one is_in_line)) m b = subst (λ (t : List ℕ). Matches (many (one is_in_line)) t b) same line' in
    ⊎_elim
    (λ (same : b ≡ a). sym same)
    (λ (other : (w : List ℕ) × Matches (one is_in_line) b w). absurd (stop' other.0 other.1))
    (run_ends is_in_line m a b (record { found = line; stops = refused (one is_in_line) a stop }) line'')

hash_no_blank : (s r t : List ℕ) → s ≡ 35 ∷ t → Matches (one is_blank) s r → ⊥
unfolding is_blank
hash_no_blank s r t e x = false≢true (ascii_one is_blank 35 t r (lit< tt) (subst (λ (u : List ℕ). Matches (one is_blank) u r) e x)).0

comment_head : (s r : List ℕ) → Matches comment s r → (t : List ℕ) × (s ≡ 35 ∷ t)
unfolding comment
comment_head s r x = (x.0, x.1)

no_char_no_line : (s : List ℕ) → HasNoFirstChar s → (m : List ℕ) → Matches (one is_in_line) s m → ⊥
no_char_no_line s h m x = h x.0 m x.1 x.3

-- from each place there is one part of a gap at most
part_step : OneStep (Matches gap_part)
part_step s a b (inl x) (inl y) = one_step is_blank s a b x y
part_step s a b (inl x) (inr (m, c, e)) = let h = comment_head s m c in absurd (hash_no_blank s a h.0 h.1 x)
part_step s a b (inr (m, c, e)) (inl y) = let h = comment_head s m c in absurd (hash_no_blank s b h.0 h.1 y)
part_step s a b (inr (m, c, e)) (inr (u, c', e')) =
    let same : m ≡ u = comment_same s m u c c' (λ w y. end_no_line m a w e y) (λ w y. end_no_line u b w e' y) in
    one_step is_line_end u a b (subst (λ (t : List ℕ). Matches (one is_line_end) t a) same e) e'

-- no part of a gap matches there
abbrev pub Stop : List ℕ → Type 0
Stop s = MatchesOnly gap_part s None

pub stop_same : (s a b : List ℕ) → Matches gap s a → Matches gap s b → Stop a → Stop b → a ≡ b
unfolding gap
stop_same s a b x y stop stop' = ⊎_elim
    (λ (h : Steps (Matches gap_part) a b). no_step gap_part a b stop h)
    (λ (h : Steps (Matches gap_part) b a). sym (no_step gap_part b a stop' h))
    (in_line (Matches gap_part) part_step x.0 y.0 s a b x.1 y.1)

-- what a gap may stop at
pub stop_of_start : (s : List ℕ) → MatchesOnly gap_start s None → Stop s
stop_of_start s h = refused gap_part s (λ r x. elim x [
  | inl a ↦ not_matched gap_start s r h (inl a)
  | inr b ↦ let k = comment_head s b.0 b.1 in not_matched gap_start s k.0 h (inr k.1)
])

hash_char : (s t : List ℕ) → s ≡ 35 ∷ t → HasNoFirstChar s → ⊥
hash_char s t e h = h 35 t refl (e ∙ ap (λ (u : List ℕ). u ++ t) (sym (encode_ascii 35 (lit< tt))))

pub stop_of_no_char : (s : List ℕ) → HasNoFirstChar s → Stop s
stop_of_no_char s h = refused gap_part s (λ r x. elim x [
  | inl a ↦ h a.0 r a.1 a.3
  | inr b ↦ let k = comment_head s b.0 b.1 in hash_char s k.0 k.1 h
])

pub stop_of_comment : (s m : List ℕ) → Matches comment s m → HasNoFirstChar m → Stop s
stop_of_comment s m c h = refused gap_part s (λ r x. elim x [
  | inl a ↦ (let k = comment_head s m c in hash_no_blank s r k.0 k.1 a)
  | inr b ↦
      let same : m ≡ b.0 = comment_same s m b.0 c b.1 (no_char_no_line m h) (λ w y. end_no_line b.0 r w b.2 y) in
      h b.2.0 r b.2.1 (same ∙ b.2.3)
])

pub comment_ends : (s a b : List ℕ) → Matches comment s a → Matches comment s b → HasNoFirstChar a → HasNoFirstChar b → a ≡ b
comment_ends s a b x y h k = comment_same s a b x y (no_char_no_line a h) (no_char_no_line b k)

pub comment_no_end : (s m : List ℕ) → Matches comment s m → HasNoFirstChar s → ⊥
comment_no_end s m x h = let k = comment_head s m x in hash_char s k.0 k.1 h

pub comment_start : (s m : List ℕ) → Matches comment s m → (t : List ℕ) × Matches gap_start s t
comment_start s m x = let k = comment_head s m x in (k.0, inr k.1)

pub gap_none : (s : List ℕ) → Matches gap s s
unfolding gap
gap_none s = (0, refl)

pub gap_blank : (s t m : List ℕ) → Matches gap s t → Matches (one is_blank) t m → Matches gap s m
unfolding gap
gap_blank s t m x y = run_more gap_part s t m x (inl y)

pub line_comment : (t l e : List ℕ) → Matches (word (codes "#")) t l → IsRun is_in_line l e → Matches comment t e
unfolding comment
line_comment t l e hash run = (l, hash, run.found)

pub gap_comment : (s t l e m : List ℕ) → Matches gap s t → Matches (word (codes "#")) t l → IsRun is_in_line l e → Matches (one is_line_end) e m → Matches gap s m
unfolding gap
gap_comment s t l e m x hash run end = run_more gap_part s t m x (inr (e, line_comment t l e hash run, end))

pub gap_open : (s t l e : List ℕ) → Matches gap s t → Matches (word (codes "#")) t l → IsRun is_in_line l e → Matches (gap ∘ comment) s e
gap_open s t l e x hash run = (t, x, line_comment t l e hash run)
