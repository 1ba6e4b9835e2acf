-- Steps of which there is one way alone, and runs of the characters of a class.
use Rattle.std.proofs.Common.{◌≡◌, ℕ, zero, suc, ◌≤◌, Bool, ◌⊎◌, inl, inr, ⊎_elim, List, length, Some, None, refl, sym, ap, subst, arith}
use lib.Chars.{codes}
use Rattle.std.specs.Char.{is_ascii_alphabetic, is_ascii_alphanumeric}
use Rattle.turtle_lex.specs.Pattern.{Pattern, word, one, many, some, Matches, Times, MatchesOnly, MatchesLongest}
use Rattle.turtle_lex.specs.Terminals.{lang_tag}
use Rattle.turtle_lex.specs.Runs.{IsRun, IsSomeRun, tag_part}
use Rattle.turtle_lex.proofs.Matching.{no_longer, not_matched, matched_rest, char_same}
use Rattle.turtle_lex.proofs.FirstBytes.{excluded}

-- from each text there is one step at most
abbrev pub OneStep : (List ℕ → List ℕ → Type 0) → Type 0
OneStep R = (s a b : List ℕ) → R s a → R s b → a ≡ b

abbrev pub Steps : (List ℕ → List ℕ → Type 0) → List ℕ → List ℕ → Type 0
Steps R s r = (n : ℕ) × Times R n s r

-- of two rests the one is after the other
pub in_line : (R : List ℕ → List ℕ → Type 0) → OneStep R → (n k : ℕ) (s a b : List ℕ) → Times R n s a → Times R k s b → Steps R a b ⊎ Steps R b a
in_line R same zero k s a b e y = inl (k, subst (λ (t : List ℕ). Times R k t b) e y)
in_line R same (suc n) zero s a b x e = inr (suc n, subst (λ (t : List ℕ). Times R (suc n) t a) e x)
in_line R same (suc n) (suc k) s a b (m, x, xs) (u, y, ys) = in_line R same n k m a b xs (subst (λ (t : List ℕ). Times R k t b) (sym (same s m u x y)) ys)

pub one_more : (R : List ℕ → List ℕ → Type 0) (n : ℕ) (s m r : List ℕ) → Times R n s m → R m r → Times R (suc n) s r
one_more R zero s m r e y = (r, subst (λ (t : List ℕ). R t r) (sym e) y, refl)
one_more R (suc n) s m r (u, x, xs) y = (u, x, one_more R n u m r xs y)

-- no step leads on
pub no_step : (p : Pattern) (s r : List ℕ) → MatchesOnly p s None → Steps (Matches p) s r → s ≡ r
no_step p s r h (zero, e) = e
no_step p s r h (suc n, (m, x, xs)) = absurd (not_matched p s m h x)

-- nothing more, or one step
pub first_step : (p : Pattern) (s r : List ℕ) → Steps (Matches p) s r → (s ≡ r) ⊎ ((m : List ℕ) × Matches p s m)
first_step p s r (zero, e) = inl e
first_step p s r (suc n, (m, x, xs)) = inr (m, x)

pub one_step : (p : ℕ → Bool) → OneStep (Matches (one p))
one_step p s a b x y = (char_same s x.0 y.0 a b x.3 y.3).1

-- a run ends where no other character passes
pub run_ends : (p : ℕ → Bool) (s e r : List ℕ) → IsRun p s e → Matches (many (one p)) s r → (r ≡ e) ⊎ ((m : List ℕ) × Matches (one p) r m)
run_ends p s e r run x = ⊎_elim
    (λ (after : Steps (Matches (one p)) e r). inl (sym (no_step (one p) e r run.stops after)))
    (λ (before : Steps (Matches (one p)) r e). first_step (one p) r e before)
    (in_line (Matches (one p)) (one_step p) run.found.0 x.0 s e r run.found.1 x.1)

pub run_longest : (p : ℕ → Bool) (s e r : List ℕ) → IsRun p s e → Matches (many (one p)) s r → length e ≤ length r
run_longest p s e r run x = ⊎_elim
    (λ (after : Steps (Matches (one p)) e r). omega (arith, ap length (no_step (one p) e r run.stops after)))
    (λ (before : Steps (Matches (one p)) r e). no_longer (many (one p)) r e before)
    (in_line (Matches (one p)) (one_step p) run.found.0 x.0 s e r run.found.1 x.1)

-- what a run is of one character at least
pub some_is_many : (p : Pattern) (s r : List ℕ) → Matches (some p) s r → Matches (many p) s r
some_is_many p s r (m, x, (n, xs)) = (suc n, (m, x, xs))

pub many_is_some : (p : Pattern) (s r : List ℕ) → Matches (many p) s r → (s ≡ r) ⊎ Matches (some p) s r
many_is_some p s r (zero, e) = inl e
many_is_some p s r (suc n, (m, x, xs)) = inr (m, x, (n, xs))

pub some_run : (p : ℕ → Bool) (s m e : List ℕ) → Matches (one p) s m → IsRun p m e → IsSomeRun p s e
some_run p s m e x run = record { found = (m, x, run.found); stops = run.stops }

pub run_start : (p : Pattern) (s : List ℕ) → Matches (many p) s s
run_start p s = (0, refl)

pub run_more : (p : Pattern) (s m r : List ℕ) → Matches (many p) s m → Matches p m r → Matches (many p) s r
run_more p s m r x y = (suc x.0, one_more (Matches p) x.0 s m r x.1 y)

pub is_run : (p : ℕ → Bool) (s e : List ℕ) → IsSomeRun p s e → IsRun p s e
is_run p s e run = record { found = some_is_many (one p) s e run.found; stops = run.stops }

pub some_ends : (p : ℕ → Bool) (s e r : List ℕ) → IsSomeRun p s e → Matches (some (one p)) s r → (r ≡ e) ⊎ ((m : List ℕ) × Matches (one p) r m)
some_ends p s e r run x = run_ends p s e r (is_run p s e run) (some_is_many (one p) s r x)

pub some_longest : (p : ℕ → Bool) (s e r : List ℕ) → IsSomeRun p s e → Matches (some (one p)) s r → length e ≤ length r
some_longest p s e r run x = run_longest p s e r (is_run p s e run) (some_is_many (one p) s r x)

-- how far a LANGTAG has been read
pub record TagRun (s rest : List ℕ) : Type 0 where
  pub found : Matches (many tag_part) s rest
  pub others : (r : List ℕ) → Matches (many tag_part) s r → (length rest ≤ length r) ⊎ Matches (many tag_part) rest r

pub tag_start : (s : List ℕ) → TagRun s s
tag_start s = record { found = (0, refl); others = λ r x. inr x }

alnum_no_part : (v m w : List ℕ) → Matches (one is_ascii_alphanumeric) v m → Matches tag_part v w → ⊥
alnum_no_part v m w x y = not_matched tag_part v w (excluded (one is_ascii_alphanumeric) tag_part v m refl x) y

pub tag_step : (s t m e : List ℕ) → TagRun s t → MatchesOnly (word (codes "-")) t (Some m) → IsSomeRun is_ascii_alphanumeric m e → TagRun s e
tag_step s t m e run h some_e = record { found = whole; others = λ r x. ⊎_elim (λ (longer : length t ≤ length r). inl (omega (arith, shorter))) (λ (y : Matches (many tag_part) t r). ahead r y) (run.others r x) }
  where
    part : Matches tag_part t e
    part = (m, h.found, some_e.found)

    shorter : length e ≤ length t
    shorter = no_longer tag_part t e part

    whole : Matches (many tag_part) s e
    whole = (suc run.found.0, one_more (Matches tag_part) run.found.0 s t e run.found.1 part)

    at : (v r : List ℕ) → (v ≡ e) ⊎ ((w : List ℕ) × Matches (one is_ascii_alphanumeric) v w) → length e ≤ length v → Matches (many tag_part) v r → (length e ≤ length r) ⊎ Matches (many tag_part) e r
    at v r (inl same) le x = inr (subst (λ (u : List ℕ). Matches (many tag_part) u r) same x)
    at v r (inr y) le (zero, same) = inl (omega (arith, ap length same))
    at v r (inr y) le (suc n, (w, z, zs)) = absurd (alnum_no_part v y.0 w y.1 z)

    ahead : (r : List ℕ) → Matches (many tag_part) t r → (length e ≤ length r) ⊎ Matches (many tag_part) e r
    ahead r (zero, same) = inl (omega (arith, shorter, ap length same))
    ahead r (suc n, (v, (u, dash, run_v), xs)) =
        let from : Matches (some (one is_ascii_alphanumeric)) m v = subst (λ (w : List ℕ). Matches (some (one is_ascii_alphanumeric)) w v) (matched_rest (word (codes "-")) t m u h dash) run_v in
        at v r (some_ends is_ascii_alphanumeric m e v some_e from) (some_longest is_ascii_alphanumeric m e v some_e from) (n, xs)

pub tag_end : (s t : List ℕ) → TagRun s t → MatchesOnly tag_part t None → MatchesLongest (many tag_part) s (Some t)
tag_end s t run h = record {
  found = run.found;
  longest = λ r x. ⊎_elim (λ (longer : length t ≤ length r). longer) (λ (y : Matches (many tag_part) t r). omega (arith, ap length (no_step tag_part t r h y))) (run.others r x);
}

pub tag_longest : (s m l e : List ℕ) → MatchesOnly (word (codes "@")) s (Some m) → IsSomeRun is_ascii_alphabetic m l → MatchesLongest (many tag_part) l (Some e) → MatchesLongest lang_tag s (Some e)
unfolding lang_tag
tag_longest s m l e h run tail = record { found = (m, h.found, (l, run.found, tail.found)); longest = λ r x. whole r x }
  where
    at : (v r : List ℕ) → (v ≡ l) ⊎ ((w : List ℕ) × Matches (one is_ascii_alphabetic) v w) → length l ≤ length v → Matches (many tag_part) v r → length e ≤ length r
    at v r (inl same) le x = tail.longest r (subst (λ (u : List ℕ). Matches (many tag_part) u r) same x)
    at v r (inr y) le (zero, same) = omega (arith, ap length same, no_longer (many tag_part) l e tail.found)
    at v r (inr y) le (suc n, (w, z, zs)) = absurd (not_matched tag_part v w (excluded (one is_ascii_alphabetic) tag_part v y.0 refl y.1) z)

    whole : (r : List ℕ) → Matches lang_tag s r → length e ≤ length r
    whole r (u, sign, (v, letters, xs)) =
        let from : Matches (some (one is_ascii_alphabetic)) m v = subst (λ (w : List ℕ). Matches (some (one is_ascii_alphabetic)) w v) (matched_rest (word (codes "@")) s m u h sign) letters in
        at v r (some_ends is_ascii_alphabetic m l v run from) (some_longest is_ascii_alphabetic m l v run from) xs

pub no_tag : (s m : List ℕ) → MatchesOnly (word (codes "@")) s (Some m) → MatchesOnly (one is_ascii_alphabetic) m None → MatchesLongest lang_tag s None
unfolding lang_tag
no_tag s m h none = record { found = tt; longest = λ r x. absurd (not_matched (one is_ascii_alphabetic) m x.2.1.0 none (subst (λ (u : List ℕ). Matches (one is_ascii_alphabetic) u x.2.1.0) (matched_rest (word (codes "@")) s m x.0 h x.1) x.2.1.1)) }

pub no_at : (s : List ℕ) → MatchesOnly (word (codes "@")) s None → MatchesLongest lang_tag s None
unfolding lang_tag
no_at s h = record { found = tt; longest = λ r x. absurd (not_matched (word (codes "@")) s x.0 h x.1) }
