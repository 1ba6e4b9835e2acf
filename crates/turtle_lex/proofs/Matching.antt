-- What a text begins with: patterns that can be read in one way alone, and how they are put together.
use mathlib.Core.List.{IsSuffix}
use Rattle.std.proofs.Common.{◌≡◌, ℕ, zero, suc, ◌<◌, ◌≤◌, Bool, true, false, inl, inr, List, [], ◌∷◌, ◌++◌, length, Option, Some, None, refl, sym, ap, ◌∙◌, subst, cond, ◌==◌, eq-eqb, arith, append_assoc, length-append}
use Rattle.std.specs.Char.{IsScalar, encode_utf8}
use Rattle.std.proofs.lemmas.Str.{encode_same, encode_ascii, length-encode, len_utf8_bounds}
use Rattle.std.proofs.lemmas.Bool.{false≢true}
use Rattle.std.proofs.lemmas.List.{append_cancel_left}
use Rattle.turtle_lex.specs.Pattern.{Pattern, word, any_case, one, number, ◌∘◌, ◌∣◌, many, Matches, Times, MatchesOnly}

pub suffix_trans : (s m r : List ℕ) → IsSuffix m s → IsSuffix r m → IsSuffix r s
suffix_trans s m r (t, e) (u, f) = (t ++ u, append_assoc t u r ∙ ap (λ (x : List ℕ). t ++ x) f ∙ e)

times_suffix : (R : List ℕ → List ℕ → Type 0) → ((s r : List ℕ) → R s r → IsSuffix r s) → (n : ℕ) (s r : List ℕ) → Times R n s r → IsSuffix r s
times_suffix R h zero s r e = ([], sym e)
times_suffix R h (suc n) s r (m, first, rest) = suffix_trans s m r (h s m first) (times_suffix R h n m r rest)

-- what is left is an end of the text
pub leaves_suffix : (p : Pattern) (s r : List ℕ) → Matches p s r → IsSuffix r s
leaves_suffix (word w) s r e = (w, sym e)
leaves_suffix (any_case w) s r (t, same, e) = (t, sym e)
leaves_suffix (one p) s r (c, scalar, passes, e) = (encode_utf8 c, sym e)
leaves_suffix (number n) s r (ds, len, hex, scalar, e) = (ds, sym e)
leaves_suffix (p ∘ q) s r (m, x, y) = suffix_trans s m r (leaves_suffix p s m x) (leaves_suffix q m r y)
leaves_suffix (p ∣ q) s r h = elim h [ inl x ↦ leaves_suffix p s r x | inr y ↦ leaves_suffix q s r y ]
leaves_suffix (many p) s r (n, x) = times_suffix (Matches p) (leaves_suffix p) n s r x

pub no_longer : (p : Pattern) (s r : List ℕ) → Matches p s r → length r ≤ length s
no_longer p s r h = let f = leaves_suffix p s r h in omega (arith, ap length f.1, length-append f.0 r)

-- the same rest
pub same_rest : (m r : List ℕ) → Some m ≡ Some r → m ≡ r
same_rest m r e = cc

pub none_is_no_rest : (r : List ℕ) → None ≡ Some r → ⊥
none_is_no_rest r e = cc

-- no text of the pattern matches at the start
pub refused : (p : Pattern) (s : List ℕ) → ((r : List ℕ) → Matches p s r → ⊥) → MatchesOnly p s None
refused p s h = record { found = tt; only = λ r x. absurd (h r x) }

pub not_matched : (p : Pattern) (s r : List ℕ) → MatchesOnly p s None → Matches p s r → ⊥
not_matched p s r h x = none_is_no_rest r (h.only r x)

pub matched_rest : (p : Pattern) (s m r : List ℕ) → MatchesOnly p s (Some m) → Matches p s r → r ≡ m
matched_rest p s m r h x = sym (same_rest m r (h.only r x))

-- one character
pub char_same : (s : List ℕ) (c d : ℕ) (m r : List ℕ) → s ≡ encode_utf8 c ++ m → s ≡ encode_utf8 d ++ r → (c ≡ d) × (m ≡ r)
char_same s c d m r e f = encode_same c d m r (sym e ∙ f)

pub char_shorter : (s : List ℕ) (c : ℕ) (m : List ℕ) → s ≡ encode_utf8 c ++ m → length m < length s
char_shorter s c m e = omega (arith, ap length e, length-append (encode_utf8 c) m, length-encode c, (len_utf8_bounds c).0)

pub one_shorter : (p : ℕ → Bool) (s m : List ℕ) → Matches (one p) s m → length m < length s
one_shorter p s m x = char_shorter s x.0 m x.3

pub one_found : (p : ℕ → Bool) (s : List ℕ) (c : ℕ) (m : List ℕ) → IsScalar c → s ≡ encode_utf8 c ++ m → p c ≡ true → MatchesOnly (one p) s (Some m)
one_found p s c m scalar e passes = record {
  found = (c, scalar, passes, e);
  only = λ r x. ap (λ (t : List ℕ). Some t) (char_same s c x.0 m r e x.3).1;
}

pub one_refused : (p : ℕ → Bool) (s : List ℕ) (c : ℕ) (m : List ℕ) → s ≡ encode_utf8 c ++ m → p c ≡ false → MatchesOnly (one p) s None
one_refused p s c m e fails = refused (one p) s (λ r x.
    false≢true (sym fails ∙ ap p (char_same s c x.0 m r e x.3).0 ∙ x.2))

-- the one, and then the other
pub then_only : (p q : Pattern) (s m : List ℕ) (o : Option (List ℕ)) → MatchesOnly p s (Some m) → MatchesOnly q m o → MatchesOnly (p ∘ q) s o
then_only p q s m None h k = refused (p ∘ q) s (λ r x. not_matched q m r k (subst (λ (t : List ℕ). Matches q t r) (matched_rest p s m x.0 h x.1) x.2))
then_only p q s m (Some r) h k = record {
  found = (m, h.found, k.found);
  only = λ t x. k.only t (subst (λ (u : List ℕ). Matches q u t) (matched_rest p s m x.0 h x.1) x.2);
}

pub then_refused : (p q : Pattern) (s : List ℕ) → MatchesOnly p s None → MatchesOnly (p ∘ q) s None
then_refused p q s h = refused (p ∘ q) s (λ r x. not_matched p s x.0 h x.1)

-- the one or the other, of which one doesn't match there
pub or_left : (p q : Pattern) (s : List ℕ) (o : Option (List ℕ)) → MatchesOnly p s o → MatchesOnly q s None → MatchesOnly (p ∣ q) s o
or_left p q s None h k = refused (p ∣ q) s (λ r x. elim x [ inl y ↦ not_matched p s r h y | inr y ↦ not_matched q s r k y ])
or_left p q s (Some m) h k = record { found = inl h.found; only = λ r x. elim x [ inl y ↦ h.only r y | inr y ↦ absurd (not_matched q s r k y) ] }

pub or_right : (p q : Pattern) (s : List ℕ) (o : Option (List ℕ)) → MatchesOnly p s None → MatchesOnly q s o → MatchesOnly (p ∣ q) s o
or_right p q s None h k = refused (p ∣ q) s (λ r x. elim x [ inl y ↦ not_matched p s r h y | inr y ↦ not_matched q s r k y ])
or_right p q s (Some m) h k = record { found = inr k.found; only = λ r x. elim x [ inl y ↦ absurd (not_matched p s r h y) | inr y ↦ k.only r y ] }

-- a word
pub word_found : (w s m : List ℕ) → s ≡ w ++ m → MatchesOnly (word w) s (Some m)
word_found w s m e = record { found = e; only = λ r x. ap (λ (t : List ℕ). Some t) (append_cancel_left w m r (sym e ∙ x)) }

pub word_refused : (w s : List ℕ) → ((r : List ℕ) → s ≡ w ++ r → ⊥) → MatchesOnly (word w) s None
word_refused w s h = refused (word w) s h

-- any number of one thing and then another, of which one matches at the start at most
pub on : (p q : Pattern) (s m r : List ℕ) → MatchesOnly p s (Some m) → MatchesOnly q s None → Matches (many p ∘ q) s r → Matches (many p ∘ q) m r
on p q s m r h k (t, (zero, same), last) = absurd (not_matched q s r k (subst (λ (u : List ℕ). Matches q u r) (sym same) last))
on p q s m r h k (t, (suc n, (u, first, more)), last) = (t, (n, subst (λ (v : List ℕ). Times (Matches p) n v t) (matched_rest p s m u h first) more), last)

pub back : (p q : Pattern) (s m r : List ℕ) → Matches p s m → Matches (many p ∘ q) m r → Matches (many p ∘ q) s r
back p q s m r h (t, (n, more), last) = (t, (suc n, (m, h, more)), last)

pub stuck : (p q : Pattern) (s r : List ℕ) → MatchesOnly p s None → MatchesOnly q s None → Matches (many p ∘ q) s r → ⊥
stuck p q s r h k (t, (zero, same), last) = not_matched q s r k (subst (λ (u : List ℕ). Matches q u r) (sym same) last)
stuck p q s r h k (t, (suc n, (u, first, more)), last) = not_matched p s u h first

pub closes : (p q : Pattern) (s : List ℕ) (o : Option (List ℕ)) → MatchesOnly p s None → MatchesOnly q s o → MatchesOnly (many p ∘ q) s o
closes p q s None h k = refused (many p ∘ q) s (λ r x. stuck p q s r h k x)
closes p q s (Some m) h k = record { found = (s, (0, refl), k.found); only = ended }
  where
    ended : (r : List ℕ) → Matches (many p ∘ q) s r → Some m ≡ Some r
    ended r (t, (zero, same), last) = k.only r (subst (λ (u : List ℕ). Matches q u r) (sym same) last)
    ended r (t, (suc n, (u, first, more)), last) = absurd (not_matched p s u h first)

-- one ASCII character
pub ascii_one : (p : ℕ → Bool) (b : ℕ) (s r : List ℕ) → b < 128 → Matches (one p) (b ∷ s) r → (p b ≡ true) × (s ≡ r)
ascii_one p b s r low x =
    let front_is : b ∷ s ≡ encode_utf8 b ++ s = ap (λ (t : List ℕ). t ++ s) (sym (encode_ascii b low)) in
    let same = char_same (b ∷ s) b x.0 s r front_is x.3 in
    (ap p same.0 ∙ x.2, same.1)

-- no text begins with two words that differ at a position
abbrev pub clash : List ℕ → List ℕ → Bool
clash [] w = false
clash (a ∷ v) [] = false
clash (a ∷ v) (b ∷ w) = cond (a == b) (clash v w) true

pub heads : (a b : ℕ) (s r : List ℕ) → a ∷ s ≡ b ∷ r → (a ≡ b) × (s ≡ r)
heads a b s r e = (cc, cc)

clash_step : (t : Bool) (a b : ℕ) (x : Bool) → (a == b) ≡ t → a ≡ b → cond t x true ≡ true → x ≡ true
clash_step true a b x is same h = h
clash_step false a b x is same h = absurd (false≢true (sym is ∙ eq-eqb a b same))

pub words_apart : (v w s m r : List ℕ) → clash v w ≡ true → s ≡ v ++ m → s ≡ w ++ r → ⊥
words_apart [] w s m r h e f = false≢true h
words_apart (a ∷ v) [] s m r h e f = false≢true h
words_apart (a ∷ v) (b ∷ w) s m r h e f =
    let same = heads a b (v ++ m) (w ++ r) (sym e ∙ f) in
    words_apart v w (v ++ m) m r (clash_step (a == b) a b (clash v w) refl same.0 h) refl same.1

pub word_clashes : (v w s m : List ℕ) → clash v w ≡ true → s ≡ v ++ m → MatchesOnly (word w) s None
word_clashes v w s m h e = word_refused w s (λ r f. words_apart v w s m r h e f)

-- two texts, of which the one is an end of the other, leave the same after a pattern
pub record SameEnds (p : Pattern) (s t : List ℕ) : Type 0 where
  pub on : (r : List ℕ) → Matches p s r → Matches p t r
  pub back : (r : List ℕ) → Matches p t r → Matches p s r

pub same_ends : (p : Pattern) (s : List ℕ) → SameEnds p s s
same_ends p s = record { on = λ r x. x; back = λ r x. x }

pub carried : (p : Pattern) (s t : List ℕ) (o : Option (List ℕ)) → SameEnds p s t → MatchesOnly p t o → MatchesOnly p s o
carried p s t None same h = refused p s (λ r x. not_matched p t r h (same.on r x))
carried p s t (Some m) same h = record { found = same.back m h.found; only = λ r x. h.only r (same.on r x) }

pub same_step : (p q : Pattern) (s t m : List ℕ) → SameEnds (many p ∘ q) s t → MatchesOnly p t (Some m) → MatchesOnly q t None → SameEnds (many p ∘ q) s m
same_step p q s t m same h k = record {
  on = λ r x. on p q t m r h k (same.on r x);
  back = λ r x. same.back r (back p q t m r h.found x);
}

-- one character of either of two classes
pub ones_found : (p q : ℕ → Bool) (s m : List ℕ) → MatchesOnly (one p) s (Some m) → MatchesOnly (one p ∣ one q) s (Some m)
ones_found p q s m h = record {
  found = inl h.found;
  only = λ r x. elim x [
    | inl a ↦ h.only r a
    | inr b ↦ ap (λ (t : List ℕ). Some t) (char_same s h.found.0 b.0 m r h.found.3 b.3).1
  ];
}

pub ones_refused : (p q : ℕ → Bool) (s : List ℕ) (o : Option (List ℕ)) → MatchesOnly (one p) s None → MatchesOnly (one q) s o → MatchesOnly (one p ∣ one q) s o
ones_refused p q s o h k = or_right (one p) (one q) s o h k
