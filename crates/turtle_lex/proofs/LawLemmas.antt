-- Laws of patterns and of lists of tokens.
use Rattle.std.proofs.Common.{◌≡◌, ℕ, zero, suc, inl, inr, List, [], ◌++◌, refl, sym, ap, ◌∙◌, subst, append_assoc}
use Rattle.std.proofs.lemmas.List.{append-nil}
use Rattle.std.specs.Char.{encode_utf8}
use Rattle.turtle_lex.specs.Pattern.{Pattern, word, any_case, one, number, ◌∘◌, ◌∣◌, many, Matches, Times}
use Rattle.turtle_lex.specs.Laws.{MatchesItsTexts, MatchesAllItsTexts}

-- what was read can be read before anything
pub record Free (R : List ℕ → List ℕ → Type 0) (s r : List ℕ) : Type 0 where
  pub text : List ℕ
  pub is : s ≡ text ++ r
  pub any : (q : List ℕ) → R (text ++ q) q

both_free : (P Q R : List ℕ → List ℕ → Type 0) (s m r : List ℕ) → ((a b c : List ℕ) → P a b → Q b c → R a c) → Free P s m → Free Q m r → Free R s r
both_free P Q R s m r join f g = record {
  text = f.text ++ g.text;
  is = f.is ∙ ap (λ (x : List ℕ). f.text ++ x) g.is ∙ sym (append_assoc f.text g.text r);
  any = λ q. subst (λ (x : List ℕ). R x q) (sym (append_assoc f.text g.text q)) (join (f.text ++ (g.text ++ q)) (g.text ++ q) q (f.any (g.text ++ q)) (g.any q));
}

wider : (P R : List ℕ → List ℕ → Type 0) (s r : List ℕ) → ((a b : List ℕ) → P a b → R a b) → Free P s r → Free R s r
wider P R s r h f = record { text = f.text; is = f.is; any = λ q. h (f.text ++ q) q (f.any q) }

times_free : (R : List ℕ → List ℕ → Type 0) → ((s r : List ℕ) → R s r → Free R s r) → (n : ℕ) (s r : List ℕ) → Times R n s r → Free (Times R n) s r
times_free R h zero s r e = record { text = []; is = e; any = λ q. refl }
times_free R h (suc n) s r (m, x, xs) = both_free R (Times R n) (Times R (suc n)) s m r (λ a b c y ys. (b, y, ys)) (h s m x) (times_free R h n m r xs)

pub free : (p : Pattern) (s r : List ℕ) → Matches p s r → Free (Matches p) s r
free (word w) s r e = record { text = w; is = e; any = λ q. refl }
free (any_case w) s r (t, same, e) = record { text = t; is = e; any = λ q. (t, same, refl) }
free (one p) s r (c, scalar, passes, e) = record { text = encode_utf8 c; is = e; any = λ q. (c, scalar, passes, refl) }
free (number n) s r (ds, len, hex, scalar, e) = record { text = ds; is = e; any = λ q. (ds, len, hex, scalar, refl) }
free (p ∘ q) s r (m, x, y) = both_free (Matches p) (Matches q) (Matches (p ∘ q)) s m r (λ a b c u v. (b, u, v)) (free p s m x) (free q m r y)
free (p ∣ q) s r h = elim h [
  | inl x ↦ wider (Matches p) (Matches (p ∣ q)) s r (λ a b u. inl u) (free p s r x)
  | inr y ↦ wider (Matches q) (Matches (p ∣ q)) s r (λ a b u. inr u) (free q s r y)
]
free (many p) s r (n, x) = wider (Times (Matches p) n) (Matches (many p)) s r (λ a b u. (n, u)) (times_free (Matches p) (free p) n s r x)

pub matches_its_texts : MatchesItsTexts
matches_its_texts p s r x =
    let f = free p s r x in
    (f.text, subst (λ (t : List ℕ). Matches p t []) (append-nil f.text) (f.any []), f.is)

pub matches_all_its_texts : MatchesAllItsTexts
matches_all_its_texts p text r x =
    let f = free p text [] x in
    let same : f.text ≡ text = sym (f.is ∙ append-nil f.text) in
    subst (λ (t : List ℕ). Matches p (t ++ r) r) same (f.any r)
