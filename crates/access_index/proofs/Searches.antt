-- Searches in lists of paths by two tests that differ at few paths.
use Rattle.std.proofs.Common.{◌≡◌, ◌<◌, ◌≤◌, ℕ, zero, suc, Bool, true, false, cond, List, [], ◌∷◌, ◌++◌, length, take, drop, filter, Option, Some, refl, sym, ap, ◌∙◌, subst, arith}
use Rattle.std.specs.Prelude.{is_some, bytes_eq}
use Rattle.std.specs.List.{find, AllByRecursion}
use Rattle.std.proofs.lemmas.Bool.{true≢false}
use Rattle.std.proofs.lemmas.List.{length-take-le, take-append-drop, length-drop}
use Rattle.std.proofs.lemmas.Slice.Eq.{bytes_eq-Decides}
use Rattle.pod_path.specs.Hierarchy.{is_container, IsInside}
use Rattle.pod_rows.specs.Tree.{beginnings}

-- the two tests agree but at a path
abbrev pub AgreeBut : (List ℕ → Bool) → (List ℕ → Bool) → List ℕ → Type 0
AgreeBut p q s = (x : List ℕ) → (s ≡ x → ⊥) → p x ≡ q x

abbrev pub Longer : List ℕ → List (List ℕ) → Type 0
Longer s xs = AllByRecursion (λ (x : List ℕ). length s < length x) xs

pub longer_other : (s x : List ℕ) → length s < length x → s ≡ x → ⊥
longer_other s x h e = omega (arith, h, ap length e)

same_hit : (x a : List ℕ) → Some x ≡ Some a → x ≡ a
same_hit x a e = cc

-- where the path that differs is no hit, another hit stays
pub other_hit : (p q : List ℕ → Bool) (s a : List ℕ) (xs : List (List ℕ)) → AgreeBut p q s → q s ≡ false → (a ≡ s → ⊥) → find p xs ≡ Some a → find q xs ≡ Some a
other_hit p q s a [] agree lacks other e = absurd cc
other_hit p q s a (x ∷ xs) agree lacks other e = by_test (p x) refl e (λ k. other_hit p q s a xs agree lacks other k)
  where
    is_other : p x ≡ false → q x ≡ false
    is_other h = by_equal (bytes_eq s x) refl
      where
        by_equal : (b : Bool) → bytes_eq s x ≡ b → q x ≡ false
        by_equal true k = subst (λ (y : List ℕ). q y ≡ false) ((bytes_eq-Decides s x).0 k) lacks
        by_equal false k = sym (agree x (λ same. true≢false (sym ((bytes_eq-Decides s x).1 same) ∙ k))) ∙ h

    by_test : (b : Bool) → p x ≡ b → cond b (Some x) (find p xs) ≡ Some a → (find p xs ≡ Some a → find q xs ≡ Some a) → cond (q x) (Some x) (find q xs) ≡ Some a
    by_test true h k more =
        let same : x ≡ a = same_hit x a k in
        ap (λ (b : Bool). cond b (Some x) (find q xs)) (sym (agree x (λ is. other (sym same ∙ sym is))) ∙ h) ∙ k
    by_test false h k more = ap (λ (b : Bool). cond b (Some x) (find q xs)) (is_other h) ∙ more k

-- the search after the longer ones
pub lost_hit : (p q : List ℕ → Bool) (s : List ℕ) (xs ys : List (List ℕ)) → AgreeBut p q s → q s ≡ false → Longer s xs → find p (xs ++ s ∷ ys) ≡ Some s → find q (xs ++ s ∷ ys) ≡ find q ys
lost_hit p q s [] ys agree lacks longer e = ap (λ (b : Bool). cond b (Some s) (find q ys)) lacks
lost_hit p q s (x ∷ xs) ys agree lacks longer e = by_test (p x) refl e (λ k. lost_hit p q s xs ys agree lacks longer.1 k)
  where
    by_test : (b : Bool) → p x ≡ b → cond b (Some x) (find p (xs ++ s ∷ ys)) ≡ Some s → (find p (xs ++ s ∷ ys) ≡ Some s → find q (xs ++ s ∷ ys) ≡ find q ys)
        → cond (q x) (Some x) (find q (xs ++ s ∷ ys)) ≡ find q ys
    by_test true h k more = absurd (longer_other s x longer.0 (sym (same_hit x s k)))
    by_test false h k more = ap (λ (b : Bool). cond b (Some x) (find q (xs ++ s ∷ ys))) (sym (agree x (longer_other s x longer.0)) ∙ h) ∙ more k

-- a new hit before a shorter one
pub new_hit : (p q : List ℕ → Bool) (s a : List ℕ) (xs ys : List (List ℕ)) → AgreeBut p q s → q s ≡ true → Longer s xs → length a < length s → find p (xs ++ s ∷ ys) ≡ Some a → find q (xs ++ s ∷ ys) ≡ Some s
new_hit p q s a [] ys agree has longer shorter e = ap (λ (b : Bool). cond b (Some s) (find q ys)) has
new_hit p q s a (x ∷ xs) ys agree has longer shorter e = by_test (p x) refl e (λ k. new_hit p q s a xs ys agree has longer.1 shorter k)
  where
    by_test : (b : Bool) → p x ≡ b → cond b (Some x) (find p (xs ++ s ∷ ys)) ≡ Some a → (find p (xs ++ s ∷ ys) ≡ Some a → find q (xs ++ s ∷ ys) ≡ Some s)
        → cond (q x) (Some x) (find q (xs ++ s ∷ ys)) ≡ Some s
    by_test true h k more = absurd (omega (arith, shorter, longer.0, ap length (same_hit x a k)))
    by_test false h k more = ap (λ (b : Bool). cond b (Some x) (find q (xs ++ s ∷ ys))) (sym (agree x (longer_other s x longer.0)) ∙ h) ∙ more k

-- one among them passes
pub some_hit : (p : List ℕ → Bool) (s : List ℕ) (xs ys : List (List ℕ)) → p s ≡ true → is_some (find p (xs ++ s ∷ ys)) ≡ true
some_hit p s [] ys h = ap (λ (b : Bool). is_some (cond b (Some s) (find p ys))) h
some_hit p s (x ∷ xs) ys h = by_test (p x) (some_hit p s xs ys h)
  where
    by_test : (b : Bool) → is_some (find p (xs ++ s ∷ ys)) ≡ true → is_some (cond b (Some x) (find p (xs ++ s ∷ ys))) ≡ true
    by_test true more = refl
    by_test false more = more

-- ---- searches among the containers that a text begins with

-- the tests agree on these
pub same_beginnings : (p q : List ℕ → Bool) (text : List ℕ) (n : ℕ) → ((m : ℕ) → m < n → is_container (take m text) ≡ true → p (take m text) ≡ q (take m text))
    → find p (filter is_container (beginnings text n)) ≡ find q (filter is_container (beginnings text n))
same_beginnings p q text zero h = refl
same_beginnings p q text (suc n) h = by_kind (is_container (take n text)) refl (same_beginnings p q text n (λ m l k. h m (omega (arith, l)) k))
  where
    rest : List (List ℕ)
    rest = filter is_container (beginnings text n)

    by_kind : (b : Bool) → is_container (take n text) ≡ b → find p rest ≡ find q rest → find p (cond b (take n text ∷ rest) rest) ≡ find q (cond b (take n text ∷ rest) rest)
    by_kind true e more =
        ap (λ (b : Bool). cond b (Some (take n text)) (find p rest)) (h n (omega arith) e)
        ∙ ap (λ (o : Option (List ℕ)). cond (q (take n text)) (Some (take n text)) o) more
    by_kind false e more = more

-- what is found is shorter
pub shorter_hit : (p : List ℕ → Bool) (text : List ℕ) (n : ℕ) (a : List ℕ) → n ≤ length text → find p (filter is_container (beginnings text n)) ≡ Some a → length a < n
shorter_hit p text zero a le e = absurd cc
shorter_hit p text (suc n) a le e = by_kind (is_container (take n text)) e (λ k. shorter_hit p text n a (omega (arith, le)) k)
  where
    rest : List (List ℕ)
    rest = filter is_container (beginnings text n)

    by_hit : (b : Bool) → cond b (Some (take n text)) (find p rest) ≡ Some a → (find p rest ≡ Some a → length a < n) → length a < suc n
    by_hit true k more = omega (arith, ap length (same_hit (take n text) a k), length-take-le n text (omega (arith, le)))
    by_hit false k more = let less = more k in omega (arith, less)

    by_kind : (b : Bool) → find p (cond b (take n text ∷ rest) rest) ≡ Some a → (find p rest ≡ Some a → length a < n) → length a < suc n
    by_kind true k more = by_hit (p (take n text)) k more
    by_kind false k more = let less = more k in omega (arith, less)

-- a hit that is longer than the path that differs stays
pub nearer_hit : (p q : List ℕ → Bool) (text : List ℕ) (n : ℕ) (s a : List ℕ) → AgreeBut p q s → length s < length a → n ≤ length text
    → find p (filter is_container (beginnings text n)) ≡ Some a → find q (filter is_container (beginnings text n)) ≡ Some a
nearer_hit p q text zero s a agree less le e = absurd cc
nearer_hit p q text (suc n) s a agree less le e = by_kind (is_container (take n text)) e (λ k. nearer_hit p q text n s a agree less (omega (arith, le)) k)
  where
    at : List ℕ
    at = take n text

    rest : List (List ℕ)
    rest = filter is_container (beginnings text n)

    is : length at ≡ n
    is = length-take-le n text (omega (arith, le))

    by_hit : (b : Bool) → p at ≡ b → cond b (Some at) (find p rest) ≡ Some a → (find p rest ≡ Some a → find q rest ≡ Some a) → cond (q at) (Some at) (find q rest) ≡ Some a
    by_hit true h k more =
        let same : at ≡ a = same_hit at a k in
        ap (λ (b : Bool). cond b (Some at) (find q rest)) (sym (agree at (longer_other s at (omega (arith, less, ap length same)))) ∙ h) ∙ k
    by_hit false h k more =
        let below = shorter_hit p text n a (omega (arith, le)) k in
        ap (λ (b : Bool). cond b (Some at) (find q rest)) (sym (agree at (longer_other s at (omega (arith, less, below, is)))) ∙ h) ∙ more k

    by_kind : (b : Bool) → find p (cond b (at ∷ rest) rest) ≡ Some a → (find p rest ≡ Some a → find q rest ≡ Some a) → find q (cond b (at ∷ rest) rest) ≡ Some a
    by_kind true k more = by_hit (p at) refl k more
    by_kind false k more = more k

-- what is found is an ancestor
pub inside_hit : (p : List ℕ → Bool) (text : List ℕ) (n : ℕ) (a : List ℕ) → n ≤ length text → find p (filter is_container (beginnings text n)) ≡ Some a → IsInside text a
inside_hit p text zero a le e = absurd cc
inside_hit p text (suc n) a le e = by_kind (is_container (take n text)) refl e (λ k. inside_hit p text n a (omega (arith, le)) k)
  where
    rest : List (List ℕ)
    rest = filter is_container (beginnings text n)

    by_hit : (b : Bool) → is_container (take n text) ≡ true → cond b (Some (take n text)) (find p rest) ≡ Some a → (find p rest ≡ Some a → IsInside text a) → IsInside text a
    by_hit true closed k further = subst (IsInside text) (same_hit (take n text) a k) (record {
      container = closed;
      rest = drop n text;
      whole = sym (take-append-drop n text);
      more = omega (arith, le, length-drop n text);
    })
    by_hit false closed k further = further k

    by_kind : (b : Bool) → is_container (take n text) ≡ b → find p (cond b (take n text ∷ rest) rest) ≡ Some a → (find p rest ≡ Some a → IsInside text a) → IsInside text a
    by_kind true closed k further = by_hit (p (take n text)) closed k further
    by_kind false closed k further = further k
