-- Paths before and after their last slash.
use Rattle.std.proofs.Common.{◌≡◌, ℕ, zero, suc, ◌+◌, ◌-◌, ◌<◌, ◌≤◌, Bool, true, false, not, ◌||◌, cond, List, [], ◌∷◌, ◌++◌, length, get_or, take, refl, sym, ap, subst, ◌∙◌, arith, length-append}
use Rattle.std.specs.Prelude.{IsTrue, IsUtf8}
use Rattle.std.specs.List.{list_all, list_any, before_last, suffix_len}
use Rattle.std.proofs.lemmas.List.{get_or_at, get_or-append_right, take_at, take-append-le}
use Rattle.std.proofs.lemmas.List.Sums.{suffix_len_is}
use Rattle.iri_ref.specs.Characters.{slash, is_slash, Lacks}
use Rattle.iri_ref.specs.Resolution.{up_to_last_slash}
use Rattle.iri_ref.proofs.Texts.{and_left, and_right}

not_true : (b : Bool) → IsTrue (not b) → b ≡ false
not_true true h = absurd cc
not_true false h = refl

-- each read of a text that lacks the mark
pub reads_lack : (test : ℕ → Bool) (xs : List ℕ) → Lacks test xs → (k : ℕ) → k < length xs → test (get_or xs k 0) ≡ false
reads_lack test [] h k lt = absurd (omega arith)
reads_lack test (x ∷ xs) h zero lt = not_true (test x) (and_left _ (list_all (λ c. not (test c)) xs) h)
reads_lack test (x ∷ xs) h (suc k) lt = reads_lack test xs (and_right (not (test x)) _ h) k (omega arith)

pub front_at : (path : List ℕ) (end : ℕ) → end < length path → get_or path end 0 ≡ slash → ((k : ℕ) → end < k → k < length path → is_slash (get_or path k 0) ≡ false) → take end path ≡ before_last is_slash path
front_at path end lt here behind =
    let len : suffix_len (λ c. not (is_slash c)) path ≡ length path - (end + 1) =
    suffix_len_is (λ c. not (is_slash c)) path (end + 1) 0 (omega arith) (λ k le k_lt. ap not (behind k (omega arith) k_lt))
    (λ pos. subst (λ (k : ℕ). not (is_slash (get_or path k 0)) ≡ false) (let e : end ≡ end + 1 - 1 = omega arith in e) (ap (λ (c : ℕ). not (is_slash c)) here)) in
    let same : end ≡ length path - suffix_len (λ c. not (is_slash c)) path - 1 = omega arith in
    ap (λ (n : ℕ). take n path) same

pub no_front : (path : List ℕ) → ((k : ℕ) → k < length path → is_slash (get_or path k 0) ≡ false) → before_last is_slash path ≡ []
no_front path lacks =
    let len : suffix_len (λ c. not (is_slash c)) path ≡ length path - 0 =
    suffix_len_is (λ c. not (is_slash c)) path 0 0 (omega arith) (λ k le k_lt. ap not (lacks k k_lt)) (λ pos. absurd (omega arith)) in
    let same : length path - suffix_len (λ c. not (is_slash c)) path - 1 ≡ 0 = omega arith in
    ap (λ (n : ℕ). take n path) same

pub before_last_cut : (prefix rest : List ℕ) → Lacks is_slash rest → before_last is_slash (prefix ++ slash ∷ rest) ≡ prefix
before_last_cut prefix rest h =
    let whole = prefix ++ slash ∷ rest in
    let len : length whole ≡ length prefix + suc (length rest) = length-append prefix (slash ∷ rest) in
    sym (front_at whole (length prefix) (omega arith) (get_or_at prefix slash rest 0 (length prefix) refl)
    (λ k after below.
    let step : get_or whole k 0 ≡ get_or (slash ∷ rest) (k - length prefix) 0 = get_or-append_right prefix (slash ∷ rest) (length prefix) k 0 refl (omega arith) in
    let next : k - length prefix ≡ suc (k - length prefix - 1) = omega arith in
    ap is_slash (step ∙ ap (λ (i : ℕ). get_or (slash ∷ rest) i 0) next) ∙ reads_lack is_slash rest h (k - length prefix - 1) (omega arith)))
    ∙ take_at prefix (slash ∷ rest) (length prefix) refl

pub before_last_lacking : (path : List ℕ) → Lacks is_slash path → before_last is_slash path ≡ []
before_last_lacking path h = no_front path (reads_lack is_slash path h)

or_right : (a b : Bool) → b ≡ true → (a || b) ≡ true
or_right true b h = refl
or_right false b h = h

none_of : (test : ℕ → Bool) (xs : List ℕ) → Lacks test xs → list_any test xs ≡ false
none_of test [] h = refl
none_of test (x ∷ xs) h = rw (not_true (test x) (and_left _ (list_all (λ c. not (test c)) xs) h)) (none_of test xs (and_right (not (test x)) _ h))

-- a text that holds a slash further on
has_slash : (prefix rest : List ℕ) → list_any is_slash (prefix ++ slash ∷ rest) ≡ true
has_slash [] rest = refl
has_slash (c ∷ prefix) rest = or_right (is_slash c) _ (has_slash prefix rest)

pub up_to_lacking : (path : List ℕ) → Lacks is_slash path → up_to_last_slash path ≡ []
up_to_lacking [] h = refl
up_to_lacking (c ∷ cs) h = ap (λ (b : Bool). cond b (c ∷ up_to_last_slash cs) []) (none_of is_slash (c ∷ cs) h)

pub up_to_cut : (prefix rest : List ℕ) → Lacks is_slash rest → up_to_last_slash (prefix ++ slash ∷ rest) ≡ prefix ++ slash ∷ []
up_to_cut [] rest h = ap (λ (t : List ℕ). slash ∷ t) (up_to_lacking rest h)
up_to_cut (c ∷ prefix) rest h =
    ap (λ (b : Bool). cond b (c ∷ up_to_last_slash (prefix ++ slash ∷ rest)) []) (has_slash (c ∷ prefix) rest)
    ∙ ap (λ (t : List ℕ). c ∷ t) (up_to_cut prefix rest h)

-- writing after a position leaves the text before it
pub text_before : (bytes more : List ℕ) (start : ℕ) → start ≤ length bytes → IsUtf8 (take start bytes) → IsUtf8 (take start (bytes ++ more))
text_before bytes more start le h = subst IsUtf8 (sym (take-append-le start bytes more le)) h
