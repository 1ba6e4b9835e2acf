-- The ancestors of a path step by step, and parents of auxiliaries.
use Rattle.std.proofs.Common.{◌≡◌, ◌<◌, ◌≤◌, ◌+◌, ℕ, zero, suc, Bool, true, false, not, cond, ◌||◌, List, [], ◌∷◌, ◌++◌, length, take, drop, filter, reverse, Some, None, Ok, refl, sym, ap, ◌∙◌, subst, arith, ⊎_elim, inl, inr, ◌⊎◌, append_assoc, length-append, length-drop}
use Rattle.std.specs.Prelude.{IsTrue, codes}
use Rattle.std.proofs.lemmas.Bool.{false≢true, true≢false, cases_order, false_from_ne_true}
use Rattle.std.proofs.lemmas.List.{take-append-drop, take-append-le, length-take-le, take_at, reverse-append}
use Rattle.iri_ref.specs.Characters.{slash, is_slash}
use Rattle.iri_ref.specs.Resolution.{up_to_last_slash}
use Rattle.iri_ref.proofs.Paths.{up_to_cut}
use Rattle.iri_ref.proofs.Texts.{all_append}
use Rattle.pod_path.specs.Hierarchy.{root, is_root, is_container, is_acl, is_meta, is_auxiliary, without_end, without_last_slash, parent_of, twin_of, subject_of, acl_of, meta_of, IsInside, IsUnder, IsParentChain}
use Rattle.pod_path.specs.Norm.{IsPath, norm}
use Rattle.pod_path.proofs.NormalPaths.{parts_of, norm_parts, is_path}
use Rattle.pod_path.proofs.Ancestors.{parent_front, parent_some, inside_under, under_inside}
use Rattle.pod_path.proofs.Names.{IsSuffix, acl, meta, ends_is, ends_starts, starts}
use Rattle.pod_path.proofs.Subjects.{acl_undone, meta_undone, subject_path}
use Rattle.pod_path.proofs.Suffixes.{Last, last_of, suffix_lacks}
use Rattle.pod_path.proofs.Twins.{closed_last, longer_root, not_equal, opened, open_plain, parent_path}
use Rattle.pod_rows.specs.Tree.{ancestors, beginnings}

-- ---- beginnings

begun_same : (n : ℕ) (q rest : List ℕ) → n ≤ length q → beginnings (q ++ rest) n ≡ beginnings q n
begun_same zero q rest h = refl
begun_same (suc n) q rest h =
    ap (λ (x : List ℕ). x ∷ beginnings (q ++ rest) n) (take-append-le n q rest (omega (arith, h)))
    ∙ ap (λ (xs : List (List ℕ)). take n q ∷ xs) (begun_same n q rest (omega (arith, h)))

-- what is at least as long as the parent and shorter than the path is the parent, or no container
one_parent : (path q other : List ℕ) → IsPath path → parent_of path ≡ Some q → IsInside path other → (other ≡ q) ⊎ IsInside q other
one_parent path q other h e inside = by_chain (inside_under path other inside)
  where
    same : (x : List ℕ) → parent_of path ≡ Some x → x ≡ q
    same x f = let g : Some x ≡ Some q = sym f ∙ e in cc

    by_chain : IsUnder path other → (other ≡ q) ⊎ IsInside q other
    by_chain ([], f) = inl (same other f)
    by_chain (above ∷ chain, f) =
        inr (under_inside q other (parent_front path q (parts_of path h).characters e).characters (chain, subst (λ (x : List ℕ). IsParentChain x chain other) (same above f.0) f.1))

shorter : (path other : List ℕ) → IsInside path other → length other < length path
shorter path other i = omega (arith, ap length i.whole, length-append other i.rest, i.more)

between : (path q : List ℕ) (k : ℕ) → IsPath path → parent_of path ≡ Some q → length q < k → k < length path → is_container (take k path) ≡ false
between path q k h e low high = false_from_ne_true (is_container (take k path)) (λ closed. by_parent (one_parent path q (take k path) h e (inside closed)))
  where
    long : length (take k path) ≡ k
    long = length-take-le k path (omega (arith, high))

    inside : IsTrue (is_container (take k path)) → IsInside path (take k path)
    inside closed = record {
      container = closed;
      rest = drop k path;
      whole = sym (take-append-drop k path);
      more = omega (arith, high, length-drop k path);
    }

    by_parent : (take k path ≡ q) ⊎ IsInside q (take k path) → ⊥
    by_parent (inl same) = absurd (omega (arith, low, long, ap length same))
    by_parent (inr below) = absurd (omega (arith, low, long, shorter q (take k path) below))

skipped : (path q : List ℕ) → IsPath path → parent_of path ≡ Some q → (n : ℕ) → length q < n → n ≤ length path
    → filter is_container (beginnings path n) ≡ filter is_container (beginnings path (suc (length q)))
skipped path q h e zero low high = absurd (omega (arith, low))
skipped path q h e (suc n) low high =
    ⊎_elim
    (λ (same : n ≡ length q). ap (λ (m : ℕ). filter is_container (beginnings path (suc m))) same)
    (λ s. ⊎_elim
    (λ (less : n < length q). absurd (omega (arith, low, less)))
    (λ (more : length q < n).
    ap (λ (b : Bool). cond b (take n path ∷ filter is_container (beginnings path n)) (filter is_container (beginnings path n))) (between path q n h e more (omega (arith, high)))
    ∙ skipped path q h e n more (omega (arith, high)))
    s)
    (cases_order n (length q))

-- the ancestors of a path are its parent and the ancestors of that
pub ancestors_step : (path q : List ℕ) → IsPath path → parent_of path ≡ Some q → ancestors path ≡ q ∷ ancestors q
ancestors_step path q h e =
    let front = parent_front path q (parts_of path h).characters e in
    let begins : take (length q) path ≡ q = ap (take (length q)) front.whole ∙ take_at q front.rest (length q) refl in
    let long : length path ≡ length q + length front.rest = ap length front.whole ∙ length-append q front.rest in
    skipped path q h e (length path) (omega (arith, long, front.some)) (omega arith)
    ∙ ap (λ (x : List ℕ). filter is_container (x ∷ beginnings path (length q))) begins
    ∙ ap (λ (b : Bool). cond b (q ∷ filter is_container (beginnings path (length q))) (filter is_container (beginnings path (length q)))) front.closed
    ∙ ap (λ (xs : List (List ℕ)). q ∷ filter is_container xs) (ap (λ (x : List ℕ). beginnings x (length q)) front.whole ∙ begun_same (length q) q front.rest (omega arith))

pub ancestors_root : ancestors root ≡ []
ancestors_root = refl

-- ---- parents

pub parent_closed : (path q : List ℕ) → IsPath path → parent_of path ≡ Some q → is_container q ≡ true
parent_closed path q h e = (parent_front path q (parts_of path h).characters e).closed

pub parent_shorter : (path q : List ℕ) → IsPath path → parent_of path ≡ Some q → length q < length path
parent_shorter path q h e =
    let front = parent_front path q (parts_of path h).characters e in
    omega (arith, ap length front.whole, length-append q front.rest, front.some)

pub parent_is_path : (path q : List ℕ) → IsPath path → parent_of path ≡ Some q → IsPath q
parent_is_path path q h e = by_root (is_root path) refl
  where
    by_root : (b : Bool) → is_root path ≡ b → IsPath q
    by_root true r = let none : None ≡ Some q = sym (ap (λ (c : Bool). cond c None (Some (up_to_last_slash (without_last_slash path)))) r) ∙ e in absurd cc
    by_root false r =
        let both : Some (up_to_last_slash (without_last_slash path)) ≡ Some q = sym (parent_some path r) ∙ e in
        let same : up_to_last_slash (without_last_slash path) ≡ q = cc in
        subst IsPath same (parent_path path h r)

pub path_of_norm : (path : List ℕ) → norm path ≡ Ok path → IsPath path
path_of_norm path h = is_path path (norm_parts path path h)

-- ---- containers and auxiliaries

pub container_plain : (t : List ℕ) → is_container t ≡ true → is_auxiliary t ≡ false
container_plain t closed =
    let whole : t ≡ without_end 1 t ++ slash ∷ [] = ends_is t (slash ∷ []) closed in
    let y = without_end 1 t in
    let no_acl : is_acl (y ++ slash ∷ []) ≡ false = ends_starts (y ++ slash ∷ []) (codes ".acl") ∙ ap (starts (reverse (codes ".acl"))) (reverse-append y (slash ∷ [])) in
    let no_meta : is_meta (y ++ slash ∷ []) ≡ false = ends_starts (y ++ slash ∷ []) (codes ".meta") ∙ ap (starts (reverse (codes ".meta"))) (reverse-append y (slash ∷ [])) in
    ap is_auxiliary whole ∙ ap (λ (a : Bool). a || is_meta (y ++ slash ∷ [])) no_acl ∙ no_meta

plain_subject : (t : List ℕ) → is_auxiliary t ≡ false → subject_of t ≡ None
plain_subject t h = by_tests (is_acl t) (is_meta t) h
  where
    by_tests : (a b : Bool) → (a || b) ≡ false → cond a (Some (without_end 4 t)) (cond b (Some (without_end 5 t)) None) ≡ None
    by_tests true b e = absurd (true≢false e)
    by_tests false true e = absurd (true≢false e)
    by_tests false false e = refl

pub no_subject : (t : List ℕ) → is_auxiliary t ≡ false → subject_of t ≡ None
no_subject t h = plain_subject t h

-- what has a subject is an auxiliary
pub subject_auxiliary : (t s : List ℕ) → subject_of t ≡ Some s → is_auxiliary t ≡ true
subject_auxiliary t s e = by_test (is_auxiliary t) refl
  where
    by_test : (b : Bool) → is_auxiliary t ≡ b → b ≡ true
    by_test true h = refl
    by_test false h = let none : None ≡ Some s = sym (plain_subject t h) ∙ e in absurd cc

-- the end of an auxiliary
record AuxiliaryOf (t s : List ℕ) : Type 0 where
  end : List ℕ
  suffix : IsSuffix end
  whole : t ≡ s ++ end

auxiliary_of : (t s : List ℕ) → subject_of t ≡ Some s → AuxiliaryOf t s
auxiliary_of t s e = by_tests (is_acl t) (is_meta t) refl refl e
  where
    by_tests : (a b : Bool) → is_acl t ≡ a → is_meta t ≡ b → cond a (Some (without_end 4 t)) (cond b (Some (without_end 5 t)) None) ≡ Some s → AuxiliaryOf t s
    by_tests true b ea eb k =
        let same : without_end 4 t ≡ s = cc in
        record { end = codes ".acl"; suffix = acl; whole = ends_is t (codes ".acl") ea ∙ ap (λ (x : List ℕ). x ++ codes ".acl") same }
    by_tests false true ea eb k =
        let same : without_end 5 t ≡ s = cc in
        record { end = codes ".meta"; suffix = meta; whole = ends_is t (codes ".meta") eb ∙ ap (λ (x : List ℕ). x ++ codes ".meta") same }
    by_tests false false ea eb k = absurd cc

suffix_open : (s e : List ℕ) → IsSuffix e → is_container (s ++ e) ≡ false
suffix_open s e acl = ends_starts (s ++ codes ".acl") (slash ∷ []) ∙ ap (starts (reverse (slash ∷ []))) (reverse-append s (codes ".acl"))
suffix_open s e meta = ends_starts (s ++ codes ".meta") (slash ∷ []) ∙ ap (starts (reverse (slash ∷ []))) (reverse-append s (codes ".meta"))

suffix_some : (e : List ℕ) → IsSuffix e → 0 < length e
suffix_some e acl = omega arith
suffix_some e meta = omega arith

-- the parent of an auxiliary is its subject, or that one's parent
pub auxiliary_parent : (t s : List ℕ) → IsPath t → subject_of t ≡ Some s → ((is_container s ≡ true) × (parent_of t ≡ Some s)) ⊎ ((is_container s ≡ false) × (parent_of t ≡ parent_of s))
auxiliary_parent t s h e =
    let a = auxiliary_of t s e in
    let path = subject_path t s h e in
    let characters = (parts_of s path).characters in
    let l = last_of s characters in
    let some : 0 < length s = omega (arith, ap length l.whole, length-append l.u (slash ∷ l.last)) in
    let open_end : is_container t ≡ false = ap is_container a.whole ∙ suffix_open s a.end a.suffix in
    let other : is_root t ≡ false = not_equal t root (λ same. longer_root s a.end some (suffix_some a.end a.suffix) (sym a.whole ∙ same)) in
    let up_t : up_to_last_slash t ≡ l.u ++ slash ∷ [] =
    ap up_to_last_slash (a.whole ∙ ap (λ (x : List ℕ). x ++ a.end) l.whole ∙ append_assoc l.u (slash ∷ l.last) a.end)
    ∙ up_to_cut l.u (l.last ++ a.end) (all_append (λ c. not (is_slash c)) l.last a.end l.lacks (suffix_lacks a.end a.suffix)) in
    let up_s : up_to_last_slash s ≡ l.u ++ slash ∷ [] = ap up_to_last_slash l.whole ∙ up_to_cut l.u l.last l.lacks in
    let parent_t : parent_of t ≡ Some (l.u ++ slash ∷ []) =
    parent_some t other ∙ ap (λ (b : Bool). Some (up_to_last_slash (cond b (without_end 1 t) t))) open_end ∙ ap (λ (x : List ℕ). Some x) up_t in
    by_end (is_container s) refl l up_s parent_t
  where
    by_end : (b : Bool) → is_container s ≡ b → (l : Last s) → up_to_last_slash s ≡ l.u ++ slash ∷ [] → parent_of t ≡ Some (l.u ++ slash ∷ [])
        → ((b ≡ true) × (parent_of t ≡ Some s)) ⊎ ((b ≡ false) × (parent_of t ≡ parent_of s))
    by_end true c l up parent =
        let empty : l.last ≡ [] = closed_last s (without_end 1 s) (ends_is s (slash ∷ []) c) l in
        inl (refl, parent ∙ ap (λ (x : List ℕ). Some x) (sym (l.whole ∙ ap (λ (x : List ℕ). l.u ++ slash ∷ x) empty)))
    by_end false c l up parent =
        let other : is_root s ≡ false = not_equal s root (λ same. true≢false (sym (ap is_container same) ∙ c)) in
        inr (refl, parent ∙ ap (λ (x : List ℕ). Some x) (sym up) ∙ sym (parent_some s other ∙ ap (λ (b : Bool). Some (up_to_last_slash (cond b (without_end 1 s) s))) c))

-- a subject is no auxiliary
pub subject_plain : (t s : List ℕ) → IsPath t → subject_of t ≡ Some s → is_auxiliary s ≡ false
subject_plain t s h e = by_tests (is_acl t) (is_meta t) refl refl (subject_auxiliary t s e)
  where
    from_acl : (b : Bool) → cond b None (Some (s ++ codes ".acl")) ≡ Some t → b ≡ false
    from_acl true k = absurd cc
    from_acl false k = refl

    from_meta : (b : Bool) → cond b None (Some (s ++ codes ".meta")) ≡ Some t → b ≡ false
    from_meta true k = absurd cc
    from_meta false k = refl

    by_tests : (a b : Bool) → is_acl t ≡ a → is_meta t ≡ b → (a || b) ≡ true → is_auxiliary s ≡ false
    by_tests true b ea eb k = from_acl (is_auxiliary s) (acl_undone t s h ea e)
    by_tests false true ea eb k = from_meta (is_auxiliary s) (meta_undone t s h eb e)
    by_tests false false ea eb k = absurd (false≢true k)

-- what has the subject is its access list or its description
pub two_auxiliaries : (t s : List ℕ) → IsPath t → subject_of t ≡ Some s → (acl_of s ≡ Some t) ⊎ (meta_of s ≡ Some t)
two_auxiliaries t s h e = by_tests (is_acl t) (is_meta t) refl refl (subject_auxiliary t s e)
  where
    by_tests : (a b : Bool) → is_acl t ≡ a → is_meta t ≡ b → (a || b) ≡ true → (acl_of s ≡ Some t) ⊎ (meta_of s ≡ Some t)
    by_tests true b ea eb k = inl (acl_undone t s h ea e)
    by_tests false true ea eb k = inr (meta_undone t s h eb e)
    by_tests false false ea eb k = absurd (false≢true k)

-- ---- twins

no_self_longer : (t : List ℕ) → t ++ slash ∷ [] ≡ t → ⊥
no_self_longer t e = absurd (omega (arith, ap length e, length-append t (slash ∷ [])))

-- a twin that is a container is longer
pub twin_longer : (t x : List ℕ) → IsPath t → twin_of t ≡ Some x → is_container x ≡ true → length t < length x
twin_longer t x h e closed = by_tests (is_root t) (is_auxiliary t) (is_container t) refl refl refl e
  where
    by_tests : (a b c : Bool) → is_root t ≡ a → is_auxiliary t ≡ b → is_container t ≡ c
        → cond (a || b) None (cond c (Some (without_end 1 t)) (Some (t ++ slash ∷ []))) ≡ Some x → length t < length x
    by_tests true b c ea eb ec k = absurd cc
    by_tests false true c ea eb ec k = absurd cc
    by_tests false false true ea eb ec k =
        let same : without_end 1 t ≡ x = cc in
        let o = opened t (without_end 1 t) (ends_is t (slash ∷ []) ec) h ea in
        absurd (true≢false (sym closed ∙ ap is_container (sym same) ∙ open_plain (without_end 1 t) o))
    by_tests false false false ea eb ec k =
        let same : t ++ slash ∷ [] ≡ x = cc in
        omega (arith, ap length same, length-append t (slash ∷ []))

-- no path is its own twin
pub twin_other : (t : List ℕ) → IsPath t → twin_of t ≡ Some t → ⊥
twin_other t h e = by_test (is_container t) refl
  where
    by_test : (c : Bool) → is_container t ≡ c → ⊥
    by_test true ec = absurd (omega (arith, twin_longer t t h e ec))
    by_test false ec = open_twin (is_root t || is_auxiliary t) (ap (λ (b : Bool). cond (is_root t || is_auxiliary t) None (cond b (Some (without_end 1 t)) (Some (t ++ slash ∷ [])))) (sym ec) ∙ e)
      where
        open_twin : (a : Bool) → cond a None (Some (t ++ slash ∷ [])) ≡ Some t → ⊥
        open_twin true k = absurd cc
        open_twin false k = let same : t ++ slash ∷ [] ≡ t = cc in no_self_longer t same
