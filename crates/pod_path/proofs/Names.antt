-- How texts end, read from the end back.
use Rattle.std.proofs.Common.{◌≡◌, ℕ, ◌-◌, Bool, true, false, ◌||◌, ◌&&◌, eqb, List, [], ◌∷◌, ◌++◌, length, take, drop, reverse, refl, sym, ap, subst, ◌∙◌, arith, length-append, inl, inr, ◌⊎◌, eq-eqb}
use Rattle.std.specs.Prelude.{IsTrue, nat_eq, bytes_eq, codes}
use Rattle.std.specs.List.{ends_with, list_any}
use Rattle.std.proofs.lemmas.List.{take-append-drop, take_at, drop_at, reverse-append, reverse-reverse}
use Rattle.std.proofs.lemmas.Slice.Eq.{bytes_eq-Decides}
use Rattle.std.proofs.lemmas.Bool.{eqb-true}
use Rattle.iri_ref.proofs.Texts.{and_left, and_right, and_both}
use Rattle.iri_ref.specs.Segments.{is_double_dot, is_dot_segment}
use Rattle.pod_path.specs.Norm.{is_auxiliary_name, is_dot_auxiliary, is_reserved_name}
use Rattle.pod_path.specs.Hierarchy.{without_end}

-- ---- an end, and the text before it

pub ends_is : (text end : List ℕ) → IsTrue (ends_with nat_eq text end) → text ≡ without_end (length end) text ++ end
ends_is text end h =
    let same : end ≡ drop (length text - length end) text = (bytes_eq-Decides end (drop (length text - length end) text)).0 h in
    sym (take-append-drop (length text - length end) text) ∙ ap (λ (x : List ℕ). take (length text - length end) text ++ x) (sym same)

pub without_append : (prefix end : List ℕ) → without_end (length end) (prefix ++ end) ≡ prefix
without_append prefix end =
    let n : length (prefix ++ end) - length end ≡ length prefix = omega (arith, length-append prefix end) in
    ap (λ (k : ℕ). take k (prefix ++ end)) n ∙ take_at prefix end (length prefix) refl

pub ends_append : (prefix end : List ℕ) → IsTrue (ends_with nat_eq (prefix ++ end) end)
ends_append prefix end =
    let n : length (prefix ++ end) - length end ≡ length prefix = omega (arith, length-append prefix end) in
    let same : end ≡ drop (length (prefix ++ end) - length end) (prefix ++ end) = sym (ap (λ (k : ℕ). drop k (prefix ++ end)) n ∙ drop_at prefix end (length prefix) refl) in
    (bytes_eq-Decides end (drop (length (prefix ++ end) - length end) (prefix ++ end))).1 same

-- ---- reading from the end

abbrev pub starts : List ℕ → List ℕ → Bool
starts [] text = true
starts (p ∷ ps) [] = false
starts (p ∷ ps) (c ∷ cs) = eqb p c && starts ps cs

starts_append : (p rest : List ℕ) → IsTrue (starts p (p ++ rest))
starts_append [] rest = refl
starts_append (c ∷ p) rest = and_both (eqb c c) _ (eq-eqb c c refl) (starts_append p rest)

starts_is : (p text : List ℕ) → IsTrue (starts p text) → (rest : List ℕ) × (text ≡ p ++ rest)
starts_is [] text h = (text, refl)
starts_is (c ∷ p) [] h = absurd cc
starts_is (c ∷ p) (d ∷ text) h =
    let below = starts_is p text (and_right (eqb c d) _ h) in
    let heads : c ≡ d = eqb-true c d (and_left _ (starts p text) h) in
    (below.0, λ i. sym heads i ∷ below.1 i)

starts_prefix : (p q text : List ℕ) → IsTrue (starts (p ++ q) text) → IsTrue (starts p text)
starts_prefix [] q text h = refl
starts_prefix (c ∷ p) q [] h = absurd cc
starts_prefix (c ∷ p) q (d ∷ text) h = and_both (eqb c d) _ (and_left _ (starts (p ++ q) text) h) (starts_prefix p q text (and_right (eqb c d) _ h))

abbrev Ends : List ℕ → List ℕ → Type 0
Ends text end = (prefix : List ℕ) × (text ≡ prefix ++ end)

same_tests : (P : Type 0) (a b : Bool) → (IsTrue a → P) → (P → IsTrue a) → (IsTrue b → P) → (P → IsTrue b) → a ≡ b
same_tests P true true p q r s = refl
same_tests P false false p q r s = refl
same_tests P true false p q r s = sym (s (p refl))
same_tests P false true p q r s = q (r refl)

pub ends_starts : (text end : List ℕ) → ends_with nat_eq text end ≡ starts (reverse end) (reverse text)
ends_starts text end = same_tests (Ends text end) (ends_with nat_eq text end) (starts (reverse end) (reverse text))
    (λ h. (without_end (length end) text, ends_is text end h))
    (λ w. subst (λ (t : List ℕ). IsTrue (ends_with nat_eq t end)) (sym w.1) (ends_append w.0 end))
    (λ h.
    let found = starts_is (reverse end) (reverse text) h in
    (reverse found.0, sym (reverse-reverse text) ∙ ap reverse found.1 ∙ reverse-append (reverse end) found.0 ∙ ap (λ (x : List ℕ). reverse found.0 ++ x) (reverse-reverse end)))
    (λ w. subst (λ (t : List ℕ). IsTrue (starts (reverse end) t)) (sym (ap reverse w.1 ∙ reverse-append w.0 end)) (starts_append (reverse end) (reverse w.0)))

bytes_reverse : (a b : List ℕ) → bytes_eq a b ≡ bytes_eq (reverse a) (reverse b)
bytes_reverse a b = same_tests (a ≡ b) (bytes_eq a b) (bytes_eq (reverse a) (reverse b))
    (bytes_eq-Decides a b).0 (bytes_eq-Decides a b).1
    (λ h. sym (reverse-reverse a) ∙ ap reverse ((bytes_eq-Decides (reverse a) (reverse b)).0 h) ∙ reverse-reverse b)
    (λ e. (bytes_eq-Decides (reverse a) (reverse b)).1 (ap reverse e))

any_same : (p q : List ℕ → Bool) → ((x : List ℕ) → p x ≡ q x) → (xs : List (List ℕ)) → list_any p xs ≡ list_any q xs
any_same p q h [] = refl
any_same p q h (x ∷ xs) = ap (λ (b : Bool). b || list_any p xs) (h x) ∙ ap (λ (b : Bool). q x || b) (any_same p q h xs)

-- the tests of a name, of the name read from its end
abbrev auxiliary : List ℕ → Bool
auxiliary back = starts (reverse (codes ".acl")) back || starts (reverse (codes ".meta")) back

abbrev ended : List ℕ → Bool
ended back = list_any (λ end. starts (reverse end) back) (codes ".acl.acl" ∷ codes ".meta.acl" ∷ codes ".acl.meta" ∷ codes ".meta.meta" ∷ [])

abbrev of_dots : List ℕ → Bool
of_dots back = list_any (λ name. bytes_eq back (reverse name)) (codes "..acl" ∷ codes "...acl" ∷ codes "..meta" ∷ codes "...meta" ∷ [])

abbrev dots : List ℕ → Bool
dots back = bytes_eq back (codes ".") || bytes_eq back (codes "..")

auxiliary_is : (s : List ℕ) → is_auxiliary_name s ≡ auxiliary (reverse s)
auxiliary_is s =
    ap (λ (b : Bool). b || ends_with nat_eq s (codes ".meta")) (ends_starts s (codes ".acl"))
    ∙ ap (λ (b : Bool). starts (reverse (codes ".acl")) (reverse s) || b) (ends_starts s (codes ".meta"))

dots_is : (s : List ℕ) → is_dot_segment s ≡ dots (reverse s)
dots_is s =
    ap (λ (b : Bool). b || is_double_dot s) (bytes_reverse s (codes "."))
    ∙ ap (λ (b : Bool). bytes_eq (reverse s) (codes ".") || b) (bytes_reverse s (codes ".."))

reserved_is : (s : List ℕ) → is_reserved_name s ≡ (ended (reverse s) || of_dots (reverse s))
reserved_is s =
    ap (λ (b : Bool). b || is_dot_auxiliary s) (any_same (λ end. ends_with nat_eq s end) (λ end. starts (reverse end) (reverse s)) (λ end. ends_starts s end) (codes ".acl.acl" ∷ codes ".meta.acl" ∷ codes ".acl.meta" ∷ codes ".meta.meta" ∷ []))
    ∙ ap (λ (b : Bool). ended (reverse s) || b) (any_same (λ name. bytes_eq s name) (λ name. bytes_eq (reverse s) (reverse name)) (λ name. bytes_reverse s name) (codes "..acl" ∷ codes "...acl" ∷ codes "..meta" ∷ codes "...meta" ∷ []))

four : (a b c d : Bool) → ((a || (b || false)) || (c || (d || false))) ≡ ((a || b) || (c || d))
four true b c d = refl
four false true c d = refl
four false false true d = refl
four false false false true = refl
four false false false false = refl

-- ---- the name of an auxiliary

pub data IsSuffix : List ℕ → Type 0 where
  acl : IsSuffix (codes ".acl")
  meta : IsSuffix (codes ".meta")

abbrev shaped : List ℕ → Bool
shaped back = auxiliary back || dots back

shaped_is : (s : List ℕ) → shaped (reverse s) ≡ (is_auxiliary_name s || is_dot_segment s)
shaped_is s = ap (λ (b : Bool). b || dots (reverse s)) (sym (auxiliary_is s)) ∙ ap (λ (b : Bool). is_auxiliary_name s || b) (sym (dots_is s))

reserved_acl : (s : List ℕ) → is_reserved_name (s ++ codes ".acl") ≡ (is_auxiliary_name s || is_dot_segment s)
reserved_acl s =
    reserved_is (s ++ codes ".acl")
    ∙ ap (λ (back : List ℕ). ended back || of_dots back) (reverse-append s (codes ".acl"))
    ∙ four (starts (reverse (codes ".acl")) (reverse s)) (starts (reverse (codes ".meta")) (reverse s)) (bytes_eq (reverse s) (codes ".")) (bytes_eq (reverse s) (codes ".."))
    ∙ shaped_is s

reserved_meta : (s : List ℕ) → is_reserved_name (s ++ codes ".meta") ≡ (is_auxiliary_name s || is_dot_segment s)
reserved_meta s =
    reserved_is (s ++ codes ".meta")
    ∙ ap (λ (back : List ℕ). ended back || of_dots back) (reverse-append s (codes ".meta"))
    ∙ four (starts (reverse (codes ".acl")) (reverse s)) (starts (reverse (codes ".meta")) (reverse s)) (bytes_eq (reverse s) (codes ".")) (bytes_eq (reverse s) (codes ".."))
    ∙ shaped_is s

-- What the end of an auxiliary makes of a name: it is reserved exactly where the name is that of an auxiliary or a
-- dot segment.
pub record IsSuffixed (s end : List ℕ) : Type 0 where
  pub reserved : is_reserved_name (s ++ end) ≡ (is_auxiliary_name s || is_dot_segment s)
  pub plain : is_dot_segment (s ++ end) ≡ false
  pub auxiliary : IsTrue (is_auxiliary_name (s ++ end))

pub suffixed : (end : List ℕ) → IsSuffix end → (s : List ℕ) → IsSuffixed s end
suffixed end acl s = record {
  reserved = reserved_acl s;
  plain = dots_is (s ++ codes ".acl") ∙ ap dots (reverse-append s (codes ".acl"));
  auxiliary = auxiliary_is (s ++ codes ".acl") ∙ ap auxiliary (reverse-append s (codes ".acl"));
}
suffixed end meta s = record {
  reserved = reserved_meta s;
  plain = dots_is (s ++ codes ".meta") ∙ ap dots (reverse-append s (codes ".meta"));
  auxiliary = auxiliary_is (s ++ codes ".meta") ∙ ap auxiliary (reverse-append s (codes ".meta"));
}

in_either : (a b : Bool) → IsTrue (a || b) → IsTrue a ⊎ IsTrue b
in_either true b h = inl refl
in_either false b h = inr h

or_left : (a b : Bool) → IsTrue a → IsTrue (a || b)
or_left true b h = refl
or_left false b h = absurd cc

or_right : (a b : Bool) → IsTrue b → IsTrue (a || b)
or_right true b h = refl
or_right false b h = h

-- a test that follows from each of four, follows from all of them
from_four : (P : Type 0) (a b c d : Bool) → IsTrue (a || (b || (c || (d || false)))) → (IsTrue a → P) → (IsTrue b → P) → (IsTrue c → P) → (IsTrue d → P) → P
from_four P true b c d h pa pb pc pd = pa refl
from_four P false true c d h pa pb pc pd = pb refl
from_four P false false true d h pa pb pc pd = pc refl
from_four P false false false true h pa pb pc pd = pd refl
from_four P false false false false h pa pb pc pd = absurd cc

equal_starts : (p q back : List ℕ) → IsTrue (bytes_eq back (p ++ q)) → IsTrue (starts p back)
equal_starts p q back h = subst (λ (t : List ℕ). IsTrue (starts p t)) (sym ((bytes_eq-Decides back (p ++ q)).0 h)) (starts_append p q)

of_ended : (back : List ℕ) → IsTrue (ended back) → IsTrue (auxiliary back)
of_ended back h =
    let a = reverse (codes ".acl") in
    let m = reverse (codes ".meta") in
    from_four (IsTrue (auxiliary back)) _ _ _ _ h
    (λ k. or_left (starts a back) (starts m back) (starts_prefix a (reverse (codes ".acl")) back k))
    (λ k. or_left (starts a back) (starts m back) (starts_prefix a (reverse (codes ".meta")) back k))
    (λ k. or_right (starts a back) (starts m back) (starts_prefix m (reverse (codes ".acl")) back k))
    (λ k. or_right (starts a back) (starts m back) (starts_prefix m (reverse (codes ".meta")) back k))

of_dotted : (back : List ℕ) → IsTrue (of_dots back) → IsTrue (auxiliary back)
of_dotted back h =
    let a = reverse (codes ".acl") in
    let m = reverse (codes ".meta") in
    from_four (IsTrue (auxiliary back)) _ _ _ _ h
    (λ k. or_left (starts a back) (starts m back) (equal_starts a (codes ".") back k))
    (λ k. or_left (starts a back) (starts m back) (equal_starts a (codes "..") back k))
    (λ k. or_right (starts a back) (starts m back) (equal_starts m (codes ".") back k))
    (λ k. or_right (starts a back) (starts m back) (equal_starts m (codes "..") back k))

-- a reserved name is that of an auxiliary
pub reserved_auxiliary : (s : List ℕ) → IsTrue (is_reserved_name s) → IsTrue (is_auxiliary_name s)
reserved_auxiliary s h =
    auxiliary_is s
    ∙ elim (in_either (ended (reverse s)) (of_dots (reverse s)) (sym (reserved_is s) ∙ h)) [
      | inl k ↦ of_ended (reverse s) k
      | inr k ↦ of_dotted (reverse s) k
    ]
