-- What a writer of paths keeps.
use Rattle.std.proofs.Common.{◌≡◌, ℕ, zero, suc, ◌+◌, ◌<◌, ◌≤◌, Bool, true, false, cond, List, [], ◌∷◌, ◌++◌, length, get_or, take, drop, Option, Some, None, refl, sym, ap, subst, ◌∙◌, arith}
use Rattle.std.specs.Prelude.{IsUtf8, IfSome}
use Rattle.std.specs.List.{before_last, onto_first}
use Rattle.std.specs.String.Boundary.{IsSplitPoint}
use Rattle.std.proofs.lemmas.Str.{IsCharBoundary-from_take}
use Rattle.std.proofs.lemmas.List.{get_or-drop, take-take, drop-take, length-drop, take_more}
use Rattle.std.proofs.lemmas.Grind.{fold-append}
use Rattle.iri_ref.specs.Characters.{slash, is_slash}
use Rattle.iri_ref.specs.Segments.{segments, is_dot_segment, with_trailing_slash}
use Rattle.iri_ref.specs.PathWriter.{WriterState, after_segment, after_segments, ends_in_dot_segment}

pub split_point : (bytes : List ℕ) (start n : ℕ) → start ≤ length bytes → IsUtf8 bytes → IsUtf8 (take start bytes) → n ≤ length (drop start bytes) → (0 < n → get_or (drop start bytes) n 0 ≡ slash) → IsSplitPoint bytes (start + n)
split_point bytes start zero le whole prefix short at =
    let here : start + 0 ≡ start = omega arith in
    let boundary = IsCharBoundary-from_take bytes start whole le prefix in
    subst (IsSplitPoint bytes) (sym here) (le, λ pos lt. boundary.1 lt)
split_point bytes start (suc n) le whole prefix short at =
    let read : get_or bytes (start + suc n) 0 ≡ slash = sym (get_or-drop start bytes (suc n) 0) ∙ at (omega arith) in
    (omega (arith, length-drop start bytes), λ pos lt high. absurd (omega arith))

-- the state of a writer that wrote these bytes
abbrev pub written : List ℕ → ℕ → Bool → WriterState
written bytes start begun = record { before = take start bytes; path = cond begun (Some (drop start bytes)) None }

pub taken_back : (w : WriterState) (bytes after : List ℕ) (start n : ℕ) (begun : Bool) → written bytes start begun ≡ w → after ≡ take (start + n) bytes → take n (drop start bytes) ≡ before_last is_slash (drop start bytes)
    → IfSome w.path (λ path. written after start begun ≡ record { before = w.before; path = Some (before_last is_slash path) })
taken_back w bytes after start n begun view cut prefix =
    let front_stays : take start after ≡ take start bytes = ap (take start) cut ∙ take-take start (start + n) bytes (omega arith) in
    let path : drop start after ≡ before_last is_slash (drop start bytes) = ap (drop start) cut ∙ drop-take start n bytes ∙ prefix in
    subst (λ (v : WriterState). IfSome v.path (λ path. written after start begun ≡ record { before = v.before; path = Some (before_last is_slash path) })) view (by_begun begun front_stays path)
  where
    by_begun : (b : Bool) → take start after ≡ take start bytes → drop start after ≡ before_last is_slash (drop start bytes)
        → IfSome (written bytes start b).path (λ path. written after start b ≡ record { before = take start bytes; path = Some (before_last is_slash path) })
    by_begun false e p = tt
    by_begun true e p = λ i. record { before = e i; path = Some (p i) }

-- a writer's path, and the text before it as ever
abbrev pub with_path : WriterState → Option (List ℕ) → WriterState
with_path w path = record { before = w.before; path = path }

pub ends_in_dots_more : (ss : List (List ℕ)) (s : List ℕ) → ends_in_dot_segment (ss ++ s ∷ []) ≡ is_dot_segment s
ends_in_dots_more [] s = refl
ends_in_dots_more (x ∷ []) s = refl
ends_in_dots_more (x ∷ y ∷ ss) s = ends_in_dots_more (y ∷ ss) s

pub writes_on : (w v u : WriterState) (all : List (List ℕ)) (n m : ℕ) (s : List ℕ) → m ≡ n + 1 → n < length all → s ≡ get_or all n s
    → v ≡ with_path w (after_segments w.path (take n all)) → u ≡ with_path v (after_segment v.path s) → u ≡ with_path w (after_segments w.path (take m all))
writes_on w v u all n m s next below at so_far one =
    let parts : take m all ≡ take n all ++ s ∷ [] = ap (λ (k : ℕ). take k all) next ∙ take_more all n s below ∙ ap (λ (x : List ℕ). take n all ++ x ∷ []) (sym at) in
    let folded : after_segments w.path (take m all) ≡ after_segment (after_segments w.path (take n all)) s = ap (after_segments w.path) parts ∙ fold-append after_segment w.path (take n all) (s ∷ []) in
    one ∙ ap (λ (x : WriterState). with_path x (after_segment x.path s)) so_far ∙ ap (with_path w) (sym folded)

pub dots_on : (all : List (List ℕ)) (n m : ℕ) (s : List ℕ) → m ≡ n + 1 → n < length all → s ≡ get_or all n s → ends_in_dot_segment (take m all) ≡ is_dot_segment s
dots_on all n m s next below at =
    ap ends_in_dot_segment (ap (λ (k : ℕ). take k all) next ∙ take_more all n s below ∙ ap (λ (x : List ℕ). take n all ++ x ∷ []) (sym at)) ∙ ends_in_dots_more (take n all) s

with_last_slash_is : (ss : List (List ℕ)) → with_trailing_slash ss ≡ cond (ends_in_dot_segment ss) (ss ++ [] ∷ []) ss
with_last_slash_is [] = refl
with_last_slash_is (s ∷ []) = refl
with_last_slash_is (s ∷ t ∷ ss) = ap (λ (x : List (List ℕ)). s ∷ x) (with_last_slash_is (t ∷ ss)) ∙ inside (ends_in_dot_segment (t ∷ ss))
  where
    inside : (b : Bool) → s ∷ cond b (t ∷ ss ++ [] ∷ []) (t ∷ ss) ≡ cond b (s ∷ t ∷ ss ++ [] ∷ []) (s ∷ t ∷ ss)
    inside true = refl
    inside false = refl

pub last_plain : (ss : List (List ℕ)) → ends_in_dot_segment ss ≡ false → with_trailing_slash ss ≡ ss
last_plain ss e = with_last_slash_is ss ∙ ap (λ (b : Bool). cond b (ss ++ [] ∷ []) ss) e

pub last_dots : (ss : List (List ℕ)) → ends_in_dot_segment ss ≡ true → with_trailing_slash ss ≡ ss ++ [] ∷ []
last_dots ss e = with_last_slash_is ss ∙ ap (λ (b : Bool). cond b (ss ++ [] ∷ []) ss) e

pub closes : (w v u : WriterState) (ss : List (List ℕ)) → ends_in_dot_segment ss ≡ true → v ≡ with_path w (after_segments w.path ss) → u ≡ with_path v (after_segment v.path []) → u ≡ with_path w (after_segments w.path (with_trailing_slash ss))
closes w v u ss dots so_far one =
    let folded : after_segments w.path (with_trailing_slash ss) ≡ after_segment (after_segments w.path ss) [] = ap (after_segments w.path) (last_dots ss dots) ∙ fold-append after_segment w.path ss ([] ∷ []) in
    one ∙ ap (λ (x : WriterState). with_path x (after_segment x.path [])) so_far ∙ ap (with_path w) (sym folded)

-- ---- a path in two parts

segments_nonempty : (path : List ℕ) → (s : List ℕ) × (ss : List (List ℕ)) × (segments path ≡ s ∷ ss)
segments_nonempty [] = ([], [], refl)
segments_nonempty (c ∷ cs) = by_test (is_slash c) (segments_nonempty cs)
  where
    by_test : (b : Bool) → (s : List ℕ) × (ss : List (List ℕ)) × (segments cs ≡ s ∷ ss) → (s : List ℕ) × (ss : List (List ℕ)) × (cond b ([] ∷ segments cs) (onto_first c (segments cs)) ≡ s ∷ ss)
    by_test true h = ([], segments cs, refl)
    by_test false h = (c ∷ h.0, h.1, ap (onto_first c) h.2)

onto_first_append : (c : ℕ) (s : List ℕ) (ss ts : List (List ℕ)) (xs : List (List ℕ)) → xs ≡ s ∷ ss → onto_first c (xs ++ ts) ≡ onto_first c xs ++ ts
onto_first_append c s ss ts [] e = absurd cc
onto_first_append c s ss ts (x ∷ xs) e = refl

pub segments_parts : (prefix path : List ℕ) → segments (prefix ++ slash ∷ path) ≡ segments prefix ++ segments path
segments_parts [] path = refl
segments_parts (c ∷ cs) path = by_test (is_slash c) (segments_parts cs path)
  where
    by_test : (b : Bool) → segments (cs ++ slash ∷ path) ≡ segments cs ++ segments path → cond b ([] ∷ segments (cs ++ slash ∷ path)) (onto_first c (segments (cs ++ slash ∷ path))) ≡ cond b ([] ∷ segments cs) (onto_first c (segments cs)) ++ segments path
    by_test true e = ap (λ (x : List (List ℕ)). [] ∷ x) e
    by_test false e =
        let some = segments_nonempty cs in
        ap (onto_first c) e ∙ onto_first_append c some.0 some.1 (segments path) (segments cs) some.2

with_last_slash_parts : (xs : List (List ℕ)) (y : List ℕ) (ys : List (List ℕ)) → with_trailing_slash (xs ++ y ∷ ys) ≡ xs ++ with_trailing_slash (y ∷ ys)
with_last_slash_parts [] y ys = refl
with_last_slash_parts (x ∷ []) y ys = refl
with_last_slash_parts (x ∷ z ∷ xs) y ys = ap (λ (t : List (List ℕ)). x ∷ t) (with_last_slash_parts (z ∷ xs) y ys)

pub last_of_parts : (prefix path : List ℕ) → with_trailing_slash (segments (prefix ++ slash ∷ path)) ≡ segments prefix ++ with_trailing_slash (segments path)
last_of_parts prefix path =
    let some = segments_nonempty path in
    ap with_trailing_slash (segments_parts prefix path ∙ ap (λ (t : List (List ℕ)). segments prefix ++ t) some.2)
    ∙ with_last_slash_parts (segments prefix) some.0 some.1
    ∙ ap (λ (t : List (List ℕ)). segments prefix ++ with_trailing_slash t) (sym some.2)

pub writes_parts : (w v u : WriterState) (prefix path : List ℕ) → v ≡ with_path w (after_segments w.path (segments prefix)) → u ≡ with_path v (after_segments v.path (with_trailing_slash (segments path)))
    → u ≡ with_path w (after_segments w.path (with_trailing_slash (segments (prefix ++ slash ∷ path))))
writes_parts w v u prefix path first second =
    let folded : after_segments w.path (with_trailing_slash (segments (prefix ++ slash ∷ path))) ≡ after_segments (after_segments w.path (segments prefix)) (with_trailing_slash (segments path)) =
    ap (after_segments w.path) (last_of_parts prefix path) ∙ fold-append after_segment w.path (segments prefix) (with_trailing_slash (segments path)) in
    second ∙ ap (λ (x : WriterState). with_path x (after_segments x.path (with_trailing_slash (segments path)))) first ∙ ap (with_path w) (sym folded)
