-- Segments are if_counted from left to right.
use Rattle.std.proofs.Common.{◌≡◌, ℕ, ◌+◌, Bool, true, false, not, cond, ◌||◌, ◌&&◌, List, [], ◌∷◌, ◌++◌, length, Result, Ok, Err, refl, sym, ap, ◌∙◌, arith}
use Rattle.iri_ref.specs.Characters.{slash, is_slash, Lacks}
use Rattle.iri_ref.specs.Segments.{segments, is_dot_segment}
use Rattle.pod_path.specs.declared.fault.PathFault.{PathFault}
use Rattle.pod_path.specs.declared.fault.PathFault.TheVariants.{NotNormal, Reserved}
use Rattle.pod_path.specs.Norm.{is_empty, are_normal, are_reserved, is_auxiliary_name, is_reserved_name, segment_count}
use Rattle.pod_path.proofs.SegmentLists.{some_segments, segments_cut, segments_lacking}

-- what is left after others, of which some may be reserved; count is that of the first that is left
abbrev pub goes_on : Bool → ℕ → List (List ℕ) → Result ℕ PathFault
goes_on reserved count [] = Err NotNormal
goes_on reserved count (s ∷ ss) = cond (are_normal (s ∷ ss)) (cond (reserved || are_reserved (s ∷ ss)) (Err Reserved) (Ok (count + length ss))) (Err NotNormal)

or_assoc : (a b c : Bool) → (a || (b || c)) ≡ ((a || b) || c)
or_assoc true b c = refl
or_assoc false b c = refl

pub first_of_all : (text : List ℕ) → goes_on false 1 (segments text) ≡ segment_count (segments text)
first_of_all text =
    let some = some_segments text in
    let same : 1 + length some.others ≡ length (some.first ∷ some.others) = omega arith in
    ap (goes_on false 1) some.are
    ∙ ap (λ (n : ℕ). cond (are_normal (some.first ∷ some.others)) (cond (are_reserved (some.first ∷ some.others)) (Err Reserved) (Ok n)) (Err NotNormal)) same
    ∙ ap segment_count (sym some.are)

step : (r : Bool) (n : ℕ) (s t : List ℕ) (ss : List (List ℕ)) → is_empty s ≡ false → is_dot_segment s ≡ false → goes_on r n (s ∷ t ∷ ss) ≡ goes_on (r || is_auxiliary_name s) (n + 1) (t ∷ ss)
step r n s t ss full plain =
    let normal : are_normal (s ∷ t ∷ ss) ≡ are_normal (t ∷ ss) = ap (λ (b : Bool). not b && (not (is_dot_segment s) && are_normal (t ∷ ss))) full ∙ ap (λ (b : Bool). not b && are_normal (t ∷ ss)) plain in
    let count : n + length (t ∷ ss) ≡ n + 1 + length ss = omega arith in
    ap (λ (b : Bool). cond b (cond (r || are_reserved (s ∷ t ∷ ss)) (Err Reserved) (Ok (n + length (t ∷ ss)))) (Err NotNormal)) normal
    ∙ ap (λ (b : Bool). cond (are_normal (t ∷ ss)) (cond b (Err Reserved) (Ok (n + length (t ∷ ss)))) (Err NotNormal)) (or_assoc r (is_auxiliary_name s) (are_reserved (t ∷ ss)))
    ∙ ap (λ (k : ℕ). cond (are_normal (t ∷ ss)) (cond ((r || is_auxiliary_name s) || are_reserved (t ∷ ss)) (Err Reserved) (Ok k)) (Err NotNormal)) count

pub one_on : (r : Bool) (n : ℕ) (text prefix rest : List ℕ) → text ≡ prefix ++ slash ∷ rest → Lacks is_slash prefix → is_empty prefix ≡ false → is_dot_segment prefix ≡ false
    → goes_on r n (segments text) ≡ goes_on (r || is_auxiliary_name prefix) (n + 1) (segments rest)
one_on r n text prefix rest e lacks full plain =
    let some = some_segments rest in
    ap (goes_on r n) (segments_cut text prefix rest e lacks ∙ ap (λ (x : List (List ℕ)). prefix ∷ x) some.are)
    ∙ step r n prefix some.first some.others full plain
    ∙ ap (goes_on (r || is_auxiliary_name prefix) (n + 1)) (sym some.are)

not_normal : (r : Bool) (n : ℕ) (s t : List ℕ) (ss : List (List ℕ)) → (is_empty s || is_dot_segment s) ≡ true → goes_on r n (s ∷ t ∷ ss) ≡ Err NotNormal
not_normal r n s t ss bad = by_tests (is_empty s) (is_dot_segment s) bad
  where
    by_tests : (a b : Bool) → (a || b) ≡ true → cond (not a && (not b && are_normal (t ∷ ss))) (cond (r || are_reserved (s ∷ t ∷ ss)) (Err Reserved) (Ok (n + length (t ∷ ss)))) (Err NotNormal) ≡ Err NotNormal
    by_tests true b h = refl
    by_tests false true h = refl
    by_tests false false h = absurd cc

pub stops : (r : Bool) (n : ℕ) (text prefix rest : List ℕ) → text ≡ prefix ++ slash ∷ rest → Lacks is_slash prefix → (is_empty prefix || is_dot_segment prefix) ≡ true → goes_on r n (segments text) ≡ Err NotNormal
stops r n text prefix rest e lacks bad =
    let some = some_segments rest in
    ap (goes_on r n) (segments_cut text prefix rest e lacks ∙ ap (λ (x : List (List ℕ)). prefix ∷ x) some.are) ∙ not_normal r n prefix some.first some.others bad

pub last : (r : Bool) (n : ℕ) (text : List ℕ) → Lacks is_slash text
    → goes_on r n (segments text) ≡ cond (not (is_dot_segment text)) (cond (r || is_reserved_name text) (Err Reserved) (Ok n)) (Err NotNormal)
last r n text lacks =
    let same : n + 0 ≡ n = omega arith in
    ap (goes_on r n) (segments_lacking text lacks)
    ∙ ap (λ (k : ℕ). cond (not (is_dot_segment text)) (cond (r || is_reserved_name text) (Err Reserved) (Ok k)) (Err NotNormal)) same

neither : (a b : Bool) → (a || b) ≡ false → (a ≡ false) × (b ≡ false)
neither true b e = absurd cc
neither false b e = (refl, e)

pub goes_one_on : (r : Bool) (n : ℕ) (text prefix rest : List ℕ) → text ≡ prefix ++ slash ∷ rest → Lacks is_slash prefix → (is_empty prefix || is_dot_segment prefix) ≡ false
    → goes_on r n (segments text) ≡ goes_on (r || is_auxiliary_name prefix) (n + 1) (segments rest)
goes_one_on r n text prefix rest e lacks fine =
    let parts = neither (is_empty prefix) (is_dot_segment prefix) fine in
    one_on r n text prefix rest e lacks parts.0 parts.1

pub ends_in_dots : (r : Bool) (n : ℕ) (text : List ℕ) → Lacks is_slash text → is_dot_segment text ≡ true → goes_on r n (segments text) ≡ Err NotNormal
ends_in_dots r n text lacks dots = last r n text lacks ∙ ap (λ (b : Bool). cond (not b) (cond (r || is_reserved_name text) (Err Reserved) (Ok n)) (Err NotNormal)) dots

pub ends : (r : Bool) (n : ℕ) (text : List ℕ) (b : Bool) → Lacks is_slash text → is_dot_segment text ≡ false → (r || is_reserved_name text) ≡ b → goes_on r n (segments text) ≡ cond b (Err Reserved) (Ok n)
ends r n text b lacks plain reserved =
    last r n text lacks
    ∙ ap (λ (x : Bool). cond (not x) (cond (r || is_reserved_name text) (Err Reserved) (Ok n)) (Err NotNormal)) plain
    ∙ ap (λ (x : Bool). cond x (Err Reserved) (Ok n)) reserved
