-- A path within another one, and the subjects that a path is within.
use Rattle.std.proofs.Common.{◌≡◌, ◌↔◌, ◌||◌, ◌&&◌, ℕ, Bool, true, false, List, [], ◌∷◌, ◌++◌, length, take, drop, refl, sym, ap, ◌∙◌, arith, inl, inr, ◌⊎◌, ⊎_elim}
use Rattle.std.specs.Prelude.{IsTrue, bytes_eq, nat_eq}
use Rattle.std.specs.List.{list_any, starts_with}
use Rattle.std.proofs.lemmas.Bool.{and_parts, or_parts, true≢false}
use Rattle.std.proofs.lemmas.List.{take-append-drop, take_at, length-take-le}
use Rattle.std.proofs.lemmas.Slice.Eq.{bytes_eq-Decides}
use Rattle.pod_path.specs.Hierarchy.{is_container, subject_of, IsInside}
use Rattle.pod_rows.specs.Access.{about}
use Rattle.access_index.specs.Listing.{is_listed}
use Rattle.access_index.specs.Reach.{is_within, is_reached}

pub or_true : (a : Bool) → (a || true) ≡ true
or_true true = refl
or_true false = refl

starts_front : (text rest : List ℕ) → starts_with nat_eq (text ++ rest) text ≡ true
starts_front text rest = (bytes_eq-Decides text (take (length text) (text ++ rest))).1 (sym (take_at text rest (length text) refl))

pub within_itself : (path other : List ℕ) → path ≡ other → is_within path other ≡ true
within_itself path other e = ap (λ (b : Bool). b || (is_container other && starts_with nat_eq path other)) ((bytes_eq-Decides path other).1 e)

pub within_front : (path other rest : List ℕ) → path ≡ other ++ rest → is_container other ≡ true → is_within path other ≡ true
within_front path other rest e closed =
    ap (λ (b : Bool). bytes_eq path other || (b && starts_with nat_eq path other)) closed
    ∙ ap (λ (b : Bool). bytes_eq path other || b) (ap (λ (t : List ℕ). starts_with nat_eq t other) e ∙ starts_front other rest)
    ∙ or_true (bytes_eq path other)

-- each container that a text begins with
pub within_beginning : (text : List ℕ) (m : ℕ) → is_container (take m text) ≡ true → is_within text (take m text) ≡ true
within_beginning text m closed = within_front text (take m text) (drop m text) (sym (take-append-drop m text)) closed

to_inside : (path other : List ℕ) → (is_container other && starts_with nat_eq path other) ≡ true → (path ≡ other) ⊎ IsInside path other
to_inside path other h =
    let parts = and_parts (is_container other) (starts_with nat_eq path other) h in
    let front : other ≡ take (length other) path = (bytes_eq-Decides other (take (length other) path)).0 parts.1 in
    let whole : path ≡ other ++ drop (length other) path = sym (take-append-drop (length other) path) ∙ ap (λ (t : List ℕ). t ++ drop (length other) path) (sym front) in
    by_rest (drop (length other) path) whole parts.0
  where
    by_rest : (rest : List ℕ) → path ≡ other ++ rest → is_container other ≡ true → (path ≡ other) ⊎ IsInside path other
    by_rest [] e closed = inl (e ∙ Rattle.std.proofs.lemmas.List.append-nil other)
    by_rest (c ∷ cs) e closed = inr (record { container = closed; rest = c ∷ cs; whole = e; more = omega arith })

pub within_is : (path other : List ℕ) → IsTrue (is_within path other) ↔ ((path ≡ other) ⊎ IsInside path other)
within_is path other = (λ h. by_test (bytes_eq path other) refl h, λ h. ⊎_elim (λ e. within_itself path other e) (λ i. within_front path other i.rest i.whole i.container) h)
  where
    by_test : (b : Bool) → bytes_eq path other ≡ b → (b || (is_container other && starts_with nat_eq path other)) ≡ true → (path ≡ other) ⊎ IsInside path other
    by_test true e h = inl ((bytes_eq-Decides path other).0 e)
    by_test false e h = to_inside path other h

-- a path that is within none of them is within nothing that is one of them
not_any : (text : List ℕ) (subjects : List (List ℕ)) (s : List ℕ) → list_any (λ (subject : List ℕ). is_within text subject) subjects ≡ false → is_within text s ≡ true → is_listed subjects s ≡ false
not_any text [] s h within = refl
not_any text (t ∷ ts) s h within =
    let parts = or_parts (is_within text t) (list_any (λ (subject : List ℕ). is_within text subject) ts) h in
    by_test (bytes_eq t s) refl parts.0 (not_any text ts s parts.1 within)
  where
    by_test : (b : Bool) → bytes_eq t s ≡ b → is_within text t ≡ false → is_listed ts s ≡ false → (b || is_listed ts s) ≡ false
    by_test true e apart more = absurd (true≢false (sym within ∙ sym (ap (is_within text) ((bytes_eq-Decides t s).0 e)) ∙ apart))
    by_test false e apart more = more

pub not_listed : (subjects : List (List ℕ)) (path s : List ℕ) → is_reached subjects path ≡ false → is_within (about path (subject_of path)) s ≡ true → is_listed subjects s ≡ false
not_listed subjects path s h within = not_any (about path (subject_of path)) subjects s h within
