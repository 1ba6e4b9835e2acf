-- Lists of events, and what of them is done.
use Rattle.std.proofs.Common.{◌≡◌, ℕ, ◌+◌, ◌<◌, ◌≤◌, List, [], ◌∷◌, ◌++◌, length, get_or, take, drop, refl, sym, ap, ◌∙◌, arith}
use Rattle.std.proofs.lemmas.List.{drop_more, take-append-drop, take-take, drop-take}
use Rattle.pod_base.specs.declared.heard.Heard.{Heard}
use Rattle.pod_base.specs.declared.heard.Heard.TheVariants as heard
use Rattle.pod_base.specs.declared.request.Request.{Request}
use Rattle.pod_core.specs.Session.{requests_of}
use Rattle.pod_core.specs.World.{first_interims, interims_text}

pub take_first : (events : List Heard) → take (length (first_interims events)) events ≡ first_interims events
take_first [] = refl
take_first (heard.Interim ∷ events) = ap (λ (rest : List Heard). heard.Interim ∷ rest) (take_first events)
take_first (heard.Request r ∷ events) = refl
take_first (heard.Bad status ∷ events) = refl

pub rest_after : (events : List Heard) → first_interims (drop (length (first_interims events)) events) ≡ []
rest_after [] = refl
rest_after (heard.Interim ∷ events) = rest_after events
rest_after (heard.Request r ∷ events) = refl
rest_after (heard.Bad status ∷ events) = refl

pub none_text : (events : List Heard) → first_interims events ≡ [] → interims_text events ≡ []
none_text [] e = refl
none_text (heard.Interim ∷ events) e = absurd cc
none_text (heard.Request r ∷ events) e = refl
none_text (heard.Bad status ∷ events) e = refl

pub take_then : {A : Type 0} (m n : ℕ) (xs : List A) → take (m + n) xs ≡ take m xs ++ take n (drop m xs)
take_then m n xs =
    sym (take-append-drop m (take (m + n) xs))
    ∙ ap (λ l. l ++ drop m (take (m + n) xs)) (take-take m (m + n) xs (omega arith))
    ∙ ap (λ l. take m xs ++ l) (drop-take m n xs)

-- ---- requests among events

more_requests : (event : Heard) (events : List Heard) → length (requests_of (event ∷ [])) + length (requests_of events) ≡ length (requests_of (event ∷ events))
more_requests (heard.Request r) events = omega arith
more_requests heard.Interim events = omega arith
more_requests (heard.Bad status) events = omega arith

-- the requests among those that are left
pub requests_left : (events : List Heard) (i : ℕ) (event : Heard) → i < length events → event ≡ get_or events i event
    → length (requests_of (drop i events)) ≡ length (requests_of (event ∷ [])) + length (requests_of (drop (i + 1) events))
requests_left events i event within is =
    ap (λ (l : List Heard). length (requests_of l)) (drop_more events i event within)
    ∙ ap (λ (e : Heard). length (requests_of (e ∷ drop (i + 1) events))) (sym is)
    ∙ sym (more_requests event (drop (i + 1) events))

pub one_at_most : (event : Heard) → length (requests_of (event ∷ [])) ≤ 1
one_at_most (heard.Request r) = omega arith
one_at_most heard.Interim = omega arith
one_at_most (heard.Bad status) = omega arith

-- ---- where no interim is left

left_is : (events : List Heard) (i : ℕ) (event other : Heard) → i < length events → event ≡ get_or events i event → event ≡ other → drop i events ≡ other ∷ drop (i + 1) events
left_is events i event other within is same = drop_more events i event within ∙ ap (λ (e : Heard). e ∷ drop (i + 1) events) (sym is ∙ same)
