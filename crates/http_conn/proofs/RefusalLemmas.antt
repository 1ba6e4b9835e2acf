-- The statuses of refusals.
use Rattle.std.proofs.Common.{ℕ, inl, inr, Bool, true, false, if◌then◌else◌, List, [], ◌∷◌, ◌++◌, refl}
use Rattle.std.specs.List.{AllByRecursion}
use Rattle.http_head.specs.BodyFraming.{framing}
use Rattle.http_head.specs.declared.body_form.BodyForm.{BodyForm}
use Rattle.http_payload.specs.declared.payload_fault.PayloadFault.{PayloadFault}
use Rattle.http_payload.specs.declared.payload_fault.PayloadFault.TheVariants.{Malformed, TooLarge, NoMemory}
use Rattle.http_payload.specs.Bodies.{IsFault}
use Rattle.pod_base.specs.declared.heard.Heard.{Heard}
use Rattle.pod_base.specs.declared.heard.Heard.TheVariants as heard
use Rattle.pod_base.specs.declared.request.Request.{Request}
use Rattle.http_conn.specs.Messages.{HasRefusalStatus, IsRefusalStatus, IsBadHead, too_long, too_many, malformed, host, conflict, coding, too_large, IsBadMessage, bad_head, bad_body, IsPartialMessage, in_head, in_body, Messages, unfinished, refused, ended, events_of, request_events, interim_of, waits_for, refusal_status}

abbrev HaveStatuses : List Heard → Type 0
HaveStatuses events = AllByRecursion HasRefusalStatus events

both : (xs ys : List Heard) → HaveStatuses xs → HaveStatuses ys → HaveStatuses (xs ++ ys)
both [] ys h k = k
both (x ∷ xs) ys h k = (h.0, both xs ys h.1 k)

interims : (waits : Bool) → HaveStatuses (if waits then heard.Interim ∷ [] else [])
interims true = (tt, tt)
interims false = tt

of_request : (r : Request) → HaveStatuses (request_events r)
of_request r = both (interim_of r.minor r.fields) (heard.Request r ∷ []) (interims (waits_for r.minor r.fields (framing r.minor r.fields))) (tt, tt)

of_requests : (rs : List Request) → HaveStatuses (events_of rs)
of_requests [] = tt
of_requests (r ∷ rs) = both (request_events r) (events_of rs) (of_request r) (of_requests rs)

of_partial : (text : List ℕ) (events : List Heard) → IsPartialMessage text events → HaveStatuses events
of_partial text _ (in_head e) = tt
of_partial text _ (in_body len parsed form h p) = interims (waits_for parsed.minor parsed.fields (framing parsed.minor parsed.fields))

head_status : (text : List ℕ) (status : ℕ) → IsBadHead text status → IsRefusalStatus status
head_status text _ (too_long e) = inr (inr (inl refl))
head_status text _ (too_many len e h) = inr (inr (inl refl))
head_status text _ (malformed len e h) = inl refl
head_status text _ (host len e h) = inl refl
head_status text _ (conflict len parsed e h f) = inl refl
head_status text _ (coding len parsed e h f) = inr (inr (inr refl))
head_status text _ (too_large len parsed e h f) = inr (inl refl)

body_status : (form : BodyForm) (text : List ℕ) (fault : PayloadFault) → IsFault form text fault → IsRefusalStatus (refusal_status fault)
body_status form text Malformed f = inl refl
body_status form text TooLarge f = inr (inl refl)
body_status form text NoMemory f = absurd f

of_bad : (text : List ℕ) (events : List Heard) (status : ℕ) → IsBadMessage text events status → HaveStatuses (events ++ heard.Bad status ∷ [])
of_bad text _ _ (bad_head status b) = (head_status text status b, tt)
of_bad text _ _ (bad_body len parsed form fault h f) =
    both (interim_of parsed.minor parsed.fields) (heard.Bad (refusal_status fault) ∷ []) (interims (waits_for parsed.minor parsed.fields (framing parsed.minor parsed.fields))) (body_status form _ fault f, tt)

-- of all events of a text
pub have_refusal_statuses : (text : List ℕ) (events : List Heard) (rest : ℕ) → Messages text events rest → HaveStatuses events
have_refusal_statuses text _ _ (unfinished rs left events reads stays p) = both (events_of rs) events (of_requests rs) (of_partial left events p)
have_refusal_statuses text _ _ (refused rs left events status reads stays b) = both (events_of rs) (events ++ heard.Bad status ∷ []) (of_requests rs) (of_bad left events status b)
have_refusal_statuses text _ _ (ended rs last left reads stays e) = of_requests (rs ++ last ∷ [])
