-- The refusals that are heard have a status of their own.
use Rattle.std.proofs.Common.{ℕ, ◌<◌, ◌≤◌, Bool, true, false, if◌then◌else◌, List, [], ◌∷◌, ◌++◌, arith}
use Rattle.std.specs.List.{AllByRecursion}
use Rattle.http_conn.specs.Messages.{IsBadHead, too_long, too_many, malformed, host, conflict, coding, too_large, IsBadMessage, bad_head, bad_body, IsPartialMessage, in_head, in_body, Messages, unfinished, refused, ended, events_of, request_events, interim_of, waits_for, refusal_status}
use Rattle.http_head.specs.BodyFraming.{framing}
use Rattle.http_payload.specs.Bodies.{IsFault}
use Rattle.http_head.specs.declared.body_form.BodyForm.{BodyForm}
use Rattle.http_payload.specs.declared.payload_fault.PayloadFault.{PayloadFault}
use Rattle.http_payload.specs.declared.payload_fault.PayloadFault.TheVariants.{Malformed, TooLarge, NoMemory}
use Rattle.pod_base.specs.declared.heard.Heard.{Heard}
use Rattle.pod_base.specs.declared.heard.Heard.TheVariants as heard
use Rattle.pod_base.specs.declared.request.Request.{Request}
use Rattle.conn_talk.specs.Talks.{MayBeSent}

abbrev AreRefused : List Heard → Type 0
AreRefused hears = AllByRecursion MayBeSent hears

both : (xs ys : List Heard) → AreRefused xs → AreRefused ys → AreRefused (xs ++ ys)
both [] ys h k = k
both (x ∷ xs) ys h k = (h.0, both xs ys h.1 k)

interims : (waits : Bool) → AreRefused (if waits then heard.Interim ∷ [] else [])
interims true = (tt, tt)
interims false = tt

one_request : (r : Request) → AreRefused (request_events r)
one_request r = both (interim_of r.minor r.fields) (heard.Request r ∷ []) (interims (waits_for r.minor r.fields (framing r.minor r.fields))) (tt, tt)

requests : (rs : List Request) → AreRefused (events_of rs)
requests [] = tt
requests (r ∷ rs) = both (request_events r) (events_of rs) (one_request r) (requests rs)

partly : (text : List ℕ) (hears : List Heard) → IsPartialMessage text hears → AreRefused hears
partly text _ (in_head e) = tt
partly text _ (in_body len said form h p) = interims (waits_for said.minor said.fields (framing said.minor said.fields))

head_status : (text : List ℕ) (status : ℕ) → IsBadHead text status → (200 ≤ status) × (status < 600)
head_status text _ (too_long e) = (omega arith, omega arith)
head_status text _ (too_many len e h) = (omega arith, omega arith)
head_status text _ (malformed len e h) = (omega arith, omega arith)
head_status text _ (host len e h) = (omega arith, omega arith)
head_status text _ (conflict len said e h f) = (omega arith, omega arith)
head_status text _ (coding len said e h f) = (omega arith, omega arith)
head_status text _ (too_large len said e h f) = (omega arith, omega arith)

body_status : (form : BodyForm) (text : List ℕ) (fault : PayloadFault) → IsFault form text fault → (200 ≤ refusal_status fault) × (refusal_status fault < 600)
body_status form text Malformed f = (omega arith, omega arith)
body_status form text TooLarge f = (omega arith, omega arith)
body_status form text NoMemory f = absurd f

badly : (text : List ℕ) (hears : List Heard) (status : ℕ) → IsBadMessage text hears status → AreRefused (hears ++ heard.Bad status ∷ [])
badly text _ _ (bad_head status b) = (head_status text status b, tt)
badly text _ _ (bad_body len said form fault h f) =
    both (interim_of said.minor said.fields) (heard.Bad (refusal_status fault) ∷ []) (interims (waits_for said.minor said.fields (framing said.minor said.fields))) (body_status form _ fault f, tt)

-- of all that is heard in a text
pub are_refused : (text : List ℕ) (hears : List Heard) (rest : ℕ) → Messages text hears rest → AreRefused hears
are_refused text _ _ (unfinished rs left hears reads stays p) = both (events_of rs) hears (requests rs) (partly left hears p)
are_refused text _ _ (refused rs left hears status reads stays b) = both (events_of rs) (hears ++ heard.Bad status ∷ []) (requests rs) (badly left hears status b)
are_refused text _ _ (ended rs last left reads stays e) = requests (rs ++ last ∷ [])
