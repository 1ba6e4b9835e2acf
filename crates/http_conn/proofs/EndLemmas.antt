-- What ends the messages of a text, and what stays open.
use Rattle.std.proofs.Common.{◌≡◌, inl, inr, Bool, true, false, ℕ, ◌+◌, ◌<◌, if◌then◌else◌, List, [], ◌∷◌, ◌++◌, drop, refl, sym, subst, ◌∙◌, arith, append_assoc}
use Rattle.pod_base.specs.declared.request.Request.{Request}
use Rattle.pod_base.specs.declared.heard.Heard.{Heard}
use Rattle.pod_base.specs.declared.heard.Heard.TheVariants as heard
use Rattle.http_head.specs.BodyFraming.{framing}
use Rattle.http_conn.specs.Messages.{IsBadMessage, bad_head, bad_body, refusal_status, IsPartialMessage, in_head, in_body, IsLastRequest, NothingAfterEnd, StaysOpen, Messages, request_events, interim_of, waits_for, closes_connection}
use Rattle.http_conn.specs.declared.events.TheConstants.{REQUEST_LIMIT}
use Rattle.http_conn.proofs.Parses.{Parses, partly, badly, last, next, reads_of}

-- ---- the end

-- an interim ends nothing
ends_behind : (n : ℕ) (waits : Bool) (events : List Heard) → NothingAfterEnd n events → NothingAfterEnd n ((if waits then heard.Interim ∷ [] else []) ++ events)
ends_behind n true events h = h
ends_behind n false events h = h

ends_alone : (n : ℕ) (waits : Bool) → NothingAfterEnd n (if waits then heard.Interim ∷ [] else [])
ends_alone n true = tt
ends_alone n false = tt

ends_partial : (n : ℕ) (text : List ℕ) (events : List Heard) → IsPartialMessage text events → NothingAfterEnd n events
ends_partial n text _ (in_head e) = tt
ends_partial n text _ (in_body len parsed form h p) = ends_alone n (waits_for parsed.minor parsed.fields (framing parsed.minor parsed.fields))

ends_bad : (n : ℕ) (text : List ℕ) (events : List Heard) (status : ℕ) → IsBadMessage text events status → NothingAfterEnd n (events ++ heard.Bad status ∷ [])
ends_bad n text _ _ (bad_head status b) = refl
ends_bad n text _ _ (bad_body len parsed form fault h f) =
    ends_behind n (waits_for parsed.minor parsed.fields (framing parsed.minor parsed.fields)) (heard.Bad (refusal_status fault) ∷ []) refl

-- a request that closes, or the last of so many, isn't one that stays
not_end : (n : ℕ) (r : Request) → closes_connection r ≡ false → n + 1 < REQUEST_LIMIT → IsLastRequest n r → ⊥
not_end n r stays few (inl closing) = let never : true ≡ false = sym closing ∙ stays in cc
not_end n r stays few (inr full) = omega (arith, full, few)

reads_end : (n : ℕ) (text : List ℕ) (events : List Heard) (rest : ℕ) → Parses n text events rest → NothingAfterEnd n events
reads_end n text _ _ (partly events p) = ends_partial n text events p
reads_end n text _ _ (badly events status b) = ends_bad n text events status b
reads_end n text _ _ (last r len first which) =
    ends_behind n (waits_for r.minor r.fields (framing r.minor r.fields)) (heard.Request r ∷ []) ((λ e. refl), tt)
reads_end n text _ _ (next r len events rest first stays few behind) =
    subst (NothingAfterEnd n) (sym (append_assoc (interim_of r.minor r.fields) (heard.Request r ∷ []) events))
    (ends_behind n (waits_for r.minor r.fields (framing r.minor r.fields)) (heard.Request r ∷ events) ((λ e. absurd (not_end n r stays few e)), reads_end (n + 1) (drop len text) events rest behind))

-- No event follows an end.
pub ends_there : (text : List ℕ) (events : List Heard) (rest : ℕ) → Messages text events rest → NothingAfterEnd 0 events
ends_there text events rest m = reads_end 0 text events rest (reads_of text events rest m)

-- ---- what stays open

open_behind : (n : ℕ) (waits : Bool) (events : List Heard) → StaysOpen n events → StaysOpen n ((if waits then heard.Interim ∷ [] else []) ++ events)
open_behind n true events h = h
open_behind n false events h = h

open_alone : (n : ℕ) (waits : Bool) → StaysOpen n (if waits then heard.Interim ∷ [] else [])
open_alone n true = tt
open_alone n false = tt

open_partial : (n : ℕ) (text : List ℕ) (events : List Heard) → IsPartialMessage text events → StaysOpen n events
open_partial n text _ (in_head e) = tt
open_partial n text _ (in_body len parsed form h p) = open_alone n (waits_for parsed.minor parsed.fields (framing parsed.minor parsed.fields))

-- one request before what stays open
open_one : (n : ℕ) (r : Request) (events : List Heard) → closes_connection r ≡ false → n + 1 < REQUEST_LIMIT → StaysOpen (n + 1) events → StaysOpen n (request_events r ++ events)
open_one n r events stays few h =
    subst (StaysOpen n) (sym (append_assoc (interim_of r.minor r.fields) (heard.Request r ∷ []) events))
    (open_behind n (waits_for r.minor r.fields (framing r.minor r.fields)) (heard.Request r ∷ events) (not_end n r stays few, h))

closed_rest : (n : ℕ) (text : List ℕ) (events : List Heard) (rest : ℕ) → Parses n text events rest → (StaysOpen n events → ⊥) → rest ≡ 0
closed_rest n text _ _ (partly events p) closed = absurd (closed (open_partial n text events p))
closed_rest n text _ _ (badly events status b) closed = refl
closed_rest n text _ _ (last r len first which) closed = refl
closed_rest n text _ _ (next r len events rest first stays few behind) closed =
    closed_rest (n + 1) (drop len text) events rest behind (λ h. closed (open_one n r events stays few h))

-- After an end no message is unfinished.
pub ended_rest : (text : List ℕ) (events : List Heard) (rest : ℕ) → Messages text events rest → (StaysOpen 0 events → ⊥) → rest ≡ 0
ended_rest text events rest m = closed_rest 0 text events rest (reads_of text events rest m)
