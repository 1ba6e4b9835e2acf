-- The messages of a longer text, and the steps of the parser.
use Rattle.std.proofs.Common.{◌≡◌, inl, inr, ℕ, ◌∙◌, ◌+◌, ◌-◌, ◌<◌, ◌≤◌, ◌||◌, true, false, if◌then◌else◌, nat_le, List, [], ◌∷◌, ◌++◌, length, take, drop, Result, Ok, Err, OnOk, IfOk, refl, sym, ap, subst, arith, append_assoc, length-append, length-drop}
use Rattle.std.specs.List.{AllByRecursion}
use Rattle.std.proofs.lemmas.Grind.{flat_map-append}
use Rattle.std.proofs.lemmas.Bool.{or_cases, or_parts}
use Rattle.std.proofs.lemmas.Bool.Decides.{nat_tests}
use Rattle.std.proofs.lemmas.List.{append-nil, drop-append-le, take-append-le}
use Rattle.std.proofs.Math.Seq.{drop-length, take-length, take-append-add}
use Rattle.pod_base.specs.declared.request.Request.{Request}
use Rattle.pod_base.specs.declared.heard.Heard.{Heard}
use Rattle.pod_base.specs.declared.heard.Heard.TheVariants as heard
use Rattle.http_head.specs.declared.head_ends.HeadEnd.TheVariants.{Whole, NotYet, TooLong}
use Rattle.http_head.specs.declared.request_head.RequestHead.{RequestHead}
use Rattle.http_head.specs.declared.body_form.BodyForm.{BodyForm}
use Rattle.http_head.specs.declared.body_framing.FramingFault.TheVariants as framing_fault
use Rattle.http_head.specs.HeadEnds.{head_end}
use Rattle.http_head.specs.Heads.{HasTooManyLines, IsMalformedHead, LacksHost, ParsesTo}
use Rattle.http_head.specs.BodyFraming.{framing}
use Rattle.http_head.specs.Persistence.{closes}
use Rattle.http_head.specs.Expectation.{expects_continue}
use Rattle.http_head.specs.HeadScan.{HasScanned}
use Rattle.http_payload.specs.declared.payload_fault.PayloadFault.{PayloadFault}
use Rattle.http_payload.specs.Bodies.{IsBody, IsFault, IsPartial as IsPartialBody}
use Rattle.http_payload.proofs.LawLemmas.{fault_stays}
use Rattle.http_conn.specs.Messages.{HasHead, IsFirstRequest, Requests, IsBadHead, too_long, too_many, malformed, host, conflict, coding, too_large, IsBadMessage, bad_head, bad_body, refusal_status, in_head, in_body, IsLastRequest, IsOpen, Messages, unfinished, refused, ended, events_of, request_events, interim_of, waits_for, with_body, rest_length, closes_connection}
use Rattle.http_conn.specs.declared.events.TheConstants.{REQUEST_LIMIT}
use Rattle.http_conn.specs.declared.parser_state.ParserState.{ParserState}
use Rattle.http_conn.specs.declared.parser_state.ParserState.TheVariants.{Head, Body, Closed, Failed}
use Rattle.http_conn.specs.declared.parser_state.PartialHead.{PartialHead}
use Rattle.http_conn.specs.declared.parser_state.PartialBody.{PartialBody}
use Rattle.http_payload.specs.PayloadState as payload
use Rattle.http_conn.specs.ParserStates.{InBody, HasEnded, Represents, rest_of}
use Rattle.http_conn.specs.ParserSteps.{StepsTo, StepsAfter, StepsAfterHead, StartsBody, EndsRequest}
use Rattle.http_head.proofs.HeadEndLaws.{whole_stays, whole_within, long_stays, blank_stays, blank_fits}

-- ---- longer texts

pub head_stays : (text more : List ℕ) (len : ℕ) (parsed : RequestHead) (form : BodyForm) → HasHead text len parsed form → HasHead (text ++ more) len parsed form
head_stays text more len parsed form h =
    let there = whole_within text len h.ends in
    record {
      ends = whole_stays text more len h.ends;
      says = subst (λ front. ParsesTo front parsed) (sym (take-append-le len text more there)) h.says;
      framed = h.framed;
    }

pub first_stays : (text more : List ℕ) (request : Request) (len : ℕ) → IsFirstRequest text request len → IsFirstRequest (text ++ more) request len
first_stays text more request len x =
    let there : x.head ≤ length text = omega (arith, x.ends, x.there) in
    let cut : drop x.head (text ++ more) ≡ drop x.head text ++ more = drop-append-le x.head text more there in
    let room : x.size ≤ length (drop x.head text) = omega (arith, length-drop x.head text, x.ends, x.there) in
    let same : take x.size (drop x.head (text ++ more)) ≡ take x.size (drop x.head text) = ap (take x.size) cut ∙ take-append-le x.size (drop x.head text) more room in
    record {
      head = x.head;
      parsed = x.parsed;
      form = x.form;
      begins = head_stays text more x.head x.parsed x.form x.begins;
      size = x.size;
      body = x.body;
      is_body = subst (λ front. IsBody x.form front x.body) (sym same) x.is_body;
      there = omega (arith, x.there, length-append text more);
      ends = x.ends;
      is = x.is;
    }

pub requests_stay : (requests : List Request) (text left more : List ℕ) → Requests text requests left → Requests (text ++ more) requests (left ++ more)
requests_stay [] text left more h = ap (λ t. t ++ more) h
requests_stay (request ∷ requests) text left more h =
    let cut : drop h.0 (text ++ more) ≡ drop h.0 text ++ more = drop-append-le h.0 text more h.1.there in
    (h.0, first_stays text more request h.0 h.1, subst (λ t. Requests t requests (left ++ more)) (sym cut) (requests_stay requests (drop h.0 text) left more h.2))

-- one request more
pub requests_snoc : (requests : List Request) (text left rest : List ℕ) (last : Request) (len : ℕ) → Requests text requests left → IsFirstRequest left last len → drop len left ≡ rest
    → Requests text (requests ++ last ∷ []) rest
requests_snoc [] text left rest last len h first is = (len, subst (λ t. IsFirstRequest t last len) (sym h) first, ap (drop len) h ∙ is)
requests_snoc (request ∷ requests) text left rest last len h first is = (h.0, h.1, requests_snoc requests (drop h.0 text) left rest last len h.2 first is)

bad_head_stays : (text more : List ℕ) (status : ℕ) → IsBadHead text status → IsBadHead (text ++ more) status
bad_head_stays text more _ (too_long e) = too_long (long_stays text more e)
bad_head_stays text more _ (too_many len e h) = too_many len (whole_stays text more len e) (subst HasTooManyLines (sym (take-append-le len text more (whole_within text len e))) h)
bad_head_stays text more _ (malformed len e h) = malformed len (whole_stays text more len e) (subst IsMalformedHead (sym (take-append-le len text more (whole_within text len e))) h)
bad_head_stays text more _ (host len e h) = host len (whole_stays text more len e) (subst LacksHost (sym (take-append-le len text more (whole_within text len e))) h)
bad_head_stays text more _ (conflict len parsed e h f) =
    conflict len parsed (whole_stays text more len e) (subst (λ front. ParsesTo front parsed) (sym (take-append-le len text more (whole_within text len e))) h) f
bad_head_stays text more _ (coding len parsed e h f) =
    coding len parsed (whole_stays text more len e) (subst (λ front. ParsesTo front parsed) (sym (take-append-le len text more (whole_within text len e))) h) f
bad_head_stays text more _ (too_large len parsed e h f) =
    too_large len parsed (whole_stays text more len e) (subst (λ front. ParsesTo front parsed) (sym (take-append-le len text more (whole_within text len e))) h) f

pub bad_stays : (text more : List ℕ) (events : List Heard) (status : ℕ) → IsBadMessage text events status → IsBadMessage (text ++ more) events status
bad_stays text more _ _ (bad_head status h) = bad_head status (bad_head_stays text more status h)
bad_stays text more _ _ (bad_body len parsed form fault h f) =
    let cut : drop len (text ++ more) ≡ drop len text ++ more = drop-append-le len text more (whole_within text len h.ends) in
    bad_body len parsed form fault (head_stays text more len parsed form h) (subst (λ t. IsFault form t fault) (sym cut) (fault_stays form (drop len text) more fault f))

-- ---- the ends

-- no event follows a refusal
pub refused_ends : (text left : List ℕ) (requests : List Request) (events : List Heard) (status : ℕ) → Requests text requests left → IsOpen requests → IsBadMessage left events status
    → HasEnded text (events_of requests ++ (events ++ heard.Bad status ∷ []))
refused_ends text left requests events status reads stays bad more =
    refused requests (left ++ more) events status (requests_stay requests text left more reads) stays (bad_stays left more events status bad)

-- no event follows the last request
pub last_ends : (text left : List ℕ) (requests : List Request) (last : Request) → Requests text (requests ++ last ∷ []) left → IsOpen requests → IsLastRequest (length requests) last
    → HasEnded text (events_of (requests ++ last ∷ []))
last_ends text left requests last reads stays is_last_request more =
    ended requests last (left ++ more) (requests_stay (requests ++ last ∷ []) text left more reads) stays is_last_request

-- a state that represents a text has its messages
pub represents_messages : (stage : ParserState) (text : List ℕ) (events : List Heard) → Represents stage text events → Messages text events (rest_of stage)
represents_messages (Head partial) text events s =
    subst (λ h. Messages text h (rest_length partial.bytes)) (append-nil (events_of s.requests) ∙ sym s.is) (unfinished s.requests partial.bytes [] s.reads s.stays (in_head s.not_yet))
represents_messages (Body partial) text events s =
    let parsed = partial.head in
    let interim : List Heard = interim_of parsed.minor parsed.fields in
    let all : Messages text (events_of s.requests ++ interim) (rest_length s.left) = unfinished s.requests s.left interim s.reads s.stays (in_body s.head parsed s.form s.begins s.body) in
    subst (λ n. Messages text events n) (sym s.rest) (subst (λ h. Messages text h (rest_length s.left)) (sym s.is) all)
represents_messages Closed text events s = subst (λ t. Messages t events 0) (append-nil text) (s [])
represents_messages Failed text events s = absurd s

-- ---- the events since some moment

-- a refusal after the events so far
pub refuses : (count : ℕ) (left text : List ℕ) (before old_events interim old_events' : List Heard) (status : ℕ) (requests : List Request)
    → Requests text requests left → IsOpen requests → before ++ old_events ≡ events_of requests ++ interim → IsBadMessage left interim status → old_events' ≡ old_events ++ heard.Bad status ∷ []
    → HasEnded text (before ++ old_events')
refuses count left text before old_events interim old_events' status requests reads stays is bad more_is =
    let all : events_of requests ++ (interim ++ heard.Bad status ∷ []) ≡ before ++ old_events' =
    sym (append_assoc (events_of requests) interim (heard.Bad status ∷ [])) ∙ ap (λ h. h ++ heard.Bad status ∷ []) (sym is)
    ∙ append_assoc before old_events (heard.Bad status ∷ []) ∙ ap (λ h. before ++ h) (sym more_is) in
    subst (HasEnded text) all (refused_ends text left requests interim status reads stays bad)

open_snoc : (requests : List Request) (last : Request) → IsOpen requests → closes_connection last ≡ false → length requests + 1 < REQUEST_LIMIT → IsOpen (requests ++ last ∷ [])
open_snoc requests last h stays few = record {
  few = omega (arith, few, length-append requests (last ∷ []));
  stays = all_snoc requests h.stays;
}
  where
    all_snoc : (rs : List Request) → AllByRecursion (λ r. closes_connection r ≡ false) rs → AllByRecursion (λ r. closes_connection r ≡ false) (rs ++ last ∷ [])
    all_snoc [] a = (stays, tt)
    all_snoc (r ∷ rs) a = (a.0, all_snoc rs a.1)

-- a request after its interim
heard_snoc : (requests : List Request) (last : Request) (before old_events : List Heard) → before ++ old_events ≡ events_of requests ++ interim_of last.minor last.fields
    → before ++ (old_events ++ heard.Request last ∷ []) ≡ events_of (requests ++ last ∷ [])
heard_snoc requests last before old_events is =
    let one : List Heard = heard.Request last ∷ [] in
    let interim : List Heard = interim_of last.minor last.fields in
    sym (append_assoc before old_events one) ∙ ap (λ h. h ++ one) is ∙ append_assoc (events_of requests) interim one
    ∙ ap (λ h. events_of requests ++ h) (sym (append-nil (request_events last)))
    ∙ sym (flat_map-append request_events requests (last ∷ []))

-- ---- the steps

-- a complete request is pushed, and no event follows
pub finishes_over : (count : ℕ) (parsed : RequestHead) (body : List ℕ) (old_events new : List Heard) → (closes parsed.minor parsed.fields || nat_le 10_000 (count + 1)) ≡ true
    → new ≡ old_events ++ heard.Request (with_body parsed body) ∷ [] → EndsRequest count parsed body old_events Closed new
finishes_over count parsed body old_events new ends new_is text before requests reads stays count_is is =
    let last : Request = with_body parsed body in
    let which : IsLastRequest (length requests) last =
    elim (or_cases (closes parsed.minor parsed.fields) (nat_le 10_000 (count + 1)) ends) [
      | inl closing ↦ inl closing
      | inr many ↦ inr (let most : 10_000 ≤ count + 1 = grind (arith, nat_tests, many) in omega (arith, most, count_is, stays.few))
    ] in
    subst (HasEnded text) (sym (ap (λ h. before ++ h) new_is ∙ heard_snoc requests last before old_events is)) (last_ends text [] requests last reads stays which)

-- a complete request is pushed, and a head follows
pub finishes_head : (count : ℕ) (parsed : RequestHead) (body : List ℕ) (old_events new : List Heard) (partial : PartialHead) → (closes parsed.minor parsed.fields || nat_le 10_000 (count + 1)) ≡ false
    → new ≡ old_events ++ heard.Request (with_body parsed body) ∷ [] → partial.bytes ≡ [] → HasScanned partial.search [] → partial.count ≡ count + 1
    → EndsRequest count parsed body old_events (Head partial) new
finishes_head count parsed body old_events new partial ends new_is none seen next text before requests reads stays count_is is =
    let last : Request = with_body parsed body in
    let parts = or_parts (closes parsed.minor parsed.fields) (nat_le 10_000 (count + 1)) ends in
    let few : count + 1 < 10_000 = grind (arith, nat_tests, parts.1) in
    record {
      requests = requests ++ last ∷ [];
      reads = subst (Requests text (requests ++ last ∷ [])) (sym none) reads;
      stays = open_snoc requests last stays parts.0 (omega (arith, few, count_is));
      count = omega (arith, next, count_is, length-append requests (last ∷ []));
      is = ap (λ h. before ++ h) new_is ∙ heard_snoc requests last before old_events is;
      not_yet = subst (λ b. head_end b ≡ NotYet) (sym none) refl;
      seen = subst (HasScanned partial.search) (sym none) seen;
    }

pub waits_as : (parsed : RequestHead) (form : BodyForm) → framing parsed.minor parsed.fields ≡ Ok form
    → interim_of parsed.minor parsed.fields ≡ (if expects_continue parsed.minor parsed.fields form then heard.Interim ∷ [] else [])
waits_as parsed form framed = ap (λ f. if waits_for parsed.minor parsed.fields f then heard.Interim ∷ [] else []) framed

told_interim : (before old_events interim new : List Heard) (requests : List Request) (parsed : RequestHead) (form : BodyForm) → framing parsed.minor parsed.fields ≡ Ok form
    → new ≡ old_events ++ (if expects_continue parsed.minor parsed.fields form then heard.Interim ∷ [] else []) → before ++ old_events ≡ events_of requests
    → before ++ new ≡ events_of requests ++ interim_of parsed.minor parsed.fields
told_interim before old_events interim new requests parsed form framed new_is is =
    let some : List Heard = if expects_continue parsed.minor parsed.fields form then heard.Interim ∷ [] else [] in
    ap (λ h. before ++ h) new_is ∙ sym (append_assoc before old_events some) ∙ ap (λ h. h ++ some) is ∙ ap (λ h. events_of requests ++ h) (sym (waits_as parsed form framed))

whole_has_head : (left : List ℕ) (parsed : RequestHead) (form : BodyForm) → head_end left ≡ Whole (length left) → ParsesTo left parsed → framing parsed.minor parsed.fields ≡ Ok form
    → HasHead left (length left) parsed form
whole_has_head left parsed form ends says framed = record { ends = ends; says = subst (λ t. ParsesTo t parsed) (sym (take-length left)) says; framed = framed }

-- an empty body is complete at once
pub awaits_none : (count len : ℕ) (parsed : RequestHead) (form : BodyForm) (old_events interim events : List Heard) (new : ParserState) (body : List ℕ)
    → interim ≡ old_events ++ (if expects_continue parsed.minor parsed.fields form then heard.Interim ∷ [] else []) → IsBody form [] body
    → EndsRequest count parsed body interim new events → StartsBody count len parsed form old_events new events
awaits_none count len parsed form old_events interim events new body interim_is is_body finishes left ends says framed len_is text before r =
    let first : IsFirstRequest left (with_body parsed body) (length left) = record {
      head = length left;
      parsed = parsed;
      form = form;
      begins = whole_has_head left parsed form ends says framed;
      size = 0;
      body = body;
      is_body = is_body;
      there = omega arith;
      ends = omega arith;
      is = refl;
    } in
    finishes text before r.requests (requests_snoc r.requests text left [] (with_body parsed body) (length left) r.reads first (drop-length left)) r.stays r.count_is
    (told_interim before old_events interim interim r.requests parsed form framed interim_is r.is)

-- a body that has not come
pub awaits_body : (count len : ℕ) (parsed : RequestHead) (form : BodyForm) (old_events new : List Heard) (partial : PartialBody)
    → new ≡ old_events ++ (if expects_continue parsed.minor parsed.fields form then heard.Interim ∷ [] else []) → IsPartialBody form [] → payload.RepresentsBody form partial.payload []
    → partial.head ≡ parsed → partial.len ≡ len → partial.count ≡ count → StartsBody count len parsed form old_events (Body partial) new
awaits_body count len parsed form old_events new partial new_is is_partial stands said_is len_same count_same left ends says framed len_is text before r =
    let none : drop (length left) left ≡ [] = drop-length left in
    record {
      requests = r.requests;
      left = left;
      reads = r.reads;
      stays = r.stays;
      count = count_same ∙ r.count_is;
      is = told_interim before old_events new new r.requests parsed form framed new_is r.is ∙ ap (λ (s : RequestHead). events_of r.requests ++ interim_of s.minor s.fields) (sym said_is);
      head = length left;
      form = form;
      there = omega arith;
      begins = subst (λ s. HasHead left (length left) s form) (sym said_is) (whole_has_head left parsed form ends says framed);
      body = subst (IsPartialBody form) (sym none) is_partial;
      represents = subst (payload.RepresentsBody form partial.payload) (sym none) stands;
      rest = len_same ∙ len_is;
    }

-- a head that is refused
pub refuses_head : (count : ℕ) (left : List ℕ) (old_events new : List Heard) (status : ℕ) → IsBadHead left status → new ≡ old_events ++ heard.Bad status ∷ [] → StepsAfter count left old_events Closed new
refuses_head count left old_events new status bad new_is text before r =
    refuses count left text before old_events [] new status r.requests r.reads r.stays (r.is ∙ sym (append-nil (events_of r.requests))) (bad_head status bad) new_is

-- what a refusal leaves
pub if_refused : {E : Type 0} (P : ParserState → Type 0) {T : Type 0} (result : Result ParserState E) → (T → P Closed) → OnOk result T → IfOk result (λ s. s ≡ Closed) → IfOk result P
if_refused P (Ok s) f old_events over = subst P (sym over) (f old_events)
if_refused P (Err e) f old_events over = tt

-- the bytes of a partial head are parsed with those that follow
pub head_goes : (partial : PartialHead) (bytes : List ℕ) (old_events new : List Heard) (next : ParserState) → StepsAfter partial.count (partial.bytes ++ bytes) old_events next new → StepsTo (Head partial) old_events bytes next new
head_goes partial bytes old_events new next goes text before s =
    goes (text ++ bytes) before (record { requests = s.requests; reads = requests_stay s.requests text partial.bytes bytes s.reads; stays = s.stays; count_is = s.count; is = s.is })

-- a head that has not ended
pub head_waits : (count : ℕ) (left : List ℕ) (old_events : List Heard) (partial : PartialHead) → partial.bytes ≡ left → head_end left ≡ NotYet → HasScanned partial.search left → partial.count ≡ count
    → StepsAfter count left old_events (Head partial) old_events
head_waits count left old_events partial bytes not_yet seen same text before r = record {
  requests = r.requests;
  reads = subst (Requests text r.requests) (sym bytes) r.reads;
  stays = r.stays;
  count = same ∙ r.count_is;
  is = r.is;
  not_yet = subst (λ b. head_end b ≡ NotYet) (sym bytes) not_yet;
  seen = subst (HasScanned partial.search) (sym bytes) seen;
}

refuses_fault : (count len : ℕ) (parsed : RequestHead) (old_events new : List Heard) (status : ℕ)
    → ((left : List ℕ) → head_end left ≡ Whole (length left) → ParsesTo (take (length left) left) parsed → IsBadHead left status)
    → new ≡ old_events ++ heard.Bad status ∷ [] → StepsAfterHead count len parsed old_events Closed new
refuses_fault count len parsed old_events new status bad new_is left ends says len_is =
    refuses_head count left old_events new status (bad left ends (subst (λ t. ParsesTo t parsed) (sym (take-length left)) says)) new_is

pub refuses_conflict : (count len : ℕ) (parsed : RequestHead) (old_events new : List Heard) → framing parsed.minor parsed.fields ≡ Err framing_fault.Conflict → new ≡ old_events ++ heard.Bad 400 ∷ []
    → StepsAfterHead count len parsed old_events Closed new
refuses_conflict count len parsed old_events new f = refuses_fault count len parsed old_events new 400 (λ left ends says. conflict (length left) parsed ends says f)

pub refuses_coding : (count len : ℕ) (parsed : RequestHead) (old_events new : List Heard) → framing parsed.minor parsed.fields ≡ Err framing_fault.Coding → new ≡ old_events ++ heard.Bad 501 ∷ []
    → StepsAfterHead count len parsed old_events Closed new
refuses_coding count len parsed old_events new f = refuses_fault count len parsed old_events new 501 (λ left ends says. coding (length left) parsed ends says f)

pub refuses_large : (count len : ℕ) (parsed : RequestHead) (old_events new : List Heard) → framing parsed.minor parsed.fields ≡ Err framing_fault.TooLarge → new ≡ old_events ++ heard.Bad 413 ∷ []
    → StepsAfterHead count len parsed old_events Closed new
refuses_large count len parsed old_events new f = refuses_fault count len parsed old_events new 413 (λ left ends says. too_large (length left) parsed ends says f)

whole_of : (P : List ℕ → Type 0) (left : List ℕ) → P left → P (take (length left) left)
whole_of P left p = subst P (sym (take-length left)) p

pub refuses_many : (count : ℕ) (left : List ℕ) (old_events new : List Heard) → head_end left ≡ Whole (length left) → HasTooManyLines left → new ≡ old_events ++ heard.Bad 431 ∷ [] → StepsAfter count left old_events Closed new
refuses_many count left old_events new ends h = refuses_head count left old_events new 431 (too_many (length left) ends (whole_of HasTooManyLines left h))

pub refuses_malformed : (count : ℕ) (left : List ℕ) (old_events new : List Heard) → head_end left ≡ Whole (length left) → IsMalformedHead left → new ≡ old_events ++ heard.Bad 400 ∷ [] → StepsAfter count left old_events Closed new
refuses_malformed count left old_events new ends h = refuses_head count left old_events new 400 (malformed (length left) ends (whole_of IsMalformedHead left h))

pub refuses_host : (count : ℕ) (left : List ℕ) (old_events new : List Heard) → head_end left ≡ Whole (length left) → LacksHost left → new ≡ old_events ++ heard.Bad 400 ∷ [] → StepsAfter count left old_events Closed new
refuses_host count left old_events new ends h = refuses_head count left old_events new 400 (host (length left) ends (whole_of LacksHost left h))

pub refuses_long : (count : ℕ) (left : List ℕ) (old_events new : List Heard) → head_end left ≡ TooLong → new ≡ old_events ++ heard.Bad 431 ∷ [] → StepsAfter count left old_events Closed new
refuses_long count left old_events new ends = refuses_head count left old_events new 431 (too_long ends)

-- ---- in a body

-- the bytes after a head grow
body_grows : (partial : PartialBody) (text : List ℕ) (events : List Heard) (s : InBody partial text events) (bytes : List ℕ) → drop s.head (s.left ++ bytes) ≡ drop s.head s.left ++ bytes
body_grows partial text events s bytes = drop-append-le s.head s.left bytes s.there

-- the body has ended
pub body_ends : (partial : PartialBody) (front body : List ℕ) (old_events new : List Heard) (next : ParserState)
    → ((form : BodyForm) (text : List ℕ) → payload.RepresentsBody form partial.payload text → IsBody form (text ++ front) body)
    → EndsRequest partial.count partial.head body old_events next new → StepsTo (Body partial) old_events front next new
body_ends partial front body old_events new next whole finishes text before s =
    let left : List ℕ = s.left ++ front in
    let behind : List ℕ = drop s.head s.left ++ front in
    let cut : drop s.head left ≡ behind = body_grows partial text (before ++ old_events) s front in
    let size : ℕ = length behind in
    let len : ℕ = s.head + size in
    let all : len ≡ length left = omega (arith, s.there, length-append s.left front, length-append (drop s.head s.left) front, length-drop s.head s.left) in
    let last : Request = with_body partial.head body in
    let first : IsFirstRequest left last len = record {
      head = s.head;
      parsed = partial.head;
      form = s.form;
      begins = head_stays s.left front s.head partial.head s.form s.begins;
      size = size;
      body = body;
      is_body = subst (λ t. IsBody s.form t body) (sym (ap (take size) cut ∙ take-length behind)) (whole s.form (drop s.head s.left) s.represents);
      there = omega (arith, all);
      ends = refl;
      is = refl;
    } in
    let none : drop len left ≡ [] = ap (λ n. drop n left) all ∙ drop-length left in
    finishes (text ++ front) before s.requests (requests_snoc s.requests (text ++ front) left [] last len (requests_stay s.requests text s.left front s.reads) first none) s.stays s.count s.is

-- the body continues
pub body_waits : (partial new : PartialBody) (bytes : List ℕ) (old_events : List Heard) → new.head ≡ partial.head → new.count ≡ partial.count → new.len ≡ partial.len + length bytes
    → ((form : BodyForm) (text : List ℕ) → payload.RepresentsBody form partial.payload text → IsPartialBody form (text ++ bytes))
    → ((form : BodyForm) (text : List ℕ) → payload.RepresentsBody form partial.payload text → payload.RepresentsBody form new.payload (text ++ bytes))
    → StepsTo (Body partial) old_events bytes (Body new) old_events
body_waits partial new bytes old_events said_is count_is len_is is_partial stands text before s =
    let left : List ℕ = s.left ++ bytes in
    let cut : drop s.head left ≡ drop s.head s.left ++ bytes = body_grows partial text (before ++ old_events) s bytes in
    record {
      requests = s.requests;
      left = left;
      reads = requests_stay s.requests text s.left bytes s.reads;
      stays = s.stays;
      count = count_is ∙ s.count;
      is = s.is ∙ ap (λ (h : RequestHead). events_of s.requests ++ interim_of h.minor h.fields) (sym said_is);
      head = s.head;
      form = s.form;
      there = omega (arith, s.there, length-append s.left bytes);
      begins = subst (λ h. HasHead left s.head h s.form) (sym said_is) (head_stays s.left bytes s.head partial.head s.form s.begins);
      body = subst (IsPartialBody s.form) (sym cut) (is_partial s.form (drop s.head s.left) s.represents);
      represents = subst (payload.RepresentsBody s.form new.payload) (sym cut) (stands s.form (drop s.head s.left) s.represents);
      rest = omega (arith, len_is, s.rest, blank_stays s.left bytes s.head s.begins.ends, blank_fits s.left, length-append s.left bytes);
    }

-- the body is refused
pub body_refused : (partial : PartialBody) (bytes : List ℕ) (old_events new : List Heard) (fault : PayloadFault)
    → ((form : BodyForm) (text : List ℕ) → payload.RepresentsBody form partial.payload text → IsFault form (text ++ bytes) fault)
    → new ≡ old_events ++ heard.Bad (refusal_status fault) ∷ [] → StepsTo (Body partial) old_events bytes Closed new
body_refused partial bytes old_events new fault bad new_is text before s =
    let left : List ℕ = s.left ++ bytes in
    let cut : drop s.head left ≡ drop s.head s.left ++ bytes = body_grows partial text (before ++ old_events) s bytes in
    refuses partial.count left (text ++ bytes) before old_events (interim_of partial.head.minor partial.head.fields) new (refusal_status fault) s.requests
    (requests_stay s.requests text s.left bytes s.reads) s.stays s.is
    (bad_body s.head partial.head s.form fault (head_stays s.left bytes s.head partial.head s.form s.begins) (subst (λ t. IsFault s.form t fault) (sym cut) (bad s.form (drop s.head s.left) s.represents)))
    new_is

-- one step after others
pub goes_on : (old next new : ParserState) (old_events next_events new_events : List Heard) (front bytes : List ℕ) → StepsTo old old_events front next next_events → StepsTo next next_events bytes new new_events
    → StepsTo old old_events (front ++ bytes) new new_events
goes_on old next new old_events next_events new_events front bytes a b text before s =
    subst (λ t. Represents new t (before ++ new_events)) (append_assoc text front bytes) (b (text ++ front) before (a text before s))

-- the head with the bytes up to its end
pub front_of_kept : (kept window : List ℕ) (n : ℕ) → length kept ≤ n → take n (kept ++ window) ≡ kept ++ take (n - length kept) window
front_of_kept kept window n h =
    let sum : n ≡ length kept + (n - length kept) = omega arith in
    ap (λ k. take k (kept ++ window)) sum ∙ take-append-add kept window (n - length kept)
