-- No text lacks a parse.
use Rattle.std.proofs.Common.{◌≡◌, ◌⊎◌, inl, inr, true, false, Bool, ℕ, zero, suc, ◌+◌, ◌<◌, ◌≤◌, List, [], ◌∷◌, ◌++◌, length, take, drop, Result, Ok, Err, refl, sym, ap, subst, ◌∙◌, arith, length-drop, length-append}
use Rattle.std.specs.List.{AllByRecursion}
use Rattle.std.proofs.lemmas.Bool.{cases_lt}
use Rattle.std.proofs.Math.Seq.{take-append_seam}
use Rattle.pod_base.specs.declared.request.Request.{Request}
use Rattle.pod_base.specs.declared.heard.Heard.{Heard}
use Rattle.pod_base.specs.declared.heard.Heard.TheVariants as heard
use Rattle.http_head.specs.declared.head_ends.HeadEnd.{HeadEnd}
use Rattle.http_head.specs.declared.head_ends.HeadEnd.TheVariants.{Whole, NotYet, TooLong}
use Rattle.http_head.specs.declared.request_head.RequestHead.{RequestHead}
use Rattle.http_head.specs.declared.body_form.BodyForm.{BodyForm}
use Rattle.http_head.specs.declared.body_framing.FramingFault.{FramingFault}
use Rattle.http_head.specs.declared.body_framing.FramingFault.TheVariants as framing_fault
use Rattle.http_head.specs.HeadEnds.{head_end}
use Rattle.http_head.specs.Heads.{ParsesTo}
use Rattle.http_head.proofs.HeadLaws.{some_finding}
use Rattle.http_head.specs.BodyFraming.{framing}
use Rattle.http_payload.specs.declared.payload_fault.PayloadFault.TheVariants as payload_fault
use Rattle.http_payload.specs.Chunks as chunks
use Rattle.http_payload.specs.Bodies.{Ends, IsBody}
use Rattle.http_payload.proofs.Prefixes.{prefixes}
use Rattle.http_payload.proofs.LawLemmas.{partial_before}
use Rattle.http_conn.specs.Messages.{HasHead, IsFirstRequest, Requests, IsBadHead, too_long, too_many, malformed, host, conflict, coding, too_large, IsBadMessage, bad_head, bad_body, IsPartialMessage, in_head, in_body, IsOpen, Messages, unfinished, refused, ended, events_of, interim_of, with_body, rest_length, closes_connection}
use Rattle.http_conn.specs.declared.events.TheConstants.{REQUEST_LIMIT}
use Rattle.http_head.proofs.HeadEndLaws.{whole_within}
use Rattle.http_conn.proofs.StepLemmas.{requests_snoc}

-- No text is neither malformed nor partial and begins with no request.
module _ (text : List ℕ) (not_bad : (events : List Heard) (status : ℕ) → IsBadMessage text events status → ⊥) (not_partial : (events : List Heard) → IsPartialMessage text events → ⊥)
    (not_first : (r : Request) (len : ℕ) → IsFirstRequest text r len → ⊥) where
  module _ (len : ℕ) (parsed : RequestHead) (form : BodyForm) (h : HasHead text len parsed form) where
    end_in : (front m : List ℕ) (ending : chunks.Ending) → drop len text ≡ front ++ m → Ends form front ending → ⊥
    end_in front m (chunks.Whole body) cut e =
        not_first (with_body parsed body) (len + length front) (record {
          head = len;
          parsed = parsed;
          form = form;
          begins = h;
          size = length front;
          body = body;
          is_body = subst (λ t. IsBody form t body) (sym (ap (take (length front)) cut ∙ take-append_seam front m)) e;
          there = omega (arith, whole_within text len h.ends, length-drop len text, ap length cut, length-append front m);
          ends = refl;
          is = refl;
        })
    end_in front m chunks.Over cut e =
        not_bad (interim_of parsed.minor parsed.fields) 413 (bad_body len parsed form payload_fault.TooLarge h (front, m, cut, e))

    end_behind : (m : List ℕ) (ending : chunks.Ending) → 0 < length m → Ends form (drop len text ++ m) ending → ⊥
    end_behind m ending some e =
        not_partial (interim_of parsed.minor parsed.fields) (in_body len parsed form h (partial_before form (drop len text) m ending e (λ none. omega (arith, some, ap length none))))

    end_at : (more front behind : List ℕ) (ending : chunks.Ending) → drop len text ++ more ≡ front ++ behind → Ends form front ending
        → (length (drop len text) < length front) ⊎ (length front ≤ length (drop len text)) → ⊥
    end_at more front behind ending same e (inl longer) =
        let f = prefixes (drop len text) front more behind same (omega (arith, longer)) in
        end_behind f.0 ending (omega (arith, longer, ap length f.1, length-append (drop len text) f.0)) (subst (λ t. Ends form t ending) f.1 e)
    end_at more front behind ending same e (inr shorter) =
        let f = prefixes front (drop len text) behind more (sym same) shorter in
        end_in front f.0 ending f.1 e

    no_body : ⊥
    no_body =
        not_bad (interim_of parsed.minor parsed.fields) 400 (bad_body len parsed form payload_fault.Malformed h
        (λ more front behind ending same e. end_at more front behind ending same e (cases_lt (length (drop len text)) (length front))))

  module _ (len : ℕ) (e : head_end text ≡ Whole len) where
    bad : (status : ℕ) → IsBadHead text status → ⊥
    bad status b = not_bad [] status (bad_head status b)

    framed : (parsed : RequestHead) → ParsesTo (take len text) parsed → (f : Result BodyForm FramingFault) → framing parsed.minor parsed.fields ≡ f → ⊥
    framed parsed s (Ok form) is = no_body len parsed form (record { ends = e; says = s; framed = is })
    framed parsed s (Err framing_fault.Conflict) is = bad 400 (conflict len parsed e s is)
    framed parsed s (Err framing_fault.TooLarge) is = bad 413 (too_large len parsed e s is)
    framed parsed s (Err framing_fault.Coding) is = bad 501 (coding len parsed e s is)

    no_head : ⊥
    no_head = some_finding (take len text) (λ many. bad 431 (too_many len e many)) (λ never. bad 400 (malformed len e never)) (λ lacks. bad 400 (host len e lacks))
        (λ parsed s. framed parsed s (framing parsed.minor parsed.fields) refl)

  by_end : (end : HeadEnd) → head_end text ≡ end → ⊥
  by_end (Whole len) e = no_head len e
  by_end NotYet e = not_partial [] (in_head e)
  by_end TooLong e = not_bad [] 431 (bad_head 431 (too_long e))

  nothing : ⊥
  nothing = by_end (head_end text) refl

more_open : (requests : List Request) (last : Request) → IsOpen requests → closes_connection last ≡ false → length requests + 1 < REQUEST_LIMIT → IsOpen (requests ++ last ∷ [])
more_open requests last h stays few = record {
  few = omega (arith, few, length-append requests (last ∷ []));
  stays = all_snoc requests h.stays;
}
  where
    all_snoc : (rs : List Request) → AllByRecursion (λ r. closes_connection r ≡ false) rs → AllByRecursion (λ r. closes_connection r ≡ false) (rs ++ last ∷ [])
    all_snoc [] a = (stays, tt)
    all_snoc (r ∷ rs) a = (a.0, all_snoc rs a.1)

-- after one request more
behind_one : (fuel : ℕ) (text left : List ℕ) (requests : List Request) → Requests text requests left → IsOpen requests → REQUEST_LIMIT ≤ length requests + suc fuel
    → ((events : List Heard) (rest : ℕ) → Messages text events rest → ⊥)
    → ((left : List ℕ) (requests : List Request) → Requests text requests left → IsOpen requests → REQUEST_LIMIT ≤ length requests + fuel → ⊥)
    → (r : Request) (len : ℕ) → IsFirstRequest left r len → (closing : Bool) → closes_connection r ≡ closing → (length requests + 1 < REQUEST_LIMIT) ⊎ (REQUEST_LIMIT ≤ length requests + 1) → ⊥
behind_one fuel text left requests reads stays enough none go r len first true closing room =
    none (events_of (requests ++ r ∷ [])) 0 (ended requests r (drop len left) (requests_snoc requests text left (drop len left) r len reads first refl) stays (inl closing))
behind_one fuel text left requests reads stays enough none go r len first false closing (inr full) =
    none (events_of (requests ++ r ∷ [])) 0 (ended requests r (drop len left) (requests_snoc requests text left (drop len left) r len reads first refl) stays (inr (omega (arith, full, stays.few))))
behind_one fuel text left requests reads stays enough none go r len first false closing (inl few) =
    go (drop len left) (requests ++ r ∷ []) (requests_snoc requests text left (drop len left) r len reads first refl) (more_open requests r stays closing few)
    (omega (arith, enough, length-append requests (r ∷ [])))

loop : (fuel : ℕ) (text left : List ℕ) (requests : List Request) → Requests text requests left → IsOpen requests → REQUEST_LIMIT ≤ length requests + fuel
    → ((events : List Heard) (rest : ℕ) → Messages text events rest → ⊥) → ⊥
loop zero text left requests reads stays enough none = omega (arith, stays.few, enough)
loop (suc fuel) text left requests reads stays enough none =
    nothing left
    (λ events status b. none (events_of requests ++ (events ++ heard.Bad status ∷ [])) 0 (refused requests left events status reads stays b))
    (λ events p. none (events_of requests ++ events) (rest_length left) (unfinished requests left events reads stays p))
    (λ r len first. behind_one fuel text left requests reads stays enough none (λ after others. λ a b c. loop fuel text after others a b c none) r len first (closes_connection r) refl
    (cases_lt (length requests + 1) REQUEST_LIMIT))

pub some_parse : (text : List ℕ) → ((events : List Heard) (rest : ℕ) → Messages text events rest → ⊥) → ⊥
some_parse text none = loop REQUEST_LIMIT text text [] refl (record { few = omega arith; stays = tt }) (omega arith) none
