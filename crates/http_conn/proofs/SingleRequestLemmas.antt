-- When a text is one request and nothing else.
use Rattle.std.proofs.Common.{◌≡◌, ◌⊎◌, inl, inr, ℕ, ◌+◌, ◌<◌, ◌≤◌, Bool, true, false, if◌then◌else◌, nat_le, List, [], ◌∷◌, ◌++◌, length, take, drop, Option, Some, None, refl, length-append, sym, ap, subst, ◌∙◌, arith, length-drop}
use Rattle.std.proofs.lemmas.Bool.Decides.{nat_tests}
use Rattle.std.proofs.lemmas.List.{take_all, drop_all, drop-drop, take-append-drop}
use Rattle.pod_base.specs.declared.request.Request.{Request}
use Rattle.pod_base.specs.declared.heard.Heard.{Heard}
use Rattle.pod_base.specs.declared.heard.Heard.TheVariants as heard
use Rattle.http_head.specs.declared.head_ends.HeadEnd.TheVariants.{NotYet, TooLong}
use Rattle.http_head.specs.declared.request_head.RequestHead.{RequestHead}
use Rattle.http_head.specs.declared.body_form.BodyForm.{BodyForm}
use Rattle.http_head.specs.HeadEnds.{blank_length, head_length, length_in, end_of, head_end}
use Rattle.http_head.specs.Persistence.{closes}
use Rattle.http_head.specs.Expectation.{expects_continue}
use Rattle.http_payload.specs.Bodies.{IsBody}
use Rattle.http_conn.specs.Messages.{HasHead, IsFirstRequest, IsBadMessage, bad_head, too_long, in_head, IsOpen, Messages, unfinished, refused, ended, events_of, interim_of, with_body, rest_length, closes_connection}
use Rattle.http_conn.specs.SingleRequest.{AreEmptyLines, IsOneRequest}
use Rattle.std.specs.Option.{option_map}
use Rattle.http_head.proofs.HeadEndLaws.{in_stays, whole_within}
use Rattle.http_conn.proofs.Parses.{one_head, first_one, messages_one, reads_of}
use Rattle.http_conn.proofs.LongerTexts.{interim_first}
use Rattle.http_conn.proofs.StepLemmas.{waits_as}

-- ---- empty lines

-- no head ends in empty lines
none_in_empty : (rest : List ℕ) → AreEmptyLines rest → length_in rest ≡ None
none_in_empty rest e =
    ap (λ n. option_map (λ m. m + blank_length rest) (head_length (drop n rest))) e
    ∙ ap (λ t. option_map (λ m. m + blank_length rest) (head_length t)) (drop_all (length rest) rest (omega arith))

-- nor in the first of them
none_in_window : (rest : List ℕ) (most : ℕ) → AreEmptyLines rest → (found : Option ℕ) → length_in (take most rest) ≡ found → length_in (take most rest) ≡ None
none_in_window rest most e None h = h
none_in_window rest most e (Some n) h =
    let all : length_in rest ≡ Some n = ap length_in (sym (take-append-drop most rest)) ∙ in_stays (take most rest) (drop most rest) n h in
    let never : None ≡ Some n = sym (none_in_empty rest e) ∙ all in
    cc

-- a few empty lines are no message yet
few_wait : (rest : List ℕ) → AreEmptyLines rest → length rest < 16_384 → head_end rest ≡ NotYet
few_wait rest e few =
    let all : take 16_384 rest ≡ rest = take_all 16_384 rest (omega (arith, few)) in
    let short : nat_le 16_384 (length rest) ≡ false = grind (arith, nat_tests, few) in
    ap (λ t. end_of (length rest) (length_in t)) all
    ∙ ap (end_of (length rest)) (none_in_empty rest e)
    ∙ ap (λ (t : Bool). if t then TooLong else NotYet) short

-- too many are refused
many_refused : (rest : List ℕ) → AreEmptyLines rest → 16_384 ≤ length rest → IsBadMessage rest [] 431
many_refused rest e many =
    let long : nat_le 16_384 (length rest) ≡ true = grind (arith, nat_tests, many) in
    bad_head 431 (too_long
    (ap (end_of (length rest)) (none_in_window rest 16_384 e (length_in (take 16_384 rest)) refl)
    ∙ ap (λ (t : Bool). if t then TooLong else NotYet) long))

-- ---- one request and nothing else

no_open : IsOpen []
no_open = record { few = omega arith; stays = tt }

one_open : (r : Request) → closes_connection r ≡ false → IsOpen (r ∷ [])
one_open r stays = record { few = omega arith; stays = (stays, tt) }

only_event : (r : Request) → interim_of r.minor r.fields ≡ [] → events_of (r ∷ []) ≡ heard.Request r ∷ []
only_event r none = ap (λ (i : List Heard). (i ++ heard.Request r ∷ []) ++ []) none

closes_messages : (text : List ℕ) (r : Request) (len : ℕ) → IsFirstRequest text r len → interim_of r.minor r.fields ≡ [] → closes_connection r ≡ true
    → Messages text (heard.Request r ∷ []) 0
closes_messages text r len first none closing =
    subst (λ e. Messages text e 0) (only_event r none) (ended [] r (drop len text) (len, first, refl) no_open (inl closing))

open_messages : (text : List ℕ) (r : Request) (len : ℕ) → IsFirstRequest text r len → interim_of r.minor r.fields ≡ [] → AreEmptyLines (drop len text)
    → length (drop len text) < 16_384 → closes_connection r ≡ false → Messages text (heard.Request r ∷ []) 0
open_messages text r len first none empty few stays =
    let rest : List ℕ = drop len text in
    let no_rest : rest_length rest ≡ 0 = omega (arith, empty) in
    let only : events_of (r ∷ []) ++ [] ≡ heard.Request r ∷ [] = ap (λ (e : List Heard). e ++ []) (only_event r none) in
    subst (λ e. Messages text e 0) only
    (subst (λ n. Messages text (events_of (r ∷ []) ++ []) n) no_rest
    (unfinished (r ∷ []) rest [] (len, first, refl) (one_open r stays) (in_head (few_wait rest empty few))))

some_messages : (text : List ℕ) (r : Request) (len : ℕ) → IsFirstRequest text r len → interim_of r.minor r.fields ≡ [] → AreEmptyLines (drop len text)
    → (closes_connection r ≡ true) ⊎ (length (drop len text) < 16_384) → (closing : Bool) → closes_connection r ≡ closing → Messages text (heard.Request r ∷ []) 0
some_messages text r len first none empty (inl closing) other e = closes_messages text r len first none closing
some_messages text r len first none empty (inr few) true closing = closes_messages text r len first none closing
some_messages text r len first none empty (inr few) false stays = open_messages text r len first none empty few stays

module _ (text : List ℕ) (len : ℕ) (parsed : RequestHead) (form : BodyForm) (h : HasHead text len parsed form) where
  rest : List ℕ
  rest = drop len text

  -- the request of this head and a body
  first_of : (size : ℕ) (body : List ℕ) → size ≤ length (drop len text) → IsBody form (take size (drop len text)) body
      → IsFirstRequest text (with_body parsed body) (len + size)
  first_of size body there is_body = record {
    head = len;
    parsed = parsed;
    form = form;
    begins = h;
    size = size;
    body = body;
    is_body = is_body;
    there = omega (arith, there, whole_within text len h.ends, length-drop len text);
    ends = refl;
    is = refl;
  }

  pub is_one_request : (size : ℕ) (body : List ℕ) → size ≤ length (drop len text) → IsBody form (take size (drop len text)) body
      → expects_continue parsed.minor parsed.fields form ≡ false → AreEmptyLines (drop size (drop len text))
      → (closes parsed.minor parsed.fields ≡ true) ⊎ (length (drop size (drop len text)) < 16_384) → IsOneRequest text (with_body parsed body)
  is_one_request size body there is_body waits empty which =
      let r : Request = with_body parsed body in
      let cut : drop size (drop len text) ≡ drop (len + size) text = drop-drop size len text in
      let lines : AreEmptyLines (drop (len + size) text) = subst AreEmptyLines cut empty in
      let none : interim_of parsed.minor parsed.fields ≡ [] = waits_as parsed form h.framed ∙ ap (λ (t : Bool). if t then heard.Interim ∷ [] else []) waits in
      record {
        messages = some_messages text r (len + size) (first_of size body there is_body) none lines
            (subst (λ (t : List ℕ). (closes_connection r ≡ true) ⊎ (length t < 16_384)) cut which) (closes_connection r) refl;
        len = len + size;
        first = first_of size body there is_body;
        empty_lines = lines;
      }

  -- a request that waits has an interim before it
  pub waits_not_one : expects_continue parsed.minor parsed.fields form ≡ true → (r : Request) → IsOneRequest text r → ⊥
  waits_not_one waits r one =
      let some : interim_of parsed.minor parsed.fields ≡ heard.Interim ∷ [] = waits_as parsed form h.framed ∙ ap (λ (t : Bool). if t then heard.Interim ∷ [] else []) waits in
      let begins = interim_first 0 text len parsed form (heard.Request r ∷ []) 0 h (reads_of text (heard.Request r ∷ []) 0 one.messages) in
      let never : heard.Request r ∷ [] ≡ heard.Interim ∷ begins.0 = sym begins.1 ∙ ap (λ (i : List Heard). i ++ begins.0) some in
      cc

  -- a request has a body
  pub no_body_not_one : ((size : ℕ) (body : List ℕ) → size ≤ length (drop len text) → IsBody form (take size (drop len text)) body → ⊥)
      → (r : Request) → IsOneRequest text r → ⊥
  no_body_not_one none r one =
      let x = one.first in
      let head = one_head text len x.head parsed x.parsed form x.form h x.begins in
      none x.size x.body (omega (arith, length-drop len text, x.ends, x.there, head.len))
      (subst (λ f. IsBody f (take x.size (drop len text)) x.body) (sym head.form) (subst (λ n. IsBody x.form (take x.size (drop n text)) x.body) (sym head.len) x.is_body))

  -- and nothing but a few empty lines after it
  pub more_not_one : (size : ℕ) (body : List ℕ) → size ≤ length (drop len text) → IsBody form (take size (drop len text)) body
      → (AreEmptyLines (drop size (drop len text)) → (closes parsed.minor parsed.fields ≡ false) × (16_384 ≤ length (drop size (drop len text))))
      → (r : Request) → IsOneRequest text r → ⊥
  more_not_one size body there is_body more r one =
      let q : Request = with_body parsed body in
      let first = first_of size body there is_body in
      let same = first_one text q r (len + size) one.len first one.first in
      let left : List ℕ = drop (len + size) text in
      let cut : drop size (drop len text) ≡ left = drop-drop size len text in
      let lines : AreEmptyLines left = subst (λ n. AreEmptyLines (drop n text)) (sym same.1) one.empty_lines in
      let both = more (subst AreEmptyLines (sym cut) lines) in
      let many : 16_384 ≤ length left = subst (λ (t : List ℕ). 16_384 ≤ length t) cut both.1 in
      let bad : List Heard = heard.Bad 431 ∷ [] in
      let all : Messages text (events_of (q ∷ []) ++ bad) 0 = refused (q ∷ []) left [] 431 (len + size, first, refl) (one_open q both.0) (many_refused left lines many) in
      let two = messages_one text (events_of (q ∷ []) ++ bad) (heard.Request r ∷ []) 0 0 all one.messages in
      let interim : List Heard = interim_of parsed.minor parsed.fields in
      omega (arith, ap length two.0, length-append (events_of (q ∷ [])) bad, length-append (interim ++ heard.Request q ∷ []) [], length-append interim (heard.Request q ∷ []))
