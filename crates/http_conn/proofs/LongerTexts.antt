-- The events of a prefix of a text are the first events of the text.
use Rattle.std.proofs.Common.{◌≡◌, ℕ, ◌+◌, List, [], ◌∷◌, ◌++◌, drop, refl, sym, ap, ap₂, subst, ◌∙◌, append_assoc}
use Rattle.std.proofs.lemmas.List.{append-nil, drop-append-le}
use mathlib.Core.List.{IsPrefix}
use Rattle.pod_base.specs.declared.request.Request.{Request}
use Rattle.pod_base.specs.declared.heard.Heard.{Heard}
use Rattle.pod_base.specs.declared.heard.Heard.TheVariants as heard
use Rattle.http_head.specs.declared.request_head.RequestHead.{RequestHead}
use Rattle.http_head.specs.declared.body_form.BodyForm.{BodyForm}
use Rattle.http_conn.specs.Messages.{HasHead, IsFirstRequest, IsBadMessage, bad_head, bad_body, refusal_status, IsPartialMessage, in_head, in_body, Messages, AreFirstEvents, request_events, interim_of}
use Rattle.http_conn.proofs.StepLemmas.{head_stays, first_stays, bad_stays}
use Rattle.http_conn.proofs.Parses.{Parses, partly, badly, last, next, head_not_bad, one_head, not_yet_no_head, first_one, partial_not_first, bad_not_first, last_not_next, reads_one, reads_of}

prefix_same : (first all : List Heard) → first ≡ all → IsPrefix first all
prefix_same first all e = ([], append-nil first ∙ e)

prefix_after : (front first all : List Heard) → IsPrefix first all → IsPrefix (front ++ first) (front ++ all)
prefix_after front first all b = (b.0, append_assoc front first b.0 ∙ ap (λ h. front ++ h) b.1)

-- ---- after a head

-- the interim of the head that a text begins with
interim_said : (text : List ℕ) (n m : ℕ) (a b : RequestHead) (f g : BodyForm) → HasHead text n a f → HasHead text m b g → interim_of b.minor b.fields ≡ interim_of a.minor a.fields
interim_said text n m a b f g x y = ap (λ (s : RequestHead). interim_of s.minor s.fields) (sym (one_head text n m a b f g x y).parsed)

interim_partial : (text : List ℕ) (len : ℕ) (parsed : RequestHead) (form : BodyForm) (events : List Heard) → HasHead text len parsed form → IsPartialMessage text events
    → IsPrefix (interim_of parsed.minor parsed.fields) events
interim_partial text len parsed form _ h (in_head e) = absurd (not_yet_no_head text len parsed form e h)
interim_partial text len parsed form _ h (in_body m other g k p) =
    let interim : List Heard = interim_of parsed.minor parsed.fields in
    prefix_same interim (interim_of other.minor other.fields) (sym (interim_said text len m parsed other form g h k))

interim_bad : (text : List ℕ) (len : ℕ) (parsed : RequestHead) (form : BodyForm) (events : List Heard) (status : ℕ) → HasHead text len parsed form → IsBadMessage text events status
    → IsPrefix (interim_of parsed.minor parsed.fields) (events ++ heard.Bad status ∷ [])
interim_bad text len parsed form _ _ h (bad_head status b) = absurd (head_not_bad text len parsed form status h b)
interim_bad text len parsed form _ _ h (bad_body m other g fault k f) =
    let bad : List Heard = heard.Bad (refusal_status fault) ∷ [] in
    (bad, ap (λ i. i ++ bad) (sym (interim_said text len m parsed other form g h k)))

interim_request : (text : List ℕ) (len : ℕ) (parsed : RequestHead) (form : BodyForm) (r : Request) (n : ℕ) → HasHead text len parsed form → IsFirstRequest text r n
    → IsPrefix (interim_of parsed.minor parsed.fields) (request_events r)
interim_request text len parsed form r n h x =
    let own : interim_of r.minor r.fields ≡ interim_of x.parsed.minor x.parsed.fields = ap (λ (q : Request). interim_of q.minor q.fields) x.is in
    let one : List Heard = heard.Request r ∷ [] in
    (one, ap (λ i. i ++ one) (sym (own ∙ interim_said text len x.head parsed x.parsed form x.form h x.begins)))

-- the first events after a head are its interim
pub interim_first : (n : ℕ) (text : List ℕ) (len : ℕ) (parsed : RequestHead) (form : BodyForm) (all : List Heard) (rest : ℕ) → HasHead text len parsed form → Parses n text all rest
    → IsPrefix (interim_of parsed.minor parsed.fields) all
interim_first n text len parsed form _ _ h (partly events p) = interim_partial text len parsed form events h p
interim_first n text len parsed form _ _ h (badly events status b) = interim_bad text len parsed form events status h b
interim_first n text len parsed form _ _ h (last r k x which) = interim_request text len parsed form r k h x
interim_first n text len parsed form _ _ h (next r k events rest x stays few behind) =
    let one = interim_request text len parsed form r k h x in
    (one.0 ++ events, sym (append_assoc (interim_of parsed.minor parsed.fields) one.0 events) ∙ ap (λ i. i ++ events) one.1)

-- ---- a longer text

partial_grows : (n : ℕ) (front behind text : List ℕ) (first all : List Heard) (rest : ℕ) → front ++ behind ≡ text → IsPartialMessage front first → Parses n text all rest → IsPrefix first all
partial_grows n front behind text _ all rest e (in_head f) reads = (all, refl)
partial_grows n front behind text _ all rest e (in_body len parsed form h p) reads =
    interim_first n text len parsed form all rest (subst (λ t. HasHead t len parsed form) e (head_stays front behind len parsed form h)) reads

reads_grow : (n : ℕ) (front behind text : List ℕ) (first all : List Heard) (k l : ℕ) → front ++ behind ≡ text → Parses n front first k → Parses n text all l → IsPrefix first all
reads_grow n front behind text _ all _ l e (partly a x) reads = partial_grows n front behind text a all l e x reads
reads_grow n front behind text _ all _ l e (badly a s x) reads =
    let stays : IsBadMessage text a s = subst (λ t. IsBadMessage t a s) e (bad_stays front behind a s x) in
    prefix_same (a ++ heard.Bad s ∷ []) all (reads_one n text (a ++ heard.Bad s ∷ []) all 0 l (badly a s stays) reads).0
reads_grow n front behind text _ all _ l e (last r k x which) reads =
    let stays : IsFirstRequest text r k = subst (λ t. IsFirstRequest t r k) e (first_stays front behind r k x) in
    prefix_same (request_events r) all (reads_one n text (request_events r) all 0 l (last r k stays which) reads).0
reads_grow n front behind text _ _ _ _ e (next r k a i x c f u) (partly b y) =
    absurd (partial_not_first text b r k y (subst (λ t. IsFirstRequest t r k) e (first_stays front behind r k x)))
reads_grow n front behind text _ _ _ _ e (next r k a i x c f u) (badly b s y) =
    absurd (bad_not_first text b s r k y (subst (λ t. IsFirstRequest t r k) e (first_stays front behind r k x)))
reads_grow n front behind text _ _ _ _ e (next r k a i x c f u) (last q m y which) =
    let stays : IsFirstRequest text r k = subst (λ t. IsFirstRequest t r k) e (first_stays front behind r k x) in
    absurd (last_not_next n q r (first_one text q r m k y stays).0 which c f)
reads_grow n front behind text _ _ _ _ e (next r k a i x c f u) (next q m b j y d g v) =
    let stays : IsFirstRequest text r k = subst (λ t. IsFirstRequest t r k) e (first_stays front behind r k x) in
    let one = first_one text r q k m stays y in
    let cut : drop k front ++ behind ≡ drop m text = sym (drop-append-le k front behind x.there) ∙ ap₂ drop one.1 e in
    let others = prefix_after (request_events r) a b (reads_grow (n + 1) (drop k front) behind (drop m text) a b i j cut u v) in
    (others.0, others.1 ∙ ap (λ (p : Request). request_events p ++ b) one.0)

-- The first events of a text are a prefix of its events.
pub events_stay_first : (text : List ℕ) (events all : List Heard) (rest : ℕ) → AreFirstEvents text events → Messages text all rest → IsPrefix events all
events_stay_first text events all rest x m =
    let grown = reads_grow 0 x.prefix x.is_prefix.0 text x.all all x.rest rest x.is_prefix.1 (reads_of x.prefix x.all x.rest x.messages) (reads_of text all rest m) in
    (x.first.0 ++ grown.0, sym (append_assoc events x.first.0 grown.0) ∙ ap (λ h. h ++ grown.0) x.first.1 ∙ grown.1)
