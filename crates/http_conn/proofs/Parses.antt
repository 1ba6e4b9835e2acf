-- A text has one parse.
use Rattle.std.proofs.Common.{◌≡◌, inl, inr, true, false, ℕ, ◌+◌, ◌<◌, ◌≤◌, List, [], ◌∷◌, ◌++◌, length, take, drop, Result, Ok, Err, refl, sym, ap, ap₂, subst, ◌∙◌, arith, append_assoc, length-drop}
use Rattle.std.proofs.lemmas.List.{append-nil, take-append-drop, length-take-le}
use Rattle.std.specs.List.{AllByRecursion}
use Rattle.std.proofs.lemmas.Grind.{flat_map-append}
use Rattle.pod_base.specs.declared.request.Request.{Request}
use Rattle.pod_base.specs.declared.heard.Heard.{Heard}
use Rattle.pod_base.specs.declared.heard.Heard.TheVariants as heard
use Rattle.http_head.specs.declared.head_ends.HeadEnd.{HeadEnd}
use Rattle.http_head.specs.declared.head_ends.HeadEnd.TheVariants.{Whole, NotYet, TooLong}
use Rattle.http_head.specs.declared.request_head.RequestHead.{RequestHead}
use Rattle.http_head.specs.declared.body_form.BodyForm.{BodyForm}
use Rattle.http_head.specs.declared.body_framing.FramingFault.{FramingFault}
use Rattle.http_head.specs.declared.body_framing.FramingFault.TheVariants as framing_fault
use Rattle.http_head.specs.HeadEnds.{head_end}
use Rattle.http_head.specs.Heads.{HasTooManyLines, IsMalformedHead, LacksHost, ParsesTo}
use Rattle.http_head.specs.BodyFraming.{framing}
use Rattle.http_head.proofs.HeadLaws.{one_parsed_head, lacks_no_head}
use Rattle.http_payload.specs.Chunks as chunks
use Rattle.http_payload.specs.Bodies.{IsBody, IsFault, IsPartial as IsPartialBody}
use Rattle.http_payload.proofs.LawLemmas.{one_outcome, one_fault, no_fault_at_body, no_fault_at_partial, no_body_at_partial}
use Rattle.http_conn.specs.Messages.{HasHead, IsFirstRequest, Requests, IsBadHead, too_long, too_many, malformed, host, conflict, coding, too_large, IsBadMessage, bad_head, bad_body, refusal_status, IsPartialMessage, in_head, in_body, Messages, unfinished, refused, ended, events_of, request_events, interim_of, with_body, rest_length, closes_connection, IsLastRequest}
use Rattle.http_conn.specs.declared.events.TheConstants.{REQUEST_LIMIT}

length_of : HeadEnd → ℕ
length_of (Whole n) = n
length_of NotYet = 0
length_of TooLong = 0

-- a text has one head
pub same_length : (text : List ℕ) (n m : ℕ) → head_end text ≡ Whole n → head_end text ≡ Whole m → n ≡ m
unfolding length_of
same_length text n m x y = ap length_of (sym x ∙ y)

-- the fault of a complete head, and the status
data Finding (head : List ℕ) : ℕ → Type 0 where
  many : HasTooManyLines head → Finding head 431
  bad : IsMalformedHead head → Finding head 400
  lacks : LacksHost head → Finding head 400
  conflicts : (parsed : RequestHead) → ParsesTo head parsed → framing parsed.minor parsed.fields ≡ Err framing_fault.Conflict → Finding head 400
  codes : (parsed : RequestHead) → ParsesTo head parsed → framing parsed.minor parsed.fields ≡ Err framing_fault.Coding → Finding head 501
  large : (parsed : RequestHead) → ParsesTo head parsed → framing parsed.minor parsed.fields ≡ Err framing_fault.TooLarge → Finding head 413

many_says : (head : List ℕ) (parsed : RequestHead) → HasTooManyLines head → ParsesTo head parsed → ⊥
many_says head parsed h s = omega (arith, h, s.lines)

bad_says : (head : List ℕ) (parsed : RequestHead) → IsMalformedHead head → ParsesTo head parsed → ⊥
bad_says head parsed h s = h.never s.parts s.whole

pub framed_once : (head : List ℕ) (a b : RequestHead) (r s : Result BodyForm FramingFault) → ParsesTo head a → ParsesTo head b → framing a.minor a.fields ≡ r → framing b.minor b.fields ≡ s → r ≡ s
framed_once head a b r s x y f g = sym f ∙ ap (λ (h : RequestHead). framing h.minor h.fields) (one_parsed_head head a b x y) ∙ g

one_finding : (head : List ℕ) (s t : ℕ) → Finding head s → Finding head t → s ≡ t
one_finding head _ _ (many h) (many k) = refl
one_finding head _ _ (many h) (bad k) = absurd (omega (arith, h, k.lines))
one_finding head _ _ (many h) (lacks k) = absurd (omega (arith, h, k.lines))
one_finding head _ _ (many h) (conflicts b y g) = absurd (many_says head b h y)
one_finding head _ _ (many h) (codes b y g) = absurd (many_says head b h y)
one_finding head _ _ (many h) (large b y g) = absurd (many_says head b h y)
one_finding head _ _ (bad h) (many k) = absurd (omega (arith, k, h.lines))
one_finding head _ _ (bad h) (bad k) = refl
one_finding head _ _ (bad h) (lacks k) = refl
one_finding head _ _ (bad h) (conflicts b y g) = refl
one_finding head _ _ (bad h) (codes b y g) = absurd (bad_says head b h y)
one_finding head _ _ (bad h) (large b y g) = absurd (bad_says head b h y)
one_finding head _ _ (lacks h) (many k) = absurd (omega (arith, k, h.lines))
one_finding head _ _ (lacks h) (bad k) = refl
one_finding head _ _ (lacks h) (lacks k) = refl
one_finding head _ _ (lacks h) (conflicts b y g) = refl
one_finding head _ _ (lacks h) (codes b y g) = absurd (lacks_no_head head b h y)
one_finding head _ _ (lacks h) (large b y g) = absurd (lacks_no_head head b h y)
one_finding head _ _ (conflicts a x f) (many k) = absurd (many_says head a k x)
one_finding head _ _ (conflicts a x f) (bad k) = refl
one_finding head _ _ (conflicts a x f) (lacks k) = refl
one_finding head _ _ (conflicts a x f) (conflicts b y g) = refl
one_finding head _ _ (conflicts a x f) (codes b y g) = let e = framed_once head a b (Err framing_fault.Conflict) (Err framing_fault.Coding) x y f g in cc
one_finding head _ _ (conflicts a x f) (large b y g) = let e = framed_once head a b (Err framing_fault.Conflict) (Err framing_fault.TooLarge) x y f g in cc
one_finding head _ _ (codes a x f) (many k) = absurd (many_says head a k x)
one_finding head _ _ (codes a x f) (bad k) = absurd (bad_says head a k x)
one_finding head _ _ (codes a x f) (lacks k) = absurd (lacks_no_head head a k x)
one_finding head _ _ (codes a x f) (conflicts b y g) = let e = framed_once head a b (Err framing_fault.Coding) (Err framing_fault.Conflict) x y f g in cc
one_finding head _ _ (codes a x f) (codes b y g) = refl
one_finding head _ _ (codes a x f) (large b y g) = let e = framed_once head a b (Err framing_fault.Coding) (Err framing_fault.TooLarge) x y f g in cc
one_finding head _ _ (large a x f) (many k) = absurd (many_says head a k x)
one_finding head _ _ (large a x f) (bad k) = absurd (bad_says head a k x)
one_finding head _ _ (large a x f) (lacks k) = absurd (lacks_no_head head a k x)
one_finding head _ _ (large a x f) (conflicts b y g) = let e = framed_once head a b (Err framing_fault.TooLarge) (Err framing_fault.Conflict) x y f g in cc
one_finding head _ _ (large a x f) (codes b y g) = let e = framed_once head a b (Err framing_fault.TooLarge) (Err framing_fault.Coding) x y f g in cc
one_finding head _ _ (large a x f) (large b y g) = refl

-- a bad head is too long, or complete with a fault
data BadHead (text : List ℕ) : ℕ → Type 0 where
  long : head_end text ≡ TooLong → BadHead text 431
  whole : (len status : ℕ) → head_end text ≡ Whole len → Finding (take len text) status → BadHead text status

bad_of : (text : List ℕ) (status : ℕ) → IsBadHead text status → BadHead text status
bad_of text _ (too_long e) = long e
bad_of text _ (too_many len e h) = whole len 431 e (many h)
bad_of text _ (malformed len e h) = whole len 400 e (bad h)
bad_of text _ (host len e h) = whole len 400 e (lacks h)
bad_of text _ (conflict len parsed e h f) = whole len 400 e (conflicts parsed h f)
bad_of text _ (coding len parsed e h f) = whole len 501 e (codes parsed h f)
bad_of text _ (too_large len parsed e h f) = whole len 413 e (large parsed h f)

one_bad : (text : List ℕ) (s t : ℕ) → BadHead text s → BadHead text t → s ≡ t
one_bad text _ _ (long e) (long f) = refl
one_bad text _ _ (long e) (whole m t f k) = cc
one_bad text _ _ (whole n s e h) (long f) = cc
one_bad text _ _ (whole n s e h) (whole m t f k) = one_finding (take n text) s t h (subst (λ i. Finding (take i text) t) (sym (same_length text n m e f)) k)

-- a finding on a head that is framed
framed_not_found : (head : List ℕ) (parsed : RequestHead) (form : BodyForm) (s : ℕ) → ParsesTo head parsed → framing parsed.minor parsed.fields ≡ Ok form → Finding head s → ⊥
framed_not_found head parsed form _ x f (many h) = many_says head parsed h x
framed_not_found head parsed form _ x f (bad h) = bad_says head parsed h x
framed_not_found head parsed form _ x f (lacks h) = lacks_no_head head parsed h x
framed_not_found head parsed form _ x f (conflicts b y g) = let e = framed_once head parsed b (Ok form) (Err framing_fault.Conflict) x y f g in cc
framed_not_found head parsed form _ x f (codes b y g) = let e = framed_once head parsed b (Ok form) (Err framing_fault.Coding) x y f g in cc
framed_not_found head parsed form _ x f (large b y g) = let e = framed_once head parsed b (Ok form) (Err framing_fault.TooLarge) x y f g in cc

-- a head without a fault is not bad
read_not_bad : (text : List ℕ) (len : ℕ) (parsed : RequestHead) (form : BodyForm) (status : ℕ) → HasHead text len parsed form → BadHead text status → ⊥
read_not_bad text len parsed form _ h (long e) = let never : Whole len ≡ TooLong = sym h.ends ∙ e in cc
read_not_bad text len parsed form _ h (whole m s e k) =
    framed_not_found (take len text) parsed form s h.says h.framed (subst (λ i. Finding (take i text) s) (sym (same_length text len m h.ends e)) k)

pub head_not_bad : (text : List ℕ) (len : ℕ) (parsed : RequestHead) (form : BodyForm) (status : ℕ) → HasHead text len parsed form → IsBadHead text status → ⊥
head_not_bad text len parsed form status h b = read_not_bad text len parsed form status h (bad_of text status b)

not_yet_not_bad : (text : List ℕ) (status : ℕ) → head_end text ≡ NotYet → BadHead text status → ⊥
not_yet_not_bad text _ e (long f) = cc
not_yet_not_bad text _ e (whole m s f k) = cc

-- a text begins with one head
pub record OneHead (n m : ℕ) (a b : RequestHead) (f g : BodyForm) : Type 0 where
  pub len : n ≡ m
  pub parsed : a ≡ b
  pub form : f ≡ g

pub one_head : (text : List ℕ) (n m : ℕ) (a b : RequestHead) (f g : BodyForm) → HasHead text n a f → HasHead text m b g → OneHead n m a b f g
one_head text n m a b f g x y =
    let len = same_length text n m x.ends y.ends in
    let says : ParsesTo (take n text) b = subst (λ i. ParsesTo (take i text) b) (sym len) y.says in
    let form : Ok f ≡ Ok g = framed_once (take n text) a b (Ok f) (Ok g) x.says says x.framed y.framed in
    record { len = len; parsed = one_parsed_head (take n text) a b x.says says; form = cc }

pub not_yet_no_head : (text : List ℕ) (n : ℕ) (a : RequestHead) (f : BodyForm) → head_end text ≡ NotYet → HasHead text n a f → ⊥
not_yet_no_head text n a f e x = let never : NotYet ≡ Whole n = sym e ∙ x.ends in cc

-- a body is one, and so is its size
record OneBody (text : List ℕ) (n m : ℕ) (a b : List ℕ) : Type 0 where
  size : n ≡ m
  same : a ≡ b

body_of : chunks.Ending → List ℕ
body_of (chunks.Whole body) = body
body_of chunks.Over = []

one_body : (form : BodyForm) (text : List ℕ) (n m : ℕ) (a b : List ℕ) → n ≤ length text → m ≤ length text → IsBody form (take n text) a → IsBody form (take m text) b → OneBody text n m a b
unfolding body_of
one_body form text n m a b n_there m_there x y =
    let both : take n text ++ drop n text ≡ take m text ++ drop m text = take-append-drop n text ∙ sym (take-append-drop m text) in
    let one = one_outcome form (take n text) (take m text) (drop n text) (drop m text) (chunks.Whole a) (chunks.Whole b) x y both in
    record {
      size = sym (length-take-le n text n_there) ∙ ap length one.0 ∙ length-take-le m text m_there;
      same = ap body_of one.2;
    }

pub first_one : (text : List ℕ) (r q : Request) (n m : ℕ) → IsFirstRequest text r n → IsFirstRequest text q m → (r ≡ q) × (n ≡ m)
first_one text r q n m x y =
    let head = one_head text x.head y.head x.parsed y.parsed x.form y.form x.begins y.begins in
    let behind : List ℕ = drop x.head text in
    let y_body : IsBody x.form (take y.size behind) y.body =
    subst (λ f. IsBody f (take y.size behind) y.body) (sym head.form) (subst (λ h. IsBody y.form (take y.size (drop h text)) y.body) (sym head.len) y.is_body) in
    let x_there : x.size ≤ length behind = omega (arith, length-drop x.head text, x.ends, x.there) in
    let y_there : y.size ≤ length behind = omega (arith, length-drop x.head text, y.ends, y.there, head.len) in
    let body = one_body x.form behind x.size y.size x.body y.body x_there y_there x.is_body y_body in
    (x.is ∙ ap₂ with_body head.parsed body.same ∙ sym y.is, omega (arith, x.ends, y.ends, head.len, body.size))

-- a text that begins with a request is not partial
pub partial_not_first : (text : List ℕ) (events : List Heard) (r : Request) (n : ℕ) → IsPartialMessage text events → IsFirstRequest text r n → ⊥
partial_not_first text _ r n (in_head e) x = not_yet_no_head text x.head x.parsed x.form e x.begins
partial_not_first text _ r n (in_body len parsed form h p) x =
    let head = one_head text len x.head parsed x.parsed form x.form h x.begins in
    let behind : List ℕ = drop len text in
    let body : IsBody form (take x.size behind) x.body =
    subst (λ f. IsBody f (take x.size behind) x.body) (sym head.form) (subst (λ i. IsBody x.form (take x.size (drop i text)) x.body) (sym head.len) x.is_body) in
    no_body_at_partial form (take x.size behind) (drop x.size behind) x.body (subst (IsPartialBody form) (sym (take-append-drop x.size behind)) p) body

pub bad_not_first : (text : List ℕ) (events : List Heard) (status : ℕ) (r : Request) (n : ℕ) → IsBadMessage text events status → IsFirstRequest text r n → ⊥
bad_not_first text _ _ r n (bad_head status b) x = head_not_bad text x.head x.parsed x.form status x.begins b
bad_not_first text _ _ r n (bad_body len parsed form fault h f) x =
    let head = one_head text len x.head parsed x.parsed form x.form h x.begins in
    let behind : List ℕ = drop len text in
    let body : IsBody form (take x.size behind) x.body =
    subst (λ f. IsBody f (take x.size behind) x.body) (sym head.form) (subst (λ i. IsBody x.form (take x.size (drop i text)) x.body) (sym head.len) x.is_body) in
    no_fault_at_body form (take x.size behind) (drop x.size behind) x.body fault body (subst (λ t. IsFault form t fault) (sym (take-append-drop x.size behind)) f)

partial_not_bad : (text : List ℕ) (a b : List Heard) (status : ℕ) → IsPartialMessage text a → IsBadMessage text b status → ⊥
partial_not_bad text _ _ _ (in_head e) (bad_head status b) = not_yet_not_bad text status e (bad_of text status b)
partial_not_bad text _ _ _ (in_head e) (bad_body len parsed form fault h f) = not_yet_no_head text len parsed form e h
partial_not_bad text _ _ _ (in_body len parsed form h p) (bad_head status b) = head_not_bad text len parsed form status h b
partial_not_bad text _ _ _ (in_body len parsed form h p) (bad_body m other g fault k f) =
    let head = one_head text len m parsed other form g h k in
    no_fault_at_partial form (drop len text) fault p
    (subst (λ x. IsFault x (drop len text) fault) (sym head.form) (subst (λ i. IsFault g (drop i text) fault) (sym head.len) f))

partial_one : (text : List ℕ) (a b : List Heard) → IsPartialMessage text a → IsPartialMessage text b → a ≡ b
partial_one text _ _ (in_head e) (in_head f) = refl
partial_one text _ _ (in_head e) (in_body m other g k q) = absurd (not_yet_no_head text m other g e k)
partial_one text _ _ (in_body len parsed form h p) (in_head f) = absurd (not_yet_no_head text len parsed form f h)
partial_one text _ _ (in_body len parsed form h p) (in_body m other g k q) =
    let head = one_head text len m parsed other form g h k in
    ap (λ (s : RequestHead). interim_of s.minor s.fields) head.parsed

bad_one : (text : List ℕ) (a b : List Heard) (s t : ℕ) → IsBadMessage text a s → IsBadMessage text b t → (a ≡ b) × (s ≡ t)
bad_one text _ _ _ _ (bad_head s x) (bad_head t y) = (refl, one_bad text s t (bad_of text s x) (bad_of text t y))
bad_one text _ _ _ _ (bad_head s x) (bad_body m other g fault k f) = absurd (head_not_bad text m other g s k x)
bad_one text _ _ _ _ (bad_body len parsed form fault h f) (bad_head t y) = absurd (head_not_bad text len parsed form t h y)
bad_one text _ _ _ _ (bad_body len parsed form fault h f) (bad_body m other g second k e) =
    let head = one_head text len m parsed other form g h k in
    let same : IsFault form (drop len text) second = subst (λ x. IsFault x (drop len text) second) (sym head.form) (subst (λ i. IsFault g (drop i text) second) (sym head.len) e) in
    (ap (λ (s : RequestHead). interim_of s.minor s.fields) head.parsed, ap refusal_status (one_fault form (drop len text) fault second f same))

-- A parse of a text after n requests, one request after the other.
pub data Parses : ℕ → List ℕ → List Heard → ℕ → Type 0 where
  partly : {n : ℕ} {text : List ℕ} (events : List Heard) → IsPartialMessage text events → Parses n text events (rest_length text)
  badly : {n : ℕ} {text : List ℕ} (events : List Heard) (status : ℕ) → IsBadMessage text events status → Parses n text (events ++ heard.Bad status ∷ []) 0
  last : {n : ℕ} {text : List ℕ} (r : Request) (len : ℕ) → IsFirstRequest text r len → IsLastRequest n r → Parses n text (request_events r) 0
  next : {n : ℕ} {text : List ℕ} (r : Request) (len : ℕ) (events : List Heard) (rest : ℕ) → IsFirstRequest text r len → closes_connection r ≡ false → n + 1 < REQUEST_LIMIT → Parses (n + 1) (drop len text) events rest
      → Parses n text (request_events r ++ events) rest

pub last_not_next : (n : ℕ) (r q : Request) → r ≡ q → IsLastRequest n r → closes_connection q ≡ false → n + 1 < REQUEST_LIMIT → ⊥
last_not_next n r q same (inl closing) stays few =
    let never : true ≡ false = sym closing ∙ ap closes_connection same ∙ stays in
    cc
last_not_next n r q same (inr full) stays few = omega (arith, full, few)

pub reads_one : (n : ℕ) (text : List ℕ) (a b : List Heard) (k l : ℕ) → Parses n text a k → Parses n text b l → (a ≡ b) × (k ≡ l)
reads_one n text _ _ _ _ (partly a x) (partly b y) = (partial_one text a b x y, refl)
reads_one n text _ _ _ _ (partly a x) (badly b t y) = absurd (partial_not_bad text a b t x y)
reads_one n text _ _ _ _ (partly a x) (last q m y w) = absurd (partial_not_first text a q m x y)
reads_one n text _ _ _ _ (partly a x) (next q m b l y c f z) = absurd (partial_not_first text a q m x y)
reads_one n text _ _ _ _ (badly a s x) (partly b y) = absurd (partial_not_bad text b a s y x)
reads_one n text _ _ _ _ (badly a s x) (badly b t y) =
    let one = bad_one text a b s t x y in
    (ap₂ (λ (h : List Heard) (i : ℕ). h ++ heard.Bad i ∷ []) one.0 one.1, refl)
reads_one n text _ _ _ _ (badly a s x) (last q m y w) = absurd (bad_not_first text a s q m x y)
reads_one n text _ _ _ _ (badly a s x) (next q m b l y c f z) = absurd (bad_not_first text a s q m x y)
reads_one n text _ _ _ _ (last r k x v) (partly b y) = absurd (partial_not_first text b r k y x)
reads_one n text _ _ _ _ (last r k x v) (badly b t y) = absurd (bad_not_first text b t r k y x)
reads_one n text _ _ _ _ (last r k x v) (last q m y w) = (ap request_events (first_one text r q k m x y).0, refl)
reads_one n text _ _ _ _ (last r k x v) (next q m b l y c f z) = absurd (last_not_next n r q (first_one text r q k m x y).0 v c f)
reads_one n text _ _ _ _ (next r k a i x d e u) (partly b y) = absurd (partial_not_first text b r k y x)
reads_one n text _ _ _ _ (next r k a i x d e u) (badly b t y) = absurd (bad_not_first text b t r k y x)
reads_one n text _ _ _ _ (next r k a i x d e u) (last q m y w) = absurd (last_not_next n q r (first_one text q r m k y x).0 w d e)
reads_one n text _ _ _ _ (next r k a i x d e u) (next q m b l y c f z) =
    let first = first_one text r q k m x y in
    let rest = reads_one (n + 1) (drop k text) a b i l u (subst (λ j. Parses (n + 1) (drop j text) b l) (sym first.1) z) in
    (ap₂ (λ (p : Request) (h : List Heard). request_events p ++ h) first.0 rest.0, rest.1)

-- requests, and then a parse of what is left
reads_behind : (requests : List Request) (n : ℕ) (text left : List ℕ) (events : List Heard) (rest : ℕ) → Requests text requests left → AllByRecursion (λ r. closes_connection r ≡ false) requests
    → n + length requests < REQUEST_LIMIT → Parses (n + length requests) left events rest → Parses n text (events_of requests ++ events) rest
reads_behind [] n text left events rest h stays few reads = subst (λ t. Parses n t events rest) (sym h) (subst (λ i. Parses i left events rest) (omega arith) reads)
reads_behind (r ∷ requests) n text left events rest h stays few reads =
    let count : n + length (r ∷ requests) ≡ (n + 1) + length requests = omega arith in
    let behind = reads_behind requests (n + 1) (drop h.0 text) left events rest h.2 stays.1 (omega (arith, few, count)) (subst (λ i. Parses i left events rest) count reads) in
    subst (λ all. Parses n text all rest) (sym (append_assoc (request_events r) (events_of requests) events)) (next r h.0 (events_of requests ++ events) rest h.1 stays.0 (omega (arith, few, count)) behind)

record Split (text : List ℕ) (requests : List Request) (r : Request) : Type 0 where
  left : List ℕ
  len : ℕ
  reads : Requests text requests left
  first : IsFirstRequest left r len

split : (requests : List Request) (text rest : List ℕ) (r : Request) → Requests text (requests ++ r ∷ []) rest → Split text requests r
split [] text rest r h = record { left = text; len = h.0; reads = refl; first = h.1 }
split (q ∷ requests) text rest r h =
    let others = split requests (drop h.0 text) rest r h.2 in
    record { left = others.left; len = others.len; reads = (h.0, h.1, others.reads); first = others.first }

-- each parse of Messages is such a parse
pub reads_of : (text : List ℕ) (events : List Heard) (rest : ℕ) → Messages text events rest → Parses 0 text events rest
reads_of text _ _ (unfinished requests left events reads stays p) =
    reads_behind requests 0 text left events (rest_length left) reads stays.stays (omega (arith, stays.few)) (partly events p)
reads_of text _ _ (refused requests left events status reads stays b) =
    reads_behind requests 0 text left (events ++ heard.Bad status ∷ []) 0 reads stays.stays (omega (arith, stays.few)) (badly events status b)
reads_of text _ _ (ended requests r left reads stays which) =
    let parts = split requests text left r reads in
    let all : events_of requests ++ request_events r ≡ events_of (requests ++ r ∷ []) = ap (λ h. events_of requests ++ h) (sym (append-nil (request_events r))) ∙ sym (flat_map-append request_events requests (r ∷ [])) in
    let count : length requests ≡ 0 + length requests = omega arith in
    subst (λ h. Parses 0 text h 0) all
    (reads_behind requests 0 text parts.left (request_events r) 0 parts.reads stays.stays (omega (arith, stays.few)) (last r parts.len parts.first (subst (λ i. IsLastRequest i r) count which)))

-- A text has one parse.
pub messages_one : (text : List ℕ) (one other : List Heard) (rest left : ℕ) → Messages text one rest → Messages text other left → (one ≡ other) × (rest ≡ left)
messages_one text one other rest left x y = reads_one 0 text one other rest left (reads_of text one rest x) (reads_of text other left y)
