-- What is heard behind what was heard.
use Rattle.std.proofs.Common.{◌≡◌, ℕ, ◌+◌, ◌≤◌, true, if◌then◌else◌, List, [], ◌∷◌, ◌++◌, length, Option, Some, None, refl, sym, ap, subst, append_assoc, ◌∙◌, arith}
use Rattle.std.specs.List.{AllByRecursion}
use Rattle.http_out.specs.Text.{interim_text}
use Rattle.pod_base.specs.declared.request.Request.{Request}
use Rattle.pod_base.specs.declared.heard.Heard.{Heard}
use Rattle.pod_base.specs.declared.heard.Heard.TheVariants as heard
use Rattle.http_conn.specs.Messages.{IsLastRequest, NothingAfterEnd, StaysOpen}
use Rattle.pod_core.specs.Output.{item_text, output_of}
use Rattle.pod_core.specs.Session.{Item, bad_status, ends_upgraded, requests_of, upgrades}
use Rattle.conn_talk.specs.Talks.{IsPlain, MayBeSent}

-- the requests of both
pub requests_append : (before hears : List Heard) → requests_of (before ++ hears) ≡ requests_of before ++ requests_of hears
requests_append [] hears = refl
requests_append (heard.Request r ∷ before) hears = ap (λ rest. r ∷ rest) (requests_append before hears)
requests_append (heard.Interim ∷ before) hears = requests_append before hears
requests_append (heard.Bad status ∷ before) hears = requests_append before hears

-- an open connection has refused nothing
pub bad_behind : (count : ℕ) (before hears : List Heard) → StaysOpen count before → bad_status (before ++ hears) ≡ bad_status hears
bad_behind count [] hears h = refl
bad_behind count (heard.Request r ∷ before) hears h = bad_behind (count + 1) before hears h.1
bad_behind count (heard.Interim ∷ before) hears h = bad_behind count before hears h
bad_behind count (heard.Bad status ∷ before) hears h = absurd h

pub stays_append : (count : ℕ) (before hears : List Heard) → StaysOpen count before → StaysOpen (count + length (requests_of before)) hears → StaysOpen count (before ++ hears)
stays_append count [] hears h k = subst (λ n. StaysOpen n hears) (omega arith) k
stays_append count (heard.Request r ∷ before) hears h k = (h.0, stays_append (count + 1) before hears h.1 (subst (λ n. StaysOpen n hears) (omega arith) k))
stays_append count (heard.Interim ∷ before) hears h k = stays_append count before hears h k
stays_append count (heard.Bad status ∷ before) hears h k = absurd h

-- a last request ends what is heard
pub last_ends : (count : ℕ) (before : List Heard) (r : Request) → IsLastRequest (count + length (requests_of before)) r → StaysOpen count (before ++ heard.Request r ∷ []) → ⊥
last_ends count [] r e h = h.0 (subst (λ n. IsLastRequest n r) (omega arith) e)
last_ends count (heard.Request q ∷ before) r e h = last_ends (count + 1) before r (subst (λ n. IsLastRequest n r) (omega arith) e) h.1
last_ends count (heard.Interim ∷ before) r e h = last_ends count before r e h
last_ends count (heard.Bad status ∷ before) r e h = h

pub ends_behind : (count : ℕ) (before hears : List Heard) → StaysOpen count before → NothingAfterEnd count (before ++ hears) → NothingAfterEnd (count + length (requests_of before)) hears
ends_behind count [] hears h e = subst (λ n. NothingAfterEnd n hears) (omega arith) e
ends_behind count (heard.Request r ∷ before) hears h e = subst (λ n. NothingAfterEnd n hears) (omega arith) (ends_behind (count + 1) before hears h.1 e.1)
ends_behind count (heard.Interim ∷ before) hears h e = ends_behind count before hears h e
ends_behind count (heard.Bad status ∷ before) hears h e = absurd h

pub refused_behind : (before hears : List Heard) → AllByRecursion MayBeSent (before ++ hears) → AllByRecursion MayBeSent hears
refused_behind [] hears h = h
refused_behind (one ∷ before) hears h = refused_behind before hears h.1

-- an end that is the last of one is heard there
pub ends_next : (count : ℕ) (one : Heard) (more : List Heard) → NothingAfterEnd count (one ∷ more) → NothingAfterEnd (count + length (requests_of (one ∷ []))) more
ends_next count (heard.Request r) more e = e.1
ends_next count heard.Interim more e = subst (λ n. NothingAfterEnd n more) (omega arith) e
ends_next count (heard.Bad status) more e = subst (NothingAfterEnd (count + 0)) (sym e) tt

-- what was written of what was heard, and then of what is heard behind it
pub output_grows : (count : ℕ) (before hears : List Heard) (items more : List Item) (refusal : Option ℕ) → StaysOpen count before → AllByRecursion IsPlain items → length items ≡ length (requests_of before)
    → output_of (before ++ hears) (items ++ more) refusal ≡ output_of before items None ++ output_of hears more refusal
output_grows count [] hears [] more refusal h p e = refl
output_grows count [] hears (item ∷ items) more refusal h p e = absurd (omega (arith, e))
output_grows count (heard.Interim ∷ before) hears items more refusal h p e =
    ap (λ text. interim_text ++ text) (output_grows count before hears items more refusal h p e)
    ∙ sym (append_assoc interim_text (output_of before items None) (output_of hears more refusal))
output_grows count (heard.Request r ∷ before) hears [] more refusal h p e = absurd (omega (arith, e))
output_grows count (heard.Request r ∷ before) hears (item ∷ items) more refusal h p e =
    let plain = p.0 in
    let whole = output_of (before ++ hears) (items ++ more) refusal in
    let front = output_of before items None in
    ap (λ b. item_text item ++ (if b then [] else whole)) plain
    ∙ ap (λ text. item_text item ++ text) (output_grows (count + 1) before hears items more refusal h.1 p.1 (omega (arith, e)))
    ∙ sym (append_assoc (item_text item) front (output_of hears more refusal))
    ∙ ap (λ b. (item_text item ++ (if b then [] else front)) ++ output_of hears more refusal) (sym plain)
output_grows count (heard.Bad status ∷ before) hears items more refusal h p e = absurd h

pub none_left : {A : Type 0} (xs : List A) → length xs ≡ 0 → xs ≡ []
none_left [] h = refl
none_left (x ∷ xs) h = absurd (omega (arith, h))

pub not_bad : (count : ℕ) (hears : List Heard) (status : ℕ) → StaysOpen count hears → bad_status hears ≡ Some status → ⊥
not_bad count [] status h e = cc
not_bad count (heard.Request r ∷ hears) status h e = not_bad (count + 1) hears status h.1 e
not_bad count (heard.Interim ∷ hears) status h e = not_bad count hears status h e
not_bad count (heard.Bad told ∷ hears) status h e = h

-- nothing is written behind an item that switched protocols, whatever is heard
pub output_stops : (events more : List Heard) (items : List Item) (refusal : Option ℕ) → ends_upgraded items ≡ true → length items ≤ length (requests_of events)
    → output_of (events ++ more) items refusal ≡ output_of events items refusal
output_stops [] more [] refusal h e = absurd cc
output_stops [] more (item ∷ items) refusal h e = absurd (omega (arith, e))
output_stops (heard.Interim ∷ events) more items refusal h e = ap (λ text. interim_text ++ text) (output_stops events more items refusal h e)
output_stops (heard.Request r ∷ events) more [] refusal h e = absurd cc
output_stops (heard.Request r ∷ events) more (item ∷ []) refusal h e =
    let long = output_of (events ++ more) [] refusal in
    let short = output_of events [] refusal in
    ap (λ b. item_text item ++ (if b then [] else long)) h ∙ ap (λ b. item_text item ++ (if b then [] else short)) (sym h)
output_stops (heard.Request r ∷ events) more (item ∷ other ∷ items) refusal h e =
    ap (λ rest. item_text item ++ (if upgrades item.outcome then [] else rest)) (output_stops events more (other ∷ items) refusal h (omega (arith, e)))
output_stops (heard.Bad status ∷ events) more items refusal h e = refl
