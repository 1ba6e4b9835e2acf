-- Events of a connection, items that answer them, and what is written.
use Rattle.std.proofs.Common.{◌≡◌, ℕ, zero, suc, ◌+◌, ◌≤◌, true, false, if◌then◌else◌, List, [], ◌∷◌, ◌++◌, length, map, Option, None, refl, sym, ap, append_assoc, ◌∙◌, arith}
use Rattle.std.specs.List.{AllByRecursion, range_with_len}
use Rattle.std.proofs.lemmas.List.{append-nil}
use Rattle.http_out.specs.Text.{interim_text}
use Rattle.http_conn.specs.Messages.{NothingAfterEnd}
use Rattle.pod_base.specs.declared.heard.Heard.{Heard}
use Rattle.pod_base.specs.declared.heard.Heard.TheVariants as heard
use Rattle.pod_base.specs.declared.request.Request.{Request}
use Rattle.pod_core.specs.Output.{item_text, output_of}
use Rattle.pod_core.specs.Session.{Item, NeverFalls, UpgradesLast, has_bad, ends_upgraded, requests_of, upgrades}
use Rattle.pod_core.specs.World.{first_interims, interims_text}

-- ---- lists

pub map_snoc : {A B : Type 0} (f : A → B) (xs : List A) (x : A) → map f (xs ++ x ∷ []) ≡ map f xs ++ f x ∷ []
map_snoc f [] x = refl
map_snoc f (y ∷ xs) x = ap (λ rest. f y ∷ rest) (map_snoc f xs x)

pub all_snoc : {A : Type 0} (P : A → Type 0) (xs : List A) (x : A) → AllByRecursion P xs → P x → AllByRecursion P (xs ++ x ∷ [])
all_snoc P [] x h p = (p, tt)
all_snoc P (y ∷ xs) x h p = (h.0, all_snoc P xs x h.1 p)

pub length-map : {A B : Type 0} (f : A → B) (xs : List A) → length (map f xs) ≡ length xs
length-map f [] = refl
length-map f (x ∷ xs) = ap suc (length-map f xs)

pub range_snoc : (from count : ℕ) → range_with_len from (count + 1) ≡ range_with_len from count ++ (from + count) ∷ []
range_snoc from zero = ap (λ n. n ∷ []) (omega arith)
range_snoc from (suc count) =
    let next : suc count + 1 ≡ suc (count + 1) = omega arith in
    ap (range_with_len from) next ∙ ap (λ rest. from ∷ rest) (range_snoc (from + 1) count)
    ∙ ap (λ n. from ∷ (range_with_len (from + 1) count ++ n ∷ [])) (omega arith)

pub falls_append : (before middle after : ℕ) (xs ys : List ℕ) → NeverFalls before xs middle → NeverFalls middle ys after → NeverFalls before (xs ++ ys) after
falls_append before middle after [] ys h k = lower before middle after ys h k
  where
    lower : (a b c : ℕ) (zs : List ℕ) → a ≤ b → NeverFalls b zs c → NeverFalls a zs c
    lower a b c [] h k = omega arith
    lower a b c (z ∷ zs) h k = (omega (arith, k.0), k.1)
falls_append before middle after (x ∷ xs) ys h k = (h.0, falls_append x middle after xs ys h.1 k)

pub cancel_left : {A : Type 0} (xs ys zs : List A) → xs ++ ys ≡ xs ++ zs → ys ≡ zs
cancel_left [] ys zs e = e
cancel_left (x ∷ xs) ys zs e = cancel_left xs ys zs (cc e)

-- ---- events without a refusal

abbrev pub NoBad : List Heard → Type 0
NoBad [] = Unit {0}
NoBad (heard.Request r ∷ events) = NoBad events
NoBad (heard.Interim ∷ events) = NoBad events
NoBad (heard.Bad status ∷ events) = ⊥

pub no_bad_append : (before more : List Heard) → NoBad before → NoBad more → NoBad (before ++ more)
no_bad_append [] more h k = k
no_bad_append (heard.Request r ∷ before) more h k = no_bad_append before more h k
no_bad_append (heard.Interim ∷ before) more h k = no_bad_append before more h k
no_bad_append (heard.Bad status ∷ before) more h k = absurd h

pub requests_append : (before hears : List Heard) → requests_of (before ++ hears) ≡ requests_of before ++ requests_of hears
requests_append [] hears = refl
requests_append (heard.Request r ∷ before) hears = ap (λ rest. r ∷ rest) (requests_append before hears)
requests_append (heard.Interim ∷ before) hears = requests_append before hears
requests_append (heard.Bad status ∷ before) hears = requests_append before hears

pub bad_after : (before : List Heard) (status : ℕ) (more : List Heard) → has_bad (before ++ heard.Bad status ∷ more) ≡ true
bad_after [] status more = refl
bad_after (heard.Request r ∷ before) status more = bad_after before status more
bad_after (heard.Interim ∷ before) status more = bad_after before status more
bad_after (heard.Bad other ∷ before) status more = refl

-- no event follows a malformed message
pub nothing_more : (count : ℕ) (events more : List Heard) → has_bad events ≡ true → NothingAfterEnd count (events ++ more) → more ≡ []
nothing_more count [] more bad ends = absurd cc
nothing_more count (heard.Interim ∷ events) more bad ends = nothing_more count events more bad ends
nothing_more count (heard.Request r ∷ events) more bad ends = nothing_more (count + 1) events more bad ends.1
nothing_more count (heard.Bad status ∷ []) more bad ends = ends
nothing_more count (heard.Bad status ∷ (one ∷ events)) more bad ends = absurd cc

-- ---- interims

abbrev pub later_events : List Heard → List Heard
later_events [] = []
later_events (heard.Interim ∷ events) = later_events events
later_events (heard.Request request ∷ events) = heard.Request request ∷ events
later_events (heard.Bad status ∷ events) = heard.Bad status ∷ events

pub interims_first : (later : List Heard) → later ≡ first_interims later ++ later_events later
interims_first [] = refl
interims_first (heard.Interim ∷ later) = ap (λ rest. heard.Interim ∷ rest) (interims_first later)
interims_first (heard.Request r ∷ later) = refl
interims_first (heard.Bad status ∷ later) = refl

pub none_after : (later : List Heard) → interims_text (later_events later) ≡ []
none_after [] = refl
none_after (heard.Interim ∷ later) = none_after later
none_after (heard.Request r ∷ later) = refl
none_after (heard.Bad status ∷ later) = refl

pub interims_no_bad : (later : List Heard) → NoBad (first_interims later)
interims_no_bad [] = tt
interims_no_bad (heard.Interim ∷ later) = interims_no_bad later
interims_no_bad (heard.Request r ∷ later) = tt
interims_no_bad (heard.Bad status ∷ later) = tt

pub interims_no_request : (later : List Heard) → requests_of (first_interims later) ≡ []
interims_no_request [] = refl
interims_no_request (heard.Interim ∷ later) = interims_no_request later
interims_no_request (heard.Request r ∷ later) = refl
interims_no_request (heard.Bad status ∷ later) = refl

-- ---- what is written

abbrev pub IsPlain : Item → Type 0
IsPlain item = upgrades item.outcome ≡ false

pub plain_all : (items : List Item) → AllByRecursion IsPlain items → UpgradesLast items
plain_all [] h = tt
plain_all (item ∷ []) h = tt
plain_all (item ∷ other ∷ items) h = (h.0, plain_all (other ∷ items) h.1)

pub plain_last : (items : List Item) (item : Item) → AllByRecursion IsPlain items → UpgradesLast (items ++ item ∷ [])
plain_last [] item h = tt
plain_last (one ∷ []) item h = (h.0, tt)
plain_last (one ∷ other ∷ items) item h = (h.0, plain_last (other ∷ items) item h.1)

pub plain_open : (items : List Item) → AllByRecursion IsPlain items → ends_upgraded items ≡ false
plain_open [] h = refl
plain_open (item ∷ []) h = h.0
plain_open (item ∷ other ∷ items) h = plain_open (other ∷ items) h.1

pub last_upgraded : (items : List Item) (item : Item) → upgrades item.outcome ≡ true → ends_upgraded (items ++ item ∷ []) ≡ true
last_upgraded [] item h = h
last_upgraded (one ∷ []) item h = h
last_upgraded (one ∷ other ∷ items) item h = last_upgraded (other ∷ items) item h

-- of events that are done, and then of others
pub output_grows : (before hears : List Heard) (items more : List Item) (refusal : Option ℕ) → NoBad before → AllByRecursion IsPlain items → length items ≡ length (requests_of before)
    → output_of (before ++ hears) (items ++ more) refusal ≡ output_of before items None ++ output_of hears more refusal
output_grows [] hears [] more refusal h p e = refl
output_grows [] hears (item ∷ items) more refusal h p e = absurd (omega (arith, e))
output_grows (heard.Interim ∷ before) hears items more refusal h p e =
    ap (λ text. interim_text ++ text) (output_grows before hears items more refusal h p e)
    ∙ sym (append_assoc interim_text (output_of before items None) (output_of hears more refusal))
output_grows (heard.Request r ∷ before) hears [] more refusal h p e = absurd (omega (arith, e))
output_grows (heard.Request r ∷ before) hears (item ∷ items) more refusal h p e =
    let plain = p.0 in
    let whole = output_of (before ++ hears) (items ++ more) refusal in
    let front = output_of before items None in
    ap (λ b. item_text item ++ (if b then [] else whole)) plain
    ∙ ap (λ text. item_text item ++ text) (output_grows before hears items more refusal h p.1 (omega (arith, e)))
    ∙ sym (append_assoc (item_text item) front (output_of hears more refusal))
    ∙ ap (λ b. (item_text item ++ (if b then [] else front)) ++ output_of hears more refusal) (sym plain)
output_grows (heard.Bad status ∷ before) hears items more refusal h p e = absurd h

-- nothing is written behind an item that switched protocols, whatever is heard
pub output_stops : (events more : List Heard) (items : List Item) (refusal : Option ℕ) → ends_upgraded items ≡ true → length items ≤ length (requests_of events)
    → output_of (events ++ more) items refusal ≡ output_of events items refusal
output_stops [] more [] refusal h e = absurd cc
output_stops [] more (item ∷ items) refusal h e = absurd (omega (arith, e))
output_stops (heard.Interim ∷ events) more items refusal h e = ap (λ text. interim_text ++ text) (output_stops events more items refusal h e)
output_stops (heard.Request r ∷ events) more [] refusal h e = absurd cc
output_stops (heard.Request r ∷ events) more (item ∷ []) refusal h e =
    let long = output_of (events ++ more) [] refusal in
    let short = output_of events [] refusal in
    ap (λ b. item_text item ++ (if b then [] else long)) h ∙ ap (λ b. item_text item ++ (if b then [] else short)) (sym h)
output_stops (heard.Request r ∷ events) more (item ∷ other ∷ items) refusal h e =
    ap (λ rest. item_text item ++ (if upgrades item.outcome then [] else rest)) (output_stops events more (other ∷ items) refusal h (omega (arith, e)))
output_stops (heard.Bad status ∷ events) more items refusal h e = refl

-- without an item only interims are written
pub interims_written : (later : List Heard) → output_of later [] None ≡ interims_text later
interims_written [] = refl
interims_written (heard.Interim ∷ later) = ap (λ text. interim_text ++ text) (interims_written later)
interims_written (heard.Request r ∷ later) = refl
interims_written (heard.Bad status ∷ later) = refl

pub first_written : (later : List Heard) → output_of (first_interims later) [] None ≡ interims_text later
first_written [] = refl
first_written (heard.Interim ∷ later) = ap (λ text. interim_text ++ text) (first_written later)
first_written (heard.Request r ∷ later) = refl
first_written (heard.Bad status ∷ later) = refl

-- one item
pub item_written : (r : Request) (item : Item) → output_of (heard.Request r ∷ []) (item ∷ []) None ≡ item_text item
item_written r item = elim (upgrades item.outcome) as (λ b. item_text item ++ (if b then [] else []) ≡ item_text item) [
  | true ↦ append-nil (item_text item)
  | false ↦ append-nil (item_text item)
]
