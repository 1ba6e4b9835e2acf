-- A connection whose next interims are written.
use Rattle.std.proofs.Common.{◌≡◌, ◌⊎◌, inl, inr, ℕ, zero, suc, ◌+◌, ◌<◌, ◌≤◌, Bool, true, false, if◌then◌else◌, List, [], ◌∷◌, ◌++◌, length, take, drop, slice_get, Option, Some, None, IfSome, refl, sym, ap, subst, append_assoc, length-append, ◌∙◌, arith}
use Rattle.std.proofs.lemmas.List.{append-nil, drop-drop, take-append-drop, take-append-le, take_more}
use Rattle.std.proofs.lemmas.Option.{get_or_from_slice_get, slice_get_within}
use mathlib.Core.List.{IsPrefix}
use Rattle.pod_base.specs.declared.heard.Heard.{Heard}
use Rattle.pod_base.specs.declared.heard.Heard.TheVariants as heard
use Rattle.pod_base.specs.declared.request.Request.{Request}
use Rattle.http_conn.specs.Messages.{AreFirstEvents, Messages}
use Rattle.pod_core.specs.World.{Connection, IsNextEvent, IsSettled, WritesInterims, first_interims, interims_text, with_input}
use Rattle.request_history.proofs.Events.{none_text, rest_after, take_first, take_then}
use Rattle.request_history.specs.Connections.{HasNext, InputState, IsConnection, IsParsed, Rests, SettlesTo, advanced, connection_of, no_input}

-- ---- what is written after an event

pub settles : (input : InputState) (rest done : ℕ) (switched : Bool) (seen : ℕ) (output longer : List ℕ) (count : ℕ) → Messages input.bytes input.events rest
    → longer ≡ output ++ (if switched then [] else interims_text (drop done input.events))
    → count ≡ (if switched then 0 else length (first_interims (drop done input.events)))
    → SettlesTo (connection_of input done output switched seen) (connection_of input (done + count) longer switched seen)
settles input rest done true seen output longer count m text number =
    let same : done + count ≡ done = omega (arith, number) in
    inl (
      refl,
      λ i. record {
        input = input.bytes;
        output = (text ∙ append-nil output) i;
        done = ap (λ n. take n input.events) same i;
        switched = true;
        seen = seen;
      },
    )
settles input rest done false seen output longer count m text number =
    let events = input.events in
    let next = drop done events in
    let first : take (done + count) events ≡ take done events ++ first_interims next =
    ap (λ n. take (done + n) events) number
    ∙ take_then done (length (first_interims next)) events
    ∙ ap (λ l. take done events ++ l) (take_first next) in
    inr (record {
      later = next;
      rest = rest;
      events = subst (λ (l : List Heard). Messages input.bytes l rest) (sym (take-append-drop done events)) m;
      not_switched = refl;
      new_is = λ i. record {
        input = input.bytes;
        output = text i;
        done = first i;
        switched = false;
        seen = seen;
      };
    })

-- where no interim is next
pub rests : (input : InputState) (rest done : ℕ) (switched : Bool) (seen : ℕ) (output : List ℕ) → Messages input.bytes input.events rest
    → (switched ≡ false → first_interims (drop done input.events) ≡ [])
    → Rests (connection_of input done output switched seen)
rests input rest done true seen output m none = inl (refl, refl)
rests input rest done false seen output m none =
    let events = input.events in
    let next = drop done events in
    inr (record {
      later = next;
      rest = rest;
      events = subst (λ (l : List Heard). Messages input.bytes l rest) (sym (take-append-drop done events)) m;
      not_switched = refl;
      new_is = λ i. record {
        input = input.bytes;
        output = sym (ap (λ t. output ++ t) (none_text next (none refl)) ∙ append-nil output) i;
        done = sym (ap (λ t. take done events ++ t) (none refl) ∙ append-nil (take done events)) i;
        switched = false;
        seen = seen;
      };
    })

-- ---- what follows

abbrev later_events : List Heard → List Heard
later_events [] = []
later_events (heard.Interim ∷ events) = later_events events
later_events (heard.Request request ∷ events) = heard.Request request ∷ events
later_events (heard.Bad status ∷ events) = heard.Bad status ∷ events

split_first : (events : List Heard) → first_interims events ++ later_events events ≡ events
split_first [] = refl
split_first (heard.Interim ∷ events) = ap (λ (l : List Heard). heard.Interim ∷ l) (split_first events)
split_first (heard.Request r ∷ events) = refl
split_first (heard.Bad status ∷ events) = refl

no_more : (events : List Heard) → first_interims (later_events events) ≡ []
no_more [] = refl
no_more (heard.Interim ∷ events) = no_more events
no_more (heard.Request r ∷ events) = refl
no_more (heard.Bad status ∷ events) = refl

-- it has no interim to write any more
pub settled_rests : (old new : Connection) → SettlesTo old new → Rests new
settled_rests old new (inl h) = subst Rests (sym h.1) (inl (h.0, refl))
settled_rests old new (inr w) = subst Rests (sym w.new_is) (inr (record {
  later = later_events w.later;
  rest = w.rest;
  events = subst (λ (l : List Heard). Messages old.input l w.rest) (ap (λ (l : List Heard). old.done ++ l) (sym (split_first w.later)) ∙ sym (append_assoc old.done (first_interims w.later) (later_events w.later))) w.events;
  not_switched = w.not_switched;
  new_is = λ i. record {
    input = old.input;
    output = sym (ap (λ t. (old.output ++ interims_text w.later) ++ t) (none_text (later_events w.later) (no_more w.later)) ∙ append-nil (old.output ++ interims_text w.later)) i;
    done = sym (ap (λ t. (old.done ++ first_interims w.later) ++ t) (no_more w.later) ∙ append-nil (old.done ++ first_interims w.later)) i;
    switched = old.switched;
    seen = old.seen;
  };
}))

pub settled_seen : (old new : Connection) → SettlesTo old new → new.seen ≡ old.seen
settled_seen old new (inl h) = ap (λ (c : Connection). c.seen) h.1
settled_seen old new (inr w) = ap (λ (c : Connection). c.seen) w.new_is

-- ---- a request that is next stays so

pub cancel_left : {A : Type 0} (xs ys zs : List A) → xs ++ ys ≡ xs ++ zs → ys ≡ zs
cancel_left [] ys zs e = e
cancel_left (x ∷ xs) ys zs e = cancel_left xs ys zs (cc e)

abbrev pub EventsStay : Type 0
EventsStay = (text : List ℕ) (events all : List Heard) (rest : ℕ) → AreFirstEvents text events → Messages text all rest → IsPrefix events all

module _ (stay : EventsStay) (old new : Connection) (piece : List ℕ) (request : Request) (n : IsNextEvent old (heard.Request request)) where
  abbrev one : List Heard
  one = heard.Request request ∷ []

  first : AreFirstEvents (old.input ++ piece) (old.done ++ one)
  first = record {
    prefix = old.input;
    is_prefix = (piece, refl);
    all = old.done ++ heard.Request request ∷ n.later;
    rest = n.rest;
    messages = n.events;
    first = (n.later, append_assoc old.done one n.later);
  }

  after : (w : WritesInterims (with_input old piece) new) → (more : List Heard) → w.later ≡ heard.Request request ∷ more → IsNextEvent new (heard.Request request)
  after w more is = subst (λ (c : Connection). IsNextEvent c (heard.Request request)) (sym w.new_is) (record {
    later = more;
    rest = w.rest;
    events = subst (λ (l : List Heard). Messages (old.input ++ piece) l w.rest)
        (ap (λ (l : List Heard). old.done ++ l) is
        ∙ ap (λ (l : List Heard). l ++ heard.Request request ∷ more) (sym (append-nil old.done))
        ∙ ap (λ (l : List Heard). (old.done ++ first_interims l) ++ heard.Request request ∷ more) (sym is)) w.events;
    not_switched = w.not_switched;
  })

  pub keeps_request : SettlesTo (with_input old piece) new → IsNextEvent new (heard.Request request)
  keeps_request (inl h) = absurd (cc (sym h.0 ∙ n.not_switched))
  keeps_request (inr w) =
      let p = stay (old.input ++ piece) (old.done ++ one) (old.done ++ w.later) w.rest first w.events in
      after w p.0 (cancel_left old.done w.later (heard.Request request ∷ p.0) (sym p.1 ∙ append_assoc old.done one p.0))

-- ---- what a connection keeps

pub settled_after : (events : List Heard) (done count : ℕ) (switched : Bool) → count ≡ (if switched then 0 else length (first_interims (drop done events))) → switched ≡ false
    → first_interims (drop (done + count) events) ≡ []
settled_after events done count true number e = absurd (cc e)
settled_after events done count false number e =
    let next = drop done events in
    ap (λ n. first_interims (drop (done + n) events)) number
    ∙ ap first_interims (sym (drop-drop (length (first_interims next)) done events))
    ∙ rest_after next

pub fresh_inside : (input : InputState) → IsParsed input → input ≡ no_input → IsConnection input 0 false
fresh_inside input parsed is = record {
  parsed = parsed;
  within = omega arith;
  settled = λ s. ap (λ (i : InputState). first_interims i.events) is;
}

-- ---- the next event

drop_get : {A : Type 0} (xs : List A) (i : ℕ) (x : A) → slice_get xs i ≡ Some x → drop i xs ≡ x ∷ drop (suc i) xs
drop_get [] i x e = absurd (cc e)
drop_get (y ∷ ys) zero x e =
    let same : y ≡ x = cc e in
    ap (λ z. z ∷ ys) same
drop_get (y ∷ ys) (suc i) x e = drop_get ys i x e

get_drop : {A : Type 0} (xs : List A) (i : ℕ) (x : A) (rest : List A) → drop i xs ≡ x ∷ rest → slice_get xs i ≡ Some x
get_drop [] zero x rest e = absurd (cc e)
get_drop [] (suc i) x rest e = absurd (cc e)
get_drop (y ∷ ys) zero x rest e =
    let same : y ≡ x = cc e in
    ap Some same
get_drop (y ∷ ys) (suc i) x rest e = get_drop ys i x rest e

abbrev pub OneParse : Type 0
OneParse = (text : List ℕ) (one other : List Heard) (rest left : ℕ) → Messages text one rest → Messages text other left → (one ≡ other) × (rest ≡ left)

module _ (once : OneParse) (input : InputState) (rest done : ℕ) (seen : ℕ) (output : List ℕ) (m : Messages input.bytes input.events rest) where
  abbrev here : Bool → Connection
  here switched = connection_of input done output switched seen

  -- what is next is what follows those that are done
  pub next_is : (switched : Bool) (event : Heard) → IsNextEvent (here switched) event → slice_get input.events done ≡ Some event
  next_is switched event n =
      let events = input.events in
      let e = once input.bytes (take done events ++ event ∷ n.later) events n.rest rest n.events m in
      get_drop events done event n.later (cancel_left (take done events) (drop done events) (event ∷ n.later) (take-append-drop done events ∙ sym e.0))

  some_next : (o : Option Heard) → o ≡ slice_get input.events done → IfSome o (IsNextEvent (here false))
  some_next None e = tt
  some_next (Some event) e =
      let events = input.events in
      record {
        later = drop (suc done) events;
        rest = rest;
        events = subst (λ (l : List Heard). Messages input.bytes l rest) (sym (take-append-drop done events) ∙ ap (λ (l : List Heard). take done events ++ l) (drop_get events done event (sym e))) m;
        not_switched = refl;
      }

  pub has_next : (switched : Bool) (o : Option Heard) → o ≡ (if switched then None else slice_get input.events done) → HasNext (here switched) o
  has_next true o e = record {
    is = subst (λ (p : Option Heard). IfSome p (IsNextEvent (here true))) (sym e) tt;
    only = λ event n. absurd (cc n.not_switched);
  }
  has_next false o e = record {
    is = some_next o e;
    only = λ event n. e ∙ next_is false event n;
  }

  -- one more of the events is done
  pub one_more : (switched : Bool) (event : Heard) → IsNextEvent (here switched) event → take (done + 1) input.events ≡ take done input.events ++ event ∷ []
  one_more switched event n =
      let events = input.events in
      let is = next_is switched event n in
      let within : done < length events = slice_get_within events done event is in
      take_more events done event within ∙ ap (λ e. take done events ++ e ∷ []) (get_or_from_slice_get events done event event is)

  pub within_next : (switched : Bool) (event : Heard) → IsNextEvent (here switched) event → done < length input.events
  within_next switched event n = slice_get_within input.events done event (next_is switched event n)

  -- the connection after that
  pub answered_is : (switched : Bool) (new : InputState) (longer text : List ℕ) (after : Bool) (at : ℕ) (event : Heard) → new ≡ input → longer ≡ output ++ text → IsNextEvent (here switched) event
      → connection_of new (done + 1) longer after at ≡ advanced (here switched) event text after at
  answered_is switched new longer text after at event same is n =
      ap (λ (s : InputState). connection_of s (done + 1) longer after at) same
      ∙ (λ i. record {
        input = input.bytes;
        output = is i;
        done = one_more switched event n i;
        switched = after;
        seen = at;
      })

-- with more input
pub arrived_is : (old new : InputState) (piece : List ℕ) (done : ℕ) (output longer : List ℕ) (switched : Bool) (seen : ℕ) → new.bytes ≡ old.bytes ++ piece → IsPrefix old.events new.events
    → done ≤ length old.events → longer ≡ output → connection_of new done longer switched seen ≡ with_input (connection_of old done output switched seen) piece
arrived_is old new piece done output longer switched seen bytes first within same =
    let events : take done new.events ≡ take done old.events = ap (take done) (sym first.1) ∙ take-append-le done old.events first.0 within in
    λ i. record {
      input = bytes i;
      output = same i;
      done = events i;
      switched = switched;
      seen = seen;
    }

pub still_within : (old new : InputState) (done : ℕ) → IsPrefix old.events new.events → done ≤ length old.events → done ≤ length new.events
still_within old new done first within =
    let all : length (old.events ++ first.0) ≡ length new.events = ap length first.1 in
    omega (arith, within, all, length-append old.events first.0)
