-- A turn of a connection, whatever answers.
use Rattle.std.proofs.Common.{◌≡◌, inl, inr, ℕ, ◌+◌, ◌<◌, ◌≤◌, ◌==◌, Bool, true, false, if◌then◌else◌, List, [], ◌∷◌, ◌++◌, length, map, take, Option, Some, None, is_some, Result, Ok, Err, IfErr, refl, sym, ap, ap₂, subst, append_assoc, length-append, ◌∙◌, ◌⊎◌, arith}
use Rattle.std.specs.List.{range_with_len}
use Rattle.std.proofs.lemmas.Bool.{or_cases, or_parts}
use Rattle.std.proofs.lemmas.Bool.Decides.{nat_tests}
use Rattle.std.proofs.lemmas.List.{append-nil, length-map}
use mathlib.Core.List.{IsPrefix}
use Rattle.http_conn.specs.Messages.{IsLastRequest, NothingAfterEnd, StaysOpen, closes_connection}
use Rattle.http_conn.specs.declared.events.TheConstants.{REQUEST_LIMIT}
use Rattle.http_out.specs.Text.{interim_text}
use Rattle.pod_io.specs.Writing.{ExtendsBy, Writes}
use Rattle.pod_io.proofs.Extending.{nothing_added}
use Rattle.pod_base.specs.Counts.{CountIncreased}
use Rattle.pod_base.specs.declared.request.Request.{Request}
use Rattle.pod_base.specs.declared.heard.Heard.{Heard}
use Rattle.pod_base.specs.declared.heard.Heard.TheVariants as heard
use Rattle.pod_core.specs.Output.{closes_after, item_text, output_of}
use Rattle.pod_core.specs.Session.{IsClockMoment, IsRefused, Item, bad_status, requests_of, upgrades}
use Rattle.conn_talk.specs.Steps.{IsOver, IsTurned, MayEnd, RefusedAs, WritesBoth, WritesNothing, AnsweredSo, refusal_bytes}
use Rattle.conn_talk.specs.Talks.{AreItems, Chain, CountsWrites, Ends, EndsPart, EndsUnplaced, EndsWhole, IsAll, IsPlain, Talks, Ticks, Turns}
use Rattle.conn_talk.specs.Trails.{trail_of}
use Rattle.conn_talk.specs.Turns.{Rules}
use Rattle.conn_talk.specs.declared.talk_end.TalkEnd.{TalkEnd}
use Rattle.conn_talk.specs.declared.talk_end.TalkEnd.TheVariants.{Closed, Limit, Upgraded, Bad, WriteFault, NoMemory, NoPlace}
use Rattle.conn_talk.proofs.HeardLemmas.{bad_behind, last_ends, output_grows, requests_append, stays_append}
use Rattle.conn_talk.proofs.ItemLemmas.{last_end, plain_all, plain_end, plain_last, trail_append}
use Rattle.conn_talk.proofs.ListLemmas.{all_snoc, front_of_more, map_snoc, range_snoc, whole_front}

-- the number stays below the limit after a request that isn't the last
pub stays_few : (number : ℕ) (request : Request) → number < REQUEST_LIMIT → closes_after request (number + 1) ≡ false → number + 1 < REQUEST_LIMIT
stays_few number request few h =
    let parts = or_parts (closes_connection request) (number + 1 == REQUEST_LIMIT) h in
    let other : number + 1 ≡ REQUEST_LIMIT → ⊥ = λ e. grind (arith, nat_tests) in
    omega (arith, few, other)

-- a request is the last exactly where the connection closes behind it
pub end_of : (count : ℕ) (request : Request) → closes_after request (count + 1) ≡ true → IsLastRequest count request
end_of count request h = elim (or_cases (closes_connection request) (count + 1 == REQUEST_LIMIT) h) [
  | inl closing ↦ inl closing
  | inr many ↦ inr (grind (arith, nat_tests, many))
]

pub no_end_of : (count : ℕ) (request : Request) → closes_after request (count + 1) ≡ false → IsLastRequest count request → ⊥
no_end_of count request h (inl closing) =
    let parts = or_parts (closes_connection request) (count + 1 == REQUEST_LIMIT) h in
    cc
no_end_of count request h (inr many) =
    let parts = or_parts (closes_connection request) (count + 1 == REQUEST_LIMIT) h in
    grind (arith, nat_tests)

module _ {A : Type 0} (rules : Rules A) where
  pub chain_more : (old mid new : A) (items : List Item) (item : Item) → Chain rules old items mid → Ticks rules mid item new → Chain rules old (items ++ item ∷ []) new
  chain_more old mid new [] item is t = (new, subst (λ a. Ticks rules a item new) is t, refl)
  chain_more old mid new (x ∷ xs) item c t = (c.0, c.1, chain_more c.0 mid new xs item c.2 t)

  -- before all events
  pub talks_none : (holder : A) → Talks rules holder holder 0 [] [] []
  talks_none holder = record {
    items = [];
    are_items = record { chain = refl; numbers = refl; asked = tt };
    requests = refl;
    plain = tt;
    number_is = refl;
    stays = tt;
    output = refl;
    lines = refl;
  }

  -- whole events are ones that were cut off
  pub whole_part : (upgraded : Bool) (number : ℕ) (first holder : A) (events : List Heard) (written trail : List ℕ) (e : EndsWhole rules upgraded first holder events written trail) → number ≤ length e.items → EndsPart rules number first holder events written trail
  whole_part upgraded number first holder events written trail e answered = record {
    items = e.items;
    refusal = e.refusal;
    are_items = e.are_items;
    requests = whole_front _ _ e.requests;
    last = e.last;
    refused = e.refused;
    output = whole_front _ _ e.output;
    lines = whole_front _ _ e.lines;
    answered = answered;
  }

  module _ (first holder : A) (talked : ℕ) (before : List Heard) (written trail : List ℕ) (t : Talks rules first holder talked before written trail) where
    pub items_count : length t.items ≡ length (requests_of before)
    items_count = sym (length-map t.items (λ (i : Item). i.request)) ∙ ap length t.requests

    pub count_is : 0 + length (requests_of before) ≡ talked
    count_is = omega (arith, t.number_is, items_count)

    no_bad : bad_status before ≡ None
    no_bad = ap bad_status (sym (append-nil before)) ∙ bad_behind 0 before [] t.stays

    -- all events so far were answered
    pub talks_whole : EndsWhole rules false first holder before written trail
    talks_whole = record {
      items = t.items;
      refusal = None;
      are_items = t.are_items;
      requests = t.requests;
      last = plain_all t.items t.plain;
      upgraded_is = plain_end t.items t.plain;
      refused = tt;
      refuses = sym (ap is_some no_bad);
      output = t.output;
      lines = t.lines;
    }

    pub talks_part : EndsPart rules talked first holder before written trail
    unfolding talks_whole
    talks_part =
        let all : talked ≤ length t.items = omega (arith, t.number_is) in
        whole_part false talked first holder before written trail talks_whole all

    same_lines : trail ++ [] ≡ trail_of rules.trails t.items
    same_lines = append-nil trail ∙ t.lines

    -- an event that is no request
    idle : (one : Heard) → requests_of (one ∷ []) ≡ [] → map (λ (i : Item). i.request) t.items ≡ requests_of (before ++ one ∷ [])
    idle one none = t.requests ∙ sym (requests_append before (one ∷ []) ∙ (ap (λ rs. requests_of before ++ rs) none ∙ append-nil (requests_of before)))

    output_more : (one : Heard) (more : List Item) (refusal : Option ℕ) → written ++ output_of (one ∷ []) more refusal ≡ output_of (before ++ one ∷ []) (t.items ++ more) refusal
    output_more one more refusal = ap (λ w. w ++ output_of (one ∷ []) more refusal) t.output ∙ sym (output_grows 0 before (one ∷ []) t.items more refusal t.stays t.plain items_count)

    output_idle : (one : Heard) (refusal : Option ℕ) → written ++ output_of (one ∷ []) [] refusal ≡ output_of (before ++ one ∷ []) t.items refusal
    output_idle one refusal = output_more one [] refusal ∙ ap (λ xs. output_of (before ++ one ∷ []) xs refusal) (append-nil t.items)

    -- ---- `100 Continue`
    interim_all : written ++ interim_text ≡ output_of (before ++ heard.Interim ∷ []) t.items None
    interim_all = ap (λ x. written ++ x) (sym (append-nil interim_text)) ∙ output_idle heard.Interim None

    -- it was written
    pub goes_invited : Talks rules first holder talked (before ++ heard.Interim ∷ []) (written ++ interim_text) (trail ++ [])
    goes_invited = record {
      items = t.items;
      are_items = t.are_items;
      requests = idle heard.Interim refl;
      plain = t.plain;
      number_is = t.number_is;
      stays = stays_append 0 before (heard.Interim ∷ []) t.stays tt;
      output = interim_all;
      lines = same_lines;
    }

    -- a prefix of it was written
    pub stops_inviting : (count : ℕ) → EndsPart rules talked first holder (before ++ heard.Interim ∷ []) (written ++ take count interim_text) (trail ++ [])
    stops_inviting count = record {
      items = t.items;
      refusal = None;
      are_items = t.are_items;
      requests = whole_front _ _ (idle heard.Interim refl);
      last = plain_all t.items t.plain;
      refused = tt;
      output = subst (IsPrefix (written ++ take count interim_text)) interim_all (front_of_more written interim_text count);
      lines = whole_front _ _ same_lines;
      answered = omega (arith, t.number_is);
    }

    -- ---- a malformed message
    is_bad : (status : ℕ) → bad_status (before ++ heard.Bad status ∷ []) ≡ Some status
    is_bad status = bad_behind 0 before (heard.Bad status ∷ []) t.stays

    is_refused : (status moment : ℕ) → IsClockMoment rules.may_give moment → IsRefused rules.may_give (before ++ heard.Bad status ∷ []) t.items moment
    is_refused status moment r = record {
      bad = ap is_some (is_bad status);
      all = sym (length-map t.items (λ (i : Item). i.request)) ∙ ap length (idle (heard.Bad status) refl);
      open_still = plain_end t.items t.plain;
      clock = r;
    }

    -- nothing was written of its refusal
    pub stops_unrefused : (status : ℕ) → EndsPart rules talked first holder (before ++ heard.Bad status ∷ []) (written ++ []) (trail ++ [])
    stops_unrefused status = record {
      items = t.items;
      refusal = None;
      are_items = t.are_items;
      requests = whole_front _ _ (idle (heard.Bad status) refl);
      last = plain_all t.items t.plain;
      refused = tt;
      output = whole_front _ _ (output_idle (heard.Bad status) None);
      lines = whole_front _ _ same_lines;
      answered = omega (arith, t.number_is);
    }

    pub ends_refused : (status moment : ℕ) → IsClockMoment rules.may_give moment → Ends rules (Bad status) talked first holder (before ++ heard.Bad status ∷ []) (written ++ refusal_bytes status moment) (trail ++ [])
    ends_refused status moment r = (
      record {
        items = t.items;
        refusal = Some moment;
        are_items = t.are_items;
        requests = idle (heard.Bad status) refl;
        last = plain_all t.items t.plain;
        upgraded_is = plain_end t.items t.plain;
        refused = is_refused status moment r;
        refuses = sym (ap is_some (is_bad status));
        output = output_idle (heard.Bad status) (Some moment);
        lines = same_lines;
      },
      is_bad status,
    )

    pub stops_refusing : (status moment : ℕ) → IsClockMoment rules.may_give moment → (count : ℕ) → EndsPart rules talked first holder (before ++ heard.Bad status ∷ []) (written ++ take count (refusal_bytes status moment)) (trail ++ [])
    stops_refusing status moment r count = record {
      items = t.items;
      refusal = Some moment;
      are_items = t.are_items;
      requests = whole_front _ _ (idle (heard.Bad status) refl);
      last = plain_all t.items t.plain;
      refused = is_refused status moment r;
      output = subst (IsPrefix (written ++ take count (refusal_bytes status moment))) (output_idle (heard.Bad status) (Some moment)) (front_of_more written (refusal_bytes status moment) count);
      lines = whole_front _ _ same_lines;
      answered = omega (arith, t.number_is);
    }

    -- ---- a request that has no item
    -- what was held back before it couldn't be sent
    pub stops_unflushed : (request : Request) → EndsPart rules talked first holder (before ++ heard.Request request ∷ []) (written ++ []) (trail ++ [])
    stops_unflushed request = record {
      items = t.items;
      refusal = None;
      are_items = t.are_items;
      requests = (request ∷ [], ap (λ rs. rs ++ request ∷ []) t.requests ∙ sym (requests_append before (heard.Request request ∷ [])));
      last = plain_all t.items t.plain;
      refused = tt;
      output = whole_front _ _ (output_idle (heard.Request request) None);
      lines = whole_front _ _ same_lines;
      answered = omega (arith, t.number_is);
    }

    -- it had no place
    pub ends_unplaced : (after : A) (request : Request) → rules.passes request holder after → EndsUnplaced rules talked first after (before ++ heard.Request request ∷ []) (written ++ []) (trail ++ [])
    ends_unplaced after request passed = record {
      front = before;
      request = request;
      events_are = refl;
      mid = holder;
      number = talked;
      talks = subst (λ l. Talks rules first holder talked before (written ++ []) l) (sym (append-nil trail))
          (subst (λ w. Talks rules first holder talked before w trail) (sym (append-nil written)) t);
      answered = omega arith;
      passed = passed;
    }

    -- ---- a request
    module _ (after : A) (request : Request) (text line : List ℕ) (upgraded : Bool) (r : IsTurned rules holder after request (talked + 1) text line upgraded) where
      abbrev all_heard : List Heard
      all_heard = before ++ heard.Request request ∷ []

      abbrev all_items : List Item
      all_items = t.items ++ r.item ∷ []

      count_now : length all_items ≡ length t.items + 1
      count_now = length-append t.items (r.item ∷ [])

      are_items_now : AreItems rules first after all_items
      are_items_now =
          let last : r.item.number ≡ 1 + length t.items = r.number_is ∙ omega (arith, t.number_is) in
          record {
            chain = chain_more first holder after t.items r.item t.are_items.chain r.ticks;
            numbers = map_snoc (λ (i : Item). i.number) t.items r.item ∙ (ap₂ (λ xs x. xs ++ x ∷ []) t.are_items.numbers last
                ∙ (sym (range_snoc 1 (length t.items)) ∙ ap (range_with_len 1) (sym count_now)));
            asked = all_snoc (λ (i : Item). i.asked ≡ rules.asking i.request) t.items r.item t.are_items.asked r.asked_is;
          }

      requested : requests_of all_heard ≡ requests_of before ++ request ∷ []
      requested = requests_append before (heard.Request request ∷ [])

      requests_now : map (λ (i : Item). i.request) all_items ≡ requests_of all_heard
      requests_now = map_snoc (λ (i : Item). i.request) t.items r.item ∙ (ap₂ (λ xs x. xs ++ x ∷ []) t.requests r.request_is ∙ sym requested)

      one_output : (b : Bool) → upgrades r.item.outcome ≡ b → output_of (heard.Request request ∷ []) (r.item ∷ []) None ≡ text
      one_output true e = ap (λ b. item_text r.item ++ (if b then [] else [])) e ∙ (append-nil _ ∙ sym r.text_is)
      one_output false e = ap (λ b. item_text r.item ++ (if b then [] else [])) e ∙ (append-nil _ ∙ sym r.text_is)

      all_bytes : written ++ text ≡ output_of all_heard all_items None
      all_bytes = ap (λ x. written ++ x) (sym (one_output upgraded (sym r.switches))) ∙ output_more (heard.Request request) (r.item ∷ []) None

      all_lines : trail ++ line ≡ trail_of rules.trails all_items
      all_lines = ap₂ (λ x y. x ++ y) t.lines r.line_is ∙ sym (trail_append rules.trails t.items r.item)

      no_bad_now : bad_status all_heard ≡ None
      no_bad_now = bad_behind 0 before (heard.Request request ∷ []) t.stays

      -- it isn't the last
      pub goes_on : upgraded ≡ false → closes_after request (talked + 1) ≡ false → Talks rules first after (talked + 1) all_heard (written ++ text) (trail ++ line)
      goes_on plain open_still = record {
        items = all_items;
        are_items = are_items_now;
        requests = requests_now;
        plain = all_snoc IsPlain t.items r.item t.plain (sym r.switches ∙ plain);
        number_is = omega (arith, t.number_is, count_now);
        stays = stays_append 0 before (heard.Request request ∷ []) t.stays
            ((λ e. no_end_of talked request open_still (subst (λ n. IsLastRequest n request) count_is e)), tt);
        output = all_bytes;
        lines = all_lines;
      }

      served : EndsWhole rules upgraded first after all_heard (written ++ text) (trail ++ line)
      served = record {
        items = all_items;
        refusal = None;
        are_items = are_items_now;
        requests = requests_now;
        last = plain_last t.items r.item t.plain;
        upgraded_is = last_end t.items r.item ∙ sym r.switches;
        refused = tt;
        refuses = sym (ap is_some no_bad_now);
        output = all_bytes;
        lines = all_lines;
      }

      not_open : closes_after request (talked + 1) ≡ true → StaysOpen 0 all_heard → ⊥
      not_open last = last_ends 0 before request (subst (λ n. IsLastRequest n request) (sym count_is) (end_of talked request last))

      requests_count : length (requests_of all_heard) ≡ talked + 1
      requests_count = ap length requested ∙ omega (arith, count_is, length-append (requests_of before) (request ∷ []))

      -- it is the last
      pub ends_last : upgraded ≡ false → closes_after request (talked + 1) ≡ true → talked < REQUEST_LIMIT
          → Ends rules (if talked + 1 == REQUEST_LIMIT then Limit else Closed) talked first after all_heard (written ++ text) (trail ++ line)
      ends_last plain last few =
          let served_so : EndsWhole rules false first after all_heard (written ++ text) (trail ++ line) =
          subst (λ (b : Bool). EndsWhole rules b first after all_heard (written ++ text) (trail ++ line)) plain served in
          elim (talked + 1 == REQUEST_LIMIT) as (λ b. (talked + 1 == REQUEST_LIMIT) ≡ b → Ends rules (if b then Limit else Closed) talked first after all_heard (written ++ text) (trail ++ line)) [
            | true ↦ λ e.
                let most : talked + 1 ≡ REQUEST_LIMIT = grind (arith, nat_tests) in
                (served_so, not_open last, requests_count ∙ most, no_bad_now)
            | false ↦ λ e.
                let other : talked + 1 ≡ REQUEST_LIMIT → ⊥ = λ same. grind (arith, nat_tests) in
                (served_so, not_open last, omega (arith, requests_count, few, other), no_bad_now)
          ] refl

      -- it switched protocols
      pub ends_upgraded_so : upgraded ≡ true → Ends rules Upgraded talked first after all_heard (written ++ text) (trail ++ line)
      ends_upgraded_so e = subst (λ (b : Bool). EndsWhole rules b first after all_heard (written ++ text) (trail ++ line)) e served

      -- a prefix of its bytes was written, and of its line
      pub stops_answering : (count many : ℕ) → EndsPart rules talked first after all_heard (written ++ take count text) (trail ++ take many line)
      stops_answering count many = record {
        items = all_items;
        refusal = None;
        are_items = are_items_now;
        requests = whole_front _ _ requests_now;
        last = plain_last t.items r.item t.plain;
        refused = tt;
        output = subst (IsPrefix (written ++ take count text)) all_bytes (front_of_more written text count);
        lines = subst (IsPrefix (trail ++ take many line)) all_lines (front_of_more trail line many);
        answered = omega (arith, t.number_is, count_now);
      }

  -- how `100 Continue` ends, after whatever events
  pub invited_turns : (holder : A) (talked : ℕ) (result : Result (Unit {0}) TalkEnd) (old new : Option (List ℕ)) → Writes result interim_text old new → IfErr result (λ end. end ≡ WriteFault)
      → (text : List ℕ) × ExtendsBy text old new × Turns rules holder talked holder talked (heard.Interim ∷ []) text [] result
  invited_turns holder talked (Ok done) old new w e = (interim_text, w.whole, λ first before written trail t. goes_invited first holder talked before written trail t)
  invited_turns holder talked (Err end) old new w e =
      let part = w.part in (
        take part.0 interim_text,
        part.2,
        λ first before written trail t.
            subst (λ x. Ends rules x talked first holder (before ++ heard.Interim ∷ []) (written ++ take part.0 interim_text) (trail ++ [])) (sym e)
            (stops_inviting first holder talked before written trail t part.0),
      )

  -- how the refusal of a malformed message ends, after whatever events
  pub refused_turns : (holder : A) (talked status : ℕ) (end : TalkEnd) (old new : Option (List ℕ)) → RefusedAs rules.may_give status end old new
      → (text : List ℕ) × ExtendsBy text old new × Turns rules holder talked holder talked (heard.Bad status ∷ []) text [] (Err end)
  refused_turns holder talked status (Bad told) old new r = (
    refusal_bytes status r.1.0,
    r.1.2,
    λ first before written trail t.
        subst (λ n. Ends rules (Bad n) talked first holder (before ++ heard.Bad status ∷ []) (written ++ refusal_bytes status r.1.0) (trail ++ [])) (sym r.0)
        (ends_refused first holder talked before written trail t status r.1.0 r.1.1),
  )
  refused_turns holder talked status NoMemory old new r =
      ([], subst (ExtendsBy [] old) (sym r) (nothing_added old), λ first before written trail t. stops_unrefused first holder talked before written trail t status)
  refused_turns holder talked status WriteFault old new r =
      (take r.2.0 (refusal_bytes status r.0), r.2.1, λ first before written trail t. stops_refusing first holder talked before written trail t status r.0 r.1 r.2.0)
  refused_turns holder talked status Closed old new r = absurd r
  refused_turns holder talked status Limit old new r = absurd r
  refused_turns holder talked status Upgraded old new r = absurd r
  refused_turns holder talked status NoPlace old new r = absurd r

  -- how a request ends that got no whole response, after whatever events
  pub stopped_turns : (old new : A) (talked number : ℕ) (request : Request) (end : TalkEnd) (was now was_errors now_errors : Option (List ℕ))
      → AnsweredSo (Err end) ((text : List ℕ) × (line : List ℕ) × (upgraded : Bool) × IsTurned rules old new request (talked + 1) text line upgraded
      × WritesBoth {T = Bool} {E = TalkEnd} (Err end) text line was now was_errors now_errors)
      (rules.passes request old new × WritesNothing was now was_errors now_errors)
      → MayEnd end
      → (text : List ℕ) × (lines : List ℕ) × ExtendsBy text was now × ExtendsBy lines was_errors now_errors × Turns rules old talked new number (heard.Request request ∷ []) text lines (Err end)
  stopped_turns old new talked number request WriteFault was now was_errors now_errors told m =
      let part = told.4.part in
      (take part.0 told.0, take part.1 told.1, part.2, part.3, λ first before written trail t. stops_answering first old talked before written trail t new request told.0 told.1 told.2 told.3 part.0 part.1)
  stopped_turns old new talked number request NoMemory was now was_errors now_errors told m =
      let part = told.4.part in
      (take part.0 told.0, take part.1 told.1, part.2, part.3, λ first before written trail t. stops_answering first old talked before written trail t new request told.0 told.1 told.2 told.3 part.0 part.1)
  stopped_turns old new talked number request NoPlace was now was_errors now_errors told m = (
    [],
    [],
    subst (ExtendsBy [] was) (sym told.1.output) (nothing_added was),
    subst (ExtendsBy [] was_errors) (sym told.1.errors) (nothing_added was_errors),
    λ first before written trail t. ends_unplaced first old talked before written trail t new request told.0,
  )
  stopped_turns old new talked number request Closed was now was_errors now_errors told m = absurd m
  stopped_turns old new talked number request Limit was now was_errors now_errors told m = absurd m
  stopped_turns old new talked number request Upgraded was now was_errors now_errors told m = absurd m
  stopped_turns old new talked number request (Bad status) was now was_errors now_errors told m = absurd m

  -- what was held back before a request couldn't be sent
  pub unflushed_turns : (holder : A) (talked : ℕ) (request : Request) (end : TalkEnd) → end ≡ WriteFault → Turns rules holder talked holder talked (heard.Request request ∷ []) [] [] (Err end)
  unflushed_turns holder talked request end is = λ first before written trail t.
      subst (λ x. Ends rules x talked first holder (before ++ heard.Request request ∷ []) (written ++ []) (trail ++ [])) (sym is)
      (stops_unflushed first holder talked before written trail t request)

  -- fewer had been answered before an end
  part_of_fewer : (few many : ℕ) (first new : A) (events : List Heard) (written trail : List ℕ) → few ≤ many → EndsPart rules many first new events written trail → EndsPart rules few first new events written trail
  part_of_fewer few many first new events written trail less e = record {
    items = e.items;
    refusal = e.refusal;
    are_items = e.are_items;
    requests = e.requests;
    last = e.last;
    refused = e.refused;
    output = e.output;
    lines = e.lines;
    answered = omega (arith, less, e.answered);
  }

  ends_of_fewer : (end : TalkEnd) (few many : ℕ) (first new : A) (events : List Heard) (written trail : List ℕ) → few ≤ many → Ends rules end many first new events written trail → Ends rules end few first new events written trail
  ends_of_fewer Closed few many first new events written trail less e = e
  ends_of_fewer Limit few many first new events written trail less e = e
  ends_of_fewer Upgraded few many first new events written trail less e = e
  ends_of_fewer (Bad status) few many first new events written trail less e = e
  ends_of_fewer WriteFault few many first new events written trail less e = part_of_fewer few many first new events written trail less e
  ends_of_fewer NoMemory few many first new events written trail less e = part_of_fewer few many first new events written trail less e
  ends_of_fewer NoPlace few many first new events written trail less e = record {
    front = e.front;
    request = e.request;
    events_are = e.events_are;
    mid = e.mid;
    number = e.number;
    talks = e.talks;
    answered = omega (arith, less, e.answered);
    passed = e.passed;
  }

  -- one list after another
  pub turns_behind : (old middle new : A) (number number_2 number_3 : ℕ) (those more : List Heard) (text bytes lines lines_2 : List ℕ) (result : Result (Unit {0}) TalkEnd)
      → Turns rules old number middle number_2 those text lines (Ok tt) → Turns rules middle number_2 new number_3 more bytes lines_2 result
      → Turns rules old number new number_3 (those ++ more) (text ++ bytes) (lines ++ lines_2) result
  turns_behind old middle new number number_2 number_3 those more text bytes lines lines_2 (Ok done) h k = λ first before written trail t.
      subst (λ l. Talks rules first new number_3 (before ++ (those ++ more)) (written ++ (text ++ bytes)) l) (append_assoc trail lines lines_2)
      (subst (λ w. Talks rules first new number_3 (before ++ (those ++ more)) w ((trail ++ lines) ++ lines_2)) (append_assoc written text bytes)
      (subst (λ x. Talks rules first new number_3 x ((written ++ text) ++ bytes) ((trail ++ lines) ++ lines_2)) (append_assoc before those more)
      (k first (before ++ those) (written ++ text) (trail ++ lines) (h first before written trail t))))
  turns_behind old middle new number number_2 number_3 those more text bytes lines lines_2 (Err end) h k = λ first before written trail t.
      let middle_talks = h first before written trail t in
      let less : number ≤ number_2 = omega (arith, count_is first old number before written trail t, count_is first middle number_2 (before ++ those) (written ++ text) (trail ++ lines) middle_talks, ap length (requests_append before those), length-append (requests_of before) (requests_of those)) in
      ends_of_fewer end number number_2 first new (before ++ (those ++ more)) (written ++ (text ++ bytes)) (trail ++ (lines ++ lines_2)) less
      (subst (λ l. Ends rules end number_2 first new (before ++ (those ++ more)) (written ++ (text ++ bytes)) l) (append_assoc trail lines lines_2)
      (subst (λ w. Ends rules end number_2 first new (before ++ (those ++ more)) w ((trail ++ lines) ++ lines_2)) (append_assoc written text bytes)
      (subst (λ x. Ends rules end number_2 first new x ((written ++ text) ++ bytes) ((trail ++ lines) ++ lines_2)) (append_assoc before those more)
      (k first (before ++ those) (written ++ text) (trail ++ lines) middle_talks))))

  pub nothing_turned : (holder : A) (talked : ℕ) → Turns rules holder talked holder talked [] [] [] (Ok tt)
  nothing_turned holder talked = λ first before written trail t.
      subst (λ l. Talks rules first holder talked (before ++ []) (written ++ []) l) (sym (append-nil trail))
      (subst (λ w. Talks rules first holder talked (before ++ []) w trail) (sym (append-nil written))
      (subst (λ x. Talks rules first holder talked x written trail) (sym (append-nil before)) t))

-- the counts of an end, whatever the call returns where it goes on
abbrev end_in : {T : Type 0} → Result T TalkEnd → TalkEnd
end_in (Ok x) = Closed
end_in (Err end) = end

pub counts_end : {T S : Type 0} (end : TalkEnd) (old new old_errors new_errors : ℕ) → CountsWrites {T = T} (Err end) old new old_errors new_errors → CountsWrites {T = S} (Err end) old new old_errors new_errors
counts_end end old new old_errors new_errors h = record { no_fewer = h.no_fewer; no_fewer_errors = h.no_fewer_errors; failed = λ e. h.failed (ap Err (ap end_in e)) }

-- the counts since an earlier moment
rose_since : (a b c d e : ℕ) → a ≤ b → CountIncreased b c ⊎ CountIncreased d e → CountIncreased a c ⊎ CountIncreased d e
rose_since a b c d e le (inl rose) = inl (λ below. omega (arith, le, rose below))
rose_since a b c d e le (inr rose) = inr rose

pub counts_since : {T : Type 0} (result : Result T TalkEnd) (first old new old_errors new_errors : ℕ) → first ≤ old → CountsWrites result old new old_errors new_errors → CountsWrites result first new old_errors new_errors
counts_since result first old new old_errors new_errors le h = record {
  no_fewer = omega (arith, le, h.no_fewer);
  no_fewer_errors = h.no_fewer_errors;
  failed = λ e. rose_since first old new old_errors new_errors le (h.failed e);
}

-- nothing follows a last request
pub over_last : (count : ℕ) (request : Request) (end : TalkEnd) → end ≡ (if count + 1 == REQUEST_LIMIT then Limit else Closed) → IsLastRequest count request → IsOver count (heard.Request request) end
over_last count request end is h = subst (IsOver count (heard.Request request)) (sym is)
    (elim (count + 1 == REQUEST_LIMIT) as (λ b. IsOver count (heard.Request request) (if b then Limit else Closed)) [ true ↦ h | false ↦ h ])

-- a request that stopped the connection
pub over_stop : (count : ℕ) (request : Request) (end : TalkEnd) → MayEnd end → IsOver count (heard.Request request) end
over_stop count request WriteFault m = tt
over_stop count request NoMemory m = tt
over_stop count request NoPlace m = tt
over_stop count request Closed m = absurd m
over_stop count request Limit m = absurd m
over_stop count request Upgraded m = absurd m
over_stop count request (Bad status) m = absurd m

pub over_fault : (count : ℕ) (request : Request) (end : TalkEnd) → end ≡ WriteFault → IsOver count (heard.Request request) end
over_fault count request end is = subst (IsOver count (heard.Request request)) (sym is) tt

-- where an event ends the connection, no event follows it, unless a fault, a switch of protocols or
-- a request without a place ended it
pub none_behind : (count : ℕ) (one : Heard) (more : List Heard) (end : TalkEnd) → NothingAfterEnd count (one ∷ more) → IsOver count one end → IsAll more (Err end)
none_behind count (heard.Request r) more Closed e o = e.0 o
none_behind count (heard.Request r) more Limit e o = e.0 o
none_behind count (heard.Request r) more Upgraded e o = tt
none_behind count (heard.Request r) more WriteFault e o = tt
none_behind count (heard.Request r) more NoMemory e o = tt
none_behind count (heard.Request r) more NoPlace e o = tt
none_behind count (heard.Request r) more (Bad told) e o = absurd o
none_behind count (heard.Bad status) more (Bad told) e o = e
none_behind count (heard.Bad status) more WriteFault e o = tt
none_behind count (heard.Bad status) more NoMemory e o = tt
none_behind count (heard.Bad status) more NoPlace e o = absurd o
none_behind count (heard.Bad status) more Closed e o = absurd o
none_behind count (heard.Bad status) more Upgraded e o = absurd o
none_behind count (heard.Bad status) more Limit e o = absurd o
none_behind count heard.Interim more WriteFault e o = tt
none_behind count heard.Interim more NoMemory e o = tt
none_behind count heard.Interim more NoPlace e o = absurd o
none_behind count heard.Interim more Closed e o = absurd o
none_behind count heard.Interim more Upgraded e o = absurd o
none_behind count heard.Interim more Limit e o = absurd o
none_behind count heard.Interim more (Bad told) e o = absurd o
