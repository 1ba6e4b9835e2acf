-- A link between two reads, and how its connection ends.
use Rattle.std.proofs.Common.{◌≡◌, ◌⊎◌, inl, inr, IfSome, ℕ, ◌+◌, ◌-◌, ◌^◌, ◌<◌, ◌≤◌, ◌==◌, true, false, if◌then◌else◌, List, [], ◌∷◌, ◌++◌, length, take, drop, Option, Some, None, refl, sym, ap, subst, append_assoc, ◌∙◌, arith}
use Rattle.std.specs.Option.{option_map}
use Rattle.std.proofs.lemmas.Bool.Decides.{nat_tests}
use Rattle.std.proofs.lemmas.List.{append-nil}
use mathlib.Core.List.{IsPrefix}
use Rattle.conn_talk.specs.Talks.{EndsWhole}
use Rattle.conn_talk.specs.Turns.{Rules}
use Rattle.conn_talk.specs.declared.talk_end.TalkEnd.{TalkEnd}
use Rattle.conn_talk.specs.declared.talk_end.TalkEnd.TheVariants as talk
use Rattle.conn_talk.proofs.TalksLemmas.{talks_none, talks_whole}
use Rattle.http_conn.specs.Messages.{Messages}
use Rattle.http_conn.specs.ParserStates.{Represents, rest_of}
use Rattle.http_conn.specs.declared.parser_state.ParserState.{ParserState}
use Rattle.http_conn.proofs.StepLemmas.{represents_messages}
use Rattle.pod_io.specs.Writing.{ExtendsBy}
use Rattle.pod_io.proofs.Extending.{extends_more, nothing_added}
use Rattle.pod_base.specs.Counts.{CountIncreased}
use Rattle.pod_base.specs.declared.heard.Heard.{Heard}
use Rattle.pod_base.specs.declared.request.Request.{Request}
use Rattle.pod_base.proofs.Prefixes.{prefix_trans}
use Rattle.pod_core.specs.Output.{output_of}
use Rattle.pod_io.specs.Counts.{next_count}
use Rattle.pod_live.specs.Visits.{Visit}
use Rattle.pod_pipe.specs.Statuses.{Hears}
use Rattle.pod_pipe.specs.Streams.{AtEnd, Reads}
use Rattle.pod_serve.specs.Served.{HasCause, end_reads, IsAllWritten, IsReadIn, IsTakenUp, IsWritten, Items, LinkView, MeetsLinkEnd}
use Rattle.pod_serve.specs.Serving.{AfterTurn, FinishesAs, IsAnswered, IsEnded, IsLinkServed, IsOpenLink, IsReadLink, IsWrittenTo, requests_end_of, taken_with, unsent_end}
use Rattle.pod_serve.specs.declared.requests_end.RequestsEnd.{RequestsEnd}
use Rattle.pod_serve.specs.declared.requests_end.RequestsEnd.TheVariants as ends
use Rattle.pod_serve.specs.declared.connection_end.TheConstants.{QUIET_LIMIT}
use Rattle.pod_serve.proofs.ArrivalLemmas.{end_arrives, none_arrives, one_arrives, then_answered}
use Rattle.pod_serve.proofs.PieceLemmas.{all_requests, has_items, is_whole}

-- ---- texts that were sent

abbrev tail_of : List ℕ → List ℕ
tail_of [] = []
tail_of (x ∷ xs) = xs

left_cancel : (a x y : List ℕ) → a ++ x ≡ a ++ y → x ≡ y
left_cancel [] x y e = e
left_cancel (z ∷ a) x y e = left_cancel a x y (ap tail_of e)

abbrev or_none : Option (List ℕ) → List ℕ
or_none None = []
or_none (Some bytes) = bytes

pub none_waits : (waiting : List ℕ) (sent : Option (List ℕ)) → waiting ≡ [] → taken_with waiting sent ≡ sent
none_waits waiting None e = refl
none_waits waiting (Some bytes) e = ap (λ w. Some (bytes ++ w)) e ∙ ap (λ b. Some b) (append-nil bytes)

-- what was sent is a prefix of what was taken
sent_prefix : (more written waiting : List ℕ) (start sent : Option (List ℕ)) → ExtendsBy more start sent → ExtendsBy written start (taken_with waiting sent) → (w : List ℕ) × ExtendsBy w start sent × IsPrefix w written
sent_prefix more written waiting None sent s t = ([], s, (written, refl))
sent_prefix more written waiting (Some bytes) sent s t =
    let same : Some ((bytes ++ more) ++ waiting) ≡ Some (bytes ++ written) = sym (ap (taken_with waiting) s) ∙ t in
    (more, s, (waiting, left_cancel bytes (more ++ waiting) written (sym (append_assoc bytes more waiting) ∙ ap or_none same)))

-- one write more, of what waits
pub sent_more : (text : List ℕ) (at count : ℕ) (rest : List ℕ) (old new : Option (List ℕ)) → rest ≡ drop at text → new ≡ option_map (λ bytes. bytes ++ take count rest) old → drop (at + count) text ≡ drop count (drop at text)
    → (take count (drop at text) ++ drop count (drop at text) ≡ drop at text) → taken_with (drop (at + count) text) new ≡ taken_with (drop at text) old
sent_more text at count rest None new same is later joined = ap (taken_with (drop (at + count) text)) is
sent_more text at count rest (Some bytes) new same is later joined =
    ap (taken_with (drop (at + count) text)) is
    ∙ ap (λ r. Some ((bytes ++ take count r) ++ drop (at + count) text)) same
    ∙ ap (λ r. Some ((bytes ++ take count (drop at text)) ++ r)) later
    ∙ ap (λ b. Some b) (append_assoc bytes (take count (drop at text)) (drop count (drop at text)))
    ∙ ap (λ r. Some (bytes ++ r)) joined

pub rose_since : (first middle last : ℕ) → first ≤ middle → CountIncreased middle last → CountIncreased first last
rose_since first middle last le rose = λ below. omega (arith, le, rose below)

pub rose_before : (first middle last : ℕ) → CountIncreased first middle → middle ≤ last → CountIncreased first last
rose_before first middle last rose le = λ below. omega (arith, rose (omega (arith, le, below)), le)

-- ---- an end that comes of no event

module _ {A : Type 0} (rules : Rules A) (first : A) (start : LinkView) (stage : ParserState) (now : A) (number : ℕ) where
  -- all that was read is answered and written
  module _ (text written : List ℕ) (s : IsAnswered rules first stage now number text written) where
    messages : Messages text s.events (rest_of stage)
    messages = represents_messages stage text s.events s.represents

    abbrev whole : EndsWhole rules false first now s.events written s.trail
    whole = talks_whole rules first now number s.events written s.trail s.talks

    abbrev all_items : Items
    all_items = record { list = whole.items; refusal = whole.refusal }

    -- as many items as requests were answered
    all_answered : number ≤ length all_items.list
    all_answered = omega (arith, s.talks.number_is, has_items s.talks.items s.events s.talks.requests, has_items whole.items s.events whole.requests)

    taken_up : IsTakenUp number text
    taken_up = record { events = s.events; rest = rest_of stage; messages = messages; stays = s.talks.stays; answered = omega (arith, s.talks.number_is, has_items s.talks.items s.events s.talks.requests) }

    all_written : IsAllWritten false s.events all_items written
    all_written = record {
      whole = is_whole s.events all_items (has_items whole.items s.events whole.requests) whole.refuses;
      last = whole.upgraded_is;
      bytes = whole.output;
    }

  module _ (quiet : ℕ) (waiting : List ℕ) (view : LinkView) (s : IsOpenLink rules first start stage now number quiet waiting view) where
    abbrev t : IsAnswered rules first stage now number s.text s.written
    t = s.answered

    -- something was sent, or nothing
    pub written_to : (later : List ℕ) (next : LinkView) → IsWrittenTo view.rest next.rest view.sent next.sent view.counts next.counts → taken_with later next.sent ≡ taken_with waiting view.sent
        → IsOpenLink rules first start stage now number quiet later next
    written_to later next w same = record {
      text = s.text;
      written = s.written;
      reads = subst (Reads s.text start.rest) (sym w.rest_is) s.reads;
      arrivals = none_arrives number s.text start.counts.reads view.counts.reads next.counts.reads 0 w.reads s.arrivals;
      answered = s.answered;
      writes = same ∙ s.writes;
      more = s.more ++ w.more;
      sends = extends_more start.sent view.sent next.sent s.more w.more s.sends w.sends;
      ended = w.ended ∙ s.ended;
      row = omega (arith, s.row, w.quiet_row);
      counted = λ below. omega (arith, s.counted (omega (arith, below, w.quiet)), w.quiet);
      read_faults = omega (arith, s.read_faults, w.read_faults);
      write_faults = omega (arith, s.write_faults, w.write_faults);
    }

    -- what was read, where each request has an item
    all_arrived : {ended : ℕ} (counted : ℕ) → IsReadIn number ended s.text start.counts.reads counted → IsReadIn (length (all_items s.text s.written t).list) ended s.text start.counts.reads counted
    all_arrived {ended} counted r = then_answered number (length (all_items s.text s.written t).list) ended s.text start.counts.reads counted (all_answered s.text s.written t) r

    same_arrived : (next : LinkView) → next.counts.reads ≡ view.counts.reads → IsReadIn number 0 s.text start.counts.reads next.counts.reads
    same_arrived next same = none_arrives number s.text start.counts.reads view.counts.reads next.counts.reads 0 same s.arrivals

    -- a write failed
    pub write_failed : CountIncreased start.counts.write_faults view.counts.write_faults → IsLinkServed rules ends.LinkFault first now start view
    write_failed rose =
        let part = sent_prefix s.more s.written waiting start.sent view.sent s.sends s.writes in
        let end = whole s.text s.written t in record {
          read = s.text;
          written = part.0;
          reads = s.reads;
          writes = part.1;
          events = t.events;
          items = all_items s.text s.written t;
          arrivals = all_arrived view.counts.reads s.arrivals;
          hears = (t.events, rest_of stage, messages s.text s.written t, ([], sym (append-nil t.events)));
          mid = now;
          are_items = end.are_items;
          left = inl refl;
          requests = all_requests end.items t.events end.requests;
          last = end.last;
          refused = end.refused;
          serves = λ other. inl (rose, subst (IsPrefix part.0) end.output part.2);
          cause = λ other before after. inr rose;
          ended = s.ended;
        }

    -- nothing waits
    module _ (none : waiting ≡ []) where
      sent_all : ExtendsBy s.written start.sent view.sent
      sent_all = sym (none_waits waiting view.sent none) ∙ s.writes

      -- a read failed
      pub read_failed : (next : LinkView) → next.rest ≡ view.rest → next.sent ≡ view.sent → CountIncreased view.counts.read_faults next.counts.read_faults → next.counts.ends ≡ view.counts.ends → next.counts.reads ≡ view.counts.reads → IsLinkServed rules ends.LinkFault first now start next
      read_failed next same_rest same_sent rose same_ends same_reads =
          let end = whole s.text s.written t in
          let rose_all = rose_since start.counts.read_faults view.counts.read_faults next.counts.read_faults s.read_faults rose in record {
            read = s.text;
            written = s.written;
            reads = subst (Reads s.text start.rest) (sym same_rest) s.reads;
            writes = same_sent ∙ sent_all;
            events = t.events;
            items = all_items s.text s.written t;
            arrivals = all_arrived next.counts.reads (same_arrived next same_reads);
            hears = (t.events, rest_of stage, messages s.text s.written t, ([], sym (append-nil t.events)));
            mid = now;
            are_items = end.are_items;
            left = inl refl;
            requests = all_requests end.items t.events end.requests;
            last = end.last;
            refused = end.refused;
            serves = λ other. inr (rose_all, (rest_of stage, messages s.text s.written t), all_written s.text s.written t);
            cause = λ other before after. inl rose_all;
            ended = same_ends ∙ s.ended;
          }

      -- a quiet time more
      module _ (next : LinkView) (same_rest : next.rest ≡ view.rest) (same_sent : next.sent ≡ view.sent) (quiet_is : next.counts.quiet ≡ next_count view.counts.quiet) (row_is : next.counts.quiet_row ≡ next_count view.counts.quiet_row)
          (same_ends : next.counts.ends ≡ view.counts.ends) (same_reads : next.counts.reads ≡ view.counts.reads) (few : quiet < QUIET_LIMIT) where
        row_now : quiet + 1 ≤ next.counts.quiet_row
        row_now = omega (arith, s.row, row_is, few)

        counted_now : next.counts.quiet < 2 ^ 64 - 1 → start.counts.quiet + (quiet + 1) ≤ next.counts.quiet
        counted_now below = omega (arith, s.counted (omega (arith, below, quiet_is)), quiet_is, below)

        pub stays_quiet : start.counts.read_faults ≤ next.counts.read_faults → start.counts.write_faults ≤ next.counts.write_faults → (later : List ℕ) → later ≡ waiting → IsOpenLink rules first start stage now number (quiet + 1) later next
        stays_quiet reads_too writes_too later same = record {
          text = s.text;
          written = s.written;
          reads = subst (Reads s.text start.rest) (sym same_rest) s.reads;
          arrivals = same_arrived next same_reads;
          answered = s.answered;
          writes = none_waits later next.sent (same ∙ none) ∙ (same_sent ∙ sent_all);
          more = s.written;
          sends = same_sent ∙ sent_all;
          ended = same_ends ∙ s.ended;
          row = row_now;
          counted = counted_now;
          read_faults = reads_too;
          write_faults = writes_too;
        }

        pub ends_quiet : quiet + 1 ≡ QUIET_LIMIT → IsLinkServed rules ends.Quiet first now start next
        ends_quiet all =
            let end = whole s.text s.written t in record {
              read = s.text;
              written = s.written;
              reads = subst (Reads s.text start.rest) (sym same_rest) s.reads;
              writes = same_sent ∙ sent_all;
              events = t.events;
              items = all_items s.text s.written t;
              arrivals = all_arrived next.counts.reads (same_arrived next same_reads);
              hears = (rest_of stage, messages s.text s.written t, t.talks.stays);
              mid = now;
              are_items = end.are_items;
              left = refl;
              requests = all_requests end.items t.events end.requests;
              last = end.last;
              refused = end.refused;
              serves = λ other. all_written s.text s.written t;
              cause = λ other before after. record { row = omega (arith, row_now, all); counted = λ below. omega (arith, counted_now below, all) };
              ended = same_ends ∙ s.ended;
            }

      -- the input ended
      pub at_its_end : (rest : ℕ) (end : RequestsEnd) (next : LinkView) → rest ≡ rest_of stage → end ≡ (if rest == 0 then ends.PeerEnded else ends.CutShort rest) → Reads s.text start.rest next.rest → AtEnd next.rest → next.sent ≡ view.sent → next.counts.ends ≡ next_count view.counts.ends → next.counts.reads ≡ next_count view.counts.reads
          → IsLinkServed rules end first now start next
      at_its_end rest end next left is reads over same_sent met more =
          let told : Messages s.text t.events rest = subst (Messages s.text t.events) (sym left) (messages s.text s.written t) in
          let all = whole s.text s.written t in
          let arrived = all_arrived next.counts.reads (end_arrives number s.text start.counts.reads view.counts.reads next.counts.reads s.arrivals more) in
          let met_all : next.counts.ends ≡ next_count start.counts.ends = met ∙ ap next_count s.ended in
          subst (λ e. IsLinkServed rules e first now start next) (sym is)
          (elim (rest == 0) as (λ b. (rest == 0) ≡ b → IsLinkServed rules (if b then ends.PeerEnded else ends.CutShort rest) first now start next) [
            | true ↦ λ e.
                let none_left : rest ≡ 0 = grind (arith, nat_tests) in record {
                  read = s.text;
                  written = s.written;
                  reads = reads;
                  writes = same_sent ∙ sent_all;
                  events = t.events;
                  items = all_items s.text s.written t;
                  arrivals = arrived;
                  hears = (subst (Messages s.text t.events) none_left told, t.talks.stays, over);
                  mid = now;
                  are_items = all.are_items;
                  left = refl;
                  requests = all_requests all.items t.events all.requests;
                  last = all.last;
                  refused = all.refused;
                  serves = λ other. all_written s.text s.written t;
                  cause = λ other before after. tt;
                  ended = met_all;
                }
            | false ↦ λ e.
                let some : rest ≡ 0 → ⊥ = λ z. grind (arith, nat_tests) in record {
                  read = s.text;
                  written = s.written;
                  reads = reads;
                  writes = same_sent ∙ sent_all;
                  events = t.events;
                  items = all_items s.text s.written t;
                  arrivals = arrived;
                  hears = (told, omega (arith, some), t.talks.stays, over);
                  mid = now;
                  are_items = all.are_items;
                  left = refl;
                  requests = all_requests all.items t.events all.requests;
                  last = all.last;
                  refused = all.refused;
                  serves = λ other. all_written s.text s.written t;
                  cause = λ other before after. tt;
                  ended = met_all;
                }
          ] refl)

      -- a piece was read
      pub piece_read : (piece : List ℕ) (next : LinkView) → Reads (s.text ++ piece) start.rest next.rest → next.sent ≡ view.sent → next.counts.ends ≡ view.counts.ends → next.counts.quiet ≡ view.counts.quiet → view.counts.read_faults ≤ next.counts.read_faults → next.counts.write_faults ≡ view.counts.write_faults → next.counts.reads ≡ next_count view.counts.reads → 0 < length piece
          → IsReadLink rules first start stage now number piece next
      piece_read piece next reads same_sent same_ends same_quiet more same_faults one some = record {
        text = s.text;
        written = s.written;
        reads = reads;
        arrivals = one_arrives number s.text start.counts.reads view.counts.reads next.counts.reads s.arrivals one piece (taken_up s.text s.written t) some;
        answered = s.answered;
        writes = same_sent ∙ sent_all;
        ended = same_ends ∙ s.ended;
        counted = λ below. omega (arith, s.counted (omega (arith, below, same_quiet)), same_quiet);
        read_faults = omega (arith, s.read_faults, more);
        write_faults = omega (arith, s.write_faults, same_faults);
      }

  -- ---- after a piece

  module _ (piece : List ℕ) (view : LinkView) (s : IsReadLink rules first start stage now number piece view) (out : List ℕ) (next_stage : ParserState) (after : A) (next_number : ℕ) (later : List ℕ) (next : LinkView) (w : IsWrittenTo view.rest next.rest view.sent next.sent view.counts next.counts)
      (taken : ExtendsBy out view.sent (taken_with later next.sent)) where
    sent_since : (more : List ℕ) × ExtendsBy more start.sent next.sent
    sent_since = (s.written ++ w.more, extends_more start.sent view.sent next.sent s.written w.more s.writes w.sends)

    taken_since : ExtendsBy (s.written ++ out) start.sent (taken_with later next.sent)
    taken_since = extends_more start.sent view.sent (taken_with later next.sent) s.written out s.writes taken

    reads_too : Reads (s.text ++ piece) start.rest next.rest
    reads_too = subst (Reads (s.text ++ piece) start.rest) (sym w.rest_is) s.reads

    -- what was read, where so many requests were answered
    arrived_since : (many : ℕ) → number ≤ many → IsReadIn many 0 (s.text ++ piece) start.counts.reads next.counts.reads
    arrived_since many le = then_answered number many 0 (s.text ++ piece) start.counts.reads next.counts.reads le (none_arrives number (s.text ++ piece) start.counts.reads view.counts.reads next.counts.reads 0 w.reads s.arrivals)

    -- all of it was answered
    pub stays_open : IsAnswered rules first next_stage after next_number (s.text ++ piece) (s.written ++ out) × (number ≤ next_number) → IsOpenLink rules first start next_stage after next_number 0 later next
    stays_open answered = record {
      text = s.text ++ piece;
      written = s.written ++ out;
      reads = reads_too;
      arrivals = arrived_since next_number answered.1;
      answered = answered.0;
      writes = taken_since;
      more = sent_since.0;
      sends = sent_since.1;
      ended = w.ended ∙ s.ended;
      row = omega arith;
      counted = λ below. omega (arith, s.counted (omega (arith, below, w.quiet)), w.quiet);
      read_faults = omega (arith, s.read_faults, w.read_faults);
      write_faults = omega (arith, s.write_faults, w.write_faults);
    }

    -- The connection ended in it, and not all that was taken was sent.
    fault_end : (end : RequestsEnd) (e : IsEnded rules end number first after (s.text ++ piece) (s.written ++ out)) → Hears (s.text ++ piece) e.events → (after ≡ e.mid) ⊎ ((request : Request) × rules.passes request e.mid after)
        → IsPrefix (s.written ++ out) (output_of e.events e.items.list e.items.refusal) → CountIncreased start.counts.write_faults next.counts.write_faults → IsLinkServed rules ends.LinkFault first after start next
    fault_end end e hears left part rose =
        let p = sent_prefix sent_since.0 (s.written ++ out) later start.sent next.sent sent_since.1 taken_since in record {
          read = s.text ++ piece;
          written = p.0;
          reads = reads_too;
          writes = p.1;
          events = e.events;
          items = e.items;
          arrivals = arrived_since (length e.items.list) e.answered;
          hears = hears;
          mid = e.mid;
          are_items = e.are_items;
          left = left;
          requests = e.requests;
          last = e.last;
          refused = e.refused;
          serves = λ other. inl (rose, prefix_trans p.0 (s.written ++ out) (output_of e.events e.items.list e.items.refusal) p.2 part);
          cause = λ other before now_seen. inr rose;
          ended = w.ended ∙ s.ended;
        }

    all_of : (xs ys : List ℕ) → xs ≡ ys → IsPrefix xs ys
    all_of xs ys e = ([], append-nil xs ∙ e)

    all_heard : (events : List Heard) (rest : ℕ) → Messages (s.text ++ piece) events rest → Hears (s.text ++ piece) events
    all_heard events rest m = (events, rest, m, ([], sym (append-nil events)))

    unsent_so : (end : TalkEnd) → IsEnded rules (requests_end_of end) number first after (s.text ++ piece) (s.written ++ out) → CountIncreased start.counts.write_faults next.counts.write_faults → IsLinkServed rules (unsent_end end) first after start next
    unsent_so talk.Closed e rose = let h = e.hears None in fault_end ends.Closed e (all_heard e.events 0 h.0) (inl e.left) (all_of (s.written ++ out) (output_of e.events e.items.list e.items.refusal) e.output.bytes) rose
    unsent_so talk.Limit e rose = let h = e.hears None in fault_end ends.LimitReached e (all_heard e.events 0 h.0) (inl e.left) (all_of (s.written ++ out) (output_of e.events e.items.list e.items.refusal) e.output.bytes) rose
    unsent_so talk.Upgraded e rose = let h = e.hears None in fault_end ends.Upgraded e (all_heard e.events h.0 h.1) (inl e.left) (all_of (s.written ++ out) (output_of e.events e.items.list e.items.refusal) e.output.bytes) rose
    unsent_so (talk.Bad status) e rose = let h = e.hears None in fault_end (ends.BadMessage status) e (all_heard e.events 0 h.0) (inl e.left) (all_of (s.written ++ out) (output_of e.events e.items.list e.items.refusal) e.output.bytes) rose
    unsent_so talk.WriteFault e rose = fault_end ends.LinkFault e (e.hears None) e.left e.output rose
    unsent_so talk.NoPlace e rose = let h = e.hears None in fault_end ends.NoPlace e (all_heard e.events h.0 h.1) (inr (e.left.0, e.left.1)) (all_of (s.written ++ out) (output_of e.events e.items.list e.items.refusal) e.output) rose
    unsent_so talk.NoMemory e rose =
        let p = sent_prefix sent_since.0 (s.written ++ out) later start.sent next.sent sent_since.1 taken_since in record {
          read = s.text ++ piece;
          written = p.0;
          reads = reads_too;
          writes = p.1;
          events = e.events;
          items = e.items;
          arrivals = arrived_since (length e.items.list) e.answered;
          hears = e.hears next.rest;
          mid = e.mid;
          are_items = e.are_items;
          left = e.left;
          requests = e.requests;
          last = e.last;
          refused = e.refused;
          serves = λ other. prefix_trans p.0 (s.written ++ out) (output_of e.events e.items.list e.items.refusal) p.2 e.output;
          cause = λ other before now_seen. tt;
          ended = w.ended ∙ s.ended;
        }

    -- all that was taken was sent
    module _ (none : later ≡ []) where
      sent_now : ExtendsBy (s.written ++ out) start.sent next.sent
      sent_now = sym (none_waits later next.sent none) ∙ taken_since

      sent_end : (end : RequestsEnd) (e : IsEnded rules end number first after (s.text ++ piece) (s.written ++ out)) → end_reads end ≡ 0
          → ((end ≡ ends.NoPlace → ⊥) → IsWritten end start.counts next.counts (s.text ++ piece) e.events e.items (s.written ++ out))
          → ((end ≡ ends.NoPlace → ⊥) → (before now_seen : Visit) → HasCause end start.counts next.counts before now_seen) → MeetsLinkEnd end start.counts.ends next.counts.ends → IsLinkServed rules end first after start next
      sent_end end e none_ended serves cause met = record {
        read = s.text ++ piece;
        written = s.written ++ out;
        reads = reads_too;
        writes = sent_now;
        events = e.events;
        items = e.items;
        arrivals = subst (λ n. IsReadIn (length e.items.list) n (s.text ++ piece) start.counts.reads next.counts.reads) (sym none_ended) (arrived_since (length e.items.list) e.answered);
        hears = e.hears next.rest;
        mid = e.mid;
        are_items = e.are_items;
        left = e.left;
        requests = e.requests;
        last = e.last;
        refused = e.refused;
        serves = serves;
        cause = cause;
        ended = met;
      }

      same_ends : next.counts.ends ≡ start.counts.ends
      same_ends = w.ended ∙ s.ended

      sent_so : (end : TalkEnd) → (end ≡ talk.WriteFault → ⊥) → IsEnded rules (requests_end_of end) number first after (s.text ++ piece) (s.written ++ out) → IsLinkServed rules (requests_end_of end) first after start next
      sent_so talk.Closed ok e = sent_end ends.Closed e refl (λ other. e.output) (λ other before now_seen. tt) same_ends
      sent_so talk.Limit ok e = sent_end ends.LimitReached e refl (λ other. e.output) (λ other before now_seen. tt) same_ends
      sent_so talk.Upgraded ok e = sent_end ends.Upgraded e refl (λ other. e.output) (λ other before now_seen. tt) same_ends
      sent_so (talk.Bad status) ok e = sent_end (ends.BadMessage status) e refl (λ other. e.output) (λ other before now_seen. tt) same_ends
      sent_so talk.WriteFault ok e = absurd (ok refl)
      sent_so talk.NoMemory ok e = sent_end ends.NoMemory e refl (λ other. e.output) (λ other before now_seen. tt) same_ends
      sent_so talk.NoPlace ok e = sent_end ends.NoPlace e refl (λ other. absurd (other refl)) (λ other before now_seen. absurd (other refl)) same_ends

    pub finished : (end : TalkEnd) (result : RequestsEnd) (middle : ℕ) → start.counts.write_faults ≤ middle → IsEnded rules (requests_end_of end) number first after (s.text ++ piece) (s.written ++ out)
        → FinishesAs end result later middle next.counts.write_faults → (end ≡ talk.WriteFault → CountIncreased start.counts.write_faults next.counts.write_faults) → IsLinkServed rules result first after start next
    finished end result middle le e (inl so) rose = subst (λ r. IsLinkServed rules r first after start next) (sym so.0) (sent_so so.1 end so.2 e)
    finished end result middle le e (inr (is, inl fault)) rose = subst (λ r. IsLinkServed rules r first after start next) (sym is) (unsent_so end e (rose fault))
    finished end result middle le e (inr (is, inr failed)) rose = subst (λ r. IsLinkServed rules r first after start next) (sym is) (unsent_so end e (rose_since start.counts.write_faults middle next.counts.write_faults le failed))

-- before the first read
pub opens : {A : Type 0} (rules : Rules A) (first : A) (start : LinkView) (stage : ParserState) (waiting : List ℕ) → Represents stage [] [] → waiting ≡ [] → IsOpenLink rules first start stage first 0 0 waiting start
opens rules first start stage waiting represents none = record {
  text = [];
  written = [];
  reads = nothing_read start.rest;
  arrivals = record { pieces = []; text = refl; in_turn = tt; counted = λ below. omega arith };
  answered = record { events = []; trail = []; represents = represents; talks = talks_none rules first };
  writes = none_waits waiting start.sent none ∙ nothing_added start.sent;
  more = [];
  sends = nothing_added start.sent;
  ended = refl;
  row = omega arith;
  counted = λ below. omega arith;
  read_faults = omega arith;
  write_faults = omega arith;
}
  where
    nothing_read : (rest : Option (List ℕ)) → Reads [] rest rest
    nothing_read None = refl
    nothing_read (Some bytes) = refl

-- a quiet time, counted
pub quiet_turn : {A : Type 0} (rules : Rules A) (first : A) (start : LinkView) (stage : ParserState) (now : A) (number quiet quiet_now : ℕ) (waiting later : List ℕ) (view next : LinkView) (result : Option RequestsEnd) → IsOpenLink rules first start stage now number quiet waiting view → waiting ≡ []
    → next.rest ≡ view.rest → next.sent ≡ view.sent → next.counts.quiet ≡ next_count view.counts.quiet → next.counts.quiet_row ≡ next_count view.counts.quiet_row → next.counts.ends ≡ view.counts.ends → next.counts.reads ≡ view.counts.reads → view.counts.read_faults ≤ next.counts.read_faults → next.counts.write_faults ≡ view.counts.write_faults
    → quiet < QUIET_LIMIT → quiet_now ≡ quiet + 1 → later ≡ waiting → IfSome result (λ end. (end ≡ ends.Quiet) × (quiet_now ≡ QUIET_LIMIT)) → AfterTurn rules result first start stage now number quiet_now later next
quiet_turn rules first start stage now number quiet quiet_now waiting later view next None s none same_rest same_sent quiet_is row_is same_ends same_reads reads writes few is same end =
    subst (λ n. IsOpenLink rules first start stage now number n later next) (sym is)
    (stays_quiet rules first start stage now number quiet waiting view s none next same_rest same_sent quiet_is row_is same_ends same_reads few (omega (arith, s.read_faults, reads)) (omega (arith, s.write_faults, writes)) later same)
quiet_turn rules first start stage now number quiet quiet_now waiting later view next (Some told) s none same_rest same_sent quiet_is row_is same_ends same_reads reads writes few is same end =
    subst (λ e. IsLinkServed rules e first now start next) (sym end.0)
    (ends_quiet rules first start stage now number quiet waiting view s none next same_rest same_sent quiet_is row_is same_ends same_reads few (sym is ∙ end.1))

pub quiet_read : {A : Type 0} (rules : Rules A) (first : A) (start : LinkView) (stage stage_now : ParserState) (now : A) (number number_now quiet quiet_now : ℕ) (waiting later : List ℕ) (view next : LinkView) (result : Option RequestsEnd) → IsOpenLink rules first start stage now number quiet waiting view → waiting ≡ []
    → next.rest ≡ view.rest → next.sent ≡ view.sent → next.counts.quiet ≡ next_count view.counts.quiet → next.counts.quiet_row ≡ next_count view.counts.quiet_row → next.counts.ends ≡ view.counts.ends → next.counts.reads ≡ view.counts.reads → view.counts.read_faults ≤ next.counts.read_faults → next.counts.write_faults ≡ view.counts.write_faults
    → quiet < QUIET_LIMIT → quiet_now ≡ quiet + 1 → later ≡ waiting → IfSome result (λ end. (end ≡ ends.Quiet) × (quiet_now ≡ QUIET_LIMIT)) → stage_now ≡ stage → number_now ≡ number → AfterTurn rules result first start stage_now now number_now quiet_now later next
quiet_read rules first start stage stage_now now number number_now quiet quiet_now waiting later view next result s none same_rest same_sent quiet_is row_is same_ends same_reads reads writes few is same end same_stage same_number =
    subst (λ p. AfterTurn rules result first start p now number_now quiet_now later next) (sym same_stage)
    (subst (λ n. AfterTurn rules result first start stage now n quiet_now later next) (sym same_number)
    (quiet_turn rules first start stage now number quiet quiet_now waiting later view next result s none same_rest same_sent quiet_is row_is same_ends same_reads reads writes few is same end))
