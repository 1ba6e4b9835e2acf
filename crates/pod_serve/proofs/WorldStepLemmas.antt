-- What one connection does, as events of every world that has it.
use Rattle.std.proofs.Common.{◌≡◌, ◌⊎◌, inl, inr, ℕ, ◌+◌, ◌≤◌, ◌==◌, max, true, false, if◌then◌else◌, List, [], ◌∷◌, ◌++◌, length, Option, Some, None, IsSome, refl, sym, ap, subst, ◌∙◌, length-append, arith}
use Rattle.std.specs.Option.{option_to_list}
use Rattle.std.proofs.lemmas.List.{append-nil}
use mathlib.Core.List.{IsPrefix}
use Rattle.pod_base.proofs.Prefixes.{prefix_length, prefix_trans}
use Rattle.pod_base.specs.declared.heard.Heard.TheVariants as heard
use Rattle.pod_base.specs.declared.moment.Stamp.{Stamp}
use Rattle.pod_base.specs.declared.request.Request.{Request}
use Rattle.pod_command.specs.declared.entry.Entry.{Entry}
use Rattle.pod_core.specs.History.{History, IsPlace, end_of, longer, moment_before, pod_at}
use Rattle.pod_core.specs.KeeperSteps.{Holder, KeeperView, Phase, IsReplyAtEnd, free, held_by, item_at_end, opened, taken, written}
use Rattle.pod_core.specs.Output.{outcome_text}
use Rattle.pod_core.specs.Session.{IsClockMoment, Item, Outcome, answered, disk_fault, no_memory, stamp_of, upgrades}
use Rattle.pod_core.specs.World.{AnswersRead, Connection, DoesEvent, DoesTake, Event, IsNextEvent, IsSettled, RefusesMessage, World, WorldRun, WorldStep, after_take, arrive, body, gate, look, next_stamp, publish, put_connection, repair, request_number, take, with_answer, with_connection, with_input, with_keeper}
use Rattle.pod_core.proofs.Histories.{pod_grows}
use Rattle.pod_keeper.specs.CommitEvents.{FailedStep, at_body, at_gate, at_repair}
use Rattle.pod_live.specs.WorldEvents.{IsAtRest, Publishes, change_events, doubt_after, doubt_left, fault_events, repairs}
use Rattle.pod_reply.specs.Replies.{Reply}
use Rattle.pod_reply.specs.Reply.{IsReply}
use Rattle.pod_rows.specs.Pod.{Pod}
use Rattle.reply_laws.specs.Granted.{is_change}
use Rattle.token_table.specs.Credentials.{AskedAgent}
use Rattle.conn_talk.specs.Walks.{IsDecided, MetFault, Turn, clock_stamp}
use Rattle.pod_serve.specs.WorldRuns.{Answers, Arrives, Changes, Faults, HasConnection, Looks, world_at}

module _ (may_give : ℕ → Type 0) (asking : Request → AskedAgent) (conn : ℕ) where
  settled_put : (connections : ℕ → Option Connection) (mid to : Connection) → IsSettled (Some mid) (Some to) → ((n : ℕ) → IsSettled (connections n) (connections n)) → (n : ℕ) → IsSettled (put_connection connections conn mid n) (put_connection connections conn to n)
  settled_put connections mid to one others n = elim (n == conn) as (λ b. IsSettled (if b then Some mid else connections n) (if b then Some to else connections n)) [
    | true ↦ one
    | false ↦ others n
  ]

  -- bytes arrive
  pub arrives : (kept : History → Type 0) (shown : List Entry) (from : Connection) (piece : List ℕ) (to : Connection) → IsSettled (Some (with_input from piece)) (Some to) → Arrives kept may_give asking conn shown from piece to
  arrives kept shown from piece to settles = λ world has. (
    with_connection world conn to,
    record {
      runs = has.runs;
      done = with_connection world conn (with_input from piece);
      does = record { from = from; is_there = has.is_there; new_is = refl };
      settled = settled_put world.connections (with_input from piece) to settles has.settled;
      new_is = refl;
    },
    refl,
  )

  module _ (world : World) (from : Connection) (has : HasConnection world conn from) where
    -- a look
    pub looks : (place moment : ℕ) (mid to : Connection) → from.seen ≤ place → place ≤ world.published → IsClockMoment may_give moment → AnswersRead may_give asking world.keeper.history conn place moment from mid ⊎ RefusesMessage place moment from mid → IsSettled (Some mid) (Some to)
        → WorldRun may_give asking world (look conn place moment ∷ []) (with_connection world conn to)
    looks place moment mid to seen published clock answers settles = (
      with_connection world conn to,
      record {
        runs = has.runs;
        done = with_connection world conn mid;
        does = record { from = from; is_there = has.is_there; seen = seen; published = published; clock = clock; to = mid; answers = answers; new_is = refl };
        settled = settled_put world.connections mid to settles has.settled;
        new_is = refl;
      },
      refl,
    )

    -- a step that changes no connection
    holds : (old new : KeeperView) (event : Event) → DoesEvent may_give asking (record world { keeper = old }) event (record world { keeper = new }) → WorldStep may_give asking (record world { keeper = old }) event (record world { keeper = new })
    holds old new event does = record { runs = has.runs; done = record world { keeper = new }; does = does; settled = has.settled; new_is = refl }

    -- a change
    module _ (history : History) (request : Request) (clock : ℕ) (reply : Reply) (next : IsNextEvent from (heard.Request request)) (given : IsClockMoment may_give clock) (changes : is_change request.method ≡ true)
        (is : IsReplyAtEnd history request (asking request) (next_stamp conn from clock) reply) where
      abbrev its_item : Item
      its_item = item_at_end history request (asking request) (next_stamp conn from clock) reply

      abbrev holding : Entry → Holder
      holding entry = record { conn = conn; item = its_item; entry = entry }

      abbrev view : History → Option Entry → Phase → KeeperView
      view now doubt phase = record { history = now; doubt = doubt; phase = phase }

      abbrev in_phase : History → Option Entry → Phase → World
      in_phase now doubt phase = record world { keeper = view now doubt phase }

      abbrev Goes : World → List Event → World → Type 0
      Goes old events new = WorldRun may_give asking old events new

      -- the request takes the lock
      takes : (doubt o : Option Entry) → reply.entry ≡ o → DoesTake may_give asking conn clock (in_phase history doubt free) (with_keeper (after_take (in_phase history doubt free) conn from its_item o) (view history doubt (held_by (next_stamp conn from clock) its_item o)))
      takes doubt o with_entry =
          let to : KeeperView = view history doubt (held_by (next_stamp conn from clock) its_item o) in
          record {
            from = from;
            is_there = has.is_there;
            request = request;
            next = next;
            clock = given;
            reply = reply;
            to = to;
            step = record {
              is_free = refl;
              changes = changes;
              is_reply = is;
              new_is = λ i. view history doubt (held_by (next_stamp conn from clock) its_item (sym with_entry i));
            };
            new_is = λ i. with_keeper (after_take (in_phase history doubt free) conn from its_item (sym with_entry i)) to;
          }

      takes_lock : (doubt : Option Entry) (entry : Entry) → reply.entry ≡ Some entry → WorldStep may_give asking (in_phase history doubt free) (take conn clock) (in_phase history doubt (taken (holding entry)))
      takes_lock doubt entry with_entry = holds (view history doubt free) (view history doubt (taken (holding entry))) (take conn clock) (takes doubt (Some entry) with_entry)

      -- an entry in doubt is repaired, where there is one
      repaired : (doubt : Option Entry) (entry : Entry) (events : List Event) (after : World) → Goes (in_phase history None (taken (holding entry))) events after → Goes (in_phase history doubt (taken (holding entry))) (repairs doubt ++ events) after
      repaired None entry events after run = run
      repaired (Some other) entry events after run = (
        in_phase history None (taken (holding entry)),
        holds (view history (Some other) (taken (holding entry))) (view history None (taken (holding entry))) (repair true)
            (record { to = view history None (taken (holding entry)); step = record { holder = holding entry; is_taken = refl; entry = other; in_doubt = refl; new_is = refl }; follows = refl }),
        run,
      )

      writes_body : (entry : Entry) → WorldStep may_give asking (in_phase history None (taken (holding entry))) (body true) (in_phase history None (written (holding entry)))
      writes_body entry = holds (view history None (taken (holding entry))) (view history None (written (holding entry))) (body true)
          (record { to = view history None (written (holding entry)); step = record { holder = holding entry; is_taken = refl; is_sure = refl; new_is = refl }; follows = refl })

      opens_gate : (entry : Entry) → WorldStep may_give asking (in_phase history None (written (holding entry))) (gate true) (in_phase (longer history (entry ∷ [])) None (opened (holding entry)))
      opens_gate entry = holds (view history None (written (holding entry))) (view (longer history (entry ∷ [])) None (opened (holding entry))) (gate true)
          (record { to = view (longer history (entry ∷ [])) None (opened (holding entry)); step = record { holder = holding entry; is_written = refl; new_is = refl }; follows = refl })

      -- how it ends for the connection
      module _ (to : Connection) where
        publishes : (entry : Entry) → IsSettled (Some (with_answer from its_item (end_of (longer history (entry ∷ []))))) (Some to)
            → WorldStep may_give asking (in_phase (longer history (entry ∷ [])) None (opened (holding entry))) publish (world_at world (longer history (entry ∷ [])) None conn to)
        publishes entry settles =
            let mid = with_answer from its_item (end_of (longer history (entry ∷ []))) in
            record {
              runs = has.runs;
              done = world_at world (longer history (entry ∷ [])) None conn mid;
              does = record { holder = holding entry; is_opened = refl; from = from; is_there = has.is_there; new_is = refl };
              settled = settled_put world.connections mid to settles has.settled;
              new_is = refl;
            }

        -- the holder of the lock gives up
        abbrev fails_in : Option Entry → World
        fails_in doubt = record world { keeper = view history doubt free; connections = put_connection world.connections conn to }

        module _ (settles : IsSettled (Some (with_answer from (record its_item { outcome = disk_fault }) from.seen)) (Some to)) where
          fails : (old : KeeperView) (left : Option Entry) (event : Event) → DoesEvent may_give asking (record world { keeper = old }) event (record world { keeper = view history left free; connections = put_connection world.connections conn (with_answer from (record its_item { outcome = disk_fault }) from.seen) })
              → WorldStep may_give asking (record world { keeper = old }) event (fails_in left)
          fails old left event does = record {
            runs = has.runs;
            done = record world { keeper = view history left free; connections = put_connection world.connections conn (with_answer from (record its_item { outcome = disk_fault }) from.seen) };
            does = does;
            settled = settled_put world.connections (with_answer from (record its_item { outcome = disk_fault }) from.seen) to settles has.settled;
            new_is = refl;
          }

          repair_fails : (other entry : Entry) → Goes (in_phase history (Some other) (taken (holding entry))) (repair false ∷ []) (fails_in (Some other))
          repair_fails other entry = (
            fails_in (Some other),
            fails (view history (Some other) (taken (holding entry))) (Some other) (repair false)
                (record {
                  to = view history (Some other) free;
                  step = record { holder = holding entry; is_taken = refl; entry = other; in_doubt = refl; new_is = refl };
                  follows = record { holder = holding entry; held = refl; from = from; is_there = has.is_there; new_is = refl };
                }),
            refl,
          )

          body_fails : (entry : Entry) → Goes (in_phase history None (taken (holding entry))) (body false ∷ []) (fails_in None)
          body_fails entry = (
            fails_in None,
            fails (view history None (taken (holding entry))) None (body false)
                (record {
                  to = view history None free;
                  step = record { holder = holding entry; is_taken = refl; is_sure = refl; new_is = refl };
                  follows = record { holder = holding entry; held = refl; from = from; is_there = has.is_there; new_is = refl };
                }),
            refl,
          )

          gate_fails : (entry : Entry) → Goes (in_phase history None (taken (holding entry))) (body true ∷ gate false ∷ []) (fails_in (Some entry))
          gate_fails entry = (
            in_phase history None (written (holding entry)),
            writes_body entry,
            (
              fails_in (Some entry),
              fails (view history None (written (holding entry))) (Some entry) (gate false)
                  (record {
                    to = view history (Some entry) free;
                    step = record { holder = holding entry; is_written = refl; new_is = refl };
                    follows = record { holder = holding entry; held = refl; from = from; is_there = has.is_there; new_is = refl };
                  }),
              refl,
            ),
          )

          fails_at : (entry : Entry) → reply.entry ≡ Some entry → (doubt : Option Entry) (step : FailedStep) → (step ≡ at_repair → IsSome doubt) → Goes (in_phase history doubt free) (fault_events (next_stamp conn from clock) doubt step) (fails_in (doubt_left doubt entry step))
          fails_at entry with_entry None at_repair some = absurd (cc (some refl))
          fails_at entry with_entry (Some other) at_repair some = (in_phase history (Some other) (taken (holding entry)), takes_lock (Some other) entry with_entry, repair_fails other entry)
          fails_at entry with_entry doubt at_body some = (in_phase history doubt (taken (holding entry)), takes_lock doubt entry with_entry, repaired doubt entry (body false ∷ []) (fails_in None) (body_fails entry))
          fails_at entry with_entry doubt at_gate some = (in_phase history doubt (taken (holding entry)), takes_lock doubt entry with_entry, repaired doubt entry (body true ∷ gate false ∷ []) (fails_in (Some entry)) (gate_fails entry))

          pub fault_run : (entry : Entry) → reply.entry ≡ Some entry → (doubt : Option Entry) (step : FailedStep) → (step ≡ at_repair → IsSome doubt) → IsAtRest history doubt world
              → Goes world (fault_events (next_stamp conn from clock) doubt step) (world_at world history (doubt_left doubt entry step) conn to)
          fault_run entry with_entry doubt step some rest =
              let left : KeeperView = view history (doubt_left doubt entry step) free in
              let there : fails_in (doubt_left doubt entry step) ≡ world_at world history (doubt_left doubt entry step) conn to = λ i. record world { keeper = left; published = rest.published i; connections = put_connection world.connections conn to } in
              subst (λ (w : World). Goes w (fault_events (next_stamp conn from clock) doubt step) (world_at world history (doubt_left doubt entry step) conn to)) (λ i. record world { keeper = sym rest.keeper i })
              (subst (Goes (in_phase history doubt free) (fault_events (next_stamp conn from clock) doubt step)) there (fails_at entry with_entry doubt step some))

        -- it was answered
        by_entry : (doubt : Option Entry) → IsAtRest history doubt world → (o : Option Entry) → reply.entry ≡ o → IsSettled (Some (with_answer from its_item (end_of (longer history (option_to_list o))))) (Some to)
            → Goes (in_phase history doubt free) (change_events (next_stamp conn from clock) doubt o) (world_at world (longer history (option_to_list o)) (doubt_after doubt o) conn to)
        by_entry doubt rest None with_entry settles =
            let same : longer history [] ≡ history = λ i. record history { entries = append-nil history.entries i } in
            let mid = with_answer from its_item (end_of history) in
            let done : World = record world { keeper = view history doubt free; connections = put_connection world.connections conn mid } in
            let new : World = record world { keeper = view history doubt free; connections = put_connection world.connections conn to } in
            let there : new ≡ world_at world (longer history []) doubt conn to =
            (λ i. record world { keeper = view history doubt free; published = rest.published i; connections = put_connection world.connections conn to }) ∙ (λ i. world_at world (sym same i) doubt conn to) in
            subst (Goes (in_phase history doubt free) (take conn clock ∷ [])) there (
              new,
              record {
                runs = has.runs;
                done = done;
                does = takes doubt None with_entry;
                settled = settled_put world.connections mid to (subst (λ (h : History). IsSettled (Some (with_answer from its_item (end_of h))) (Some to)) same settles) has.settled;
                new_is = refl;
              },
              refl,
            )
        by_entry doubt rest (Some entry) with_entry settles = (
          in_phase history doubt (taken (holding entry)),
          takes_lock doubt entry with_entry,
          repaired doubt entry (body true ∷ gate true ∷ publish ∷ []) (world_at world (longer history (entry ∷ [])) None conn to) (
            in_phase history None (written (holding entry)),
            writes_body entry,
            (
              in_phase (longer history (entry ∷ [])) None (opened (holding entry)),
              opens_gate entry,
              (world_at world (longer history (entry ∷ [])) None conn to, publishes entry settles, refl),
            ),
          ),
        )

        pub change_run : (doubt : Option Entry) → IsAtRest history doubt world → IsSettled (Some (with_answer from its_item (end_of (longer history (option_to_list reply.entry))))) (Some to)
            → Goes world (change_events (next_stamp conn from clock) doubt reply.entry) (world_at world (longer history (option_to_list reply.entry)) (doubt_after doubt reply.entry) conn to)
        change_run doubt rest settles = subst (λ (w : World). Goes w (change_events (next_stamp conn from clock) doubt reply.entry) (world_at world (longer history (option_to_list reply.entry)) (doubt_after doubt reply.entry) conn to))
            (λ i. record world { keeper = sym rest.keeper i }) (by_entry doubt rest reply.entry refl settles)

-- ---- the items of a walk

-- the last place that a connection saw after an item
abbrev pub seen_after : Connection → Item → Outcome → ℕ
seen_after from item (answered place reply) = if is_change item.request.method then place + length (option_to_list reply.entry) else place
seen_after from item no_memory = from.seen
seen_after from item disk_fault = from.seen

module _ (kept : History → Type 0) (first : ℕ) (may_give : ℕ → Type 0) (asking : Request → AskedAgent) (conn : ℕ) (ends : (history : History) → kept history → end_of history ≡ first)
    (from : Connection) (item : Item) (next : IsNextEvent from (heard.Request item.request)) (number : item.number ≡ request_number from) (asked : item.asked ≡ asking item.request)
    (before after shown : List Entry) (on : IsPrefix after shown) (seen : from.seen ≤ first + length before) (clock : ℕ) (given : IsClockMoment may_give clock) (to : Connection) where
  at_end : (history : History) → kept history → (entries : List Entry) → first + length entries ≡ end_of (longer history entries)
  at_end history k entries = omega (arith, ends history k, length-append history.entries entries)

  -- the answer of a read
  look_of : (place : ℕ) (reply : Reply) → item.outcome ≡ answered place reply → is_change item.request.method ≡ false → IsDecided kept first conn clock before item place reply after → IsSettled (Some (with_answer from item place)) (Some to)
      → Looks kept may_give asking conn shown from item place to
  look_of place reply is reads d settles = record {
    reads = reads;
    entries = d.entries;
    seen = prefix_trans d.entries after shown (prefix_trans d.entries (d.entries ++ option_to_list reply.entry) after (option_to_list reply.entry, refl) d.seen_after) on;
    at = λ history k. d.place_is ∙ at_end history k d.entries;
    look = λ history k world has shows.
        let here_is : place ≡ end_of (longer history d.entries) = d.place_is ∙ at_end history k d.entries in
        let r = d.replies history k in
        let here : IsPlace (longer history d.entries) place = record { from = omega (arith, here_is); to = omega (arith, here_is) } in
        let same : pod_at (longer history d.entries) place ≡ pod_at world.keeper.history place =
        sym (ap (λ (h : History). pod_at h place) shows.history_is ∙ pod_grows (longer history d.entries) shows.more place here) in
        let first_reply : IsReply (pod_at (longer history d.entries) place) item.request item.asked place (stamp_of conn item) reply =
        subst (λ (n : ℕ). IsReply (pod_at (longer history d.entries) n) item.request item.asked n (stamp_of conn item) reply) (sym here_is) r.reply_is in
        let there : IsReply (pod_at world.keeper.history place) item.request item.asked place (stamp_of conn item) reply =
        subst (λ (pod : Pod). IsReply pod item.request item.asked place (stamp_of conn item) reply) same first_reply in
        let stamped : stamp_of conn item ≡ next_stamp conn from item.moment = λ i. record { conn = conn; number = number i; moment = record { 0 = item.moment } } in
        let by_agent : IsReply (pod_at world.keeper.history place) item.request (asking item.request) place (stamp_of conn item) reply =
        subst (λ (a : AskedAgent). IsReply (pod_at world.keeper.history place) item.request a place (stamp_of conn item) reply) asked there in
        let reply_is : IsReply (pod_at world.keeper.history place) item.request (asking item.request) place (next_stamp conn from item.moment) reply =
        subst (λ (s : Stamp). IsReply (pod_at world.keeper.history place) item.request (asking item.request) place s reply) stamped by_agent in
        let read_is : AnswersRead may_give asking world.keeper.history conn place item.moment from (with_answer from item place) = record {
          request = item.request;
          next = next;
          changes_nothing = reads;
          reply = reply;
          is_reply = reply_is;
          new_is = λ i. with_answer from (record { request = item.request; number = number i; asked = asked i; moment = item.moment; outcome = is i }) place;
        } in
        let moment_is : item.moment ≡ clock = r.moment ∙ ap (λ b. if b then max clock (moment_before (longer history d.entries) (end_of (longer history d.entries))) else clock) reads in
        looks may_give asking conn world from has place item.moment (with_answer from item place) to
        (omega (arith, seen, d.place_is, prefix_length before d.entries d.seen_before)) (omega (arith, here_is, shows.published)) (subst (IsClockMoment may_give) (sym moment_is) given) (inl read_is) settles;
  }

  -- the answer of a change
  change_of : (place : ℕ) (reply : Reply) → item.outcome ≡ answered place reply → is_change item.request.method ≡ true → IsDecided kept first conn clock before item place reply after
      → IsSettled (Some (with_answer from item (place + length (option_to_list reply.entry)))) (Some to) → Changes kept may_give asking conn shown from item place reply to
  change_of place reply is writes d settles = record {
    writes = writes;
    entries = d.entries;
    seen = prefix_trans (d.entries ++ option_to_list reply.entry) after shown d.seen_after on;
    at = λ history k. d.place_is ∙ at_end history k d.entries;
    clock = clock;
    change = λ history k doubt world has rest.
        let here = longer history d.entries in
        let here_is : place ≡ end_of here = d.place_is ∙ at_end history k d.entries in
        let r = d.replies history k in
        let stamp : Stamp = next_stamp conn from clock in
        let last = max clock (moment_before here (end_of here)) in
        let moment_is : item.moment ≡ last = r.moment ∙ ap (λ b. if b then last else clock) writes in
        let stamped : stamp_of conn item ≡ record { conn = conn; number = request_number from; moment = record { 0 = last } } = λ i. record { conn = conn; number = number i; moment = record { 0 = moment_is i } } in
        let by_agent : IsReply (pod_at here (end_of here)) item.request (asking item.request) (end_of here) (stamp_of conn item) reply =
        subst (λ (a : AskedAgent). IsReply (pod_at here (end_of here)) item.request a (end_of here) (stamp_of conn item) reply) asked r.reply_is in
        let reply_is : IsReplyAtEnd here item.request (asking item.request) stamp reply =
        subst (λ (s : Stamp). IsReply (pod_at here (end_of here)) item.request (asking item.request) (end_of here) s reply) stamped by_agent in
        let its : Item = item_at_end here item.request (asking item.request) stamp reply in
        let same : item ≡ its = λ i. record { request = item.request; number = number i; asked = asked i; moment = moment_is i; outcome = (is ∙ ap (λ (n : ℕ). answered n reply) here_is) i } in
        let far : place + length (option_to_list reply.entry) ≡ end_of (longer here (option_to_list reply.entry)) = omega (arith, here_is, length-append here.entries (option_to_list reply.entry)) in
        let settled : IsSettled (Some (with_answer from its (end_of (longer here (option_to_list reply.entry))))) (Some to) =
        subst (λ (c : Connection). IsSettled (Some c) (Some to)) (λ i. with_answer from (same i) (far i)) settles in
        change_run may_give asking conn world from has here item.request clock reply next given writes reply_is to doubt rest settled;
  }

  -- a change that met a disk fault
  fault_of : item.outcome ≡ disk_fault → MetFault kept first conn clock before item after → IsSettled (Some (with_answer from item from.seen)) (Some to) → Faults kept may_give asking conn shown from item to
  fault_of is m settles = record {
    entries = m.entries;
    entry = m.entry;
    clock = clock;
    fault = λ history k doubt step world has rest some.
        let here = longer history m.entries in
        let stamp : Stamp = next_stamp conn from clock in
        let stamped : clock_stamp conn clock item ≡ stamp = λ i. record { conn = conn; number = number i; moment = record { 0 = clock } } in
        let by_agent : IsReplyAtEnd here item.request (asking item.request) (clock_stamp conn clock item) m.reply =
        subst (λ (a : AskedAgent). IsReplyAtEnd here item.request a (clock_stamp conn clock item) m.reply) asked (m.replies history k) in
        let reply_is : IsReplyAtEnd here item.request (asking item.request) stamp m.reply =
        subst (λ (s : Stamp). IsReplyAtEnd here item.request (asking item.request) s m.reply) stamped by_agent in
        let its : Item = item_at_end here item.request (asking item.request) stamp m.reply in
        let same : with_answer from item from.seen ≡ with_answer from (record its { outcome = disk_fault }) from.seen = λ i. record from {
          output = from.output ++ outcome_text item (is i);
          done = from.done ++ heard.Request item.request ∷ [];
          switched = upgrades (is i);
        } in
        let settled : IsSettled (Some (with_answer from (record its { outcome = disk_fault }) from.seen)) (Some to) =
        subst (λ (c : Connection). IsSettled (Some c) (Some to)) same settles in
        fault_run may_give asking conn world from has here item.request clock m.reply next given m.changes reply_is to settled m.entry m.entry_is doubt step some rest;
  }

  answers_of : (o : Outcome) → item.outcome ≡ o → Turn kept first conn clock before item o after → IsSettled (Some (with_answer from item (seen_after from item o))) (Some to) → Answers kept may_give asking conn shown from item o to
  answers_of (answered place reply) is d settles = elim (is_change item.request.method) as (λ b. is_change item.request.method ≡ b → IsSettled (Some (with_answer from item (if b then place + length (option_to_list reply.entry) else place))) (Some to) → Looks kept may_give asking conn shown from item place to ⊎ Changes kept may_give asking conn shown from item place reply to) [
    | true ↦ λ e s. inr (change_of place reply is e d s)
    | false ↦ λ e s. inl (look_of place reply is e d s)
  ] refl settles
  answers_of no_memory is d settles = settles
  answers_of disk_fault is d settles = fault_of is d settles

  -- an item, where the interims after it are written
  pub answers_one : Turn kept first conn clock before item item.outcome after → IsSettled (Some (with_answer from item (seen_after from item item.outcome))) (Some to) → Answers kept may_give asking conn shown from item item.outcome to
  answers_one turn settles = answers_of item.outcome refl turn settles

  -- it has seen no more than the session
  seen_at : (o : Outcome) → Turn kept first conn clock before item o after → seen_after from item o ≤ first + length after
  seen_at (answered place reply) d =
      let long : length (d.entries ++ option_to_list reply.entry) ≤ length after = prefix_length (d.entries ++ option_to_list reply.entry) after d.seen_after in
      elim (is_change item.request.method) as (λ b. (if b then place + length (option_to_list reply.entry) else place) ≤ first + length after) [
        | true ↦ omega (arith, d.place_is, long, length-append d.entries (option_to_list reply.entry))
        | false ↦ omega (arith, d.place_is, long, length-append d.entries (option_to_list reply.entry))
      ]
  seen_at no_memory p = omega (arith, seen, prefix_length before after p)
  seen_at disk_fault m = omega (arith, seen, prefix_length before after m.seen_after)

  pub seen_one : Turn kept first conn clock before item item.outcome after → seen_after from item item.outcome ≤ first + length after
  seen_one turn = seen_at item.outcome turn
