-- What is answered, as events of a world.
use Rattle.std.proofs.Common.{◌≡◌, inl, ℕ, true, false, IsTrue, List, [], ◌∷◌, ◌++◌, Option, Some, None, IsSome, refl, sym, ap, subst, ◌∙◌, arith, length-append}
use Rattle.std.proofs.lemmas.List.{append-nil}
use Rattle.std.specs.Option.{option_to_list}
use mathlib.Core.List.{IsPrefix}
use Rattle.pod_base.proofs.Prefixes.{prefix_length}
use Rattle.pod_base.specs.declared.moment.Stamp.{Stamp}
use Rattle.pod_base.specs.declared.request.Request.{Request}
use Rattle.pod_base.specs.declared.response.Response.{Response}
use Rattle.pod_command.specs.declared.entry.Entry.{Entry}
use Rattle.pod_core.proofs.Histories.{pod_grows}
use Rattle.pod_core.specs.History.{History, IsPlace, end_of, longer, pod_at}
use Rattle.pod_core.specs.KeeperSteps.{Holder, KeeperView, Phase, IsReplyAtEnd, free, held_by, item_at_end, opened, taken, written}
use Rattle.pod_core.specs.Session.{Item}
use Rattle.pod_core.specs.World.{AnswersRead, Connection, DoesTake, Event, World, after_take, body, gate, next_stamp, publish, put_connection, repair, with_answer, with_keeper}
use Rattle.pod_keeper.specs.CommitEvents.{FailedStep, at_body, at_gate, at_repair}
use Rattle.pod_live.specs.Visits.{ReadAt, RepliesAtEnd}
use Rattle.pod_live.specs.WorldEvents.{DoesEvents, IsChange, IsFault, IsLook, IsNextRequest, change_events, changed_world, doubt_after, doubt_left, fault_events, faulted_world, gives, item_at, repairs}
use Rattle.pod_reply.specs.Replies.{Reply}
use Rattle.pod_reply.specs.Reply.{IsReply}
use Rattle.pod_rows.specs.Pod.{Pod}
use Rattle.reply_laws.specs.Granted.{is_change}
use Rattle.token_table.specs.Credentials.{AskedAgent}

module _ (world : World) (from : Connection) (seen : ℕ) (asking : Request → AskedAgent) (request : Request) (asked : AskedAgent) (stamp : Stamp) (next : IsNextRequest world from seen asking request asked stamp) where
  -- the stamp is that of the connection's next request
  stamped : stamp ≡ next_stamp stamp.conn from stamp.moment.0
  stamped = λ i. record { conn = stamp.conn; number = sym next.number i; moment = stamp.moment }

-- a look
module _ (kept : History → Type 0) (seen given : List Entry) (request : Request) (asked : AskedAgent) (stamp : Stamp) (response : Response) (later : IsPrefix seen given) (reads : is_change request.method ≡ false) where
  pub is_look : ReadAt kept given request asked stamp response → IsLook kept seen given request asked stamp response
  is_look read = record {
    reply = read.reply;
    response_is = read.response_is;
    look = λ history held world from asking shows next.
        let at = longer history given in
        let place = end_of at in
        let here : IsPlace at place = record { from = omega arith; to = omega arith } in
        let same : pod_at at place ≡ pod_at world.keeper.history place =
        sym (ap (λ (h : History). pod_at h place) shows.history_is ∙ pod_grows at shows.more place here) in
        let there : IsReply (pod_at world.keeper.history place) request asked place stamp read.reply =
        subst (λ (pod : Pod). IsReply pod request asked place stamp read.reply) same (read.replies history held) in
        let agent : IsReply (pod_at world.keeper.history place) request (asking request) place stamp read.reply =
        subst (λ (a : AskedAgent). IsReply (pod_at world.keeper.history place) request a place stamp read.reply) (sym next.agent) there in
        let reply_is : IsReply (pod_at world.keeper.history place) request (asking request) place (next_stamp stamp.conn from stamp.moment.0) read.reply =
        subst (λ (s : Stamp). IsReply (pod_at world.keeper.history place) request (asking request) place s read.reply) (stamped world from (end_of (longer history seen)) asking request asked stamp next) agent in
        let to = with_answer from (item_at request asked stamp place read.reply) place in
        let read_is : AnswersRead (gives stamp.moment.0) asking world.keeper.history stamp.conn place stamp.moment.0 from to = record {
          request = request;
          next = next.next;
          changes_nothing = reads;
          reply = read.reply;
          is_reply = reply_is;
          new_is = λ i. with_answer from (item_at request (sym next.agent i) (stamped world from (end_of (longer history seen)) asking request asked stamp next i) place read.reply) place;
        } in
        record {
          from = from;
          is_there = next.is_there;
          seen = omega (arith, next.seen_at, prefix_length seen given later, length-append history.entries seen, length-append history.entries given);
          published = omega (arith, shows.published);
          clock = (next.seconds, next.moment, next.moment);
          to = to;
          answers = inl read_is;
          new_is = refl;
        };
  }

-- a change
module _ (history : History) (request : Request) (asked : AskedAgent) (stamp : Stamp) (reply : Reply) (changes : IsTrue (is_change request.method)) (is : IsReplyAtEnd history request asked stamp reply) (asking : Request → AskedAgent) (from : Connection) (world : World) where
  abbrev its_item : Item
  its_item = item_at_end history request asked stamp reply

  abbrev holding : Entry → Holder
  holding entry = record { conn = stamp.conn; item = its_item; entry = entry }

  -- the world with that history in a phase, and with that in doubt
  abbrev in_phase : History → Option Entry → Phase → World
  in_phase now doubt phase = record world { keeper = record { history = now; doubt = doubt; phase = phase } }

  abbrev Goes : World → List Event → World → Type 0
  Goes old events new = DoesEvents (gives stamp.moment.0) asking old events new

  module _ (next : IsNextRequest world from (end_of history) asking request asked stamp) where
    abbrev now_stamped : stamp ≡ next_stamp stamp.conn from stamp.moment.0
    now_stamped = stamped world from (end_of history) asking request asked stamp next

    -- the request takes the lock
    abbrev taken_world : Option Entry → Option Entry → World
    taken_world doubt o = with_keeper (after_take (in_phase history doubt free) stamp.conn from its_item o) (record { history = history; doubt = doubt; phase = held_by stamp its_item o })

    takes : (doubt o : Option Entry) → reply.entry ≡ o → DoesTake (gives stamp.moment.0) asking stamp.conn stamp.moment.0 (in_phase history doubt free) (taken_world doubt o)
    takes doubt o has =
        let to : KeeperView = record { history = history; doubt = doubt; phase = held_by stamp its_item o } in
        record {
          from = from;
          is_there = next.is_there;
          request = request;
          next = next.next;
          clock = (next.seconds, next.moment, next.moment);
          reply = reply;
          to = to;
          step = record {
            is_free = refl;
            changes = changes;
            is_reply = subst (λ (a : AskedAgent). IsReplyAtEnd history request a (next_stamp stamp.conn from stamp.moment.0) reply) (sym next.agent) (subst (λ (s : Stamp). IsReplyAtEnd history request asked s reply) now_stamped is);
            new_is = λ i. record { history = history; doubt = doubt; phase = held_by (now_stamped i) (item_at_end history request (sym next.agent i) (now_stamped i) reply) (sym has i) };
          };
          new_is = λ i. with_keeper (after_take (in_phase history doubt free) stamp.conn from (item_at_end history request (sym next.agent i) (now_stamped i) reply) (sym has i)) to;
        }

    -- an entry in doubt is repaired, where there is one
    repaired : (doubt : Option Entry) (entry : Entry) (events : List Event) (after : World) → Goes (in_phase history None (taken (holding entry))) events after → Goes (in_phase history doubt (taken (holding entry))) (repairs doubt ++ events) after
    repaired None entry events after run = run
    repaired (Some other) entry events after run = (
      in_phase history None (taken (holding entry)),
      record { to = record { history = history; doubt = None; phase = taken (holding entry) }; step = record { holder = holding entry; is_taken = refl; entry = other; in_doubt = refl; new_is = refl }; follows = refl },
      run,
    )

    -- the record is written, its gate is opened, and the entry is published
    entered : (entry : Entry) → Goes (in_phase history None (taken (holding entry))) (body true ∷ gate true ∷ publish ∷ []) (changed_world world (longer history (entry ∷ [])) None stamp.conn from its_item)
    entered entry =
        let opens : Goes (in_phase (longer history (entry ∷ [])) None (opened (holding entry))) (publish ∷ []) (changed_world world (longer history (entry ∷ [])) None stamp.conn from its_item) = (
          changed_world world (longer history (entry ∷ [])) None stamp.conn from its_item,
          record { holder = holding entry; is_opened = refl; from = from; is_there = next.is_there; new_is = refl },
          refl,
        ) in
        let writes : Goes (in_phase history None (written (holding entry))) (gate true ∷ publish ∷ []) (changed_world world (longer history (entry ∷ [])) None stamp.conn from its_item) = (
          in_phase (longer history (entry ∷ [])) None (opened (holding entry)),
          record { to = record { history = longer history (entry ∷ []); doubt = None; phase = opened (holding entry) }; step = record { holder = holding entry; is_written = refl; new_is = refl }; follows = refl },
          opens,
        ) in (
          in_phase history None (written (holding entry)),
          record { to = record { history = history; doubt = None; phase = written (holding entry) }; step = record { holder = holding entry; is_taken = refl; is_sure = refl; new_is = refl }; follows = refl },
          writes,
        )

    -- the holder of the lock gives up, and its connection gets the response to a disk fault
    abbrev fails_in : Option Entry → World
    fails_in doubt = faulted_world world history doubt stamp.conn from its_item

    repair_fails : (other entry : Entry) → Goes (in_phase history (Some other) (taken (holding entry))) (repair false ∷ []) (fails_in (Some other))
    repair_fails other entry = (
      fails_in (Some other),
      record {
        to = record { history = history; doubt = Some other; phase = free };
        step = record { holder = holding entry; is_taken = refl; entry = other; in_doubt = refl; new_is = refl };
        follows = record { holder = holding entry; held = refl; from = from; is_there = next.is_there; new_is = refl };
      },
      refl,
    )

    body_fails : (entry : Entry) → Goes (in_phase history None (taken (holding entry))) (body false ∷ []) (fails_in None)
    body_fails entry = (
      fails_in None,
      record {
        to = record { history = history; doubt = None; phase = free };
        step = record { holder = holding entry; is_taken = refl; is_sure = refl; new_is = refl };
        follows = record { holder = holding entry; held = refl; from = from; is_there = next.is_there; new_is = refl };
      },
      refl,
    )

    gate_fails : (entry : Entry) → Goes (in_phase history None (taken (holding entry))) (body true ∷ gate false ∷ []) (fails_in (Some entry))
    gate_fails entry =
        let opens : Goes (in_phase history None (written (holding entry))) (gate false ∷ []) (fails_in (Some entry)) = (
          fails_in (Some entry),
          record {
            to = record { history = history; doubt = Some entry; phase = free };
            step = record { holder = holding entry; is_written = refl; new_is = refl };
            follows = record { holder = holding entry; held = refl; from = from; is_there = next.is_there; new_is = refl };
          },
          refl,
        ) in (
          in_phase history None (written (holding entry)),
          record { to = record { history = history; doubt = None; phase = written (holding entry) }; step = record { holder = holding entry; is_taken = refl; is_sure = refl; new_is = refl }; follows = refl },
          opens,
        )

    fails_at : (entry : Entry) → reply.entry ≡ Some entry → (doubt : Option Entry) (step : FailedStep) → (step ≡ at_repair → IsSome doubt) → Goes (in_phase history doubt free) (fault_events stamp doubt step) (fails_in (doubt_left doubt entry step))
    fails_at entry has None at_repair some = absurd (cc (some refl))
    fails_at entry has (Some other) at_repair some = (taken_world (Some other) (Some entry), takes (Some other) (Some entry) has, repair_fails other entry)
    fails_at entry has doubt at_body some = (taken_world doubt (Some entry), takes doubt (Some entry) has, repaired doubt entry (body false ∷ []) (fails_in None) (body_fails entry))
    fails_at entry has doubt at_gate some = (taken_world doubt (Some entry), takes doubt (Some entry) has, repaired doubt entry (body true ∷ gate false ∷ []) (fails_in (Some entry)) (gate_fails entry))

    pub faults_from_rest : (entry : Entry) → reply.entry ≡ Some entry → (doubt : Option Entry) (step : FailedStep) → (step ≡ at_repair → IsSome doubt) → world.keeper ≡ record { history = history; doubt = doubt; phase = free }
        → Goes world (fault_events stamp doubt step) (fails_in (doubt_left doubt entry step))
    faults_from_rest entry has doubt step some at = subst (λ (w : World). Goes w (fault_events stamp doubt step) (fails_in (doubt_left doubt entry step)))
        (λ i. record world { keeper = sym at i }) (fails_at entry has doubt step some)

    module _ (published : world.published ≡ end_of history) (doubt : Option Entry) where
      same_history : longer history [] ≡ history
      same_history = λ i. record history { entries = append-nil history.entries i }

      -- without an entry
      unchanged : changed_world world (longer history []) doubt stamp.conn from its_item ≡ taken_world doubt None
      unchanged = (λ i. changed_world world (same_history i) doubt stamp.conn from its_item) ∙ (λ i. record world {
        keeper = record { history = history; doubt = doubt; phase = free };
        published = sym published i;
        connections = put_connection world.connections stamp.conn (with_answer from its_item (end_of history));
      })

      by_events : (o : Option Entry) → reply.entry ≡ o → Goes (in_phase history doubt free) (change_events stamp doubt o) (changed_world world (longer history (option_to_list o)) (doubt_after doubt o) stamp.conn from its_item)
      by_events None has = (taken_world doubt None, takes doubt None has, unchanged)
      by_events (Some entry) has = (
        taken_world doubt (Some entry),
        takes doubt (Some entry) has,
        repaired doubt entry (body true ∷ gate true ∷ publish ∷ []) (changed_world world (longer history (entry ∷ [])) None stamp.conn from its_item) (entered entry),
      )

      pub from_rest : world.keeper ≡ record { history = history; doubt = doubt; phase = free } → Goes world (change_events stamp doubt reply.entry) (changed_world world (longer history (option_to_list reply.entry)) (doubt_after doubt reply.entry) stamp.conn from its_item)
      from_rest at = subst (λ (w : World). Goes w (change_events stamp doubt reply.entry) (changed_world world (longer history (option_to_list reply.entry)) (doubt_after doubt reply.entry) stamp.conn from its_item))
          (λ i. record world { keeper = sym at i }) (by_events reply.entry refl)

pub is_change_of : (kept : History → Type 0) (entries : List Entry) (request : Request) (asked : AskedAgent) (stamp : Stamp) (reply : Reply) → IsTrue (is_change request.method) → RepliesAtEnd kept entries request asked stamp reply
    → IsChange kept entries request asked stamp reply
is_change_of kept entries request asked stamp reply changes replies = λ history held doubt world from asking rest next.
    from_rest (longer history entries) request asked stamp reply changes (replies history held) asking from world next rest.published doubt rest.keeper

pub is_fault_of : (kept : History → Type 0) (entries : List Entry) (request : Request) (asked : AskedAgent) (stamp : Stamp) (reply : Reply) (entry : Entry) → reply.entry ≡ Some entry → IsTrue (is_change request.method)
    → RepliesAtEnd kept entries request asked stamp reply → IsFault kept entries request asked stamp reply entry
is_fault_of kept entries request asked stamp reply entry has changes replies = λ history held doubt world from asking step rest next some.
    faults_from_rest (longer history entries) request asked stamp reply changes (replies history held) asking from world next entry has doubt step some rest.keeper
