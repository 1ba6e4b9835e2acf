-- One legal history: after any events each connection of a world wrote the output of a session.
use Rattle.std.proofs.Common.{◌≡◌, ◌⊎◌, inl, inr, ℕ, ◌+◌, ◌≤◌, ◌==◌, max, Bool, true, false, cond, if◌then◌else◌, List, [], ◌∷◌, ◌++◌, Option, Some, None, is_some, IfSome, refl, sym, ap, subst, append_assoc, ◌∙◌, arith}
use Rattle.std.proofs.lemmas.Bool.Decides.{nat_tests}
use Rattle.std.proofs.lemmas.List.{append-nil}
use Rattle.pod_base.specs.declared.heard.Heard.{Heard}
use Rattle.pod_base.specs.declared.heard.Heard.TheVariants as heard
use Rattle.pod_base.specs.declared.moment.Stamp.{Stamp}
use Rattle.pod_base.specs.declared.request.Request.{Request}
use Rattle.http_conn.specs.Messages.{Messages, AreFirstEvents, unfinished, in_head}
use Rattle.pod_core.specs.History.{History, IsPlace, end_of, entry_at, longer, moment_before}
use Rattle.pod_core.specs.KeeperSteps as keeper
use Rattle.pod_core.specs.KeeperSteps.{Holder, Phase, KeeperView, KeeperEvent, KeeperStep, IsReplyAtEnd, item_at_end, held_by}
use Rattle.pod_command.specs.declared.entry.Entry.{Entry}
use Rattle.pod_reply.specs.Replies.{Reply}
use Rattle.pod_reply.specs.Reply.{IsReply}
use Rattle.pod_rows.specs.Pod.{Pod}
use Rattle.reply_laws.specs.Granted.{is_change}
use Rattle.reply_laws.specs.Laws.{ReadsHaveNone}
use Rattle.pod_core.specs.Session.{Item, answered, disk_fault, IsItem, IsTimely, IsClockMoment, NeverFalls, places_of, stamp_of}
use Rattle.token_table.specs.Credentials.{AskedAgent}
use Rattle.pod_core.specs.World.{Connection, World, Event, IsNextEvent, IsSettled, WritesInterims, AnswersRead, RefusesMessage, FollowsStep, FaultsHolder, DoesArrive, DoesLook, DoesTake, DoesStep, DoesPublish, DoesStop, DoesEvent, WorldStep, WorldRun, after_take, first_connection, first_world, interims_text, holder_in, next_stamp, put_connection, request_number, with_answer, with_connection, with_input, with_keeper, with_refusal}
use Rattle.pod_core.specs.World as world
use Rattle.pod_core.proofs.Histories.{end_grows, place_grows, pod_grows, moment_grows, stands_at_end}
use Rattle.world_laws.specs.OneHistory.{KeepsHistory, WroteSession}
use Rattle.world_laws.proofs.WorldLists.{cancel_left}
use Rattle.world_laws.proofs.WorldSessions.{MessageLaws, Served, IsQuiet, after_interims, after_none, next_first, served_answer, served_grows, served_input, served_refusal, settled, session_of, going}

falls_le : (before after : ℕ) (places : List ℕ) → NeverFalls before places after → before ≤ after
falls_le before after [] h = h
falls_le before after (place ∷ places) h = omega (arith, h.0, falls_le place after places h.1)

true≢false : true ≡ false → ⊥
true≢false e = cc e

-- ---- the connections with one more

module _ (connections : ℕ → Option Connection) (conn : ℕ) (connection : Connection) where
  put_all : (P : ℕ → Connection → Type 0) → ((n : ℕ) (c : Connection) → connections n ≡ Some c → P n c) → P conn connection
      → (n : ℕ) (c : Connection) → put_connection connections conn connection n ≡ Some c → P n c
  put_all P others this n c = elim (n == conn) as (λ b. (n == conn) ≡ b → cond b (Some connection) (connections n) ≡ Some c → P n c) [
    | true ↦ λ e is.
        let same : n ≡ conn = grind (arith, nat_tests) in
        let that : connection ≡ c = cc is in
        subst (λ k. P k c) (sym same) (subst (P conn) that this)
    | false ↦ λ e is. others n c is
  ] refl

  -- what is there of a connection
  put_there : (n : ℕ) (c : Connection) → connections n ≡ Some c → ((n ≡ conn) × (put_connection connections conn connection n ≡ Some connection)) ⊎ (put_connection connections conn connection n ≡ Some c)
  put_there n c is = elim (n == conn) as (λ b. (n == conn) ≡ b → ((n ≡ conn) × (cond b (Some connection) (connections n) ≡ Some connection)) ⊎ (cond b (Some connection) (connections n) ≡ Some c)) [
    | true ↦ λ e.
        let same : n ≡ conn = grind (arith, nat_tests) in
        inl (same, refl)
    | false ↦ λ e. inr is
  ] refl

-- ---- the law

module _ (may_give : ℕ → Type 0) (asking : Request → AskedAgent) (laws : MessageLaws) (reads : ReadsHaveNone) (start : ℕ) where
  -- the next event, by what are first events
  next_is : (c : Connection) (event : Heard) → IsNextEvent c event → (r : Request) → AreFirstEvents c.input (c.done ++ heard.Request r ∷ []) → event ≡ heard.Request r
  next_is c event n r f =
      let p = laws.stay c.input (c.done ++ heard.Request r ∷ []) (c.done ++ event ∷ n.later) n.rest f n.events in
      let both : heard.Request r ∷ p.0 ≡ event ∷ n.later = cancel_left c.done (heard.Request r ∷ p.0) (event ∷ n.later) (sym (append_assoc c.done (heard.Request r ∷ []) p.0) ∙ p.1) in
      sym (cc both)

  -- The holder's connection, whose next event is the holder's request, and what its item will be.
  record Holding (connections : ℕ → Option Connection) (published : ℕ) (history : History) (holder : Holder) : Type 0 where
    c : Connection
    there : connections holder.conn ≡ Some c
    here : c.switched ≡ false
    next : AreFirstEvents c.input (c.done ++ heard.Request holder.item.request ∷ [])
    number : holder.item.number ≡ request_number c
    asked : holder.item.asked ≡ asking holder.item.request
    changes : is_change holder.item.request.method ≡ true
    answers : IsItem may_give holder.conn history holder.item
    places : places_of holder.item ≡ published ∷ (published + 1) ∷ []

  abbrev PhaseOk : (ℕ → Option Connection) → ℕ → History → Phase → Type 0
  PhaseOk connections published history keeper.free = published ≡ end_of history
  PhaseOk connections published history (keeper.taken holder) = (published ≡ end_of history) × Holding connections published (longer history (holder.entry ∷ [])) holder
  PhaseOk connections published history (keeper.written holder) = (published ≡ end_of history) × Holding connections published (longer history (holder.entry ∷ [])) holder
  PhaseOk connections published history (keeper.opened holder) = (published + 1 ≡ end_of history) × Holding connections published history holder

  published_within : (connections : ℕ → Option Connection) (published : ℕ) (history : History) (phase : Phase) → PhaseOk connections published history phase → published ≤ end_of history
  published_within connections published history keeper.free h = omega (arith, h)
  published_within connections published history (keeper.taken holder) h = omega (arith, h.0)
  published_within connections published history (keeper.written holder) h = omega (arith, h.0)
  published_within connections published history (keeper.opened holder) h = omega (arith, h.0)

  abbrev Fine : History → ℕ → ℕ → Connection → Type 0
  Fine history published n c = Served may_give asking history n start c × (c.seen ≤ published)

  record Legal (w : World) : Type 0 where
    from : w.keeper.history.start ≤ start
    phase : PhaseOk w.connections w.published w.keeper.history w.keeper.phase
    conns : (n : ℕ) (c : Connection) → w.connections n ≡ Some c → Fine w.keeper.history w.published n c

  -- ---- arrive

  holding_input : (connections : ℕ → Option Connection) (published : ℕ) (history : History) (holder : Holder) (conn : ℕ) (from : Connection) (piece : List ℕ) → connections conn ≡ Some from
      → Holding connections published history holder → Holding (put_connection connections conn (with_input from piece)) published history holder
  holding_input connections published history holder conn from piece there h = by_place (put_there connections conn (with_input from piece) holder.conn h.c h.there)
    where
      by_place : ((holder.conn ≡ conn) × (put_connection connections conn (with_input from piece) holder.conn ≡ Some (with_input from piece))) ⊎ (put_connection connections conn (with_input from piece) holder.conn ≡ Some h.c)
          → Holding (put_connection connections conn (with_input from piece)) published history holder
      by_place (inr same) = record { c = h.c; there = same; here = h.here; next = h.next; number = h.number; asked = h.asked; changes = h.changes; answers = h.answers; places = h.places }
      by_place (inl (is, put)) =
          let both : Some h.c ≡ Some from = sym h.there ∙ (ap connections is ∙ there) in
          let that : h.c ≡ from = cc both in record {
            c = with_input h.c piece;
            there = put ∙ ap (λ (k : Connection). Some (with_input k piece)) (sym that);
            here = h.here;
            next = record { prefix = h.next.prefix; is_prefix = (h.next.is_prefix.0 ++ piece, sym (append_assoc h.next.prefix h.next.is_prefix.0 piece) ∙ ap (λ l. l ++ piece) h.next.is_prefix.1); all = h.next.all; rest = h.next.rest; messages = h.next.messages; first = h.next.first };
            number = h.number;
            asked = h.asked;
            changes = h.changes;
            answers = h.answers;
            places = h.places;
          }

  phase_input : (connections : ℕ → Option Connection) (published : ℕ) (history : History) (conn : ℕ) (from : Connection) (piece : List ℕ) → connections conn ≡ Some from
      → (phase : Phase) → PhaseOk connections published history phase → PhaseOk (put_connection connections conn (with_input from piece)) published history phase
  phase_input connections published history conn from piece there keeper.free h = h
  phase_input connections published history conn from piece there (keeper.taken holder) h = (h.0, holding_input connections published (longer history (holder.entry ∷ [])) holder conn from piece there h.1)
  phase_input connections published history conn from piece there (keeper.written holder) h = (h.0, holding_input connections published (longer history (holder.entry ∷ [])) holder conn from piece there h.1)
  phase_input connections published history conn from piece there (keeper.opened holder) h = (h.0, holding_input connections published history holder conn from piece there h.1)

  arrives : (conn : ℕ) (piece : List ℕ) (old new : World) → DoesArrive conn piece old new → Legal old → Legal new
  arrives conn piece old new d l = subst Legal (sym d.new_is) (record {
    from = l.from;
    phase = phase_input old.connections old.published old.keeper.history conn d.from piece d.is_there old.keeper.phase l.phase;
    conns = put_all old.connections conn (with_input d.from piece) (Fine old.keeper.history old.published) l.conns
        (let f = l.conns conn d.from d.is_there in (served_input may_give asking old.keeper.history conn start d.from piece f.0, f.1));
  })

  -- ---- look

  holding_other : (connections : ℕ → Option Connection) (published : ℕ) (history : History) (holder : Holder) (conn : ℕ) (from to : Connection) → connections conn ≡ Some from
      → ((r : Request) → is_change r.method ≡ true → AreFirstEvents from.input (from.done ++ heard.Request r ∷ []) → ⊥)
      → Holding connections published history holder → Holding (put_connection connections conn to) published history holder
  holding_other connections published history holder conn from to there never h = by_place (put_there connections conn to holder.conn h.c h.there)
    where
      by_place : ((holder.conn ≡ conn) × (put_connection connections conn to holder.conn ≡ Some to)) ⊎ (put_connection connections conn to holder.conn ≡ Some h.c)
          → Holding (put_connection connections conn to) published history holder
      by_place (inr same) = record { c = h.c; there = same; here = h.here; next = h.next; number = h.number; asked = h.asked; changes = h.changes; answers = h.answers; places = h.places }
      by_place (inl (is, put)) =
          let both : Some h.c ≡ Some from = sym h.there ∙ (ap connections is ∙ there) in
          let that : h.c ≡ from = cc both in
          absurd (never holder.item.request h.changes (subst (λ (k : Connection). AreFirstEvents k.input (k.done ++ heard.Request holder.item.request ∷ [])) that h.next))

  phase_other : (connections : ℕ → Option Connection) (published : ℕ) (history : History) (conn : ℕ) (from to : Connection) → connections conn ≡ Some from
      → ((r : Request) → is_change r.method ≡ true → AreFirstEvents from.input (from.done ++ heard.Request r ∷ []) → ⊥)
      → (phase : Phase) → PhaseOk connections published history phase → PhaseOk (put_connection connections conn to) published history phase
  phase_other connections published history conn from to there never keeper.free h = h
  phase_other connections published history conn from to there never (keeper.taken holder) h = (h.0, holding_other connections published (longer history (holder.entry ∷ [])) holder conn from to there never h.1)
  phase_other connections published history conn from to there never (keeper.written holder) h = (h.0, holding_other connections published (longer history (holder.entry ∷ [])) holder conn from to there never h.1)
  phase_other connections published history conn from to there never (keeper.opened holder) h = (h.0, holding_other connections published history holder conn from to there never h.1)

  module _ (conn place moment : ℕ) (old new : World) (d : DoesLook may_give asking conn place moment old new) (l : Legal old) where
    fine_from : Fine old.keeper.history old.published conn d.from
    fine_from = l.conns conn d.from d.is_there

    within : IsPlace old.keeper.history place
    within = record {
      from = omega (arith, l.from, falls_le start d.from.seen _ fine_from.0.places, d.seen);
      to = omega (arith, d.published, published_within old.connections old.published old.keeper.history old.keeper.phase l.phase);
    }

    looked : (to : Connection) → Fine old.keeper.history old.published conn to → ((r : Request) → is_change r.method ≡ true → AreFirstEvents d.from.input (d.from.done ++ heard.Request r ∷ []) → ⊥) → Legal (with_connection old conn to)
    looked to fine never = record {
      from = l.from;
      phase = phase_other old.connections old.published old.keeper.history conn d.from to d.is_there never old.keeper.phase l.phase;
      conns = put_all old.connections conn to (Fine old.keeper.history old.published) l.conns fine;
    }

    read_legal : (to : Connection) → AnswersRead may_give asking old.keeper.history conn place moment d.from to → Legal (with_connection old conn to)
    read_legal to a =
        let none : a.reply.entry ≡ None = reads _ a.request (asking a.request) place (next_stamp conn d.from moment) a.reply a.is_reply a.changes_nothing in
        let item : Item = record { request = a.request; number = request_number d.from; asked = asking a.request; moment = moment; outcome = answered place a.reply } in
        let places : places_of item ≡ place ∷ [] = ap (λ (o : Option Entry). place ∷ (if is_some o then (place + 1) ∷ [] else [])) none in
        let is : IsItem may_give conn old.keeper.history item = (
          record { there = within; reply_is = a.is_reply; entry = subst (λ (o : Option Entry). IfSome o (λ entry. entry_at old.keeper.history place ≡ Some entry)) (sym none) tt },
          (moment, d.clock, ap (λ b. if b then max moment (moment_before old.keeper.history place) else moment) (sym a.changes_nothing)),
        ) in
        let falls : NeverFalls d.from.seen (places_of item) place = subst (λ xs. NeverFalls d.from.seen xs place) (sym places) (d.seen, omega arith) in
        looked to (subst (Fine old.keeper.history old.published conn) (sym a.new_is) (
          served_answer may_give asking laws old.keeper.history conn start d.from fine_from.0 item a.next.not_switched (next_first d.from (heard.Request a.request) a.next) place refl refl is falls,
          d.published,
        ))
        (λ r changes f.
        let same = next_is d.from (heard.Request a.request) a.next r f in
        let one : a.request ≡ r = cc same in
        true≢false (sym changes ∙ (ap (λ (q : Request). is_change q.method) (sym one) ∙ a.changes_nothing)))

    refused_legal : (to : Connection) → RefusesMessage place moment d.from to → Legal (with_connection old conn to)
    refused_legal to a = looked to (subst (Fine old.keeper.history old.published conn) (sym a.new_is) (
      served_refusal may_give asking laws old.keeper.history conn start d.from fine_from.0 a.status moment place a.next d.clock d.seen,
      d.published,
    ))
        (λ r changes f.
        let same = next_is d.from (heard.Bad a.status) a.next r f in
        absurd (cc same))

    by_answer : AnswersRead may_give asking old.keeper.history conn place moment d.from d.to ⊎ RefusesMessage place moment d.from d.to → Legal (with_connection old conn d.to)
    by_answer (inl a) = read_legal d.to a
    by_answer (inr a) = refused_legal d.to a

    looks : Legal new
    looks = subst Legal (sym d.new_is) (by_answer d.answers)

  -- ---- take

  module _ (history : History) (conn moment : ℕ) (from : Connection) (clock : IsClockMoment may_give moment) (request : Request) (reply : Reply) (changes : is_change request.method ≡ true)
      (is : IsReplyAtEnd history request (asking request) (next_stamp conn from moment) reply) (starts : history.start ≤ start) where
    abbrev taken_item : Item
    taken_item = item_at_end history request (asking request) (next_stamp conn from moment) reply

    at_end : IsPlace history (end_of history)
    at_end = record { from = omega arith; to = omega arith }

    timely : (h : History) → moment_before h (end_of history) ≡ moment_before history (end_of history) → IsTimely may_give conn h taken_item (end_of history)
    timely h same = (
      moment,
      clock,
      ap (λ m. max moment m) (sym same) ∙ ap (λ b. if b then max moment (moment_before h (end_of history)) else moment) (sym changes),
    )

    alone_item : reply.entry ≡ None → IsItem may_give conn history taken_item
    alone_item none = (
      record { there = at_end; reply_is = is; entry = subst (λ (o : Option Entry). IfSome o (λ entry. entry_at history (end_of history) ≡ Some entry)) (sym none) tt },
      timely history refl,
    )

    grown_item : (entry : Entry) → reply.entry ≡ Some entry → IsItem may_give conn (longer history (entry ∷ [])) taken_item
    grown_item entry has = (
      record {
        there = place_grows history (entry ∷ []) (end_of history) at_end;
        reply_is = subst (λ (pod : Pod). IsReply pod request (asking request) (end_of history) (stamp_of conn taken_item) reply) (sym (pod_grows history (entry ∷ []) (end_of history) at_end)) is;
        entry = subst (λ (o : Option Entry). IfSome o (λ e. entry_at (longer history (entry ∷ [])) (end_of history) ≡ Some e)) (sym has) (stands_at_end history (Some entry));
      },
      timely (longer history (entry ∷ [])) (moment_grows history (entry ∷ []) (end_of history) at_end),
    )

    taken_places : (o : Option Entry) → reply.entry ≡ o → places_of taken_item ≡ end_of history ∷ (if is_some o then (end_of history + 1) ∷ [] else [])
    taken_places o has = ap (λ (p : Option Entry). end_of history ∷ (if is_some p then (end_of history + 1) ∷ [] else [])) has

  module _ (conn moment : ℕ) (old new : World) (d : DoesTake may_give asking conn moment old new) (l : Legal old) where
    abbrev the_stamp : Stamp
    the_stamp = next_stamp conn d.from moment

    abbrev the_item : Item
    the_item = item_at_end old.keeper.history d.request (asking d.request) the_stamp d.reply

    all_out : old.published ≡ end_of old.keeper.history
    all_out = subst (PhaseOk old.connections old.published old.keeper.history) d.step.is_free l.phase

    fine_taker : Fine old.keeper.history old.published conn d.from
    fine_taker = l.conns conn d.from d.is_there

    abbrev keeper_after : Option Entry → KeeperView
    keeper_after o = record old.keeper { phase = held_by the_stamp the_item o }

    taken_legal : (o : Option Entry) → d.reply.entry ≡ o → Legal (with_keeper (after_take old conn d.from the_item o) (keeper_after o))
    taken_legal None none =
        let places = taken_places old.keeper.history conn moment d.from d.clock d.request d.reply d.step.changes d.step.is_reply l.from None none in
        let end = end_of old.keeper.history in record {
          from = l.from;
          phase = all_out;
          conns = put_all old.connections conn (with_answer d.from the_item end) (Fine old.keeper.history old.published) l.conns (
            served_answer may_give asking laws old.keeper.history conn start d.from fine_taker.0 the_item d.next.not_switched (next_first d.from (heard.Request d.request) d.next) end refl refl
                (alone_item old.keeper.history conn moment d.from d.clock d.request d.reply d.step.changes d.step.is_reply l.from none)
                (subst (λ xs. NeverFalls d.from.seen xs end) (sym places) (omega (arith, fine_taker.1, all_out), omega arith)),
            omega (arith, all_out),
          );
        }
    taken_legal (Some entry) has = record {
      from = l.from;
      phase = (
        all_out,
        record {
          c = d.from;
          there = d.is_there;
          here = d.next.not_switched;
          next = next_first d.from (heard.Request d.request) d.next;
          number = refl;
          asked = refl;
          changes = d.step.changes;
          answers = grown_item old.keeper.history conn moment d.from d.clock d.request d.reply d.step.changes d.step.is_reply l.from entry has;
          places = taken_places old.keeper.history conn moment d.from d.clock d.request d.reply d.step.changes d.step.is_reply l.from (Some entry) has
              ∙ ap (λ n. n ∷ (n + 1) ∷ []) (sym all_out);
        },
      );
      conns = l.conns;
    }

    takes : Legal new
    takes = subst Legal (sym (d.new_is ∙ ap (with_keeper (after_take old conn d.from the_item d.reply.entry)) d.step.new_is)) (taken_legal d.reply.entry refl)

  -- ---- the steps of the holder

  -- it has failed
  module _ (old new : World) (to : KeeperView) (l : Legal old) (history : History) (holder : Holder) (holds : Holding old.connections old.published history holder) (held : holder_in old.keeper.phase ≡ Some holder)
      (out : old.published ≡ end_of old.keeper.history) where
    failed_as : (d : FaultsHolder to old new) → to.history ≡ old.keeper.history → to.phase ≡ keeper.free → Legal new
    failed_as d same free =
        let both : Some holder ≡ Some d.holder = sym held ∙ d.held in
        let that : holder ≡ d.holder = cc both in
        let h : Holding old.connections old.published history d.holder = subst (Holding old.connections old.published history) that holds in
        let others : Some h.c ≡ Some d.from = sym h.there ∙ d.is_there in
        let it : h.c ≡ d.from = cc others in
        let fine = l.conns d.holder.conn d.from d.is_there in
        let item : Item = record d.holder.item { outcome = disk_fault } in
        let here : d.from.switched ≡ false = subst (λ (k : Connection). k.switched ≡ false) it h.here in
        let next : AreFirstEvents d.from.input (d.from.done ++ heard.Request d.holder.item.request ∷ []) = subst (λ (k : Connection). AreFirstEvents k.input (k.done ++ heard.Request d.holder.item.request ∷ [])) it h.next in
        let number : d.holder.item.number ≡ request_number d.from = subst (λ (k : Connection). d.holder.item.number ≡ request_number k) it h.number in
        let served = served_answer may_give asking laws old.keeper.history d.holder.conn start d.from fine.0 item here next d.from.seen number h.asked h.changes (omega arith) in
        subst Legal (sym d.new_is) (record {
          from = subst (λ (k : History). k.start ≤ start) (sym same) l.from;
          phase = subst (λ p. PhaseOk (put_connection old.connections d.holder.conn (with_answer d.from item d.from.seen)) old.published to.history p) (sym free)
              (out ∙ ap end_of (sym same));
          conns = subst (λ (k : History). (n : ℕ) (c : Connection) → put_connection old.connections d.holder.conn (with_answer d.from item d.from.seen) n ≡ Some c → Fine k old.published n c) (sym same)
              (put_all old.connections d.holder.conn (with_answer d.from item d.from.seen) (Fine old.keeper.history old.published) l.conns (served, fine.1));
        })

  phase_as : (w : World) → Legal w → (phase : Phase) → w.keeper.phase ≡ phase → PhaseOk w.connections w.published w.keeper.history phase
  phase_as w l phase is = subst (PhaseOk w.connections w.published w.keeper.history) is l.phase

  held_as : (w : World) (holder : Holder) (phase : Phase) → w.keeper.phase ≡ phase → holder_in phase ≡ Some holder → holder_in w.keeper.phase ≡ Some holder
  held_as w holder phase is has = ap holder_in is ∙ has

  repairs : (ok : Bool) (old new : World) → DoesStep (keeper.repair ok) ok old new → Legal old → Legal new
  repairs true old new d l = subst Legal (sym (d.follows ∙ ap (with_keeper old) d.step.new_is)) (record { from = l.from; phase = l.phase; conns = l.conns })
  repairs false old new d l =
      let p = phase_as old l (keeper.taken d.step.holder) d.step.is_taken in
      failed_as old new d.to l (longer old.keeper.history (d.step.holder.entry ∷ [])) d.step.holder p.1 (held_as old d.step.holder (keeper.taken d.step.holder) d.step.is_taken refl) p.0 d.follows
      (ap (λ (k : KeeperView). k.history) d.step.new_is) (ap (λ (k : KeeperView). k.phase) d.step.new_is)

  bodies : (ok : Bool) (old new : World) → DoesStep (keeper.body ok) ok old new → Legal old → Legal new
  bodies true old new d l =
      let p = phase_as old l (keeper.taken d.step.holder) d.step.is_taken in
      subst Legal (sym (d.follows ∙ ap (with_keeper old) d.step.new_is)) (record { from = l.from; phase = p; conns = l.conns })
  bodies false old new d l =
      let p = phase_as old l (keeper.taken d.step.holder) d.step.is_taken in
      failed_as old new d.to l (longer old.keeper.history (d.step.holder.entry ∷ [])) d.step.holder p.1 (held_as old d.step.holder (keeper.taken d.step.holder) d.step.is_taken refl) p.0 d.follows
      (ap (λ (k : KeeperView). k.history) d.step.new_is) (ap (λ (k : KeeperView). k.phase) d.step.new_is)

  gates : (ok : Bool) (old new : World) → DoesStep (keeper.gate ok) ok old new → Legal old → Legal new
  gates true old new d l =
      let p = phase_as old l (keeper.written d.step.holder) d.step.is_written in
      let more : List Entry = d.step.holder.entry ∷ [] in
      subst Legal (sym (d.follows ∙ ap (with_keeper old) d.step.new_is)) (record {
        from = l.from;
        phase = (omega (arith, p.0, end_grows old.keeper.history more), p.1);
        conns = λ n c is. (served_grows may_give asking old.keeper.history more n start c (l.conns n c is).0, (l.conns n c is).1);
      })
  gates false old new d l =
      let p = phase_as old l (keeper.written d.step.holder) d.step.is_written in
      failed_as old new d.to l (longer old.keeper.history (d.step.holder.entry ∷ [])) d.step.holder p.1 (held_as old d.step.holder (keeper.written d.step.holder) d.step.is_written refl) p.0 d.follows
      (ap (λ (k : KeeperView). k.history) d.step.new_is) (ap (λ (k : KeeperView). k.phase) d.step.new_is)

  -- ---- publish

  publishes : (old new : World) → DoesPublish old new → Legal old → Legal new
  publishes old new d l =
      let p = phase_as old l (keeper.opened d.holder) d.is_opened in
      let h = p.1 in
      let end = end_of old.keeper.history in
      let others : Some h.c ≡ Some d.from = sym h.there ∙ d.is_there in
      let it : h.c ≡ d.from = cc others in
      let fine = l.conns d.holder.conn d.from d.is_there in
      let here : d.from.switched ≡ false = subst (λ (k : Connection). k.switched ≡ false) it h.here in
      let next : AreFirstEvents d.from.input (d.from.done ++ heard.Request d.holder.item.request ∷ []) = subst (λ (k : Connection). AreFirstEvents k.input (k.done ++ heard.Request d.holder.item.request ∷ [])) it h.next in
      let number : d.holder.item.number ≡ request_number d.from = subst (λ (k : Connection). d.holder.item.number ≡ request_number k) it h.number in
      let falls : NeverFalls d.from.seen (places_of d.holder.item) end = subst (λ xs. NeverFalls d.from.seen xs end) (sym h.places) (fine.1, (omega arith, omega (arith, p.0))) in
      let served = served_answer may_give asking laws old.keeper.history d.holder.conn start d.from fine.0 d.holder.item here next end number h.asked h.answers falls in
      subst Legal (sym d.new_is) (record {
        from = l.from;
        phase = refl;
        conns = put_all old.connections d.holder.conn (with_answer d.from d.holder.item end) (Fine old.keeper.history end) (λ n c is. ((l.conns n c is).0, omega (arith, (l.conns n c is).1, p.0))) (served, omega arith);
      })

  -- ---- all events

  does : (old : World) (event : Event) (new : World) → DoesEvent may_give asking old event new → Legal old → Legal new
  does old (world.arrive conn piece) new d l = arrives conn piece old new d l
  does old (world.look conn place moment) new d l = looks conn place moment old new d l
  does old (world.take conn moment) new d l = takes conn moment old new d l
  does old (world.repair ok) new d l = repairs ok old new d l
  does old (world.body ok) new d l = bodies ok old new d l
  does old (world.gate ok) new d l = gates ok old new d l
  does old world.publish new d l = publishes old new d l
  does old (world.stop image) new d l = subst Legal (sym d.new_is) (record { from = l.from; phase = l.phase; conns = l.conns })

  -- ---- the interims that are next are written

  -- a connection that was there before
  settled_from : (o p : Option Connection) → IsSettled o p → (d : Connection) → p ≡ Some d → (c : Connection) × (o ≡ Some c) × IsSettled (Some c) (Some d)
  settled_from None None h d is = absurd (cc is)
  settled_from None (Some b) h d is = absurd h
  settled_from (Some a) None h d is = absurd h
  settled_from (Some a) (Some b) h d is = (a, refl, subst (λ k. IsSettled (Some a) (Some k)) (cc is) h)

  settled_to : (o p : Option Connection) → IsSettled o p → (c : Connection) → o ≡ Some c → (d : Connection) × (p ≡ Some d) × IsSettled (Some c) (Some d)
  settled_to None p h c is = absurd (cc is)
  settled_to (Some a) None h c is = absurd h
  settled_to (Some a) (Some b) h c is = (b, refl, subst (λ k. IsSettled (Some k) (Some b)) (cc is) h)

  -- where a request is next, nothing is written
  same_settled : (c d : Connection) (r : Request) → c.switched ≡ false → AreFirstEvents c.input (c.done ++ heard.Request r ∷ []) → IsSettled (Some c) (Some d) → d ≡ c
  same_settled c d r here f (inl (was, same)) = same
  same_settled c d r here f (inr w) =
      let p = laws.stay c.input (c.done ++ heard.Request r ∷ []) (c.done ++ w.later) w.rest f w.events in
      let both : heard.Request r ∷ p.0 ≡ w.later = cancel_left c.done (heard.Request r ∷ p.0) w.later (sym (append_assoc c.done (heard.Request r ∷ []) p.0) ∙ p.1) in
      w.new_is ∙ (ap (after_interims c) (sym both) ∙ after_none c)

  module _ (old new : World) (each : (n : ℕ) → IsSettled (old.connections n) (new.connections n)) where
    holding_settled : (published : ℕ) (history : History) (holder : Holder) → Holding old.connections published history holder → Holding new.connections published history holder
    holding_settled published history holder h =
        let to = settled_to (old.connections holder.conn) (new.connections holder.conn) (each holder.conn) h.c h.there in
        let same : to.0 ≡ h.c = same_settled h.c to.0 holder.item.request h.here h.next to.2 in record {
          c = h.c;
          there = to.1 ∙ ap (λ (k : Connection). Some k) same;
          here = h.here;
          next = h.next;
          number = h.number;
          asked = h.asked;
          changes = h.changes;
          answers = h.answers;
          places = h.places;
        }

    phase_settled : (published : ℕ) (history : History) (phase : Phase) → PhaseOk old.connections published history phase → PhaseOk new.connections published history phase
    phase_settled published history keeper.free h = h
    phase_settled published history (keeper.taken holder) h = (h.0, holding_settled published (longer history (holder.entry ∷ [])) holder h.1)
    phase_settled published history (keeper.written holder) h = (h.0, holding_settled published (longer history (holder.entry ∷ [])) holder h.1)
    phase_settled published history (keeper.opened holder) h = (h.0, holding_settled published history holder h.1)

    fine_settled : Legal old → (n : ℕ) (d : Connection) → new.connections n ≡ Some d → Fine old.keeper.history old.published n d × IsQuiet d
    fine_settled l n d is =
        let from = settled_from (old.connections n) (new.connections n) (each n) d is in
        let fine = l.conns n from.0 from.1 in
        let s = settled may_give asking laws old.keeper.history n start from.0 fine.0 d from.2 in
        ((s.served, omega (arith, s.seen, fine.1)), s.quiet)

  -- no interim is next on any connection
  abbrev AllQuiet : World → Type 0
  AllQuiet w = (n : ℕ) (c : Connection) → w.connections n ≡ Some c → IsQuiet c

  steps : (old : World) (event : Event) (new : World) → WorldStep may_give asking old event new → Legal old → Legal new × AllQuiet new
  steps old event new s l =
      let m = does old event s.done s.does l in (
        subst Legal (sym s.new_is) (record {
          from = m.from;
          phase = phase_settled s.done new s.settled s.done.published s.done.keeper.history s.done.keeper.phase m.phase;
          conns = λ n c is. (fine_settled s.done new s.settled m n c is).0;
        }),
        λ n c is. (fine_settled s.done new s.settled m n c is).1,
      )

  runs : (old : World) (events : List Event) (new : World) → WorldRun may_give asking old events new → Legal old → AllQuiet old → Legal new × AllQuiet new
  runs old [] new same l q = (subst Legal (sym same) l, subst AllQuiet (sym same) q)
  runs old (event ∷ events) new r l q =
      let next = steps old event r.0 r.1 l in runs r.0 events new r.2 next.0 next.1

  -- ---- the history grows

  longer_none : (history : History) → history ≡ longer history []
  longer_none history = ap (λ (entries : List Entry). record history { entries = entries }) (sym (append-nil history.entries))

  abbrev Grows : History → History → Type 0
  Grows old new = (more : List Entry) × (new ≡ longer old more)

  stays : (old new : History) → new ≡ old → Grows old new
  stays old new same = ([], same ∙ longer_none old)

  grows_more : (a b c : History) → Grows a b → Grows b c → Grows a c
  grows_more a b c h k = (
    h.0 ++ k.0,
    k.1 ∙ (ap (λ (x : History). longer x k.0) h.1 ∙ ap (λ (entries : List Entry). record a { entries = entries }) (append_assoc a.entries h.0 k.0)),
  )

  gives_up : (old new : World) (to : KeeperView) → FaultsHolder to old new → to.history ≡ old.keeper.history → Grows old.keeper.history new.keeper.history
  gives_up old new to d same = stays old.keeper.history new.keeper.history (ap (λ (w : World). w.keeper.history) d.new_is ∙ same)

  event_grows : (old : World) (event : Event) (new : World) → DoesEvent may_give asking old event new → Grows old.keeper.history new.keeper.history
  event_grows old (world.arrive conn piece) new d = stays old.keeper.history new.keeper.history (ap (λ (w : World). w.keeper.history) d.new_is)
  event_grows old (world.look conn place moment) new d = stays old.keeper.history new.keeper.history (ap (λ (w : World). w.keeper.history) d.new_is)
  event_grows old (world.take conn moment) new d = stays old.keeper.history new.keeper.history (ap (λ (w : World). w.keeper.history) d.new_is ∙ ap (λ (k : KeeperView). k.history) d.step.new_is)
  event_grows old (world.repair true) new d = stays old.keeper.history new.keeper.history (ap (λ (w : World). w.keeper.history) d.follows ∙ ap (λ (k : KeeperView). k.history) d.step.new_is)
  event_grows old (world.repair false) new d = gives_up old new d.to d.follows (ap (λ (k : KeeperView). k.history) d.step.new_is)
  event_grows old (world.body true) new d = stays old.keeper.history new.keeper.history (ap (λ (w : World). w.keeper.history) d.follows ∙ ap (λ (k : KeeperView). k.history) d.step.new_is)
  event_grows old (world.body false) new d = gives_up old new d.to d.follows (ap (λ (k : KeeperView). k.history) d.step.new_is)
  event_grows old (world.gate true) new d = (d.step.holder.entry ∷ [], ap (λ (w : World). w.keeper.history) d.follows ∙ ap (λ (k : KeeperView). k.history) d.step.new_is)
  event_grows old (world.gate false) new d = gives_up old new d.to d.follows (ap (λ (k : KeeperView). k.history) d.step.new_is)
  event_grows old world.publish new d = stays old.keeper.history new.keeper.history (ap (λ (w : World). w.keeper.history) d.new_is)
  event_grows old (world.stop image) new d = stays old.keeper.history new.keeper.history (ap (λ (w : World). w.keeper.history) d.new_is)

  run_grows : (old : World) (events : List Event) (new : World) → WorldRun may_give asking old events new → Grows old.keeper.history new.keeper.history
  run_grows old [] new same = stays old.keeper.history new.keeper.history (ap (λ (w : World). w.keeper.history) same)
  run_grows old (event ∷ events) new r =
      let one = event_grows old event r.1.done r.1.does in
      grows_more old.keeper.history r.0.keeper.history new.keeper.history (one.0, ap (λ (w : World). w.keeper.history) r.1.new_is ∙ one.1) (run_grows r.0 events new r.2)

  -- all but the last entry is published
  all_but_last : (connections : ℕ → Option Connection) (published : ℕ) (history : History) (phase : Phase) → PhaseOk connections published history phase → end_of history ≤ published + 1
  all_but_last connections published history keeper.free h = omega (arith, h)
  all_but_last connections published history (keeper.taken holder) h = omega (arith, h.0)
  all_but_last connections published history (keeper.written holder) h = omega (arith, h.0)
  all_but_last connections published history (keeper.opened holder) h = omega (arith, h.0)

-- ---- from the first world on

-- an empty text has no events
nothing_heard : Messages [] [] 0
nothing_heard = unfinished [] [] [] refl (record { few = omega arith; stays = tt }) (in_head refl)

module _ (may_give : ℕ → Type 0) (asking : Request → AskedAgent) (laws : MessageLaws) (reads : ReadsHaveNone) (history : History) (numbers : ℕ → Bool) where
  abbrev new_one : Connection
  new_one = record { input = []; output = []; done = []; switched = false; seen = end_of history }

  first_is : (b : Bool) (d : Connection) → first_connection (end_of history) b ≡ Some d → new_one ≡ d
  first_is false d is = absurd (cc is)
  first_is true d is = cc is

  first_fine : (n : ℕ) (d : Connection) → first_connection (end_of history) (numbers n) ≡ Some d → Served may_give asking history n (end_of history) d × (d.seen ≤ end_of history)
  first_fine n d is = subst (λ (k : Connection). Served may_give asking history n (end_of history) k × (k.seen ≤ end_of history)) (first_is (numbers n) d is) (
    record {
      items = [];
      first = record { prefix = []; is_prefix = ([], refl); all = []; rest = 0; messages = nothing_heard; first = ([], refl) };
      requests = refl;
      numbers = refl;
      asked = tt;
      answers = tt;
      places = omega arith;
      stands = going refl tt tt refl;
    },
    omega arith,
  )

  first_quiet : (n : ℕ) (d : Connection) → first_connection (end_of history) (numbers n) ≡ Some d → IsQuiet d
  first_quiet n d is = subst IsQuiet (first_is (numbers n) d is) (λ later rest m here. ap interims_text (laws.once [] later [] rest 0 m nothing_heard))

  module _ (events : List Event) (new : World) (run : WorldRun may_give asking (first_world history numbers) events new) where
    ends_legal : Legal may_give asking laws reads (end_of history) new × AllQuiet may_give asking laws reads (end_of history) new
    ends_legal = runs may_give asking laws reads (end_of history) (first_world history numbers) events new run
        (record { from = omega arith; phase = refl; conns = first_fine })
        (λ n d is. first_quiet n d is)

    pub only_grows : KeepsHistory history new
    only_grows =
        let more = run_grows may_give asking laws reads (end_of history) (first_world history numbers) events new run in record {
          more = more.0;
          history_is = more.1;
          published = published_within may_give asking laws reads (end_of history) new.connections new.published new.keeper.history new.keeper.phase ends_legal.0.phase;
          all_but_last = all_but_last may_give asking laws reads (end_of history) new.connections new.published new.keeper.history new.keeper.phase ends_legal.0.phase;
          seen = λ conn c there. (ends_legal.0.conns conn c there).1;
        }

    -- Each connection wrote the output of a session of the world's one history.
    pub wrote_session : (conn : ℕ) (c : Connection) → new.connections conn ≡ Some c → (all : List Heard) (rest : ℕ) → Messages c.input all rest
        → WroteSession may_give asking (end_of history) new.keeper.history conn c all
    wrote_session conn c there all rest m =
        let fine = ends_legal.0.conns conn c there in
        let s = session_of may_give asking laws new.keeper.history conn (end_of history) c fine.0 (ends_legal.1 conn c there) all rest m in record {
          session = s.session;
          conn_is = s.conn_is;
          history_is = s.history_is;
          is_session = s.is_session;
          written = s.written;
        }
