-- A change that has a reply can be completed.
use Rattle.std.proofs.Common.{◌≡◌, ℕ, ◌==◌, true, false, cond, [], ◌∷◌, Option, Some, None, refl, sym, ap}
use Rattle.pod_base.specs.declared.request.Request.{Request}
use Rattle.pod_base.specs.declared.moment.Stamp.{Stamp}
use Rattle.pod_command.specs.declared.entry.Entry.{Entry}
use Rattle.pod_core.specs.History.{History, end_of, longer}
use Rattle.pod_core.specs.KeeperSteps as keeper
use Rattle.pod_core.specs.KeeperSteps.{Holder, KeeperView, held_by}
use Rattle.pod_core.specs.Session.{Item, disk_fault}
use Rattle.pod_core.specs.World as world
use Rattle.pod_core.specs.World.{Connection, DoesEvent, Event, IsSettled, World, WorldStep, after_take, next_stamp, put_connection, with_answer, with_keeper}
use Rattle.token_table.specs.Credentials.{AskedAgent}
use Rattle.history_laws.specs.Progress.{Completes, HasChange, IsQuietWorld, LeavesDoubt, Settles, item_of_change}

module _ (may_give : ℕ → Type 0) (asking : Request → AskedAgent) (old : World) (conn moment : ℕ) (entry : Entry) (rest : IsQuietWorld old) (c : HasChange may_give asking old conn moment entry) where
  abbrev stamp : Stamp
  stamp = next_stamp conn c.from moment

  abbrev item : Item
  item = item_of_change c

  abbrev holder : Holder
  holder = record { conn = conn; item = item; entry = entry }

  abbrev grown : History
  grown = longer old.keeper.history (entry ∷ [])

  -- what the keeper sees after each step
  abbrev taken : Option Entry → KeeperView
  taken doubt = record { history = old.keeper.history; doubt = doubt; phase = keeper.taken holder }

  abbrev written : KeeperView
  written = record { history = old.keeper.history; doubt = None; phase = keeper.written holder }

  abbrev opened : KeeperView
  opened = record { history = grown; doubt = None; phase = keeper.opened holder }

  abbrev at_view : KeeperView → World
  at_view view = with_keeper old view

  -- a step that leaves the connections as they are
  quiet_step : (event : Event) (from to : KeeperView) → DoesEvent may_give asking (at_view from) event (at_view to) → WorldStep may_give asking (at_view from) event (at_view to)
  quiet_step event from to does = record { runs = rest.runs; done = at_view to; does = does; settled = rest.rests; new_is = refl }

  takes : (doubt : Option Entry) → old.keeper.doubt ≡ doubt → WorldStep may_give asking old (world.take conn moment) (at_view (taken doubt))
  takes doubt e = quiet_step (world.take conn moment) old.keeper (taken doubt) (record {
    from = c.from;
    is_there = c.is_there;
    request = c.request;
    next = c.next;
    clock = c.clock;
    reply = c.reply;
    to = taken doubt;
    step = record {
      is_free = rest.is_free;
      changes = c.changes;
      is_reply = c.is_reply;
      new_is = λ i. record { history = old.keeper.history; doubt = sym e i; phase = ap (held_by stamp item) (sym c.has_entry) i };
    };
    new_is = ap (λ (o : Option Entry). with_keeper (after_take old conn c.from item o) (taken doubt)) (sym c.has_entry);
  })

  repairs : (doubted : Entry) → WorldStep may_give asking (at_view (taken (Some doubted))) (world.repair true) (at_view (taken None))
  repairs doubted = quiet_step (world.repair true) (taken (Some doubted)) (taken None) (record {
    to = taken None;
    step = record { holder = holder; is_taken = refl; entry = doubted; in_doubt = refl; new_is = refl };
    follows = refl;
  })

  writes : WorldStep may_give asking (at_view (taken None)) (world.body true) (at_view written)
  writes = quiet_step (world.body true) (taken None) written (record {
    to = written;
    step = record { holder = holder; is_taken = refl; is_sure = refl; new_is = refl };
    follows = refl;
  })

  opens : WorldStep may_give asking (at_view written) (world.gate true) (at_view opened)
  opens = quiet_step (world.gate true) written opened (record {
    to = opened;
    step = record { holder = holder; is_written = refl; new_is = refl };
    follows = refl;
  })

  -- the connection of the holder is answered, and the others rest
  settled_put : (before after : Connection) → IsSettled (Some before) (Some after) → (n : ℕ) → IsSettled (put_connection old.connections conn before n) (put_connection old.connections conn after n)
  settled_put before after settled n = elim (n == conn) as (λ b. IsSettled (cond b (Some before) (old.connections n)) (cond b (Some after) (old.connections n))) [
    | true ↦ settled
    | false ↦ rest.rests n
  ]

  abbrev answered_world : KeeperView → ℕ → Connection → World
  answered_world view published connection = record {
    keeper = view;
    published = published;
    connections = put_connection old.connections conn connection;
    stopped = old.stopped;
  }

  abbrev finished : KeeperView
  finished = record { history = grown; doubt = None; phase = keeper.free }

  publishes : (s : Settles (with_answer c.from item (end_of grown))) → WorldStep may_give asking (at_view opened) world.publish (answered_world finished (end_of grown) s.after)
  publishes s = record {
    runs = rest.runs;
    done = answered_world finished (end_of grown) (with_answer c.from item (end_of grown));
    does = record { holder = holder; is_opened = refl; from = c.from; is_there = c.is_there; new_is = refl };
    settled = settled_put (with_answer c.from item (end_of grown)) s.after s.settled;
    new_is = refl;
  }

  pub completes : old.keeper.doubt ≡ None → (s : Settles (with_answer c.from item (end_of grown))) → Completes may_give asking old (world.take conn moment ∷ world.body true ∷ world.gate true ∷ world.publish ∷ []) entry
  completes e s = record {
    new = answered_world finished (end_of grown) s.after;
    run = (at_view (taken None), takes None e, (at_view written, writes, (at_view opened, opens, (answered_world finished (end_of grown) s.after, publishes s, refl))));
    history_is = refl;
    published = refl;
  }

  pub completes_repaired : (doubted : Entry) → old.keeper.doubt ≡ Some doubted → (s : Settles (with_answer c.from item (end_of grown)))
      → Completes may_give asking old (world.take conn moment ∷ world.repair true ∷ world.body true ∷ world.gate true ∷ world.publish ∷ []) entry
  completes_repaired doubted e s = record {
    new = answered_world finished (end_of grown) s.after;
    run = (at_view (taken (Some doubted)), takes (Some doubted) e, (at_view (taken None), repairs doubted, (at_view written, writes, (at_view opened, opens, (answered_world finished (end_of grown) s.after, publishes s, refl)))));
    history_is = refl;
    published = refl;
  }

  abbrev doubtful : KeeperView
  doubtful = record { history = old.keeper.history; doubt = Some entry; phase = keeper.free }

  abbrev failed : Connection
  failed = with_answer c.from (record item { outcome = disk_fault }) c.from.seen

  fails : (s : Settles failed) → WorldStep may_give asking (at_view written) (world.gate false) (answered_world doubtful old.published s.after)
  fails s = record {
    runs = rest.runs;
    done = answered_world doubtful old.published failed;
    does = record {
      to = doubtful;
      step = record { holder = holder; is_written = refl; new_is = refl };
      follows = record { holder = holder; held = refl; from = c.from; is_there = c.is_there; new_is = refl };
    };
    settled = settled_put failed s.after s.settled;
    new_is = refl;
  }

  pub leaves_doubt : old.keeper.doubt ≡ None → (s : Settles failed) → LeavesDoubt may_give asking old (world.take conn moment ∷ world.body true ∷ world.gate false ∷ []) entry
  leaves_doubt e s = record {
    new = answered_world doubtful old.published s.after;
    run = (at_view (taken None), takes None e, (at_view written, writes, (answered_world doubtful old.published s.after, fails s, refl)));
    history_is = refl;
    doubt = refl;
    is_free = refl;
  }
