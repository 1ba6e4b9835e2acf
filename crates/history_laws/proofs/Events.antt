-- Bytes may arrive, reads may be answered, malformed messages refused, and a world may stop.
use Rattle.std.proofs.Common.{◌≡◌, inl, inr, ℕ, ◌==◌, true, false, cond, List, [], ◌∷◌, ◌++◌, Some, refl}
use Rattle.pod_base.specs.declared.heard.Heard.TheVariants as heard
use Rattle.pod_base.specs.declared.request.Request.{Request}
use Rattle.pod_core.specs.World as world
use Rattle.pod_core.specs.World.{Connection, DoesEvent, Event, IsNextEvent, IsSettled, World, put_connection, with_answer, with_connection, with_input, with_refusal}
use Rattle.pod_core.specs.WorldImages.{journal_of}
use Rattle.token_table.specs.Credentials.{AskedAgent}
use Rattle.history_laws.specs.Progress.{HasRead, HasStep, IsWaiting, MayLook, Settles, item_of_read}

module _ (may_give : ℕ → Type 0) (asking : Request → AskedAgent) (old : World) (rest : IsWaiting old) where
  -- a connection becomes another one, and the others rest
  settled_put : (conn : ℕ) (before after : Connection) → IsSettled (Some before) (Some after) → (n : ℕ) → IsSettled (put_connection old.connections conn before n) (put_connection old.connections conn after n)
  settled_put conn before after settled n = elim (n == conn) as (λ b. IsSettled (cond b (Some before) (old.connections n)) (cond b (Some after) (old.connections n))) [
    | true ↦ settled
    | false ↦ rest.rests n
  ]

  -- an event of one connection
  one_step : (event : Event) (conn : ℕ) (before : Connection) → Settles before → DoesEvent may_give asking old event (with_connection old conn before) → HasStep may_give asking old event
  one_step event conn before s does = record {
    new = with_connection old conn s.after;
    step = record {
      runs = rest.runs;
      done = with_connection old conn before;
      does = does;
      settled = settled_put conn before s.after s.settled;
      new_is = refl;
    };
  }

  pub arrives : (conn : ℕ) (piece : List ℕ) (from : Connection) → old.connections conn ≡ Some from → Settles (with_input from piece) → HasStep may_give asking old (world.arrive conn piece)
  arrives conn piece from there s = one_step (world.arrive conn piece) conn (with_input from piece) s (record { from = from; is_there = there; new_is = refl })

  module _ (conn place moment : ℕ) (look : MayLook may_give old conn place moment) where
    pub reads : (read : HasRead asking old conn place moment look.from) → Settles (with_answer look.from (item_of_read read) place) → HasStep may_give asking old (world.look conn place moment)
    reads read s = one_step (world.look conn place moment) conn (with_answer look.from (item_of_read read) place) s (record {
      from = look.from;
      is_there = look.is_there;
      seen = look.seen;
      published = look.published;
      clock = look.clock;
      to = with_answer look.from (item_of_read read) place;
      answers = inl (record {
        request = read.request;
        next = read.next;
        changes_nothing = read.changes_nothing;
        reply = read.reply;
        is_reply = read.is_reply;
        new_is = refl;
      });
      new_is = refl;
    })

    pub refuses : (status : ℕ) → IsNextEvent look.from (heard.Bad status) → Settles (with_refusal look.from status moment place) → HasStep may_give asking old (world.look conn place moment)
    refuses status next s = one_step (world.look conn place moment) conn (with_refusal look.from status moment place) s (record {
      from = look.from;
      is_there = look.is_there;
      seen = look.seen;
      published = look.published;
      clock = look.clock;
      to = with_refusal look.from status moment place;
      answers = inr (record { status = status; next = next; new_is = refl });
      new_is = refl;
    })

  pub stops : HasStep may_give asking old (world.stop (journal_of old.keeper.history ++ 0 ∷ []))
  stops = record {
    new = record old { stopped = true };
    step = record {
      runs = rest.runs;
      done = record old { stopped = true };
      does = record { allowed = inl ([], refl); new_is = refl };
      settled = rest.rests;
      new_is = refl;
    };
  }
