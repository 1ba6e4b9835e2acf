-- The steps of a world, event by event.
use Rattle.std.proofs.Common.{◌≡◌, ◌⊎◌, inl, inr, ℕ, zero, suc, ◌+◌, ◌<◌, ◌≤◌, ◌==◌, Bool, true, false, cond, if◌then◌else◌, List, [], ◌∷◌, ◌++◌, length, set, slice_get, Option, Some, None, IfSome, IsTrue, refl, sym, ap, subst, ◌∙◌, arith}
use Rattle.std.specs.List.{AllByRecursion}
use Rattle.std.proofs.lemmas.Option.{slice_get_within}
use Rattle.pod_base.specs.declared.heard.Heard.{Heard}
use Rattle.pod_base.specs.declared.heard.Heard.TheVariants as heard
use Rattle.pod_base.specs.declared.request.Request.{Request}
use Rattle.pod_command.specs.declared.entry.Entry.{Entry}
use Rattle.pod_core.specs.History.{History, end_of, longer, pod_at}
use Rattle.pod_core.specs.KeeperSteps as keeper
use Rattle.pod_core.specs.KeeperSteps.{Holder, KeeperEvent, KeeperStep, KeeperView, Phase, IsReplyAtEnd, held_by, item_at_end}
use Rattle.pod_core.specs.Output.{item_text}
use Rattle.pod_core.specs.Session.{IsClockMoment, Item, disk_fault, upgrades}
use Rattle.pod_core.specs.World as world
use Rattle.pod_core.specs.World.{AnswersRead, Connection, DoesArrive, DoesLook, DoesPublish, DoesStep, DoesStop, DoesTake, Event, FaultsHolder, IsNextEvent, IsSettled, RefusesMessage, WorldStep, all_published, holder_in, next_stamp, put_connection, with_answer, with_connection, with_input, with_keeper}
use Rattle.pod_core.specs.WorldImages.{IsAllowedImage}
use Rattle.pod_reply.specs.Replies.{Reply}
use Rattle.reply_laws.specs.Granted.{is_change}
use Rattle.token_table.specs.Credentials.{AskedAgent}
use Rattle.request_history.proofs.Numbered.{each_rests, get_all, settled_at, get_set, get_other, set_all}
use Rattle.request_history.specs.Connections.{Rests, SettlesTo, advanced}
use Rattle.request_history.specs.Worlds.{any_second, numbered}

-- a world of these parts
abbrev pub world_at : KeeperView → ℕ → List Connection → Bool → world.World
world_at view published connections stopped = record {
  keeper = view;
  published = published;
  connections = numbered connections;
  stopped = stopped;
}

module _ (asking : Request → AskedAgent) (view : KeeperView) (published : ℕ) (connections : List Connection) (stopped : Bool) (runs : stopped ≡ false) (rests : AllByRecursion Rests connections) where
  abbrev old : world.World
  old = world_at view published connections stopped

  abbrev Steps : Event → world.World → Type 0
  Steps event new = WorldStep any_second asking old event new

  -- the connections stay
  quiet : (event : Event) (to : KeeperView) (ends : Bool) → world.DoesEvent any_second asking old event (world_at to published connections ends)
      → Steps event (world_at to published connections ends)
  quiet event to ends does = record { runs = runs; done = world_at to published connections ends; does = does; settled = each_rests connections rests; new_is = refl }

  -- one of them becomes another
  module _ (conn : ℕ) (within : conn < length connections) (to new : Connection) (settled : SettlesTo to new) where
    abbrev answered : KeeperView → ℕ → world.World
    answered next later = record { keeper = next; published = later; connections = put_connection (numbered connections) (suc conn) to; stopped = stopped }

    replaced : (event : Event) (next : KeeperView) (later : ℕ) → world.DoesEvent any_second asking old event (answered next later)
        → Steps event (world_at next later (set connections conn new) stopped)
    replaced event next later does = record { runs = runs; done = answered next later; does = does; settled = settled_at connections rests conn within to new settled; new_is = refl }

  -- ---- arrive

  pub arrives : (conn : ℕ) (piece : List ℕ) (from new : Connection) → slice_get connections conn ≡ Some from → SettlesTo (with_input from piece) new
      → Steps (world.arrive (suc conn) piece) (world_at view published (set connections conn new) stopped)
  arrives conn piece from new is settled =
      replaced conn (slice_get_within connections conn from is) (with_input from piece) new settled (world.arrive (suc conn) piece) view published
      (record { from = from; is_there = is; new_is = refl })

  -- ---- look

  pub looks : (conn place moment : ℕ) (from to new : Connection) → slice_get connections conn ≡ Some from → from.seen ≤ place → place ≤ published → IsClockMoment any_second moment
      → AnswersRead any_second asking view.history (suc conn) place moment from to ⊎ RefusesMessage place moment from to → SettlesTo to new
      → Steps (world.look (suc conn) place moment) (world_at view published (set connections conn new) stopped)
  looks conn place moment from to new is seen shown clock answers settled =
      replaced conn (slice_get_within connections conn from is) to new settled (world.look (suc conn) place moment) view published
      (record { from = from; is_there = is; seen = seen; published = shown; clock = clock; to = to; answers = answers; new_is = refl })

  -- ---- take

  module _ (conn moment : ℕ) (from : Connection) (is : slice_get connections conn ≡ Some from) (request : Request) (next : IsNextEvent from (heard.Request request)) (clock : IsClockMoment any_second moment)
      (is_free : view.phase ≡ keeper.free) (changes : is_change request.method ≡ true) (reply : Reply) (is_reply : IsReplyAtEnd view.history request (asking request) (next_stamp (suc conn) from moment) reply) where
    abbrev item : Item
    item = item_at_end view.history request (asking request) (next_stamp (suc conn) from moment) reply

    -- with an entry it holds the lock
    pub takes : (entry : Entry) → reply.entry ≡ Some entry
        → Steps (world.take (suc conn) moment) (world_at (record view { phase = keeper.taken (record { conn = suc conn; item = item; entry = entry }) }) published connections stopped)
    takes entry has = quiet (world.take (suc conn) moment) (record view { phase = keeper.taken (record { conn = suc conn; item = item; entry = entry }) }) stopped (record {
      from = from;
      is_there = is;
      request = request;
      next = next;
      clock = clock;
      reply = reply;
      to = record view { phase = keeper.taken (record { conn = suc conn; item = item; entry = entry }) };
      step = record {
        is_free = is_free;
        changes = changes;
        is_reply = is_reply;
        new_is = λ i. record view { phase = ap (held_by (next_stamp (suc conn) from moment) item) (sym has) i };
      };
      new_is = ap (λ (o : Option Entry). with_keeper (world.after_take old (suc conn) from item o) (record view { phase = keeper.taken (record { conn = suc conn; item = item; entry = entry }) })) (sym has);
    })

    -- without one it is answered
    pub answers : (new : Connection) → reply.entry ≡ None → SettlesTo (with_answer from item (end_of view.history)) new
        → Steps (world.take (suc conn) moment) (world_at view published (set connections conn new) stopped)
    answers new none settled =
        replaced conn (slice_get_within connections conn from is) (with_answer from item (end_of view.history)) new settled (world.take (suc conn) moment) view published (record {
          from = from;
          is_there = is;
          request = request;
          next = next;
          clock = clock;
          reply = reply;
          to = view;
          step = record {
            is_free = is_free;
            changes = changes;
            is_reply = is_reply;
            new_is = λ i. record view { phase = (is_free ∙ ap (held_by (next_stamp (suc conn) from moment) item) (sym none)) i };
          };
          new_is = ap (λ (o : Option Entry). with_keeper (world.after_take old (suc conn) from item o) view) (sym none);
        })

  -- ---- the steps of the holder of the lock

  pub proceeds : (event : Event) (step : KeeperEvent) (to : KeeperView) → (DoesStep step true old (world_at to published connections stopped) → world.DoesEvent any_second asking old event (world_at to published connections stopped))
      → KeeperStep view step to → Steps event (world_at to published connections stopped)
  proceeds event step to of s = quiet event to stopped (of (record { to = to; step = s; follows = refl }))

  pub gives_up : (event : Event) (step : KeeperEvent) (to : KeeperView) (holder : Holder) (conn : ℕ) (from new : Connection)
      → ((done : world.World) → DoesStep step false old done → world.DoesEvent any_second asking old event done)
      → KeeperStep view step to → holder_in view.phase ≡ Some holder → suc conn ≡ holder.conn → slice_get connections conn ≡ Some from
      → SettlesTo (with_answer from (record holder.item { outcome = disk_fault }) from.seen) new
      → Steps event (world_at to published (set connections conn new) stopped)
  gives_up event step to holder conn from new of s held number is settled =
      let answer = with_answer from (record holder.item { outcome = disk_fault }) from.seen in
      replaced conn (slice_get_within connections conn from is) answer new settled event to published (of (record { keeper = to; published = published; connections = put_connection (numbered connections) (suc conn) answer; stopped = stopped }) (record {
        to = to;
        step = s;
        follows = record {
          holder = holder;
          held = held;
          from = from;
          is_there = ap (numbered connections) (sym number) ∙ is;
          new_is = ap (λ n. with_connection (with_keeper old to) n answer) number;
        };
      }))

  -- ---- publish

  pub publishes : (holder : Holder) (conn : ℕ) (from new : Connection) → view.phase ≡ keeper.opened holder → suc conn ≡ holder.conn → slice_get connections conn ≡ Some from
      → SettlesTo (with_answer from holder.item (end_of view.history)) new
      → Steps world.publish (world_at (record view { phase = keeper.free }) (end_of view.history) (set connections conn new) stopped)
  publishes holder conn from new opened number is settled =
      let answer = with_answer from holder.item (end_of view.history) in
      replaced conn (slice_get_within connections conn from is) answer new settled world.publish (record view { phase = keeper.free }) (end_of view.history) (record {
        holder = holder;
        is_opened = opened;
        from = from;
        is_there = ap (numbered connections) (sym number) ∙ is;
        new_is = ap (λ n. with_connection (all_published old) n answer) number;
      })

  -- ---- stop

  pub stops : (image : List ℕ) → IsAllowedImage view image
      → Steps (world.stop image) (world_at view published connections true)
  stops image allowed = quiet (world.stop image) view true (record { allowed = allowed; new_is = refl })
