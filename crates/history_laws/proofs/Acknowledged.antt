-- Each entry that is published was acknowledged by the response of its item.
use Rattle.std.proofs.Common.{◌≡◌, ◌⊎◌, inl, inr, ℕ, ◌+◌, ◌-◌, ◌<◌, ◌≤◌, ◌==◌, leb, Bool, true, false, cond, List, [], ◌∷◌, length, Option, Some, None, refl, sym, ap, subst, ◌∙◌, arith}
use Rattle.std.proofs.lemmas.Bool.Decides.{leb_tells, nat_tests}
use Rattle.pod_base.specs.declared.moment.Stamp.{Stamp}
use Rattle.pod_base.specs.declared.request.Request.{Request}
use Rattle.pod_command.specs.declared.entry.Entry.{Entry}
use Rattle.pod_core.proofs.Histories.{end_grows, slice_get_last}
use Rattle.pod_core.specs.History.{History, end_of, entry_at, longer}
use Rattle.pod_core.specs.KeeperSteps as keeper
use Rattle.pod_core.specs.KeeperSteps.{Holder, KeeperEvent, KeeperStep, KeeperView, Phase, held_by, item_at_end}
use Rattle.pod_core.specs.Session.{answered}
use Rattle.pod_core.specs.World as world
use Rattle.pod_core.specs.World.{Connection, DoesEvent, DoesPublish, DoesStep, Event, FollowsStep, World, WorldRun, WorldStep, first_world, next_stamp, put_connection, with_answer}
use Rattle.pod_reply.specs.Replies.{Reply}
use Rattle.token_table.specs.Credentials.{AskedAgent}
use Rattle.history_laws.specs.Acknowledged.{Acknowledges, IsAcknowledged, PublishesEachOnce, publications}

-- ---- what is known of a world

-- the holder's item is answered at the place, with the holder's entry
record IsOf (holder : Holder) (place : ℕ) : Type 0 where
  reply : Reply
  outcome : holder.item.outcome ≡ answered place reply
  entry : reply.entry ≡ Some holder.entry

-- All is published, or all but the holder's entry.
abbrev Stands : ℕ → History → Phase → Type 0
Stands published history keeper.free = published ≡ end_of history
Stands published history (keeper.taken holder) = (published ≡ end_of history) × IsOf holder published
Stands published history (keeper.written holder) = (published ≡ end_of history) × IsOf holder published
Stands published history (keeper.opened holder) = (published + 1 ≡ end_of history) × IsOf holder published × (entry_at history published ≡ Some holder.entry)

abbrev Sound : World → Type 0
Sound w = Stands w.published w.keeper.history w.keeper.phase

within : (published : ℕ) (history : History) (phase : Phase) → Stands published history phase → (published ≤ end_of history) × (end_of history ≤ published + 1)
within published history keeper.free h = (omega (arith, h), omega (arith, h))
within published history (keeper.taken holder) h = (omega (arith, h.0), omega (arith, h.0))
within published history (keeper.written holder) h = (omega (arith, h.0), omega (arith, h.0))
within published history (keeper.opened holder) h = (omega (arith, h.0), omega (arith, h.0))

-- ---- the steps of a keeper

held : (history : History) (request : Request) (asked : AskedAgent) (stamp : Stamp) (reply : Reply) (published : ℕ) → published ≡ end_of history → (o : Option Entry) → reply.entry ≡ o
    → Stands published history (held_by stamp (item_at_end history request asked stamp reply) o)
held history request asked stamp reply published e None is = e
held history request asked stamp reply published e (Some entry) is = (e, record { reply = reply; outcome = ap (λ n. answered n reply) (sym e); entry = is })

-- the entry that is added is at the end
added_at : (history : History) (entry : Entry) (published : ℕ) → published ≡ end_of history → entry_at (longer history (entry ∷ [])) published ≡ Some entry
added_at history entry published e =
    let count : published - history.start ≡ length history.entries = omega (arith, e) in
    rw count (slice_get_last history.entries entry)

step_stands : (published : ℕ) (event : KeeperEvent) (old new : KeeperView) → KeeperStep old event new → Stands published old.history old.phase → Stands published new.history new.phase
step_stands published (keeper.take request asked stamp reply) old new s h =
    let free : published ≡ end_of old.history = subst (Stands published old.history) s.is_free h in
    subst (λ (v : KeeperView). Stands published v.history v.phase) (sym s.new_is) (held old.history request asked stamp reply published free reply.entry refl)
step_stands published (keeper.repair true) old new s h = subst (λ (v : KeeperView). Stands published v.history v.phase) (sym s.new_is) h
step_stands published (keeper.repair false) old new s h =
    let one = subst (Stands published old.history) s.is_taken h in
    subst (λ (v : KeeperView). Stands published v.history v.phase) (sym s.new_is) one.0
step_stands published (keeper.body true) old new s h =
    let one = subst (Stands published old.history) s.is_taken h in
    subst (λ (v : KeeperView). Stands published v.history v.phase) (sym s.new_is) one
step_stands published (keeper.body false) old new s h =
    let one = subst (Stands published old.history) s.is_taken h in
    subst (λ (v : KeeperView). Stands published v.history v.phase) (sym s.new_is) one.0
step_stands published (keeper.gate true) old new s h =
    let one = subst (Stands published old.history) s.is_written h in
    subst (λ (v : KeeperView). Stands published v.history v.phase) (sym s.new_is) (
      omega (arith, one.0, end_grows old.history (s.holder.entry ∷ [])),
      one.1,
      added_at old.history s.holder.entry published one.0,
    )
step_stands published (keeper.gate false) old new s h =
    let one = subst (Stands published old.history) s.is_written h in
    subst (λ (v : KeeperView). Stands published v.history v.phase) (sym s.new_is) one.0

-- ---- the events of a world

-- one publication more
abbrev after : ℕ → Event → ℕ
after published world.publish = published + 1
after published (world.arrive conn piece) = published
after published (world.look conn place moment) = published
after published (world.take conn moment) = published
after published (world.repair ok) = published
after published (world.body ok) = published
after published (world.gate ok) = published
after published (world.stop image) = published

counts : (event : Event) (events : List Event) (published : ℕ) → published + publications (event ∷ events) ≡ after published event + publications events
counts world.publish events published = omega arith
counts (world.arrive conn piece) events published = refl
counts (world.look conn place moment) events published = refl
counts (world.take conn moment) events published = refl
counts (world.repair ok) events published = refl
counts (world.body ok) events published = refl
counts (world.gate ok) events published = refl
counts (world.stop image) events published = refl

record Follows (old : World) (event : Event) (new : World) : Type 0 where
  sound : Sound new
  published : new.published ≡ after old.published event

module _ (may_give : ℕ → Type 0) (asking : Request → AskedAgent) where
  abbrev View : World → KeeperView
  View w = w.keeper

  same_parts : (event : Event) (old new : World) → after old.published event ≡ old.published → (to : KeeperView) → new.keeper ≡ to → new.published ≡ old.published → Stands old.published to.history to.phase → Follows old event new
  same_parts event old new e to keeper published h = record {
    sound = subst (λ n. Stands n new.keeper.history new.keeper.phase) (sym published) (subst (λ (v : KeeperView). Stands old.published v.history v.phase) (sym keeper) h);
    published = published ∙ sym e;
  }

  follows_view : (ok : Bool) (to : KeeperView) (old new : World) → FollowsStep ok to old new → (new.keeper ≡ to) × (new.published ≡ old.published)
  follows_view true to old new f = (ap (λ (w : World). w.keeper) f, ap (λ (w : World). w.published) f)
  follows_view false to old new f = (ap (λ (w : World). w.keeper) f.new_is, ap (λ (w : World). w.published) f.new_is)

  holder_step : (event : Event) (step : KeeperEvent) (ok : Bool) (old new : World) → after old.published event ≡ old.published → DoesStep step ok old new → Sound old → Follows old event new
  holder_step event step ok old new e d h =
      let f = follows_view ok d.to old new d.follows in
      same_parts event old new e d.to f.0 f.1 (step_stands old.published step old.keeper d.to d.step h)

  publish_step : (old new : World) → DoesPublish old new → Sound old → Follows old world.publish new
  publish_step old new d h =
      let one = subst (Stands old.published old.keeper.history) d.is_opened h in record {
        sound = subst Sound (sym d.new_is) refl;
        published = ap (λ (w : World). w.published) d.new_is ∙ sym one.0;
      }

  does : (old : World) (event : Event) (new : World) → DoesEvent may_give asking old event new → Sound old → Follows old event new
  does old (world.arrive conn piece) new d h = same_parts (world.arrive conn piece) old new refl old.keeper (ap (λ (w : World). w.keeper) d.new_is) (ap (λ (w : World). w.published) d.new_is) h
  does old (world.look conn place moment) new d h = same_parts (world.look conn place moment) old new refl old.keeper (ap (λ (w : World). w.keeper) d.new_is) (ap (λ (w : World). w.published) d.new_is) h
  does old (world.take conn moment) new d h =
      same_parts (world.take conn moment) old new refl d.to (ap (λ (w : World). w.keeper) d.new_is) (ap (λ (w : World). w.published) d.new_is ∙ take_published d.reply.entry)
      (step_stands old.published (keeper.take d.request (asking d.request) (next_stamp conn d.from moment) d.reply) old.keeper d.to d.step h)
    where
      take_published : (o : Option Entry) → (world.after_take old conn d.from (item_at_end old.keeper.history d.request (asking d.request) (next_stamp conn d.from moment) d.reply) o).published ≡ old.published
      take_published None = refl
      take_published (Some entry) = refl
  does old (world.repair ok) new d h = holder_step (world.repair ok) (keeper.repair ok) ok old new refl d h
  does old (world.body ok) new d h = holder_step (world.body ok) (keeper.body ok) ok old new refl d h
  does old (world.gate ok) new d h = holder_step (world.gate ok) (keeper.gate ok) ok old new refl d h
  does old world.publish new d h = publish_step old new d h
  does old (world.stop image) new d h = same_parts (world.stop image) old new refl old.keeper (ap (λ (w : World). w.keeper) d.new_is) (ap (λ (w : World). w.published) d.new_is) h

  step : (old : World) (event : Event) (new : World) → WorldStep may_give asking old event new → Sound old → Follows old event new
  step old event new s h =
      let f = does old event s.done s.does h in record {
        sound = subst Sound (sym s.new_is) f.sound;
        published = ap (λ (w : World). w.published) s.new_is ∙ f.published;
      }

  -- ---- whole runs

  counted : (old : World) (events : List Event) (new : World) → WorldRun may_give asking old events new → Sound old → Sound new × (new.published ≡ old.published + publications events)
  counted old [] new same h = (subst Sound (sym same) h, ap (λ (w : World). w.published) same ∙ omega arith)
  counted old (event ∷ events) new run h =
      let f = step old event run.0 run.1 h in
      let rest = counted run.0 events new run.2 f.sound in
      (rest.0, rest.1 ∙ (ap (λ n. n + publications events) f.published ∙ sym (counts event events old.published)))

  -- the entry of a publication
  put_same : (connections : ℕ → Option Connection) (conn : ℕ) (c : Connection) → put_connection connections conn c conn ≡ Some c
  put_same connections conn c = elim (conn == conn) as (λ b. (conn == conn) ≡ b → cond b (Some c) (connections conn) ≡ Some c) [
    | true ↦ λ e. refl
    | false ↦ λ e. absurd (grind (arith, nat_tests))
  ] refl

  acknowledged_by : (old done : World) → DoesPublish old done → Sound old → Acknowledges old world.publish done old.published
  acknowledged_by old done d h =
      let one = subst (Stands old.published old.keeper.history) d.is_opened h in record {
        is_publish = refl;
        holder = d.holder;
        is_opened = d.is_opened;
        reply = one.1.reply;
        outcome = one.1.outcome;
        entry = one.1.entry;
        is_at = one.2;
        from = d.from;
        is_there = d.is_there;
        written = ap (λ (w : World). w.connections d.holder.conn) d.new_is ∙ put_same old.connections d.holder.conn (with_answer d.from d.holder.item (end_of old.keeper.history));
      }

  -- a place that isn't published yet, and is then
  at_step : (old : World) (event : Event) (done : World) → DoesEvent may_give asking old event done → Sound old → (place : ℕ) → old.published ≤ place → place < after old.published event → Acknowledges old event done place
  at_step old world.publish done d h place from to =
      let same : place ≡ old.published = omega (arith, from, to) in
      subst (Acknowledges old world.publish done) (sym same) (acknowledged_by old done d h)
  at_step old (world.arrive conn piece) done d h place from to = absurd (omega (arith, from, to))
  at_step old (world.look conn p moment) done d h place from to = absurd (omega (arith, from, to))
  at_step old (world.take conn moment) done d h place from to = absurd (omega (arith, from, to))
  at_step old (world.repair ok) done d h place from to = absurd (omega (arith, from, to))
  at_step old (world.body ok) done d h place from to = absurd (omega (arith, from, to))
  at_step old (world.gate ok) done d h place from to = absurd (omega (arith, from, to))
  at_step old (world.stop image) done d h place from to = absurd (omega (arith, from, to))

  each_place : (old : World) (events : List Event) (new : World) (run : WorldRun may_give asking old events new) → Sound old → (place : ℕ) → old.published ≤ place → place < new.published → IsAcknowledged may_give asking old events new run place
  each_place old [] new same h place from to =
      let equal : new.published ≡ old.published = ap (λ (w : World). w.published) same in
      absurd (omega (arith, equal, from, to))
  each_place old (event ∷ events) new run h place from to =
      let f = step old event run.0 run.1 h in
      by_order (leb_tells run.0.published place) f.published (λ later. each_place run.0 events new run.2 f.sound place later to)
    where
      by_order : ((leb run.0.published place ≡ true) × (run.0.published ≤ place)) ⊎ ((leb run.0.published place ≡ false) × (place < run.0.published)) → run.0.published ≡ after old.published event → (run.0.published ≤ place → IsAcknowledged may_give asking run.0 events new run.2 place) → Acknowledges old event run.1.done place ⊎ IsAcknowledged may_give asking run.0 events new run.2 place
      by_order (inr before) is rest = inl (at_step old event run.1.done run.1.does h place from (omega (arith, before.1, is)))
      by_order (inl later) is rest = inr (rest later.1)

  pub acknowledged : (history : History) (numbers : ℕ → Bool) (events : List Event) (new : World) (run : WorldRun may_give asking (first_world history numbers) events new) (place : ℕ)
      → end_of history ≤ place → place < new.published → IsAcknowledged may_give asking (first_world history numbers) events new run place
  acknowledged history numbers events new run place from to = each_place (first_world history numbers) events new run refl place from to

  pub published_once : (history : History) (numbers : ℕ → Bool) (events : List Event) (new : World) → WorldRun may_give asking (first_world history numbers) events new → PublishesEachOnce history events new
  published_once history numbers events new run =
      let all = counted (first_world history numbers) events new run refl in
      let most = within new.published new.keeper.history new.keeper.phase all.0 in
      record { once = all.1; most = most.0; all_but_last = most.1 }
