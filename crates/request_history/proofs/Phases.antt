-- The steps of the holder of the lock.
use Rattle.std.proofs.Common.{◌≡◌, ℕ, suc, ◌+◌, ◌≤◌, Bool, true, false, List, [], ◌∷◌, Option, Some, None, IfSome, set, slice_get, refl, sym, ap, subst, ◌∙◌, arith}
use Rattle.std.specs.List.{AllByRecursion}
use Rattle.http_out.specs.Text.{disk_text}
use Rattle.pod_base.specs.declared.heard.Heard.{Heard}
use Rattle.pod_base.specs.declared.heard.Heard.TheVariants as heard
use Rattle.pod_core.proofs.Histories.{end_grows}
use Rattle.pod_core.specs.History.{History, end_of, longer}
use Rattle.pod_core.specs.KeeperSteps as keeper
use Rattle.pod_core.specs.KeeperSteps.{Holder, KeeperStep, KeeperView}
use Rattle.pod_core.specs.Output.{item_text}
use Rattle.pod_core.specs.Session.{upgrades}
use Rattle.pod_core.specs.World as world
use Rattle.pod_core.specs.World.{Connection, IsNextEvent, holder_in, with_answer}
use Rattle.pod_core.specs.WorldImages.{IsAllowedImage}
use Rattle.request_history.proofs.Numbered.{get_all, set_all}
use Rattle.request_history.proofs.Settled.{settled_rests, settled_seen}
use Rattle.request_history.proofs.Steps.{gives_up, proceeds, publishes, stops, world_at}
use Rattle.request_history.specs.Connections.{Rests, SettlesTo, advanced}
use Rattle.request_history.specs.Phases.{IsOpened, MayStep, step_event}
use Rattle.request_history.specs.Parts.{AnswersHolder, HasSeen, HoldsNext, IsFaulted, IsFinished, IsWorld, TookEvent, faulted, finished}
use Rattle.request_history.specs.Worlds.{HasNoStep, Steps, any_second, asking_of, holder_event, numbered, world_of}
use Rattle.request_history.specs.declared.lock_holder_steps.Step.{Step}
use Rattle.request_history.specs.declared.lock_holder_steps.Step.TheVariants as steps
use Rattle.request_history.specs.declared.parts_and_events.Parts.{Parts}
use Rattle.request_history.specs.declared.parts_and_events.Replaced.{Replaced}

-- ---- whether there is a step

pub may_step : (step : Step) (ok : Bool) (old new : KeeperView) → KeeperStep old (step_event step ok) new → MayStep old step
may_step steps.Repair ok old new s = (s.holder, s.is_taken, (s.entry, s.in_doubt))
may_step steps.Body ok old new s = (s.holder, s.is_taken, s.is_sure)
may_step steps.Gate ok old new s = (s.holder, s.is_written)

pub never_steps : (parts : Parts) (step : Step) (ok : Bool) → (MayStep parts.keeper step → ⊥) → HasNoStep parts (holder_event step ok)
never_steps parts steps.Repair ok h new s = let d = s.does in h (may_step steps.Repair ok parts.keeper d.to d.step)
never_steps parts steps.Body ok h new s = let d = s.does in h (may_step steps.Body ok parts.keeper d.to d.step)
never_steps parts steps.Gate ok h new s = let d = s.does in h (may_step steps.Gate ok parts.keeper d.to d.step)

-- ---- a step that succeeds

-- the history after it
abbrev Grows : History → History → Type 0
Grows old new = (new.start ≡ old.start) × (end_of old ≤ end_of new)

grows_same : (old new : History) → new ≡ old → Grows old new
grows_same old new e = (ap (λ (h : History). h.start) e, let same : end_of new ≡ end_of old = ap end_of e in omega (arith, same))

pub history_after : (step : Step) (ok : Bool) (old new : KeeperView) → KeeperStep old (step_event step ok) new → Grows old.history new.history
history_after steps.Repair true old new s = grows_same old.history new.history (ap (λ (v : KeeperView). v.history) s.new_is)
history_after steps.Repair false old new s = grows_same old.history new.history (ap (λ (v : KeeperView). v.history) s.new_is)
history_after steps.Body true old new s = grows_same old.history new.history (ap (λ (v : KeeperView). v.history) s.new_is)
history_after steps.Body false old new s = grows_same old.history new.history (ap (λ (v : KeeperView). v.history) s.new_is)
history_after steps.Gate true old new s =
    let e = ap (λ (v : KeeperView). v.history) s.new_is in
    let more = s.holder.entry ∷ [] in
    let same : end_of new.history ≡ end_of (longer old.history more) = ap end_of e in
    (ap (λ (h : History). h.start) e, omega (arith, same, end_grows old.history more))
history_after steps.Gate false old new s = grows_same old.history new.history (ap (λ (v : KeeperView). v.history) s.new_is)

-- the holder stays
pub holder_after : (step : Step) (old new : KeeperView) → KeeperStep old (step_event step true) new → holder_in new.phase ≡ holder_in old.phase
holder_after steps.Repair old new s = ap (λ (v : KeeperView). holder_in v.phase) s.new_is
holder_after steps.Body old new s = ap (λ (v : KeeperView). holder_in v.phase) s.new_is ∙ sym (ap holder_in s.is_taken)
holder_after steps.Gate old new s = ap (λ (v : KeeperView). holder_in v.phase) s.new_is ∙ sym (ap holder_in s.is_written)

-- nobody holds the lock any more
pub free_after : (step : Step) (old new : KeeperView) → KeeperStep old (step_event step false) new → holder_in new.phase ≡ None
free_after steps.Repair old new s = ap (λ (v : KeeperView). holder_in v.phase) s.new_is
free_after steps.Body old new s = ap (λ (v : KeeperView). holder_in v.phase) s.new_is
free_after steps.Gate old new s = ap (λ (v : KeeperView). holder_in v.phase) s.new_is

abbrev pub with_view : Parts → KeeperView → Parts
with_view parts view = record parts { keeper = view }

module _ (parts : Parts) (fine : IsWorld parts) (runs : parts.stopped ≡ false) where
  pub fine_proceeded : (step : Step) (to : KeeperView) → KeeperStep parts.keeper (step_event step true) to → IsWorld (with_view parts to)
  fine_proceeded step to s =
      let g = history_after step true parts.keeper to s in record {
        published = omega (arith, fine.published, g.1);
        seen = subst (λ n. AllByRecursion (HasSeen n) parts.connections.items) (sym g.0) fine.seen;
        rests = fine.rests;
        holds = subst (λ (o : Option Holder). IfSome o (HoldsNext parts.connections.items)) (sym (holder_after step parts.keeper to s)) fine.holds;
      }

  pub steps_proceeded : (step : Step) (to : KeeperView) → KeeperStep parts.keeper (step_event step true) to → Steps parts (holder_event step true) (with_view parts to)
  steps_proceeded steps.Repair to s = proceeds (asking_of parts.tokens) parts.keeper parts.published parts.connections.items parts.stopped runs fine.rests (world.repair true) (keeper.repair true) to (λ d. d) s
  steps_proceeded steps.Body to s = proceeds (asking_of parts.tokens) parts.keeper parts.published parts.connections.items parts.stopped runs fine.rests (world.body true) (keeper.body true) to (λ d. d) s
  steps_proceeded steps.Gate to s = proceeds (asking_of parts.tokens) parts.keeper parts.published parts.connections.items parts.stopped runs fine.rests (world.gate true) (keeper.gate true) to (λ d. d) s

module _ (parts : Parts) (fine : IsWorld parts) (runs : parts.stopped ≡ false) where
  pub took_proceeded : (step : Step) (to : KeeperView) → KeeperStep parts.keeper (step_event step true) to → TookEvent parts (holder_event step true) (with_view parts to)
  took_proceeded step to s = record {
    fine = fine_proceeded parts fine runs step to s;
    tokens = refl;
    steps = steps_proceeded parts fine runs step to s;
  }

-- ---- the connection of the holder of the lock

module _ (parts : Parts) (fine : IsWorld parts) (holder : Holder) (held : holder_in parts.keeper.phase ≡ Some holder) (at : ℕ) (from : Connection) (number : suc at ≡ holder.conn) (is : Some from ≡ slice_get parts.connections.items at) where
  holds : HoldsNext parts.connections.items holder
  holds = subst (λ (o : Option Holder). IfSome o (HoldsNext parts.connections.items)) held fine.holds

  same : holds.connection ≡ from
  same =
      let both : Some holds.connection ≡ Some from = sym holds.is_there ∙ ap (numbered parts.connections.items) (sym number) ∙ sym is in
      cc both

  next : IsNextEvent from (heard.Request holder.item.request)
  next = subst (λ (c : Connection). IsNextEvent c (heard.Request holder.item.request)) same holds.next

  pub held_next : (event : Heard) × IsNextEvent from event
  held_next = (heard.Request holder.item.request, next)

  pub faulted_by : (text : List ℕ) → text ≡ disk_text → (seen : ℕ) → seen ≡ from.seen → (new : Connection) → ((event : Heard) → IsNextEvent from event → SettlesTo (advanced from event text false seen) new)
      → AnswersHolder parts faulted at new
  faulted_by text is_text seen is_seen new settled = record {
    holder = holder;
    held = held;
    number = number;
    from = from;
    is_there = sym is;
    settled = subst (λ (x : List ℕ × ℕ). SettlesTo (advanced from (heard.Request holder.item.request) x.0 false x.1) new) (λ i. (is_text i, is_seen i)) (settled (heard.Request holder.item.request) next);
  }

  pub finished_by : (text : List ℕ) → text ≡ item_text holder.item → (switched : Bool) → switched ≡ upgrades holder.item.outcome → (end : ℕ) → end ≡ end_of parts.keeper.history → (new : Connection)
      → ((event : Heard) → IsNextEvent from event → SettlesTo (advanced from event text switched end) new)
      → AnswersHolder parts (finished (end_of parts.keeper.history)) at new
  finished_by text is_text switched is_switched end is_end new settled = record {
    holder = holder;
    held = held;
    number = number;
    from = from;
    is_there = sym is;
    settled = subst (λ (x : List ℕ × Bool × ℕ). SettlesTo (advanced from (heard.Request holder.item.request) x.0 x.1 x.2) new) (λ i. (is_text i, is_switched i, is_end i)) (settled (heard.Request holder.item.request) next);
  }

-- ---- the holder of the lock is answered

-- a world by its parts
pub steps_at : (old new : Parts) (event : world.Event) (view : KeeperView) (published : ℕ) (connections : List Connection) (stopped : Bool)
    → world.WorldStep any_second (asking_of old.tokens) (world_of old) event (world_at view published connections stopped)
    → new.keeper ≡ view → new.published ≡ published → new.connections.items ≡ connections → new.stopped ≡ stopped → Steps old event new
steps_at old new event view published connections stopped step a b c d =
    subst (λ (w : world.World). world.WorldStep any_second (asking_of old.tokens) (world_of old) event w)
    (λ i. record { keeper = sym a i; published = sym b i; connections = ap numbered (sym c) i; stopped = sym d i }) step

module _ (parts : Parts) (fine : IsWorld parts) (runs : parts.stopped ≡ false) (r : Replaced) where
  abbrev replaced : List Connection
  replaced = set parts.connections.items r.at r.connection

  -- where its connection has seen at least what it had seen before
  fine_answered : (answer : Holder → Connection → Connection) → (a : AnswersHolder parts answer r.at r.connection) → parts.keeper.history.start ≤ (answer a.holder a.from).seen
      → AllByRecursion (HasSeen parts.keeper.history.start) replaced × AllByRecursion Rests replaced
  fine_answered answer a seen =
      let to = answer a.holder a.from in
      let at : r.connection.seen ≡ to.seen = settled_seen to r.connection a.settled in
      let start = parts.keeper.history.start in (
        set_all (HasSeen start) parts.connections.items r.at r.connection fine.seen (omega (arith, at, seen)),
        set_all Rests parts.connections.items r.at r.connection fine.rests (settled_rests to r.connection a.settled),
      )

  begun : (a : Connection) → slice_get parts.connections.items r.at ≡ Some a → parts.keeper.history.start ≤ a.seen
  begun a is = get_all (HasSeen parts.keeper.history.start) parts.connections.items r.at a fine.seen is

  module _ (step : Step) (to : KeeperView) (a : IsFaulted parts r) (s : KeeperStep parts.keeper (step_event step false) to) where
    failed_at : (step : Step) → KeeperStep parts.keeper (step_event step false) to
        → world.WorldStep any_second (asking_of parts.tokens) (world_of parts) (holder_event step false) (world_at to parts.published replaced parts.stopped)
    failed_at steps.Repair s = gives_up (asking_of parts.tokens) parts.keeper parts.published parts.connections.items parts.stopped runs fine.rests (world.repair false) (keeper.repair false) to a.holder r.at a.from r.connection (λ done d. d) s a.held a.number a.is_there a.settled
    failed_at steps.Body s = gives_up (asking_of parts.tokens) parts.keeper parts.published parts.connections.items parts.stopped runs fine.rests (world.body false) (keeper.body false) to a.holder r.at a.from r.connection (λ done d. d) s a.held a.number a.is_there a.settled
    failed_at steps.Gate s = gives_up (asking_of parts.tokens) parts.keeper parts.published parts.connections.items parts.stopped runs fine.rests (world.gate false) (keeper.gate false) to a.holder r.at a.from r.connection (λ done d. d) s a.held a.number a.is_there a.settled

    pub took_failed : (new : Parts) → new.tokens ≡ parts.tokens → new.keeper ≡ to → new.published ≡ parts.published → new.connections.items ≡ replaced → new.stopped ≡ parts.stopped
        → TookEvent parts (holder_event step false) new
    took_failed new tokens view published items stopped =
        let g = history_after step false parts.keeper to s in
        let f = fine_answered faulted a (begun a.from a.is_there) in
        let start : new.keeper.history.start ≡ parts.keeper.history.start = ap (λ (v : KeeperView). v.history.start) view ∙ g.0 in
        let end : end_of new.keeper.history ≡ end_of to.history = ap (λ (v : KeeperView). end_of v.history) view in
        record {
          fine = record {
            published = omega (arith, published, fine.published, g.1, end);
            seen = subst (λ n. AllByRecursion (HasSeen n) new.connections.items) (sym start) (subst (AllByRecursion (HasSeen parts.keeper.history.start)) (sym items) f.0);
            rests = subst (AllByRecursion Rests) (sym items) f.1;
            holds = subst (λ (o : Option Holder). IfSome o (HoldsNext new.connections.items)) (sym (ap (λ (v : KeeperView). holder_in v.phase) view ∙ free_after step parts.keeper to s)) tt;
          };
          tokens = tokens;
          steps = steps_at parts new (holder_event step false) to parts.published replaced parts.stopped (failed_at step s) view published items stopped;
        }

  module _ (opened : IsOpened parts.keeper.phase) (a : IsFinished parts r) where
    abbrev end : ℕ
    end = end_of parts.keeper.history

    is_holder : parts.keeper.phase ≡ keeper.opened a.holder
    is_holder =
        let e : Some a.holder ≡ Some opened.0 = sym a.held ∙ ap holder_in opened.1 in
        let same : a.holder ≡ opened.0 = cc e in
        opened.1 ∙ ap keeper.opened (sym same)

    abbrev freed : KeeperView
    freed = record parts.keeper { phase = keeper.free }

    pub took_published : (new : Parts) → new.tokens ≡ parts.tokens → new.keeper ≡ freed → new.published ≡ end → new.connections.items ≡ replaced → new.stopped ≡ parts.stopped
        → TookEvent parts world.publish new
    took_published new tokens view published items stopped =
        let f = fine_answered (finished end) a (omega arith) in
        let start : new.keeper.history.start ≡ parts.keeper.history.start = ap (λ (v : KeeperView). v.history.start) view in
        let same : end_of new.keeper.history ≡ end = ap (λ (v : KeeperView). end_of v.history) view in
        record {
          fine = record {
            published = omega (arith, published, same);
            seen = subst (λ n. AllByRecursion (HasSeen n) new.connections.items) (sym start) (subst (AllByRecursion (HasSeen parts.keeper.history.start)) (sym items) f.0);
            rests = subst (AllByRecursion Rests) (sym items) f.1;
            holds = subst (λ (o : Option Holder). IfSome o (HoldsNext new.connections.items)) (sym (ap (λ (v : KeeperView). holder_in v.phase) view)) tt;
          };
          tokens = tokens;
          steps = steps_at parts new world.publish freed end replaced parts.stopped
              (publishes (asking_of parts.tokens) parts.keeper parts.published parts.connections.items parts.stopped runs fine.rests a.holder r.at a.from r.connection is_holder a.number a.is_there a.settled)
              view published items stopped;
        }

pub never_publishes : (parts : Parts) → (IsOpened parts.keeper.phase → ⊥) → HasNoStep parts world.publish
never_publishes parts h new s = let d = s.does in h (d.holder, d.is_opened)

pub never_stops : (parts : Parts) (image : List ℕ) → (IsAllowedImage parts.keeper image → ⊥) → HasNoStep parts (world.stop image)
never_stops parts image h new s = let d = s.does in h d.allowed

pub never_after_stop : (parts : Parts) (event : world.Event) → parts.stopped ≡ true → HasNoStep parts event
never_after_stop parts event e new s = absurd (cc (sym e ∙ s.runs))

pub took_stopped : (parts : Parts) (image : List ℕ) → IsWorld parts → parts.stopped ≡ false → IsAllowedImage parts.keeper image → TookEvent parts (world.stop image) (record parts { stopped = true })
took_stopped parts image fine runs allowed = record {
  fine = record { published = fine.published; seen = fine.seen; rests = fine.rests; holds = fine.holds };
  tokens = refl;
  steps = stops (asking_of parts.tokens) parts.keeper parts.published parts.connections.items parts.stopped runs fine.rests image allowed;
}
