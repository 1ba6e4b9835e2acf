-- The holder of the lock, whose change stays next on its connection, and connections that are
-- replaced.
use Rattle.std.proofs.Common.{◌≡◌, ℕ, zero, suc, ◌<◌, ◌≤◌, ◌==◌, Bool, true, false, List, [], ◌∷◌, length, set, slice_get, Option, Some, None, IfSome, refl, sym, ap, subst, ◌∙◌, arith}
use Rattle.std.specs.List.{AllByRecursion}
use Rattle.std.proofs.lemmas.Bool.Decides.{nat_tests}
use Rattle.std.proofs.lemmas.Option.{slice_get_within}
use Rattle.pod_base.specs.declared.heard.Heard.{Heard}
use Rattle.pod_base.specs.declared.heard.Heard.TheVariants as heard
use Rattle.pod_base.specs.declared.request.Request.{Request}
use Rattle.pod_core.specs.History.{end_of}
use Rattle.pod_core.specs.KeeperSteps.{Holder, KeeperView}
use Rattle.pod_core.specs.World as world
use Rattle.pod_core.specs.World.{Connection, Event, IsNextEvent, holder_in, with_input}
use Rattle.pod_core.proofs.Histories.{if_some_weaker}
use Rattle.reply_laws.specs.Granted.{is_change}
use Rattle.request_history.proofs.Numbered.{get_all, get_other, get_set, set_all}
use Rattle.request_history.proofs.Settled.{EventsStay, keeps_request, settled_rests, settled_seen}
use Rattle.request_history.proofs.Steps.{arrives}
use Rattle.request_history.specs.Connections.{Rests, SettlesTo}
use Rattle.request_history.specs.Parts.{HasSeen, HoldsNext, IsWorld, Replaces, ReplacesIfAny, TookEvent, with_new}
use Rattle.request_history.specs.Worlds.{any_second, asking_of, numbered, world_of}
use Rattle.request_history.specs.declared.parts_and_events.Parts.{Parts}

numbered_other : (connections : List Connection) (conn n : ℕ) (new : Connection) → (n ≡ suc conn → ⊥) → numbered (set connections conn new) n ≡ numbered connections n
numbered_other connections conn zero new h = refl
numbered_other connections conn (suc k) new h = get_other connections conn k new (λ e. h (ap suc e))

-- a change that is next on a connection stays so on another that replaces it
abbrev pub KeepsChanges : Connection → Connection → Type 0
KeepsChanges from new = (request : Request) → is_change request.method ≡ true → IsNextEvent from (heard.Request request) → IsNextEvent new (heard.Request request)

module _ (connections : List Connection) (conn : ℕ) (from new : Connection) (is : slice_get connections conn ≡ Some from) (keeps : KeepsChanges from new) where
  holds : (holder : Holder) → HoldsNext connections holder → HoldsNext (set connections conn new) holder
  holds holder h = elim (holder.conn == suc conn) as (λ b. (holder.conn == suc conn) ≡ b → HoldsNext (set connections conn new) holder) [
    | true ↦ λ e.
        let same : holder.conn ≡ suc conn = grind (arith, nat_tests) in
        let both : Some h.connection ≡ Some from = sym h.is_there ∙ ap (numbered connections) same ∙ is in
        let that : h.connection ≡ from = cc both in
        record {
          connection = new;
          is_there = ap (numbered (set connections conn new)) same ∙ get_set connections conn new (slice_get_within connections conn from is);
          next = keeps holder.item.request h.changes (subst (λ (c : Connection). IsNextEvent c (heard.Request holder.item.request)) that h.next);
          changes = h.changes;
          storable = h.storable;
        }
    | false ↦ λ e. record {
      connection = h.connection;
      is_there = numbered_other connections conn holder.conn new (λ same. grind (arith, nat_tests)) ∙ h.is_there;
      next = h.next;
      changes = h.changes;
      storable = h.storable;
    }
  ] refl

  pub holds_if_any : (o : Option Holder) → IfSome o (HoldsNext connections) → IfSome o (HoldsNext (set connections conn new))
  holds_if_any o h = if_some_weaker o (HoldsNext connections) (HoldsNext (set connections conn new)) holds h

-- ---- bytes arrive

pub arrive_replaces : (stay : EventsStay) (parts : Parts) (conn : ℕ) (piece : List ℕ) (from new : Connection) → IsWorld parts → parts.stopped ≡ false → slice_get parts.connections.items conn ≡ Some from
    → SettlesTo (with_input from piece) new → Replaces parts (world.arrive (suc conn) piece) conn new
arrive_replaces stay parts conn piece from new fine runs is settled =
    let all = parts.connections.items in
    let start = parts.keeper.history.start in
    record {
      within = slice_get_within all conn from is;
      seen = subst (λ n. start ≤ n) (sym (settled_seen (with_input from piece) new settled)) (get_all (HasSeen start) all conn from fine.seen is);
      rests = settled_rests (with_input from piece) new settled;
      holds = holds_if_any all conn from new is (λ request changes next. keeps_request stay from new piece request next settled) (holder_in parts.keeper.phase) fine.holds;
      steps = arrives (asking_of parts.tokens) parts.keeper parts.published all parts.stopped runs fine.rests conn piece from new is settled;
    }

pub never_arrives : (parts : Parts) (conn : ℕ) (piece : List ℕ) → slice_get parts.connections.items conn ≡ None → (new : world.World)
    → world.WorldStep any_second (asking_of parts.tokens) (world_of parts) (world.arrive (suc conn) piece) new → ⊥
never_arrives parts conn piece none new step = absurd (cc (sym none ∙ step.does.is_there))

-- ---- a replaced connection

pub took_replaced : (old new : Parts) (event : Event) (conn : ℕ) (connection : Connection) → IsWorld old → Replaces old event conn connection
    → new.tokens ≡ old.tokens → new.keeper ≡ old.keeper → new.published ≡ old.published → new.stopped ≡ old.stopped → new.connections.items ≡ with_new old conn connection
    → TookEvent old event new
took_replaced old new event conn connection fine r tokens view published stopped items = record {
  fine = record {
    published = subst (λ n. n ≤ end_of new.keeper.history) (sym published) (subst (λ (v : KeeperView). old.published ≤ end_of v.history) (sym view) fine.published);
    seen = subst (λ (l : List Connection). AllByRecursion (HasSeen new.keeper.history.start) l) (sym items)
        (subst (λ (v : KeeperView). AllByRecursion (HasSeen v.history.start) (with_new old conn connection)) (sym view) (set_all (HasSeen old.keeper.history.start) old.connections.items conn connection fine.seen r.seen));
    rests = subst (AllByRecursion Rests) (sym items) (set_all Rests old.connections.items conn connection fine.rests r.rests);
    holds = subst (λ (l : List Connection). IfSome (holder_in new.keeper.phase) (HoldsNext l)) (sym items)
        (subst (λ (v : KeeperView). IfSome (holder_in v.phase) (HoldsNext (with_new old conn connection))) (sym view) r.holds);
  };
  tokens = tokens;
  steps = subst (λ (w : world.World). world.WorldStep any_second (asking_of old.tokens) (world_of old) event w)
      (λ i. record { keeper = sym view i; published = sym published i; connections = ap numbered (sym items) i; stopped = sym stopped i }) r.steps;
}

pub replaces_within : (parts : Parts) (event : Event) (conn : ℕ) (next : Option Connection) → ReplacesIfAny parts event conn next → IfSome next (λ _. conn < length parts.connections.items)
replaces_within parts event conn None r = tt
replaces_within parts event conn (Some new) r = r.within
