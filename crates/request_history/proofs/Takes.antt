-- Changes that take the lock.
use Rattle.std.proofs.Common.{◌≡◌, ℕ, suc, ◌+◌, ◌≤◌, Bool, true, false, ◌++◌, ◌∷◌, [], List, Option, Some, None, IfSome, set, slice_get, refl, sym, ap, subst, ◌∙◌, arith}
use Rattle.std.proofs.lemmas.Option.{slice_get_within}
use Rattle.pod_base.specs.declared.heard.Heard.{Heard}
use Rattle.pod_base.specs.declared.heard.Heard.TheVariants as heard
use Rattle.pod_base.specs.declared.request.Request.{Request}
use Rattle.pod_command.specs.declared.entry.Entry.{Entry}
use Rattle.pod_core.specs.History.{History, end_of, pod_at}
use Rattle.pod_core.specs.KeeperSteps as keeper
use Rattle.pod_core.specs.KeeperSteps.{Holder, KeeperView, item_at_end}
use Rattle.pod_core.specs.Output.{item_text}
use Rattle.pod_core.specs.Session.{IsClockMoment, Item, upgrades}
use Rattle.pod_core.specs.World as world
use Rattle.pod_core.specs.World.{Connection, IsNextEvent, holder_in, next_stamp, with_answer}
use Rattle.pod_rows.specs.Apply.{Applies}
use Rattle.reply_laws.specs.Granted.{is_change}
use Rattle.token_table.specs.Credentials.{AskedAgent}
use Rattle.request_history.proofs.Looks.{IsOnly}
use Rattle.request_history.proofs.Numbered.{get_all}
use Rattle.request_history.proofs.Settled.{settled_rests, settled_seen}
use Rattle.request_history.proofs.Steps.{answers, takes, world_at}
use Rattle.request_history.specs.Connections.{HasNext, SettlesTo, advanced}
use Rattle.request_history.specs.Parts.{HasSeen, HoldsNext, IsReady, TakesLock, IsWorld, Replaces, TakesIfAny, TookEvent}
use Rattle.request_history.specs.Keepers.{AppliesAtEnd}
use Rattle.request_history.specs.Reads.{ChangesAs, LacksChange, after_answer}
use Rattle.request_history.specs.Worlds.{HasNoStep, any_second, asking_of, world_of}
use Rattle.request_history.specs.declared.answer_bytes.Answer.{Answer}
use Rattle.request_history.specs.declared.next_change.Change.{Change}
use Rattle.request_history.specs.declared.next_change.Change.TheVariants as outcomes
use Rattle.request_history.specs.declared.parts_and_events.Parts.{Parts}

-- ---- where no change is next

pub no_change : (from : Connection) (request : Request) → IsOnly from (heard.Request request) → is_change request.method ≡ false → LacksChange from
no_change from request only none other next changes =
    let e = only (heard.Request other) next in
    let same : other ≡ request = cc e in
    absurd (cc (sym (ap (λ (r : Request). is_change r.method) same) ∙ changes, none))

pub bad_next : (from : Connection) (status : ℕ) → IsOnly from (heard.Bad status) → LacksChange from
bad_next from status only other next changes = absurd (cc (only (heard.Request other) next))

pub interim_next : (from : Connection) → IsOnly from heard.Interim → LacksChange from
interim_next from only other next changes = absurd (cc (only (heard.Request other) next))

pub nothing_next : (from : Connection) → HasNext from None → LacksChange from
nothing_next from h other next changes = absurd (cc (h.only (heard.Request other) next))

-- ---- the world

module _ (parts : Parts) (conn moment : ℕ) where
  pub no_connection_takes : slice_get parts.connections.items conn ≡ None → HasNoStep parts (world.take (suc conn) moment)
  no_connection_takes none new step = let d = step.does in absurd (cc (sym none ∙ d.is_there))

  pub never_takes_held : (parts.keeper.phase ≡ keeper.free → ⊥) → HasNoStep parts (world.take (suc conn) moment)
  never_takes_held h new step = let d = step.does in let s = d.step in h s.is_free

  pub never_takes_then : (IsClockMoment any_second moment → ⊥) → HasNoStep parts (world.take (suc conn) moment)
  never_takes_then h new step = let d = step.does in h d.clock

  pub never_takes_else : (from : Connection) → slice_get parts.connections.items conn ≡ Some from → LacksChange from → HasNoStep parts (world.take (suc conn) moment)
  never_takes_else from is h new step =
      let d = step.does in
      let s = d.step in
      let both : Some d.from ≡ Some from = sym d.is_there ∙ is in
      let that : d.from ≡ from = cc both in
      h d.request (subst (λ (c : Connection). IsNextEvent c (heard.Request d.request)) that d.next) s.changes

module _ (parts : Parts) (fine : IsWorld parts) (runs : parts.stopped ≡ false) (conn moment : ℕ) where
  -- with an entry the change holds the lock
  pub took_held : (holder : Holder) → (t : TakesLock parts conn moment (outcomes.Held holder)) → TookEvent parts (world.take (suc conn) moment) (record parts { keeper = record parts.keeper { phase = keeper.taken holder } })
  took_held holder t =
      let k = t.takes in
      let b = k.becomes in
      let c = b.becomes in
      let step = takes (asking_of parts.tokens) parts.keeper parts.published parts.connections.items parts.stopped runs fine.rests conn moment t.from t.is_there k.request k.next t.clock t.is_free k.changes b.reply b.is_reply holder.entry c.0 in
      record {
        fine = record {
          published = fine.published;
          seen = fine.seen;
          rests = fine.rests;
          holds = subst (HoldsNext parts.connections.items) (sym c.1) (record { connection = t.from; is_there = t.is_there; next = k.next; changes = k.changes; storable = c.2 });
        };
        tokens = refl;
        steps = subst (λ (h : Holder). world.WorldStep any_second (asking_of parts.tokens) (world_of parts) (world.take (suc conn) moment) (world_at (record parts.keeper { phase = keeper.taken h }) parts.published parts.connections.items parts.stopped)) (sym c.1) step;
      }

  -- without one it is answered
  pub answer_replaces : (answer : Answer) (new : Connection) (t : TakesLock parts conn moment (outcomes.Answered answer))
      → ((event : Heard) → IsNextEvent t.from event → SettlesTo (after_answer t.from event answer (end_of parts.keeper.history)) new)
      → Replaces parts (world.take (suc conn) moment) conn new
  answer_replaces answer new t settled =
      let k = t.takes in
      let b = k.becomes in
      let c = b.becomes in
      let all = parts.connections.items in
      let start = parts.keeper.history.start in
      let end = end_of parts.keeper.history in
      let item : Item = item_at_end parts.keeper.history k.request (asking_of parts.tokens k.request) (next_stamp (suc conn) t.from moment) b.reply in
      let to : Connection = with_answer t.from item end in
      let is : after_answer t.from (heard.Request k.request) answer end ≡ to = λ i. record {
        input = t.from.input;
        output = t.from.output ++ c.1 i;
        done = t.from.done ++ heard.Request k.request ∷ [];
        switched = c.2 i;
        seen = end;
      } in
      let fits : SettlesTo to new = subst (λ (d : Connection). SettlesTo d new) is (settled (heard.Request k.request) k.next) in
      let at : new.seen ≡ end = settled_seen to new fits in
      record {
        within = slice_get_within all conn t.from t.is_there;
        seen = omega (arith, at);
        rests = settled_rests to new fits;
        holds = subst (λ (p : keeper.Phase). IfSome (holder_in p) (HoldsNext (set all conn new))) (sym t.is_free) tt;
        steps = answers (asking_of parts.tokens) parts.keeper parts.published all parts.stopped runs fine.rests conn moment t.from t.is_there k.request k.next t.clock t.is_free k.changes b.reply b.is_reply new c.0 fits;
      }

-- ---- what becomes of what is next

module _ (parts : Parts) (conn moment : ℕ) (from : Connection) (is : slice_get parts.connections.items conn ≡ Some from) (is_free : parts.keeper.phase ≡ keeper.free) (clock : IsClockMoment any_second moment) where
  pub takes_if_any : (change : Change) → ChangesAs (asking_of parts.tokens) parts.keeper.history (suc conn) moment from change → TakesIfAny parts conn moment change
  takes_if_any outcomes.Stays t = never_takes_else parts conn moment from is t
  takes_if_any (outcomes.Held holder) t = record { from = from; is_there = is; is_free = is_free; clock = clock; takes = t }
  takes_if_any (outcomes.Answered answer) t = record { from = from; is_there = is; is_free = is_free; clock = clock; takes = t }

-- the entry of a change that takes the lock applies
pub held_applies : (parts : Parts) (conn moment : ℕ) (holder : Holder) → TakesLock parts conn moment (outcomes.Held holder) → AppliesAtEnd parts.keeper.history holder
held_applies parts conn moment holder t =
    let k = t.takes in
    let b = k.becomes in
    let c = b.becomes in
    let end = end_of parts.keeper.history in
    subst (λ (o : Option Entry). IfSome o (Applies (pod_at parts.keeper.history end) end)) c.0 b.applies

pub taken_ready : (parts : Parts) (conn moment : ℕ) (answer : Answer) → TakesLock parts conn moment (outcomes.Answered answer) → IsReady parts conn
taken_ready parts conn moment answer t =
    let k = t.takes in
    record { from = t.from; is_there = t.is_there; event = heard.Request k.request; next = k.next }

-- ---- the connection that is answered

module _ (parts : Parts) (conn : ℕ) (from : Connection) (is : Some from ≡ slice_get parts.connections.items conn) where
  pub ready_next : IsReady parts conn → (event : Heard) × IsNextEvent from event
  ready_next r =
      let both : Some r.from ≡ Some from = sym r.is_there ∙ sym is in
      let same : r.from ≡ from = cc both in
      (r.event, subst (λ (c : Connection). IsNextEvent c r.event) same r.next)

  pub answered_by : (answer : Answer) (text : List ℕ) → text ≡ answer.text → (end : ℕ) → end ≡ end_of parts.keeper.history → (new : Connection)
      → ((event : Heard) → IsNextEvent from event → SettlesTo (advanced from event text answer.switched end) new)
      → (other : Connection) (event : Heard) → slice_get parts.connections.items conn ≡ Some other → IsNextEvent other event → SettlesTo (after_answer other event answer (end_of parts.keeper.history)) new
  answered_by answer text is_text end is_end new settled other event there next =
      let both : Some from ≡ Some other = is ∙ there in
      let same : from ≡ other = cc both in
      let s = settled event (subst (λ (c : Connection). IsNextEvent c event) (sym same) next) in
      subst (λ (x : Connection × List ℕ × ℕ). SettlesTo (advanced x.0 event x.1 answer.switched x.2) new) (λ i. (same i, is_text i, is_end i)) s
