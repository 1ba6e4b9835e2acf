-- The entries of a world's history apply, one after the other, and each of its pods is well-formed.
use Rattle.std.proofs.Common.{◌≡◌, ℕ, ◌-◌, Bool, true, false, List, [], ◌∷◌, take, drop, Option, Some, None, refl, sym, ap, subst}
use Rattle.std.proofs.lemmas.List.{take-append-drop}
use Rattle.pod_base.specs.declared.moment.Stamp.{Stamp}
use Rattle.pod_base.specs.declared.request.Request.{Request}
use Rattle.pod_command.specs.declared.entry.Entry.{Entry}
use Rattle.pod_core.proofs.Histories.{history_next, pod_at_end}
use Rattle.pod_core.specs.History.{History, IsHistory, end_of, pod_at}
use Rattle.pod_core.specs.KeeperSteps as keeper
use Rattle.pod_core.specs.KeeperSteps.{IsReplyAtEnd, KeeperEvent, KeeperStep, KeeperView, Phase, held_by, item_at_end, stamp_at_end}
use Rattle.pod_core.specs.World as world
use Rattle.pod_core.specs.World.{DoesEvent, DoesStep, Event, FollowsStep, World, WorldRun, first_world, next_stamp}
use Rattle.pod_reply.specs.Replies.{Reply}
use Rattle.pod_rows.specs.Apply.{AllApply, Applies}
use Rattle.pod_rows.specs.Pod.{Pod}
use Rattle.pod_rows.specs.WellFormed.{WellFormed}
use Rattle.reply_laws.specs.Laws.{EntriesApply}
use Rattle.history_laws.proofs.PodsAtEnd.{first_apply, well_formed_at_end}
use Rattle.token_table.specs.Credentials.{AskedAgent}

-- ---- the pods of a history

-- a history up to one of its entries
pub each_pod : (history : History) (place : ℕ) → IsHistory history → WellFormed (pod_at history place)
each_pod history place h =
    let count = place - history.start in
    let shorter : History = record history { entries = take count history.entries } in
    let is : IsHistory shorter = record {
      well_formed = h.well_formed;
      apply = first_apply history.first history.start (take count history.entries) (drop count history.entries) (subst (AllApply history.first history.start) (sym (take-append-drop count history.entries)) h.apply);
    } in
    subst WellFormed (pod_at_end shorter) (well_formed_at_end shorter is)

-- ---- the history of a world

abbrev AppliesNext : History → Entry → Type 0
AppliesNext history entry = Applies (pod_at history (end_of history)) (end_of history) entry

-- The holder's entry applies at the end, where it isn't added yet.
abbrev Fits : History → Phase → Type 0
Fits history keeper.free = Unit {0}
Fits history (keeper.taken holder) = AppliesNext history holder.entry
Fits history (keeper.written holder) = AppliesNext history holder.entry
Fits history (keeper.opened holder) = Unit {0}

abbrev Sound : KeeperView → Type 0
Sound view = IsHistory view.history × Fits view.history view.phase

module _ (applies : EntriesApply) where
  held_fits : (history : History) (request : Request) (asked : AskedAgent) (stamp : Stamp) (reply : Reply) → IsHistory history → IsReplyAtEnd history request asked stamp reply
      → (o : Option Entry) → reply.entry ≡ o → Fits history (held_by stamp (item_at_end history request asked stamp reply) o)
  held_fits history request asked stamp reply h is None e = tt
  held_fits history request asked stamp reply h is (Some entry) e =
      applies (pod_at history (end_of history)) request asked (end_of history) (stamp_at_end history stamp) reply entry (well_formed_at_end history h) is e

  step_sound : (event : KeeperEvent) (old new : KeeperView) → KeeperStep old event new → Sound old → Sound new
  step_sound (keeper.take request asked stamp reply) old new s f = subst Sound (sym s.new_is) (f.0, held_fits old.history request asked stamp reply f.0 s.is_reply reply.entry refl)
  step_sound (keeper.repair true) old new s f = subst Sound (sym s.new_is) f
  step_sound (keeper.repair false) old new s f = subst Sound (sym s.new_is) (f.0, tt)
  step_sound (keeper.body true) old new s f = subst Sound (sym s.new_is) (f.0, subst (Fits old.history) s.is_taken f.1)
  step_sound (keeper.body false) old new s f = subst Sound (sym s.new_is) (f.0, tt)
  step_sound (keeper.gate true) old new s f =
      let next = subst (Fits old.history) s.is_written f.1 in
      subst Sound (sym s.new_is) (history_next old.history s.holder.entry f.0 (subst (λ (pod : Pod). Applies pod (end_of old.history) s.holder.entry) (pod_at_end old.history) next), tt)
  step_sound (keeper.gate false) old new s f = subst Sound (sym s.new_is) (f.0, tt)

  module _ (may_give : ℕ → Type 0) (asking : Request → AskedAgent) where
    same_view : (old new : KeeperView) → new ≡ old → Sound old → Sound new
    same_view old new same f = subst Sound (sym same) f

    follows_view : (ok : Bool) (to : KeeperView) (old new : World) → FollowsStep ok to old new → new.keeper ≡ to
    follows_view true to old new f = ap (λ (w : World). w.keeper) f
    follows_view false to old new f = ap (λ (w : World). w.keeper) f.new_is

    holder_sound : (event : KeeperEvent) (ok : Bool) (old new : World) → DoesStep event ok old new → Sound old.keeper → Sound new.keeper
    holder_sound event ok old new d f = same_view d.to new.keeper (follows_view ok d.to old new d.follows) (step_sound event old.keeper d.to d.step f)

    event_sound : (old : World) (event : Event) (new : World) → DoesEvent may_give asking old event new → Sound old.keeper → Sound new.keeper
    event_sound old (world.arrive conn piece) new d f = same_view old.keeper new.keeper (ap (λ (w : World). w.keeper) d.new_is) f
    event_sound old (world.look conn place moment) new d f = same_view old.keeper new.keeper (ap (λ (w : World). w.keeper) d.new_is) f
    event_sound old (world.take conn moment) new d f =
        same_view d.to new.keeper (ap (λ (w : World). w.keeper) d.new_is) (step_sound (keeper.take d.request (asking d.request) (next_stamp conn d.from moment) d.reply) old.keeper d.to d.step f)
    event_sound old (world.repair ok) new d f = holder_sound (keeper.repair ok) ok old new d f
    event_sound old (world.body ok) new d f = holder_sound (keeper.body ok) ok old new d f
    event_sound old (world.gate ok) new d f = holder_sound (keeper.gate ok) ok old new d f
    event_sound old world.publish new d f = subst Sound (sym (ap (λ (w : World). w.keeper) d.new_is)) (f.0, tt)
    event_sound old (world.stop image) new d f = same_view old.keeper new.keeper (ap (λ (w : World). w.keeper) d.new_is) f

    run_sound : (old : World) (events : List Event) (new : World) → WorldRun may_give asking old events new → Sound old.keeper → Sound new.keeper
    run_sound old [] new same f = same_view old.keeper new.keeper (ap (λ (w : World). w.keeper) same) f
    run_sound old (event ∷ events) new r f =
        run_sound r.0 events new r.2 (same_view r.1.done.keeper r.0.keeper (ap (λ (w : World). w.keeper) r.1.new_is) (event_sound old event r.1.done r.1.does f))

    pub world_history : (history : History) (numbers : ℕ → Bool) (events : List Event) (new : World) → IsHistory history → WorldRun may_give asking (first_world history numbers) events new → IsHistory new.keeper.history
    world_history history numbers events new h run = (run_sound (first_world history numbers) events new run (h, tt)).0
