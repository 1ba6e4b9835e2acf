-- After any events the entries of a world's history apply, and so does one that may follow.
use Rattle.std.proofs.Common.{◌≡◌, inl, inr, ℕ, ◌+◌, Bool, true, false, List, [], ◌∷◌, Option, Some, None, IfSome, refl, sym, ap, subst}
use Rattle.pod_base.specs.declared.moment.Stamp.{Stamp}
use Rattle.pod_base.specs.declared.request.Request.{Request}
use Rattle.pod_command.specs.declared.entry.Entry.{Entry}
use Rattle.pod_core.proofs.Histories.{history_next, pod_at_end}
use Rattle.pod_core.specs.History.{History, IsHistory, end_of, longer, pod_at}
use Rattle.pod_core.specs.KeeperSteps as keeper
use Rattle.pod_core.specs.KeeperSteps.{Holder, IsReplyAtEnd, KeeperEvent, KeeperStep, KeeperView, Phase, held_by, item_at_end, stamp_at_end}
use Rattle.pod_core.specs.Session.{Item}
use Rattle.pod_core.specs.World as world
use Rattle.pod_core.specs.World.{DoesEvent, DoesStep, Event, FollowsStep, World, WorldRun, WorldStep}
use Rattle.pod_core.specs.WorldImages.{MayFollow}
use Rattle.pod_reply.specs.Replies.{Reply}
use Rattle.pod_rows.specs.Apply.{AllApply, Applies, applied, replayed, with_rows_if}
use Rattle.pod_rows.specs.Pod.{Pod}
use Rattle.pod_rows.specs.WellFormed.{WellFormed}
use Rattle.reply_laws.specs.Laws.{EntriesApply}
use Rattle.token_table.specs.Credentials.{AskedAgent}

well_formed_after : (pod : Pod) (next : ℕ) (entries : List Entry) → WellFormed pod → AllApply pod next entries → WellFormed (replayed pod entries)
well_formed_after pod next [] w h = w
well_formed_after pod next (entry ∷ entries) w h =
    well_formed_after (applied pod entry) (next + 1) entries (subst WellFormed (sym (ap (with_rows_if pod) h.0.edits)) h.0.well_formed) h.1

well_formed_at_end : (history : History) → IsHistory history → WellFormed (pod_at history (end_of history))
well_formed_at_end history h =
    subst WellFormed (sym (pod_at_end history)) (well_formed_after history.first history.start history.entries h.well_formed h.apply)

-- the entry applies at the end of the history
abbrev pub IsNext : History → Entry → Type 0
IsNext history entry = Applies (pod_at history (end_of history)) (end_of history) entry

pub with_next : (history : History) (entry : Entry) → IsHistory history → IsNext history entry → IsHistory (longer history (entry ∷ []))
with_next history entry h next = history_next history entry h (subst (λ (pod : Pod). Applies pod (end_of history) entry) (pod_at_end history) next)

-- The entry of the holder applies where it isn't made yet. Once its record is written, nothing is in
-- doubt.
abbrev HolderFits : History → Option Entry → Phase → Type 0
HolderFits history doubt keeper.free = Unit {0}
HolderFits history doubt (keeper.taken holder) = IsNext history holder.entry
HolderFits history doubt (keeper.written holder) = (doubt ≡ None) × IsNext history holder.entry
HolderFits history doubt (keeper.opened holder) = doubt ≡ None

pub record Fits (view : KeeperView) : Type 0 where
  pub is_history : IsHistory view.history
  pub doubt : IfSome view.doubt (IsNext view.history)
  pub holder : HolderFits view.history view.doubt view.phase

-- ---- the steps of a keeper

module _ (applies : EntriesApply) where
  taken_fits : (history : History) (doubt : Option Entry) (request : Request) (asked : AskedAgent) (stamp : Stamp) (reply : Reply) (item : Item) → IsHistory history
      → IsReplyAtEnd history request asked stamp reply → (o : Option Entry) → reply.entry ≡ o → HolderFits history doubt (held_by stamp item o)
  taken_fits history doubt request asked stamp reply item h is None e = tt
  taken_fits history doubt request asked stamp reply item h is (Some entry) e =
      applies (pod_at history (end_of history)) request asked (end_of history) (stamp_at_end history stamp) reply entry (well_formed_at_end history h) is e

  step_fits : (event : KeeperEvent) (old new : KeeperView) → KeeperStep old event new → Fits old → Fits new
  step_fits (keeper.take request asked stamp reply) old new s f = subst Fits (sym s.new_is) (record {
    is_history = f.is_history;
    doubt = f.doubt;
    holder = taken_fits old.history old.doubt request asked stamp reply (item_at_end old.history request asked stamp reply) f.is_history s.is_reply reply.entry refl;
  })
  step_fits (keeper.repair true) old new s f = subst Fits (sym s.new_is) (record {
    is_history = f.is_history;
    doubt = tt;
    holder = subst (HolderFits old.history None) (sym s.is_taken) (subst (HolderFits old.history old.doubt) s.is_taken f.holder);
  })
  step_fits (keeper.repair false) old new s f = subst Fits (sym s.new_is) (record { is_history = f.is_history; doubt = f.doubt; holder = tt })
  step_fits (keeper.body true) old new s f = subst Fits (sym s.new_is) (record {
    is_history = f.is_history;
    doubt = f.doubt;
    holder = (s.is_sure, subst (HolderFits old.history old.doubt) s.is_taken f.holder);
  })
  step_fits (keeper.body false) old new s f = subst Fits (sym s.new_is) (record { is_history = f.is_history; doubt = f.doubt; holder = tt })
  step_fits (keeper.gate true) old new s f =
      let next = subst (HolderFits old.history old.doubt) s.is_written f.holder in
      let history = longer old.history (s.holder.entry ∷ []) in
      subst Fits (sym s.new_is) (record {
        is_history = with_next old.history s.holder.entry f.is_history next.1;
        doubt = subst (λ (o : Option Entry). IfSome o (IsNext history)) (sym next.0) tt;
        holder = next.0;
      })
  step_fits (keeper.gate false) old new s f =
      let next = subst (HolderFits old.history old.doubt) s.is_written f.holder in
      subst Fits (sym s.new_is) (record { is_history = f.is_history; doubt = next.1; holder = tt })

  -- ---- the events of a world

  module _ (may_give : ℕ → Type 0) (asking : Request → AskedAgent) where
    same_view : (old new : KeeperView) → new ≡ old → Fits old → Fits new
    same_view old new same f = subst Fits (sym same) f

    -- a step of the holder, also where it fails
    follows_view : (ok : Bool) (to : KeeperView) (old new : World) → FollowsStep ok to old new → new.keeper ≡ to
    follows_view true to old new f = ap (λ (w : World). w.keeper) f
    follows_view false to old new f = ap (λ (w : World). w.keeper) f.new_is

    holder_fits : (event : KeeperEvent) (ok : Bool) (old new : World) → DoesStep event ok old new → Fits old.keeper → Fits new.keeper
    holder_fits event ok old new d f = same_view d.to new.keeper (follows_view ok d.to old new d.follows) (step_fits event old.keeper d.to d.step f)

    event_fits : (old : World) (event : Event) (new : World) → DoesEvent may_give asking old event new → Fits old.keeper → Fits new.keeper
    event_fits old (world.arrive conn piece) new d f = same_view old.keeper new.keeper (ap (λ (w : World). w.keeper) d.new_is) f
    event_fits old (world.look conn place moment) new d f = same_view old.keeper new.keeper (ap (λ (w : World). w.keeper) d.new_is) f
    event_fits old (world.take conn moment) new d f =
        same_view d.to new.keeper (ap (λ (w : World). w.keeper) d.new_is) (step_fits (keeper.take d.request (asking d.request) (world.next_stamp conn d.from moment) d.reply) old.keeper d.to d.step f)
    event_fits old (world.repair ok) new d f = holder_fits (keeper.repair ok) ok old new d f
    event_fits old (world.body ok) new d f = holder_fits (keeper.body ok) ok old new d f
    event_fits old (world.gate ok) new d f = holder_fits (keeper.gate ok) ok old new d f
    event_fits old world.publish new d f =
        subst Fits (sym (ap (λ (w : World). w.keeper) d.new_is)) (record { is_history = f.is_history; doubt = f.doubt; holder = tt })
    event_fits old (world.stop image) new d f = same_view old.keeper new.keeper (ap (λ (w : World). w.keeper) d.new_is) f

    pub run_fits : (old : World) (events : List Event) (new : World) → WorldRun may_give asking old events new → Fits old.keeper → Fits new.keeper
    run_fits old [] new same f = same_view old.keeper new.keeper (ap (λ (w : World). w.keeper) same) f
    run_fits old (event ∷ events) new r f =
        run_fits r.0 events new r.2 (same_view r.1.done.keeper r.0.keeper (ap (λ (w : World). w.keeper) r.1.new_is) (event_fits old event r.1.done r.1.does f))

-- ---- one that may follow

pub following : (view : KeeperView) (entry : Entry) → Fits view → MayFollow view entry → IsNext view.history entry
following view entry f (inl doubt) = subst (λ (o : Option Entry). IfSome o (IsNext view.history)) doubt f.doubt
following view entry f (inr (holder, written, is)) =
    subst (IsNext view.history) is (subst (HolderFits view.history view.doubt) written f.holder).1
