-- A journal can hold the history of a world, and what may follow it, where each record that was
-- written is of an entry that has a stored form: the entry of each reply is short enough.
use Rattle.std.proofs.Common.{◌≡◌, inl, inr, ℕ, Bool, true, false, ◌≤◌, List, [], ◌∷◌, length, Option, Some, None, IfSome, sym, ap, subst, arith}
use Rattle.journal_log.specs.CleanJournal.{IsShort}
use Rattle.pod_base.specs.declared.moment.Stamp.{Stamp}
use Rattle.pod_base.specs.declared.request.Request.{Request}
use Rattle.stored_forms.specs.Storable.{IsStorable}
use Rattle.stored_forms.specs.StoredForms.{entry_bytes}
use Rattle.pod_command.specs.declared.entry.Entry.{Entry}
use Rattle.pod_core.specs.History.{History, end_of, longer, pod_at}
use Rattle.pod_core.specs.KeeperSteps as keeper
use Rattle.pod_core.specs.KeeperSteps.{KeeperStep, KeeperView, Phase, TakesChange, held_by, item_at_end, stamp_at_end}
use Rattle.pod_core.specs.Session.{Item}
use Rattle.pod_core.specs.World as world
use Rattle.pod_core.specs.World.{DoesEvent, Event, FollowsStep, World, WorldRun, first_world}
use Rattle.pod_core.specs.WorldImages.{MayFollow}
use Rattle.pod_reply.specs.Replies.{Reply}
use Rattle.pod_reply.specs.declared.entry_size.TheConstants.{ENTRY_BYTES_LIMIT}
use Rattle.refusal_laws.specs.RankTable.{EntriesFit}
use Rattle.token_table.specs.Credentials.{AskedAgent}
use Rattle.world_laws.specs.CrashedWorlds.{AppendsStorable, IsRecordable, IsRecordableHistory, WritesStorable}
use Rattle.world_laws.proofs.WorldLists.{all_snoc}

-- the entry of the holder, before its record is written and before it is part of the history
abbrev HolderRecords : Phase → Type 0
HolderRecords keeper.free = Unit {0}
HolderRecords (keeper.taken holder) = IsShort (entry_bytes holder.entry)
HolderRecords (keeper.written holder) = IsRecordable holder.entry
HolderRecords (keeper.opened holder) = Unit {0}

pub record Records (view : KeeperView) : Type 0 where
  pub history : IsRecordableHistory view.history
  pub doubt : IfSome view.doubt IsRecordable
  pub holder : HolderRecords view.phase

pub recordable_more : (history : History) (entry : Entry) → IsRecordableHistory history → IsRecordable entry → IsRecordableHistory (longer history (entry ∷ []))
recordable_more history entry r one = record {
  number = r.number;
  storable = r.storable;
  short = r.short;
  entries = all_snoc IsRecordable history.entries entry r.entries one;
}

-- ---- the steps of a keeper

within_limit : (entry : Entry) → length (entry_bytes entry) ≤ ENTRY_BYTES_LIMIT → IsShort (entry_bytes entry)
within_limit entry fits = omega (arith, fits)

taken_records : (stamp : Stamp) (item : Item) (o : Option Entry) → IfSome o (λ (entry : Entry). length (entry_bytes entry) ≤ ENTRY_BYTES_LIMIT) → HolderRecords (held_by stamp item o)
taken_records stamp item None fits = tt
taken_records stamp item (Some entry) fits = within_limit entry fits

take_records : EntriesFit → (old new : KeeperView) (request : Request) (asked : AskedAgent) (stamp : Stamp) (reply : Reply) → TakesChange old request asked stamp reply new → Records old → Records new
take_records fit old new request asked stamp reply s r = subst Records (sym s.new_is) (record {
  history = r.history;
  doubt = r.doubt;
  holder = taken_records stamp (item_at_end old.history request asked stamp reply) reply.entry
      (fit (pod_at old.history (end_of old.history)) request asked (end_of old.history) (stamp_at_end old.history stamp) reply s.is_reply);
})

repair_records : (ok : Bool) (old new : KeeperView) → KeeperStep old (keeper.repair ok) new → Records old → Records new
repair_records true old new s r = subst Records (sym s.new_is) (record { history = r.history; doubt = tt; holder = r.holder })
repair_records false old new s r = subst Records (sym s.new_is) (record { history = r.history; doubt = r.doubt; holder = tt })

gate_records : (ok : Bool) (old new : KeeperView) → KeeperStep old (keeper.gate ok) new → Records old → Records new
gate_records true old new s r =
    let one : IsRecordable s.holder.entry = subst HolderRecords s.is_written r.holder in
    subst Records (sym s.new_is) (record { history = recordable_more old.history s.holder.entry r.history one; doubt = r.doubt; holder = tt })
gate_records false old new s r =
    let one : IsRecordable s.holder.entry = subst HolderRecords s.is_written r.holder in
    subst Records (sym s.new_is) (record { history = r.history; doubt = one; holder = tt })

written_records : (old new : KeeperView) (s : KeeperStep old (keeper.body true) new) → IsStorable s.holder.entry → Records old → Records new
written_records old new s stored r = subst Records (sym s.new_is) (record {
  history = r.history;
  doubt = r.doubt;
  holder = record { storable = stored; short = subst HolderRecords s.is_taken r.holder };
})

unwritten_records : (old new : KeeperView) → KeeperStep old (keeper.body false) new → Records old → Records new
unwritten_records old new s r = subst Records (sym s.new_is) (record { history = r.history; doubt = r.doubt; holder = tt })

-- ---- the events of a world

module _ (fit : EntriesFit) (may_give : ℕ → Type 0) (asking : Request → AskedAgent) where
  same_view : (old new : KeeperView) → new ≡ old → Records old → Records new
  same_view old new same r = subst Records (sym same) r

  follows_view : (ok : Bool) (to : KeeperView) (old new : World) → FollowsStep ok to old new → new.keeper ≡ to
  follows_view true to old new f = ap (λ (w : World). w.keeper) f
  follows_view false to old new f = ap (λ (w : World). w.keeper) f.new_is

  event_records : (old : World) (event : Event) (new : World) (d : DoesEvent may_give asking old event new) → WritesStorable may_give asking old event new d → Records old.keeper → Records new.keeper
  event_records old (world.arrive conn piece) new d w r = same_view old.keeper new.keeper (ap (λ (x : World). x.keeper) d.new_is) r
  event_records old (world.look conn place moment) new d w r = same_view old.keeper new.keeper (ap (λ (x : World). x.keeper) d.new_is) r
  event_records old (world.take conn moment) new d w r =
      same_view d.to new.keeper (ap (λ (x : World). x.keeper) d.new_is) (take_records fit old.keeper d.to d.request (asking d.request) (world.next_stamp conn d.from moment) d.reply d.step r)
  event_records old (world.repair ok) new d w r = same_view d.to new.keeper (follows_view ok d.to old new d.follows) (repair_records ok old.keeper d.to d.step r)
  event_records old (world.body true) new d w r = same_view d.to new.keeper (follows_view true d.to old new d.follows) (written_records old.keeper d.to d.step w r)
  event_records old (world.body false) new d w r = same_view d.to new.keeper (follows_view false d.to old new d.follows) (unwritten_records old.keeper d.to d.step r)
  event_records old (world.gate ok) new d w r = same_view d.to new.keeper (follows_view ok d.to old new d.follows) (gate_records ok old.keeper d.to d.step r)
  event_records old world.publish new d w r =
      subst Records (sym (ap (λ (x : World). x.keeper) d.new_is)) (record { history = r.history; doubt = r.doubt; holder = tt })
  event_records old (world.stop image) new d w r = same_view old.keeper new.keeper (ap (λ (x : World). x.keeper) d.new_is) r

  run_records : (old : World) (events : List Event) (new : World) (run : WorldRun may_give asking old events new) → AppendsStorable may_give asking old events new run → Records old.keeper → Records new.keeper
  run_records old [] new same all r = same_view old.keeper new.keeper (ap (λ (x : World). x.keeper) same) r
  run_records old (event ∷ events) new run all r =
      run_records run.0 events new run.2 all.1 (same_view run.1.done.keeper run.0.keeper (ap (λ (x : World). x.keeper) run.1.new_is) (event_records old event run.1.done run.1.does all.0 r))

  pub ends_record : (history : History) (numbers : ℕ → Bool) → IsRecordableHistory history → (events : List Event) (new : World) (run : WorldRun may_give asking (first_world history numbers) events new)
      → AppendsStorable may_give asking (first_world history numbers) events new run → Records new.keeper
  ends_record history numbers r events new run all = run_records (first_world history numbers) events new run all (record { history = r; doubt = tt; holder = tt })

-- ---- one that may follow

pub may_follow : (view : KeeperView) (entry : Entry) → Records view → MayFollow view entry → IsRecordable entry
may_follow view entry r (inl doubt) = subst (λ (o : Option Entry). IfSome o IsRecordable) doubt r.doubt
may_follow view entry r (inr (holder, written, is)) = subst IsRecordable is (subst HolderRecords written r.holder)
