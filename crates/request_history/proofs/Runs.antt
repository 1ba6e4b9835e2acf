-- A run of events, and one event more; what a stop after it leaves.
use Rattle.std.proofs.Common.{List, [], ◌∷◌, ◌++◌, map, refl, sym, subst}
use Rattle.std.proofs.lemmas.List.{map_push}
use Rattle.pod_base.specs.declared.request.Request.{Request}
use Rattle.pod_core.specs.World as world
use Rattle.pod_core.specs.World.{World, WorldRun, WorldStep, first_world}
use Rattle.token_table.specs.Credentials.{AskedAgent}
use Rattle.request_history.specs.Keepers.{first_history}
use Rattle.request_history.specs.Runs.{BeginsWithNone, TakenStopsStand, TakesOneMore}
use Rattle.request_history.specs.Worlds.{any_second, asking_of, event_of, world_of}
use Rattle.world_laws.specs.CrashedWorlds.{AppendsStorable, StopsStand, WritesStorable}

module _ (asking : Request → AskedAgent) where
  -- a step and a run that write storable entries alone
  record StorableStep (old : World) (event : world.Event) (new : World) : Type 0 where
    step : WorldStep any_second asking old event new
    storable : WritesStorable any_second asking old event step.done step.does

  record StorableRun (old : World) (events : List world.Event) (new : World) : Type 0 where
    run : WorldRun any_second asking old events new
    storable : AppendsStorable any_second asking old events new run

  run_more : (old mid new : World) (events : List world.Event) (event : world.Event) → StorableRun old events mid → StorableStep mid event new → StorableRun old (events ++ event ∷ []) new
  run_more old mid new [] event r s =
      let one = subst (λ (w : World). StorableStep w event new) r.run s in
      record { run = (new, one.step, refl); storable = (one.storable, tt) }
  run_more old mid new (one ∷ events) event r s =
      let first = r.run in
      let all = r.storable in
      let more = run_more first.0 mid new events event (record { run = first.2; storable = all.1 }) s in
      record { run = (first.0, first.1, more.run); storable = (all.0, more.storable) }

pub begins_with_none : BeginsWithNone
begins_with_none history numbers tokens parts is = record { run = is; storable = tt }

pub takes_one_more : TakesOneMore
takes_one_more history numbers events event old new r s storable =
    let asking = asking_of old.tokens in
    let first = first_world history numbers in
    let all = subst (λ (l : List world.Event). StorableRun asking first l (world_of new)) (sym (map_push event_of events event))
    (run_more asking first (world_of old) (world_of new) (map event_of events) (event_of event) (record { run = r.run; storable = r.storable }) (record { step = s; storable = storable s })) in
    record { run = all.run; storable = all.storable }

-- ---- a stop

pub taken_stops : StopsStand any_second → TakenStopsStand
taken_stops law first numbers tokens events parts image stopped fine recordable taken step =
    law (asking_of tokens) (first_history first) numbers (map event_of events) (world_of parts) stopped image (record { well_formed = fine.pod; apply = tt }) recordable taken.run taken.storable
    (record { runs = step.runs; done = step.done; does = step.does; settled = step.settled; new_is = step.new_is })
