-- Where a step of a world writes a record, the entry has a stored form: the holder of the lock has one
-- alone.
use Rattle.std.proofs.Common.{◌≡◌, Bool, true, false, Option, IfSome, ap, subst}
use Rattle.pod_core.specs.KeeperSteps.{Holder}
use Rattle.pod_core.specs.World as world
use Rattle.pod_core.specs.World.{holder_in}
use Rattle.request_history.specs.Parts.{HoldsNext, IsWorld}
use Rattle.request_history.specs.Worlds.{StepsStorable}
use Rattle.request_history.specs.declared.parts_and_events.Parts.{Parts}

pub steps_storable : (old new : Parts) (event : world.Event) → IsWorld old → StepsStorable old event new
steps_storable old new (world.body true) fine step =
    let d = step.does in
    let s = d.step in
    let h : HoldsNext old.connections.items s.holder = subst (λ (o : Option Holder). IfSome o (HoldsNext old.connections.items)) (ap holder_in s.is_taken) fine.holds in
    h.storable
steps_storable old new (world.body false) fine step = tt
steps_storable old new (world.arrive conn piece) fine step = tt
steps_storable old new (world.look conn place moment) fine step = tt
steps_storable old new (world.take conn moment) fine step = tt
steps_storable old new (world.repair ok) fine step = tt
steps_storable old new (world.gate ok) fine step = tt
steps_storable old new world.publish fine step = tt
steps_storable old new (world.stop image) fine step = tt
