use Rattle.std.proofs.Common.{◌∙◌, ap}
use Rattle.pod_core.specs.History.{end_of}
use Rattle.pod_core.specs.KeeperSteps.{KeeperView}
use Rattle.request_history.proofs.Keepers.{end_none, end_some}
use Rattle.request_history.specs.Keepers.{history_of}
use Rattle.request_history.proofs.world_keeper.Keeper.end.Goals as goal

pub returns-in-Some : goal.returns-in-Some
returns-in-Some c =
    let i = c.self.inside in
    let found = rw c.as_slice.ensures at c.in-Some.ensures.value in
    c.seq.ensures.next ∙ end_some (history_of i.first i.entries.items) i.later.items c.in-Some.version.now c.self.invariant.versions found ∙ ap (λ (v : KeeperView). end_of v.history) c.self.view_is

pub returns-in-None : goal.returns-in-None
returns-in-None c =
    let i = c.self.inside in
    let found = rw c.as_slice.ensures at c.in-None.ensures.value in
    c.seq-in-None.ensures.next ∙ end_none (history_of i.first i.entries.items) i.later.items c.self.invariant.versions found ∙ ap (λ (v : KeeperView). end_of v.history) c.self.view_is
