use Rattle.std.proofs.Common.{◌∙◌, ap, sym}
use Rattle.pod_core.specs.History.{end_of, moment_before}
use Rattle.pod_core.specs.KeeperSteps.{KeeperView}
use Rattle.request_history.proofs.Keepers.{moment_last, moment_none}
use Rattle.request_history.specs.Keepers.{history_of}
use Rattle.request_history.proofs.world_keeper.Keeper.last_moment.Goals as goal

pub returns-in-Some : goal.returns-in-Some
returns-in-Some c =
    let i = c.self.inside in
    let found = rw c.as_slice.ensures at c.in-Some.ensures.value in
    moment_last (history_of i.first i.entries.items) c.in-Some.entry.now (sym found) ∙ ap (λ (v : KeeperView). moment_before v.history (end_of v.history)) c.self.view_is

pub returns-in-None : goal.returns-in-None
returns-in-None c =
    let i = c.self.inside in
    let found = rw c.as_slice.ensures at c.in-None.ensures.value in
    moment_none (history_of i.first i.entries.items) found ∙ ap (λ (v : KeeperView). moment_before v.history (end_of v.history)) c.self.view_is
