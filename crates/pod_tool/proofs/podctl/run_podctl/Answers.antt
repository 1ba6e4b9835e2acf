use Rattle.std.proofs.Common.{refl}
use Rattle.pod_pipe.specs.DiskRuns.{disks_of}
use Rattle.pod_pipe.proofs.SessionLemmas.{if_some_all}
use Rattle.pod_tool.proofs.EndLemmas.{has_not_begun, if_some_twice}
use Rattle.pod_tool.proofs.podctl.run_podctl.Goals as goal

-- no memory was left for the words
pub returns-in-Err-clause-runs : goal.returns-in-Err-clause-runs
returns-in-Err-clause-runs g c = if_some_all _ _ (λ command. if_some_twice c.args.place.now.disks _ (λ disks.
    has_not_begun (disks_of g.D.Disk.content g.D.Disk.image g.D.Disk.moment g.D.Disk.left_since g.D.Disk.faults disks disks) refl refl (g.C.Clock.may_give c.args.clock.now) _ _ c.status.result.0 c.status.ensures (record {
      unserved = record { input = refl; reads = refl; output = refl };
      unwritten = record { output = refl; errors = refl };
    }) (record { rest = refl; faults = refl; reads = refl; ends = refl }) command))
