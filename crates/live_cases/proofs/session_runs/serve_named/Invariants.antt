use Rattle.std.proofs.Common.{◌≡◌, [], ◌+◌}
use Rattle.pod_core.specs.History.{History}
use Rattle.pod_keeper.specs.KeeperState.{version_in}
use Rattle.pod_keeper.proofs.HistoryLaws.{kept_is_opened}
use Rattle.pod_live.specs.Stores.{IsSafe, KeptSome}
use Rattle.live_cases.proofs.session_runs.serve_named.Given as goal

abbrev pub ghosts-serve_once-N-ViewName : goal.ghosts-serve_once-N-ViewName
ghosts-serve_once-N-ViewName g a = record { book = a.names.list; first_number = a.keeper.next; opening = [] }

abbrev pub ghosts-serve_once-N-StoreName : goal.ghosts-serve_once-N-StoreName
ghosts-serve_once-N-StoreName g a = record {
  opened = version_in a.keeper;
  kept = λ (h : History). KeptSome g.D.Disk.image a.keeper h;
  ends = λ (h : History) k. kept_is_opened g.D.Disk.image a.keeper h k.0 k.1 k.2;
  safe = IsSafe g.D.Disk.image a.keeper;
  counted = g.D.Disk.faults a.keeper.first + g.D.Disk.faults a.keeper.second;
  changes = a.names.changes.name;
  faults = a.names.faults.name;
  parts = a.names.changes.parts;
}

abbrev pub ghosts-serve_once-N-KeeperName : goal.ghosts-serve_once-N-KeeperName
ghosts-serve_once-N-KeeperName g a = record { began = λ k. a.keeper ≡ k }
