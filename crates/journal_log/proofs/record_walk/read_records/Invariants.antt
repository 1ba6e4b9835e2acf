use Rattle.std.proofs.Common.{◌≡◌, ◌-◌, ◌≤◌}
use Rattle.pod_io.specs.Visible.{IfVisible}
use Rattle.journal_log.specs.Reading.{OnlyReads, WindowShows}
use Rattle.journal_log.specs.Walking.{IsReadTo}
use Rattle.journal_log.proofs.record_walk.read_records.Given as goal

abbrev pub invariant-loop-records : goal.invariant-loop-records
invariant-loop-records g l = record {
  read : IsReadTo (g.D.Disk.content l.initial.disk) l.initial.window.size l.head l.records.items l.at;
  within : l.at ≤ l.window.size;
  size : l.window.size ≡ l.initial.window.size;
  shown : IfVisible (g.D.Disk.content l.disk) (WindowShows l.window);
  content : g.D.Disk.content l.disk ≡ g.D.Disk.content l.initial.disk;
  only_reads : OnlyReads g.D.Disk.image g.D.Disk.moment g.D.Disk.left_since l.initial.disk l.disk;
  no_fewer : g.D.Disk.faults l.initial.disk ≤ g.D.Disk.faults l.disk;
}

abbrev pub decreases-loop-records : goal.decreases-loop-records
decreases-loop-records g l = l.window.size - l.at
