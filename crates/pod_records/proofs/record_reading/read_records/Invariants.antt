use Rattle.std.proofs.Common.{◌≡◌, ◌∷◌, take}
use Rattle.pod_records.specs.PodStores.{gate_after}
use Rattle.pod_records.specs.Readings.{AreRecordsRead}
use Rattle.pod_records.proofs.record_reading.read_records.Given as goal

abbrev pub invariant-loop-record : goal.invariant-loop-record
invariant-loop-record l = record {
  read : AreRecordsRead l.fn.format (l.fn.snapshot ∷ take l.record-index l.fn.entries) l.progress.replay l.progress.last;
  at : l.progress.at ≡ gate_after (l.fn.snapshot ∷ take l.record-index l.fn.entries);
}
