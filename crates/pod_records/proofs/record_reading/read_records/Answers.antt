use Rattle.std.proofs.Common.{◌∷◌, ◌+◌, take, drop, sym, subst, rules}
use Rattle.pod_records.specs.Readings.{AreRecordsRead, HasRecordCause}
use Rattle.pod_records.proofs.ReadLoops.{split_here, taken, room_here, gate_next}
use Rattle.pod_records.proofs.record_reading.read_records.Goals as goal

pub returns-in_err-progress-clause-cause : goal.returns-in_err-progress-clause-cause
returns-in_err-progress-clause-cause c = search (rules, c.in_err-progress.ensures.cause c.args.format c.args.entries.now)

pub after-requires-clause-room : goal.after-requires-clause-room
after-requires-clause-room c = room_here c.args.snapshot.now c.args.entries.now c.loop-record.record-index c.record-item.result c.as_slice.result.now c.loop-record-test.true c.record-item.is c.as_slice.ensures c.loop-record.progress.at c.loop-record.invariant.at c.requires.room

pub returns-in_err-next-clause-cause : goal.returns-in_err-next-clause-cause
returns-in_err-next-clause-cause c =
    let whole = split_here c.args.snapshot.now c.args.entries.now c.loop-record.record-index c.record-item.result c.as_slice.result.now c.loop-record-test.true c.record-item.is c.as_slice.ensures in
    let cause = c.in_err-next.ensures.cause (c.args.snapshot.now ∷ take c.loop-record.record-index c.args.entries.now) (drop (c.loop-record.record-index + 1) c.args.entries.now) c.loop-record.invariant.read c.loop-record.invariant.at in
    search (rules, subst (λ l. HasRecordCause c.args.format l c.in_err-next.field-0.0) (sym whole) cause)

pub loop-record-preserved : goal.loop-record-preserved
loop-record-preserved c =
    let next = taken c.args.snapshot.now c.args.entries.now c.loop-record.record-index c.record-item.result c.as_slice.result.now c.loop-record-test.true c.record-item.is c.as_slice.ensures in record {
      read = subst (λ l. AreRecordsRead c.args.format l c.in_ok-next.next.replay c.in_ok-next.next.last) (sym next)
          (c.in_ok-next.ensures.read (c.args.snapshot.now ∷ take c.loop-record.record-index c.args.entries.now) c.loop-record.invariant.read);
      at = gate_next c.args.snapshot.now c.args.entries.now c.loop-record.record-index c.record-item.result c.as_slice.result.now c.loop-record-test.true c.record-item.is c.as_slice.ensures c.loop-record.progress.at c.in_ok-next.next.at c.loop-record.invariant.at c.in_ok-next.ensures.at;
    }
