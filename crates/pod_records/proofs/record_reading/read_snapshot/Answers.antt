use Rattle.pod_records.proofs.Snapshots.{version_read}
use Rattle.pod_records.proofs.record_reading.read_snapshot.Goals as goal

pub returns-in-Ok-clause-some : goal.returns-in-Ok-clause-some
returns-in-Ok-clause-some c = version_read c.args.text.now c.in-Ok.snapshot c.in-Ok.ensures.form c.in-Ok.ensures.storable c.in-Ok.ensures.only c.replay_of.result c.replay_of.ensures.replay c.replay_of.ensures.well_formed
