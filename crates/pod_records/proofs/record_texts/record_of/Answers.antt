use Rattle.pod_records.proofs.Snapshots.{encodable}
use Rattle.pod_records.proofs.record_texts.record_of.Goals as goal

pub encode_snapshot-requires : goal.encode_snapshot-requires
encode_snapshot-requires c = encodable c.args.snapshot.now c.requires
