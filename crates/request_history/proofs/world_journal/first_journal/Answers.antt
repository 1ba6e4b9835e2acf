use Rattle.pod_records.proofs.Snapshots.{encodable}
use Rattle.request_history.proofs.world_journal.first_journal.Goals as goal

pub encode_snapshot-requires : goal.encode_snapshot-requires
encode_snapshot-requires c = encodable c.args.first.now c.requires
