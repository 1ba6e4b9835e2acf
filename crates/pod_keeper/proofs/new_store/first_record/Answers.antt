use Rattle.pod_keeper.proofs.NewStore.{first_well_formed}
use Rattle.pod_keeper.proofs.new_store.first_record.Goals as goal

pub record_of-requires : goal.record_of-requires
record_of-requires c = first_well_formed c.args.base.now c.in_ok-owner.owner c.args.moment c.in_ok-snapshot.snapshot c.first_pods_are_well_formed.ensures c.requires c.in_ok-snapshot.ensures.pod c.in_ok-snapshot.ensures.number
