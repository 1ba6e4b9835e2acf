use Rattle.pod_rows.proofs.FirstPodLaws.{first_pods_well_formed}
use Rattle.pod_rows.proofs.first_pod.first_pods_are_well_formed.Goals as goal

pub returns : goal.returns
returns c = first_pods_well_formed
