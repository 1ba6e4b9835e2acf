use Rattle.std.proofs.Common.{refl}
use Rattle.token_table.specs.Credentials.{asked_view}
use Rattle.pod_pipe.proofs.StoredLemmas.{out_of_memory}
use Rattle.pod_pipe.proofs.stored_pod.StoredPod.serve.Goals as goal

-- no memory was left for a request that is no change
pub returns-in-Err-clause-kept : goal.returns-in-Err-clause-kept
returns-in-Err-clause-kept g c = λ history doubt stands.
    out_of_memory g.D.Disk.image g.D.Disk.moment g.D.Disk.left_since c.args.self.now.keeper c.args.self.now.keeper history doubt c.args.request.now (asked_view c.args.asked.now) c.args.stamp g.D.Disk.only_now stands refl
