use Rattle.pod_edits.proofs.Built.{auxiliary_added, member_added}
use Rattle.pod_edits.proofs.laws.added_law.Goals as goal

pub returns : goal.returns
returns c = record {
  auxiliary = λ rows path h. auxiliary_added rows path h;
  member = λ pod path container w h e here. member_added pod path container w h e here;
}
