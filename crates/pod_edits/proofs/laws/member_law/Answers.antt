use Rattle.pod_edits.proofs.Places.{nearest_here, missing_none, member_edits, member_twin}
use Rattle.pod_edits.proofs.laws.member_law.Goals as goal

pub returns : goal.returns
returns c = record {
  nearest = λ pod path container w h e here. nearest_here pod.rows path container h e here;
  missing = λ pod path container w h e here. missing_none pod path container w h e here;
  twin = λ pod path container w h e here. member_twin pod path container w h e here;
  edits = λ pod row container w h e here. member_edits pod row container w h e here;
}
