use Rattle.pod_edits.proofs.Places.{member_is}
use Rattle.pod_edits.proofs.new_row_place.member_place.Goals as goal

pub returns : goal.returns
returns c = λ pod path w h e here. member_is pod path c.args.container.now (record { nearest = c.in_ok-nearest.nearest; missing = c.new.result }) w h e here c.in_ok-nearest.ensures c.new.ensures.items
