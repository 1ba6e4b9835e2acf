use Rattle.std.proofs.Common.{rules}
use Rattle.pod_edits.proofs.Places.{has_a_parent}
use Rattle.pod_edits.proofs.new_row_place.parent_of.Goals as goal

pub unreachable-requires : goal.unreachable-requires
unreachable-requires g c = has_a_parent (g.S.PodState.pod c.args.state.now) c.args.path.now c.is_well_formed.ensures c.requires (search rules)
