use Rattle.std.proofs.Common.{sym, ◌∙◌}
use Rattle.pod_records.specs.Made.{found_in}
use Rattle.pod_records.proofs.Fine.{children_none}
use Rattle.pod_records.proofs.row_checks.lacks_children.Goals as goal

pub returns-then-not-is_container : goal.returns-then-not-is_container
returns-then-not-is_container g c =
    children_none (g.S.PodState.pod c.args.state.now) (found_in (g.S.PodState.pod c.args.state.now).rows c.args.made.now) c.args.path.now c.is_well_formed.ensures (sym c.is_container.ensures ∙ c.if-not-is_container.true)
