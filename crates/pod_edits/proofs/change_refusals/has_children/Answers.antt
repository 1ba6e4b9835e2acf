use Rattle.std.proofs.Common.{sym, ◌∙◌}
use Rattle.pod_edits.proofs.Places.{no_children, some_child}
use Rattle.pod_edits.proofs.change_refusals.has_children.Goals as goal

pub returns-then-not-is_container : goal.returns-then-not-is_container
returns-then-not-is_container g c = no_children (g.S.PodState.pod c.args.state.now) c.args.path.now c.is_well_formed.ensures (sym c.is_container.ensures ∙ c.if-not-is_container.true)

pub returns : goal.returns
returns g c = c.in_ok-found.ensures ∙ some_child (g.S.PodState.pod c.args.state.now).rows c.args.path.now
