use Rattle.std.proofs.Common.{◌<◌, cond, eqb, length, get_or, arith}
use Rattle.std.proofs.lemmas.List.{get_or_default}
use Rattle.graph_patch.proofs.Components.{relabelled_more}
use Rattle.graph_patch.proofs.connected_components.relabel.Goals as goal

pub loop-label-preserved : goal.loop-label-preserved
loop-label-preserved c =
    let within : c.loop-label.label-index < length c.loop-label.labels = omega arith in
    let more = relabelled_more (λ label. cond (eqb label c.args.from) c.args.to label) c.loop-label.labels c.args.labels.now c.loop-label.label-index c.relabelled.result (get_or c.loop-label.labels c.loop-label.label-index 0)
    within c.loop-label.auto.labels (get_or_default c.loop-label.labels c.loop-label.label-index 0 _ within) c.relabelled.ensures c.loop-label.invariant.done c.loop-label.invariant.left in
    record { done = more.0; left = more.1 }
