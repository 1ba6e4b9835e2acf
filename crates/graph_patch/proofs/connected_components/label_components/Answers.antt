use Rattle.std.proofs.Common.{◌≡◌, ◌∙◌, ◌<◌, ◌+◌, ◌∷◌, [], ◌++◌, ap, sym, subst, length, take, drop, arith}
use Rattle.std.specs.List.{All}
use Rattle.std.proofs.lemmas.List.{length_push}
use Rattle.graph_patch.specs.ConnectedComponents.{AreLabelledSoFar}
use Rattle.graph_patch.proofs.Components.{joined_push, joined_row, joined_all, refilled}
use Rattle.graph_patch.proofs.connected_components.label_components.Goals as goal

pub join_earlier-requires-clause-joined : goal.join_earlier-requires-clause-joined
join_earlier-requires-clause-joined c =
    subst (λ labels. AreLabelledSoFar c.args.conditions.now labels c.loop-i.i 0) (sym (c.as_mut_slice.ensures.value ∙ c.in_ok-push.ensures.items))
    (subst (λ n. AreLabelledSoFar c.args.conditions.now (c.loop-i.labels.items ++ c.loop-i.i ∷ []) n 0) c.loop-i.invariant.long
    (joined_push c.args.conditions.now c.loop-i.labels.items c.loop-i.i (subst (λ n. AreLabelledSoFar c.args.conditions.now c.loop-i.labels.items n 0) (sym c.loop-i.invariant.long) c.loop-i.invariant.joined)))

pub loop-i-preserved : goal.loop-i-preserved
loop-i-preserved c =
    let long : length c.join_earlier.new.labels ≡ length c.push.new.self.items = c.join_earlier.auto.labels ∙ ap length c.as_mut_slice.ensures.value in
    let is : take c.push.new.self.len (c.join_earlier.new.labels ++ drop (length c.join_earlier.new.labels) c.push.new.self.items) ≡ c.join_earlier.new.labels =
    refilled c.push.new.self.len c.join_earlier.new.labels c.push.new.self.items long c.push.new.self.ok.0 in
    record {
      long = ap length is ∙ long ∙ ap length c.in_ok-push.ensures.items ∙ length_push c.loop-i.labels.items c.loop-i.i ∙ ap (λ n. n + 1) c.loop-i.invariant.long;
      small = subst (All (λ label. label < length c.args.conditions.now)) (sym is) c.join_earlier.ensures.small;
      joined = subst (λ labels. AreLabelledSoFar c.args.conditions.now labels (c.loop-i.i + 1) 0) (sym is) (joined_row c.args.conditions.now c.join_earlier.new.labels c.loop-i.i c.join_earlier.ensures.joined);
    }

pub returns-clause-components : goal.returns-clause-components
returns-clause-components c =
    let end : c.loop-i.i ≡ length c.args.conditions.now = omega arith in
    joined_all c.args.conditions.now c.loop-i.labels.items (subst (λ n. AreLabelledSoFar c.args.conditions.now c.loop-i.labels.items n 0) end c.loop-i.invariant.joined)
