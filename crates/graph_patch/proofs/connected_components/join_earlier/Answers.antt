use Rattle.std.proofs.Common.{◌≡◌, ◌∙◌, ◌<◌, ◌+◌, sym, subst, map, cond, eqb, length, get_or, arith}
use Rattle.std.specs.List.{All}
use Rattle.std.proofs.lemmas.Option.{slice_get-get_or}
use Rattle.std.proofs.lemmas.Bool.{true≢false}
use Rattle.graph_patch.specs.ConnectedComponents.{AreLabelledSoFar}
use Rattle.graph_patch.proofs.Components.{joined_relabel, joined_apart, small_relabel, connects_at}
use Rattle.graph_patch.proofs.connected_components.join_earlier.Goals as goal
use Rattle.graph_patch.proofs.connected_components.join_earlier.Goals.{then-shares_variable, else-shares_variable}

pub loop-j-preserved : goal.loop-j-preserved
loop-j-preserved c =
    let earlier : c.loop-j.j < length c.args.conditions.now = omega arith in
    let within : c.loop-j.j < length c.loop-j.labels = omega arith in
    let last : c.args.i < length c.loop-j.labels = omega arith in
    elim c.if-shares_variable.branch [
      | then-shares_variable w ↦
          let is : c.if-shares_variable.labels ≡ map (λ label. cond (eqb label (get_or c.loop-j.labels c.loop-j.j 0)) (get_or c.loop-j.labels c.args.i 0) label) c.loop-j.labels = w.labels-is ∙ w.relabel.ensures in
          record {
            small = subst (All (λ label. label < length c.args.conditions.now)) (sym is)
                (small_relabel (length c.args.conditions.now) c.loop-j.labels _ _ (c.loop-j.invariant.small c.args.i 0 last) c.loop-j.invariant.small);
            joined = subst (λ labels. AreLabelledSoFar c.args.conditions.now labels c.args.i (c.loop-j.j + 1)) (sym is)
                (joined_relabel c.args.conditions.now c.loop-j.labels c.args.i c.loop-j.j _ _ (slice_get-get_or c.loop-j.labels c.loop-j.j 0 within) (slice_get-get_or c.loop-j.labels c.args.i 0 last) c.loop-j.invariant.joined);
          }
      | else-shares_variable w ↦
          record {
            small = subst (All (λ label. label < length c.args.conditions.now)) (sym w.labels-is) c.loop-j.invariant.small;
            joined = subst (λ labels. AreLabelledSoFar c.args.conditions.now labels c.args.i (c.loop-j.j + 1)) (sym w.labels-is)
                (joined_apart c.args.conditions.now c.loop-j.labels c.args.i c.loop-j.j
                (λ h. true≢false (sym (c.shares_variable.ensures.1 (connects_at c.args.conditions.now c.args.i c.loop-j.j _ _ c.requires.within earlier c.index-conditions-i.is c.index-conditions-j.is h)) ∙ w.if-shares_variable.false))
                c.loop-j.invariant.joined);
          }
    ]

pub returns-clause-joined : goal.returns-clause-joined
returns-clause-joined c =
    let end : c.loop-j.j ≡ c.args.i = omega arith in
    subst (AreLabelledSoFar c.args.conditions.now c.loop-j.labels c.args.i) end c.loop-j.invariant.joined
